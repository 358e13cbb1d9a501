use Rattle.std.proofs.Common.{◌≡◌, ◌++◌, drop, map}
use Rattle.mcs_system.specs.Plain.{Default}
use Rattle.mcs_system.specs.Seen.{default_of, formula_of}
use Rattle.mcs_extensions.proofs.theory.prerequisites.Given as goal

abbrev pub invariant-loop-default : goal.invariant-loop-default
invariant-loop-default l = map (λ f. formula_of f.now) l.formulas.items ++ map (λ (d : Default). d.pre) (map (λ d. default_of d.now) (drop l.default-index l.defaults)) ≡ map (λ (d : Default). d.pre) (map (λ d. default_of d.now) l.defaults)
