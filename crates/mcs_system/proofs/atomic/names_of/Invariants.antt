use Rattle.std.proofs.Common.{◌≡◌, map, take}
use Rattle.mcs_system.specs.Plain.{Atom}
use Rattle.mcs_system.specs.Seen.{formula_of}
use Rattle.mcs_system.proofs.atomic.names_of.Given as goal

abbrev pub invariant-loop-formula : goal.invariant-loop-formula
invariant-loop-formula l = map Atom (map (λ n. n.now) l.names.items) ≡ map (λ f. formula_of f.now) (take l.formula-index l.formulas)
