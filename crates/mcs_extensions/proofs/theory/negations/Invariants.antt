use Rattle.std.proofs.Common.{◌≡◌, ◌++◌, drop, map}
use Rattle.mcs_system.specs.Seen.{default_of, formula_of}
use Rattle.mcs_evidence.specs.Defaults.{negated_justs}
use Rattle.mcs_extensions.proofs.theory.negations.Given as goal

abbrev pub invariant-loop-default : goal.invariant-loop-default
invariant-loop-default l = map formula_of l.negations.items ++ negated_justs (map (λ d. default_of d.now) (drop l.default-index l.defaults)) ≡ negated_justs (map (λ d. default_of d.now) l.defaults)
