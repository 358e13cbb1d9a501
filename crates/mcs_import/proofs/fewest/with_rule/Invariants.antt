use Rattle.mcs_import.specs.Fewest.{fewest_at, AreTaken}
use Rattle.mcs_import.proofs.fewest.with_rule.Given as goal

abbrev pub invariant-loop-place : goal.invariant-loop-place
invariant-loop-place l = AreTaken (fewest_at l.fewest l.bit l.removable l.forcible) l.place l.next.items
