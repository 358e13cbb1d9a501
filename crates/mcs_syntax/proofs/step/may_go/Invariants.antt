use Rattle.mcs_syntax.proofs.Stacks.{IsSame}
use Rattle.mcs_syntax.proofs.step.may_go.Given as goal

abbrev pub invariant-loop-count : goal.invariant-loop-count
invariant-loop-count g l = IsSame (g.N.Rules).grammar l.table l.kind l.stack l.count

abbrev pub decreases-loop-count : goal.decreases-loop-count
decreases-loop-count g l = l.count
