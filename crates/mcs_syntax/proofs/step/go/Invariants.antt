use Rattle.mcs_syntax.specs.Parts.{due, tops, with_next}
use Rattle.mcs_syntax.proofs.Stacks.{IsGoingOn}
use Rattle.mcs_syntax.proofs.step.go.Given as goal

abbrev pub invariant-loop-next : goal.invariant-loop-next
invariant-loop-next g l = IsGoingOn (g.N.Rules).grammar l.table l.kind l.fn.stack.items l.next l.stack.items l.fn.events.items l.events.items

abbrev pub decreases-loop-next : goal.decreases-loop-next
decreases-loop-next g l = due (g.N.Rules).grammar (tops l.table (with_next l.next l.stack.items))
