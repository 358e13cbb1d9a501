use Rattle.std.proofs.Common.{length}
use Rattle.mcs_steps.proofs.TraceLemmas.{ArePassed}
use Rattle.mcs_steps.proofs.trace.pass_trace.Given as goal

abbrev pub invariant-loop-lines : goal.invariant-loop-lines
invariant-loop-lines l = ArePassed l.fn.lines l.lines

abbrev pub decreases-loop-lines : goal.decreases-loop-lines
decreases-loop-lines l = length l.lines.rest
