use Rattle.std.proofs.Common.{take}
use Rattle.mcs_engine.specs.Marking.{IsMetAt, MarksAlso}
use Rattle.mcs_engine.proofs.marks.mark_all.Given as goal

abbrev pub invariant-loop-literal : goal.invariant-loop-literal
invariant-loop-literal l = MarksAlso l.trail.entries.items (IsMetAt l.trail.entries.items (take l.literal-index l.literals)) l.fn.marks.items l.marks.items
