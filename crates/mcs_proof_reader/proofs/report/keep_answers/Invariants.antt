use Rattle.std.proofs.Common.{length}
use Rattle.mcs_proof_reader.proofs.AnswerPlaces.{IsKeptSoFar}
use Rattle.mcs_proof_reader.proofs.report.keep_answers.Given as goal

abbrev pub invariant-loop-alloc : goal.invariant-loop-alloc
invariant-loop-alloc g l = IsKeptSoFar g.K.Keep.Keeps l.system l.fn.lines l.kept.items l.last l.lines

abbrev pub decreases-loop-alloc : goal.decreases-loop-alloc
decreases-loop-alloc g l = length l.lines.rest
