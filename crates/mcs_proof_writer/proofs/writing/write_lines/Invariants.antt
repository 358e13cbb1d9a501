use Rattle.std.proofs.Common.{◌≤◌, length}
use Rattle.mcs_text.proofs.WriteLaws.{Goes}
use Rattle.mcs_proof_writer.proofs.writing.write_lines.Given as goal

abbrev pub invariant-loop-end : goal.invariant-loop-end
invariant-loop-end g l = record {
  goes : Goes l.lines l.rest (g.K.Sink.device l.fn.sink) (g.K.Sink.device l.sink);
  short : length l.rest ≤ length l.lines;
}

abbrev pub decreases-loop-end : goal.decreases-loop-end
decreases-loop-end g l = length l.rest
