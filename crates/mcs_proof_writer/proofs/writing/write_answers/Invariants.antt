use Rattle.std.proofs.Common.{drop}
use Rattle.std.specs.List.{AllByRecursion, flat_map}
use Rattle.mcs_text.proofs.WriteLaws.{Goes}
use Rattle.mcs_proof_text.specs.Lines.{text_of_lines}
use Rattle.mcs_proof_text.specs.Answers.{answer_lines}
use Rattle.mcs_proof_writer.specs.Gathered.{answers_of, IsWritable}
use Rattle.mcs_proof_writer.proofs.writing.write_answers.Given as goal

abbrev pub invariant-loop-shown : goal.invariant-loop-shown
invariant-loop-shown g l = record {
  goes : Goes (text_of_lines (flat_map (answer_lines l.system) (answers_of l.answers))) (text_of_lines (flat_map (answer_lines l.system) (answers_of (drop l.shown-index l.answers)))) (g.K.Sink.device l.fn.sink) (g.K.Sink.device l.sink);
  writable : AllByRecursion (IsWritable l.system) (answers_of (drop l.shown-index l.answers));
}
