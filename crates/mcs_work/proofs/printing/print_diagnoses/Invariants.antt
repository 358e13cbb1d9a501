use Rattle.std.proofs.Common.{◌+◌, drop}
use Rattle.std.specs.List.{AllByRecursion}
use Rattle.mcs_report.specs.Solutions.{diagnosis_lines}
use Rattle.mcs_text.proofs.WriteLaws.{Goes}
use Rattle.mcs_report.specs.Repairs.{IsOfSystem}
use Rattle.mcs_work.proofs.printing.print_diagnoses.Given as goal

abbrev pub invariant-loop-k : goal.invariant-loop-k
invariant-loop-k g l = record {
  goes : Goes (diagnosis_lines l.system l.first l.diagnoses) (diagnosis_lines l.system (l.first + l.k) (drop l.k l.diagnoses)) (g.K.Sink.device l.fn.sink) (g.K.Sink.device l.sink);
  within : AllByRecursion (IsOfSystem l.system) (drop l.k l.diagnoses);
}
