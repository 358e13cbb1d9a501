use Rattle.std.proofs.Common.{◌+◌, drop}
use Rattle.std.specs.List.{AllByRecursion}
use Rattle.mcs_report.specs.Solutions.{explanation_lines}
use Rattle.mcs_text.proofs.WriteLaws.{Goes}
use Rattle.mcs_work.specs.Printed.{IsCauseOf}
use Rattle.mcs_work.proofs.printing.print_explanations.Given as goal

abbrev pub invariant-loop-k : goal.invariant-loop-k
invariant-loop-k g l = record {
  goes : Goes (explanation_lines l.system 1 l.pairs l.explanations) (explanation_lines l.system (l.k + 1) l.pairs (drop l.k l.explanations)) (g.K.Sink.device l.fn.sink) (g.K.Sink.device l.sink);
  within : AllByRecursion (IsCauseOf l.system l.pairs) (drop l.k l.explanations);
}
