use Rattle.std.proofs.Common.{◌+◌, drop}
use Rattle.std.specs.List.{AllByRecursion}
use Rattle.mcs_report.specs.Repairs.{IsOfSystem}
use Rattle.mcs_text.proofs.WriteLaws.{Goes}
use Rattle.mcs_work.specs.Cheapest.{cheapest_lines}
use Rattle.mcs_work.proofs.cheapest.print_found.Given as goal

abbrev pub invariant-loop-k : goal.invariant-loop-k
invariant-loop-k g l = record {
  goes : Goes (cheapest_lines l.system 1 l.found) (cheapest_lines l.system (l.k + 1) (drop l.k l.found)) (g.K.Sink.device l.fn.sink) (g.K.Sink.device l.sink);
  within : AllByRecursion (IsOfSystem l.system) (drop l.k l.found);
}
