use Rattle.std.proofs.Common.{◌≡◌, ◌+◌, ◌-◌, [], Ok, length}
use Rattle.mcs_ports.specs.Pieces.{appended}
use Rattle.mcs_work.specs.Extents.{task_of, diagnoses_part}
use Rattle.mcs_work.specs.Work.{Proceeds}
use Rattle.mcs_work.specs.Course.{IsUnderWay}
use Rattle.mcs_work.proofs.repairing.print_levels.Given as goal

abbrev pub invariant-loop-found : goal.invariant-loop-found
invariant-loop-found g l = record {
  part : Proceeds {T = Unit {0}} (task_of l.extent) [] (g.E.Evaluator.stands l.fn.levels.evaluator) (g.E.Evaluator.stands l.levels.evaluator) (g.K.Sink.device l.fn.sink) (g.K.Sink.device l.sink) (Ok tt);
  under_way : IsUnderWay l.system (g.E.Evaluator.stands l.levels.evaluator) l.levels.level l.found.items;
  written : (g.K.Sink.device l.sink).written ≡ appended (g.K.Sink.device l.fn.sink).written (diagnoses_part l.extent l.system 1 l.found.items);
}

abbrev pub decreases-loop-found : goal.decreases-loop-found
decreases-loop-found g l = (length l.system.bridges + 1) - l.levels.level
