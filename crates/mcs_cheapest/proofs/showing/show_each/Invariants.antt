use Rattle.std.proofs.Common.{◌≡◌, take}
use Rattle.std.specs.List.{AllByRecursion}
use Rattle.mcs_states.specs.Calls.{CanEvaluate}
use Rattle.mcs_diagnosis.specs.Diagnoses.{ShowsFirstState, pairs_of}
use Rattle.mcs_cheapest.proofs.ShowingLemmas.{StaysAsking}
use Rattle.mcs_cheapest.proofs.showing.show_each.Given as goal

abbrev pub invariant-loop-marks : goal.invariant-loop-marks
invariant-loop-marks g l = record {
  paired : pairs_of l.found.items ≡ take l.marks-index l.pairs;
  shown : AllByRecursion (ShowsFirstState l.system) l.found.items;
  can : CanEvaluate l.system (g.E.Evaluator.stands l.evaluator);
  asking : StaysAsking l.system l.pairs (g.E.Evaluator.stands l.fn.evaluator) (g.E.Evaluator.stands l.evaluator);
}
