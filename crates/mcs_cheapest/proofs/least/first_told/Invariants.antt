use Rattle.std.specs.List.{AllByRecursion}
use Rattle.mcs_diagnosis.specs.Diagnoses.{ShowsFirstState}
use Rattle.mcs_cheapest.specs.Least.{IsLooking}
use Rattle.mcs_cheapest.proofs.least.first_told.Given as goal

abbrev pub invariant-loop-level : goal.invariant-loop-level
invariant-loop-level g l = record {
  looking : IsLooking (g.E.Evaluator.stands l.fn.evaluator) (g.E.Evaluator.stands l.evaluator) l.level l.candidate;
  shown : AllByRecursion (ShowsFirstState l.system) l.shown.items;
}
