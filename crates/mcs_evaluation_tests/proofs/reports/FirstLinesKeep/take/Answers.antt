use Rattle.std.proofs.Common.{refl}
use Rattle.mcs_evaluation_tests.proofs.reports.FirstLinesKeep.take.Goals as goal

pub returns-in-Ok : goal.returns-in-Ok
returns-in-Ok c = record { shown = c.in-Ok.ensures.shown; is = c.in-Ok.ensures.is; keeps_it = refl }
