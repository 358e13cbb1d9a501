use Rattle.std.proofs.Common.{arith}
use Rattle.std.proofs.lemmas.Grind.{common_steps}
use Rattle.mcs_sets.specs.Sets.{such_that}
use Rattle.mcs_classical.proofs.refuting.true_places.Goals as goal

pub loop-k-preserved : goal.loop-k-preserved
unfolding such_that
loop-k-preserved c = grind (arith, common_steps)
