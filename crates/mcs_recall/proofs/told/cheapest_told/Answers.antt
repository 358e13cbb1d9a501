use Rattle.std.proofs.Common.{subst, sym}
use Rattle.mcs_states.specs.Evaluators.{AreRepairs}
use Rattle.mcs_recall.specs.Told.{AreRepairsTold}
use Rattle.mcs_recall.proofs.told.cheapest_told.Goals as goal

pub cheapest_among-requires : goal.cheapest_among-requires
cheapest_among-requires c =
    let kept = subst (AreRepairsTold c.args.system.now) (sym c.in_ok-repairs.ensures.value) c.requires in
    subst (AreRepairs c.args.system.now c.in_ok-repairs.repairs.now.level) (sym c.deref.ensures.value) kept
