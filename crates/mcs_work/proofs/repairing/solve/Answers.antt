use Rattle.std.proofs.Common.{[]}
use Rattle.std.specs.Arc.{arc_value}
use Rattle.mcs_work.specs.Extents.{task_of, front_part}
use Rattle.mcs_work.proofs.StopLemmas.{works_later}
use Rattle.mcs_work.proofs.repairing.solve.Goals as goal

pub returns-in-Ok : goal.returns-in-Ok
returns-in-Ok g c =
    let begun = rw c.deref.ensures at c.in-Ok.ensures.begun in
    works_later (task_of c.args.extent) [] (front_part c.args.extent (arc_value c.args.system) begun.states []) _ _ _ _ _ _ _ c.in-Ok.ensures.part begun.written _ (c.repair.ensures begun.states begun.equilibria begun.counted)
