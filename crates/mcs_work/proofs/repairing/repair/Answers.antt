use Rattle.std.proofs.Common.{[], refl}
use Rattle.std.specs.Arc.{arc_value}
use Rattle.mcs_work.specs.Extents.{task_of, front_part}
use Rattle.mcs_work.proofs.StopLemmas.{works_cut}
use Rattle.mcs_work.proofs.CourseLemmas.{nothing_left}
use Rattle.mcs_work.proofs.repairing.repair.Goals as goal

pub returns-in-Err : goal.returns-in-Err
returns-in-Err g c σs equilibria counted = works_cut (task_of c.args.extent) (front_part c.args.extent (arc_value c.args.system) σs []) _ _ _ _ _ _ refl (nothing_left c.args.extent (arc_value c.args.system) _ 0 [] c.requires σs equilibria _)
