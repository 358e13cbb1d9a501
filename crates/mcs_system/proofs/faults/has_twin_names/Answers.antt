use Rattle.std.proofs.Common.{arith}
use Rattle.std.proofs.lemmas.Grind.{common_steps}
use Rattle.std.proofs.lemmas.Simd.{map-map}
use Rattle.mcs_system.proofs.faults.has_twin_names.Goals as goal

pub returns-then-branch : goal.returns-then-branch
returns-then-branch c = grind (arith, common_steps, map-map)

pub returns-in_ok-has_twins-2 : goal.returns-in_ok-has_twins-2
returns-in_ok-has_twins-2 c = grind (arith, common_steps, map-map)
