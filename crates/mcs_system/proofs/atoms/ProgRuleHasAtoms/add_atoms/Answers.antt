use Rattle.std.proofs.Common.{refl}
use Rattle.std.proofs.lemmas.List.Folds.{flat_map-map}
use Rattle.mcs_base.proofs.Ranges.{flat_map_alone}
use Rattle.mcs_system.proofs.GatherLemmas.{gathers_then, gathers_cut}
use Rattle.mcs_system.proofs.atoms.ProgRuleHasAtoms.add_atoms.Goals as goal

pub returns-in_err-add_each : goal.returns-in_err-add_each
returns-in_err-add_each c = gathers_cut _ _ _ _ _ _ _ _ _ refl c.from_residual.ensures.1 (rw (c.deref.ensures.value, flat_map-map, flat_map_alone) at c.in_err-add_each.ensures)

pub returns-in_err-add_each-2 : goal.returns-in_err-add_each-2
returns-in_err-add_each-2 c = gathers_then _ _ _ _ _ _ _ _ _ _ refl (rw (c.deref.ensures.value, flat_map-map, flat_map_alone) at c.in_ok-add_each.ensures)
    (gathers_cut _ _ _ _ _ _ _ _ _ refl c.from_residual-in_err-add_each-2.ensures.1 (rw (c.deref-2.ensures.value, flat_map-map, flat_map_alone) at c.in_err-add_each-2.ensures))

pub returns : goal.returns
returns c = gathers_then _ _ _ _ _ _ _ _ _ _ refl (rw (c.deref.ensures.value, flat_map-map, flat_map_alone) at c.in_ok-add_each.ensures)
    (gathers_then _ _ _ _ _ _ _ _ _ _ refl (rw (c.deref-2.ensures.value, flat_map-map, flat_map_alone) at c.in_ok-add_each-2.ensures) (rw (c.deref-3.ensures.value, flat_map-map, flat_map_alone) at c.add_each-3.ensures))
