use Rattle.std.proofs.Common.{◌≡◌, ◌*◌, ◌≤◌, ℕ, List}
use Rattle.mcs_system.specs.Imports.{IsImportOrder}
use Rattle.mcs_crew.specs.Hubs.{awaited_by}
use Rattle.mcs_crew.proofs.wires.awaited.Given as goal

abbrev pub invariant-loop-i : goal.invariant-loop-i
invariant-loop-i l = record {
  count_is : (order : List ℕ) → IsImportOrder l.plan order → l.count ≡ awaited_by l.plan order l.groups l.group l.i;
  small : l.count ≤ 64 * l.i;
}
