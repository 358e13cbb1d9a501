use Rattle.std.proofs.Common.{◌≡◌, ◌↔◌, ◌⊎◌, take}
use Rattle.mcs_base.specs.Listings.{IsAmong}
use Rattle.mcs_rows.specs.declared.nearest.Accepted as accepted
use Rattle.mcs_rows.proofs.nearest.add_parts_of.Given as goal

abbrev pub invariant-loop-part : goal.invariant-loop-part
invariant-loop-part l = (a : accepted.Accepted) → IsAmong a l.all.items ↔ (IsAmong a l.initial.all.items ⊎ (IsAmong a.part (take l.part-index l.part-items) × (a.question ≡ l.answer.active)))
