-- Marks that are a known set each by itself.
use Rattle.std.proofs.Common.{◌≡◌, ℕ, List, inl, inr}
use Rattle.mcs_sets.specs.Sets.{union, size, Meets}
use Rattle.mcs_sets.proofs.Lattice.{in_union, one_within}
use Rattle.mcs_base.specs.Antichains.{HasOneWithin}
use Rattle.mcs_base.specs.Listings.{IsAmong}

pub alone_more : (sets : List ℕ) (alone x : ℕ) → IsAmong x sets → size x ≡ 1 → ((s : ℕ) → Meets s alone → HasOneWithin sets s) → (s : ℕ) → Meets s (union alone x) → HasOneWithin sets s
alone_more sets alone x among one so_far s meets = elim (in_union alone x meets.member meets.in_second) [
  | inl before ↦ so_far s (record { member = meets.member; in_first = meets.in_first; in_second = before })
  | inr here ↦ record { inner = x; among = among; within = one_within x s meets.member one here meets.in_first }
]
