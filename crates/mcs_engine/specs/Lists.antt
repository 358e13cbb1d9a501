-- Lists of indices by places, in blocks.
use Rattle.std.specs.Prelude.{◌≡◌, ◌≢◌, ℕ, ◌/◌, ◌%◌, List, [], ℤ, Option, Some, None, Vec, slice_get}
use Rattle.std.specs.declared.alloc.Global.{Global}
use Rattle.mcs_base.specs.Listings.{IsAmong}
use Rattle.mcs_trace.specs.Clauses.{place}
use Rattle.mcs_engine.specs.declared.lists.Lists.{Lists}

module _ {A : Type 0} where
  -- what a row holds; nothing where there is no row
  abbrev pub items_of : Option (Vec A Global) → List A
  items_of None = []
  items_of (Some row) = row.items

  -- the list at the place is the new one, and all others stay
  pub record ChangesAt (old new : ℕ → List A) (p : ℕ) (xs : List A) : Type 0 where
    pub here : new p ≡ xs
    pub others : (q : ℕ) → q ≢ p → new q ≡ old q

  -- the row at the place
  unfoldable pub row_at : List (Vec A Global) → ℕ → List A
  row_at rows p = items_of (slice_get rows p)

-- the list at the place: 512 neighbouring places stand in a block
unfoldable pub list_at : Lists → ℕ → List ℕ
list_at lists p = row_at (row_at lists.blocks.items (p / 512)) (p % 512)

-- the index is in the list of the literal
abbrev pub IsInList : Lists → ℤ → ℕ → Type 0
IsInList lists l i = IsAmong i (list_at lists (place l))

-- what was in a list still is
pub record KeepsLists (old new : Lists) : Type 0 where
  pub listed : (l : ℤ) (i : ℕ) → IsInList old l i → IsInList new l i
