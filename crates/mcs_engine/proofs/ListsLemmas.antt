-- Lists of indices in blocks: what changes where one row or one block is replaced.
use Rattle.std.proofs.Common.{◌≡◌, ◌≢◌, ℕ, ◌+◌, ◌*◌, ◌/◌, ◌%◌, ◌<◌, ◌≤◌, inl, inr, List, [], ◌∷◌, ◌++◌, refl, sym, ap, ◌∙◌, arith, length, get_or, set, Some, None, slice_get, Vec}
use Rattle.std.specs.declared.alloc.Global.{Global}
use Rattle.std.proofs.Math.Nat.{div-add-mod}
use Rattle.std.proofs.lemmas.Bool.{cases_eq, cases_lt}
use Rattle.std.proofs.lemmas.List.{length-append}
use Rattle.std.proofs.lemmas.Option.{slice_get_past, slice_get_read}
use Rattle.mcs_base.proofs.Lists.{slice_get-append_left, slice_get_read_as, slice_get_seam}
use Rattle.mcs_base.proofs.Written.{slice_get-set_other, slice_get-set_same}
use Rattle.mcs_engine.specs.declared.lists.Lists.{Lists}
use Rattle.mcs_engine.specs.Lists.{items_of, list_at, row_at}

-- ---- rows
module _ {A : Type 0} where
  pub row-some : (rows : List (Vec A Global)) (p : ℕ) (row : Vec A Global) → slice_get rows p ≡ Some row → row_at rows p ≡ row.items
  unfolding row_at
  row-some rows p row is = ap items_of is

  pub row-none : (rows : List (Vec A Global)) (p : ℕ) → slice_get rows p ≡ None → row_at rows p ≡ []
  unfolding row_at
  row-none rows p is = ap items_of is

  pub row-past : (rows : List (Vec A Global)) (p : ℕ) → length rows ≤ p → row_at rows p ≡ []
  row-past rows p past = row-none rows p (slice_get_past rows p past)

  pub row-read : (rows : List (Vec A Global)) (p : ℕ) (row : Vec A Global) → p < length rows → row ≡ get_or rows p row → row_at rows p ≡ row.items
  row-read rows p row within is = row-some rows p row (slice_get_read rows (length rows) p row refl within is)

  -- a row that is not empty stands among the rows
  pub row-within : (rows : List (Vec A Global)) (p at : ℕ) → at < length (row_at rows p) → p < length rows
  row-within rows p at less = elim (cases_lt p (length rows)) [
    | inl within ↦ within
    | inr past ↦ absurd (omega (arith, less, ap length (row-past rows p past)))
  ]

  row-front : (rows more : List (Vec A Global)) (p : ℕ) → p < length rows → row_at (rows ++ more) p ≡ row_at rows p
  unfolding row_at
  row-front rows more p within = ap items_of (slice_get-append_left rows more p within)

  -- one more, which is empty
  pub row-more : (rows : List (Vec A Global)) (row : Vec A Global) (p : ℕ) → row.items ≡ [] → row_at (rows ++ row ∷ []) p ≡ row_at rows p
  row-more rows row p none = elim (cases_lt p (length rows)) [
    | inl within ↦ row-front rows (row ∷ []) p within
    | inr past ↦ elim (cases_eq p (length rows)) [
      | inl last ↦ row-some (rows ++ row ∷ []) p row (slice_get_seam rows row [] p last) ∙ none ∙ sym (row-past rows p past)
      | inr differ ↦ row-past (rows ++ row ∷ []) p (omega (arith, length-append rows (row ∷ []), differ)) ∙ sym (row-past rows p past)
    ]
  ]

  pub row-set_same : (rows : List (Vec A Global)) (p : ℕ) (row : Vec A Global) → p < length rows → row_at (set rows p row) p ≡ row.items
  row-set_same rows p row within = row-some (set rows p row) p row (slice_get-set_same rows p row within)

  pub row-set_other : (rows : List (Vec A Global)) (p q : ℕ) (row : Vec A Global) → q ≢ p → row_at (set rows p row) q ≡ row_at rows q
  unfolding row_at
  row-set_other rows p q row differ = ap items_of (slice_get-set_other rows p q row differ)

  -- where the new row is like the old one
  pub row-set_like : (rows : List (Vec A Global)) (p q : ℕ) (row : Vec A Global) → p < length rows → row.items ≡ row_at rows p → row_at (set rows p row) q ≡ row_at rows q
  row-set_like rows p q row within like = elim (cases_eq q p) [
    | inl e ↦ ap (row_at (set rows p row)) e ∙ row-set_same rows p row within ∙ like ∙ sym (ap (row_at rows) e)
    | inr differ ↦ row-set_other rows p q row differ
  ]

-- ---- lists
pub list-is : (lists : Lists) (p : ℕ) → row_at (row_at lists.blocks.items (p / 512)) (p % 512) ≡ list_at lists p
unfolding list_at
list-is lists p = refl

-- a place is known by its block and where it stands there
pub place-parts : (p q : ℕ) → p / 512 ≡ q / 512 → p % 512 ≡ q % 512 → p ≡ q
place-parts p q block rest = sym (div-add-mod p 512) ∙ ap (λ (n : ℕ). 512 * n + p % 512) block ∙ ap (λ (n : ℕ). 512 * (q / 512) + n) rest ∙ div-add-mod q 512

-- each block has the same lists
pub list-same : (old new : Lists) → ((p : ℕ) → row_at new.blocks.items p ≡ row_at old.blocks.items p) → (p : ℕ) → list_at new p ≡ list_at old p
unfolding list_at
list-same old new same p = ap (λ (block : List (Vec ℕ Global)). row_at block (p % 512)) (same (p / 512))

pub list-none : (lists : Lists) → lists.blocks.items ≡ [] → (p : ℕ) → list_at lists p ≡ []
unfolding list_at
list-none lists none p =
    row-past (row_at lists.blocks.items (p / 512)) (p % 512) (omega (arith, ap length (row-past lists.blocks.items (p / 512) (omega (arith, ap length none)))))

-- the block of the place is replaced
module _ (old new : Lists) (p : ℕ) (block : Vec (Vec ℕ Global) Global) (within : p / 512 < length old.blocks.items) (is : new.blocks.items ≡ set old.blocks.items (p / 512) block) where
  pub list-set_same : list_at new p ≡ row_at block.items (p % 512)
  unfolding list_at
  list-set_same =
      ap (λ (blocks : List (Vec (Vec ℕ Global) Global)). row_at (row_at blocks (p / 512)) (p % 512)) is
      ∙ ap (λ (rows : List (Vec ℕ Global)). row_at rows (p % 512)) (row-set_same old.blocks.items (p / 512) block within)

  in_block : (q : ℕ) → q / 512 ≡ p / 512 → row_at block.items (q % 512) ≡ row_at (row_at old.blocks.items (p / 512)) (q % 512) → list_at new q ≡ list_at old q
  unfolding list_at
  in_block q same like =
      ap (λ (blocks : List (Vec (Vec ℕ Global) Global)). row_at (row_at blocks (q / 512)) (q % 512)) is
      ∙ ap (λ (n : ℕ). row_at (row_at (set old.blocks.items (p / 512) block) n) (q % 512)) same
      ∙ ap (λ (rows : List (Vec ℕ Global)). row_at rows (q % 512)) (row-set_same old.blocks.items (p / 512) block within)
      ∙ like
      ∙ sym (ap (λ (n : ℕ). row_at (row_at old.blocks.items n) (q % 512)) same)

  in_other : (q : ℕ) → q / 512 ≢ p / 512 → list_at new q ≡ list_at old q
  unfolding list_at
  in_other q apart =
      ap (λ (blocks : List (Vec (Vec ℕ Global) Global)). row_at (row_at blocks (q / 512)) (q % 512)) is
      ∙ ap (λ (rows : List (Vec ℕ Global)). row_at rows (q % 512)) (row-set_other old.blocks.items (p / 512) (q / 512) block apart)

  pub list-set_other : ((j : ℕ) → j ≢ p % 512 → row_at block.items j ≡ row_at (row_at old.blocks.items (p / 512)) j) → (q : ℕ) → q ≢ p → list_at new q ≡ list_at old q
  list-set_other others q differ = elim (cases_eq (q / 512) (p / 512)) [
    | inl same ↦ in_block q same (others (q % 512) (λ e. differ (place-parts q p same e)))
    | inr apart ↦ in_other q apart
  ]

  pub list-set_like : ((j : ℕ) → row_at block.items j ≡ row_at (row_at old.blocks.items (p / 512)) j) → (q : ℕ) → list_at new q ≡ list_at old q
  list-set_like like q = elim (cases_eq (q / 512) (p / 512)) [
    | inl same ↦ in_block q same (like (q % 512))
    | inr apart ↦ in_other q apart
  ]

-- ---- where a list stands
-- the block of the place, of the blocks as they are read
pub list-some : (lists : Lists) (p : ℕ) (blocks : List (Vec (Vec ℕ Global) Global)) (block : Vec (Vec ℕ Global) Global) → blocks ≡ lists.blocks.items → p / 512 < length blocks → block ≡ get_or blocks (p / 512) block → list_at lists p ≡ row_at block.items (p % 512)
unfolding list_at
list-some lists p blocks block same within is =
    ap (λ (rows : List (Vec ℕ Global)). row_at rows (p % 512)) (row-some lists.blocks.items (p / 512) block (slice_get_read_as lists.blocks.items blocks (p / 512) block same within is))

pub list-past : (lists : Lists) (p : ℕ) (blocks : List (Vec (Vec ℕ Global) Global)) → blocks ≡ lists.blocks.items → length blocks ≤ p / 512 → list_at lists p ≡ []
unfolding list_at
list-past lists p blocks same past =
    let none : row_at lists.blocks.items (p / 512) ≡ [] = row-past lists.blocks.items (p / 512) (omega (arith, ap length same, past)) in
    row-past (row_at lists.blocks.items (p / 512)) (p % 512) (omega (arith, ap length none))

-- a list that is not empty stands in a block
pub list-within : (lists : Lists) (p at : ℕ) → at < length (list_at lists p) → (p / 512 < length lists.blocks.items) × (p % 512 < length (row_at lists.blocks.items (p / 512)))
unfolding list_at
list-within lists p at less =
    let inside : p % 512 < length (row_at lists.blocks.items (p / 512)) = row-within (row_at lists.blocks.items (p / 512)) (p % 512) at less in
    (row-within lists.blocks.items (p / 512) (p % 512) inside, inside)

-- what is read in its block
pub list-read : (lists : Lists) (p : ℕ) (block : Vec (Vec ℕ Global) Global) (list : Vec ℕ Global) → row_at lists.blocks.items (p / 512) ≡ block.items → p % 512 < length block.items → list ≡ get_or block.items (p % 512) list → list_at lists p ≡ list.items
list-read lists p block list block-is within is =
    sym (list-is lists p) ∙ ap (λ (rows : List (Vec ℕ Global)). row_at rows (p % 512)) block-is ∙ row-read block.items (p % 512) list within is
