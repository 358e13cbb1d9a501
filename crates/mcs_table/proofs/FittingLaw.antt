-- Of two rows of one state just the one with fewer marks is left.
use Rattle.std.proofs.Common.{◌≡◌, ℕ, List, [], ◌∷◌, inl, inr, refl, sym, subst}
use Rattle.mcs_base.specs.Listings.{IsAmong}
use Rattle.mcs_base.specs.Partials.{PartialState}
use Rattle.mcs_sets.specs.Sets.{Within}
use Rattle.mcs_sets.proofs.Lattice.{within_antisymmetric}
use Rattle.mcs_table.specs.declared.row.Row.{Row}
use Rattle.mcs_table.specs.Tables.{TableData, IsCovered}
use Rattle.mcs_table.specs.Fitting.{FitsEach, FittingTablesAreMinimal, IsFitting}

module _ (others : List TableData) (t u : TableData) (s : PartialState) (few many : ℕ) where
  abbrev row_with : ℕ → Row
  row_with marks = record { state = s; marks = marks }

  module _ (rows : t.rows ≡ row_with few ∷ row_with many ∷ []) (within : Within few many) (other : ¬ (few ≡ many)) (fits : FitsEach s others) (is : IsFitting others t u) where
    -- each row left is one of the two
    one_of : (r : Row) → IsAmong r u.rows → IsAmong r (row_with few ∷ row_with many ∷ [])
    one_of r h = subst (λ xs. IsAmong r xs) rows (is.from r h)

    first_there : IsAmong (row_with few) u.rows
    first_there =
        let covered : IsCovered u.rows (row_with few) = is.below (row_with few) (subst (λ xs. IsAmong (row_with few) xs) (sym rows) (inl refl)) fits in
        elim (one_of covered.by covered.among) [
          | inl e ↦ subst (λ x. IsAmong x u.rows) e covered.among
          | inr (inl e) ↦ absurd (other (within_antisymmetric few many within (subst (λ (x : Row). Within x.marks few) e covered.within)))
          | inr (inr none) ↦ absurd none
        ]

    second_gone : ¬ IsAmong (row_with many) u.rows
    second_gone h = other (is.least (row_with many) (row_with few) h first_there refl within)

    pub just_first : (r : Row) → (IsAmong r u.rows → r ≡ row_with few) × (r ≡ row_with few → IsAmong r u.rows)
    just_first r = (
      λ h. elim (one_of r h) [ inl e ↦ e | inr (inl e) ↦ absurd (second_gone (subst (λ x. IsAmong x u.rows) e h)) | inr (inr none) ↦ absurd none ],
      λ e. subst (λ x. IsAmong x u.rows) (sym e) first_there,
    )

pub fitting_tables_are_minimal : FittingTablesAreMinimal
fitting_tables_are_minimal others t u s few many rows within other fits is r = just_first others t u s few many rows within other fits is r
