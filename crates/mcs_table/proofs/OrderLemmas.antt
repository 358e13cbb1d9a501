-- The order of rows.
use Rattle.std.proofs.Common.{◌≡◌, ℕ, List, sym, ap, ◌∙◌, subst, inl, inr}
use Rattle.std.specs.declared.cmp.Ordering.TheVariants.{Less}
use Rattle.mcs_sets.specs.Orders.{StateBefore}
use Rattle.mcs_sets.proofs.SetLemmas.{StateBefore-asymmetric, PairBefore-asymmetric, not_before_itself}
use Rattle.mcs_base.specs.Listings.{IsListing}
use Rattle.mcs_base.specs.Partials.{PartialState}
use Rattle.mcs_base.specs.StateOrder.{StateBefore-transitive}
use Rattle.mcs_base.specs.PairOrder.{PairBefore-transitive}
use Rattle.mcs_base.proofs.ListingLemmas.{Sorts}
use Rattle.mcs_base.proofs.Ascending.{ascending_as}
use Rattle.mcs_table.specs.declared.row.Row.{Row}
use Rattle.mcs_table.specs.RowOrder.{RowBefore, row_cmp, row_cmp_total, row_less_is, row_equal_is, same_row}

-- rows of one state with the same marks are one
pub same_state_and_marks : (a b : Row) → a.state ≡ b.state → a.marks ≡ b.marks → a ≡ b
same_state_and_marks a b state marks = same_row a b (ap (λ (s : PartialState). s.mask) state) (ap (λ (s : PartialState). s.values) state) marks

pub rows_sort : Sorts (λ (a b : Row). row_cmp a b ≡ Less) row_cmp
rows_sort = record { total = row_cmp_total; less = λ a b e. e; equal = row_equal_is }

pub RowBefore-transitive : (a b c : Row) → RowBefore a b → RowBefore b c → RowBefore a c
RowBefore-transitive a b c (inl h) (inl k) = inl (StateBefore-transitive _ _ _ h k)
RowBefore-transitive a b c (inl h) (inr k) = inl (subst (λ (v : ℕ). StateBefore a.state.values v) k.0 h)
RowBefore-transitive a b c (inr h) (inl k) = inl (subst (λ (v : ℕ). StateBefore v c.state.values) (sym h.0) k)
RowBefore-transitive a b c (inr h) (inr k) = inr (h.0 ∙ k.0, PairBefore-transitive _ _ _ h.1 k.1)

pub RowBefore-asymmetric : (a b : Row) → RowBefore a b → RowBefore b a → ⊥
RowBefore-asymmetric a b (inl h) (inl k) = StateBefore-asymmetric _ _ h k
RowBefore-asymmetric a b (inl h) (inr k) = not_before_itself _ (subst (λ (v : ℕ). StateBefore a.state.values v) k.0 h)
RowBefore-asymmetric a b (inr h) (inl k) = not_before_itself _ (subst (λ (v : ℕ). StateBefore b.state.values v) h.0 k)
RowBefore-asymmetric a b (inr h) (inr k) = PairBefore-asymmetric _ _ h.1 k.1

-- what std's sort lists, where all rows are on the same variables
pub listing_on_scope : (scope : ℕ) (P : Row → Type 0) (xs : List Row) → ((r : Row) → P r → r.state.mask ≡ scope) → IsListing P (λ (a b : Row). row_cmp a b ≡ Less) xs → IsListing P RowBefore xs
listing_on_scope scope P xs masks l = record {
  exactly = l.exactly;
  ascending = ascending_as _ RowBefore xs (λ a b h k less. row_less_is a b (masks a ((l.exactly a).0 h) ∙ sym (masks b ((l.exactly b).0 k))) less) l.ascending;
}
