-- Skipping, of ascending rows, those with the state of a later row and as many marks: none of them covers it.
use Rattle.std.proofs.Common.{◌≡◌, ◌<◌, ◌+◌, ℕ, Bool, true, false, List, length, get_or, take, drop, refl, sym, ap, ◌∙◌, subst, inl, inr, ◌⊎◌, arith, true≢false}
use Rattle.std.proofs.lemmas.Bool.{cases_lt}
use Rattle.std.proofs.lemmas.Cmp.{ranked}
use Rattle.std.proofs.lemmas.List.{get_or-drop, get_or-take, length-drop, length-take}
use Rattle.std.specs.declared.cmp.Ordering.{Ordering}
use Rattle.std.specs.declared.cmp.Ordering.TheVariants.{Less, Equal, Greater}
use Rattle.std.specs.Cmp.{tied_itself}
use Rattle.std.specs.List.{AllByRecursion}
use Rattle.std.specs.List.Sorted.{IsPartitionedBy, IsPartitionPoint}
use Rattle.std.specs.Ordering.{MatchOrdering, ordering_then, is_lt, nat_cmp}
use Rattle.mcs_sets.specs.Sets.{size, Within}
use Rattle.mcs_sets.specs.Orders.{StateBefore}
use Rattle.mcs_sets.proofs.Lattice.{not_within_before, before_has_no_more, within_back}
use Rattle.mcs_base.specs.Listings.{IsAscending, IsAmong}
use Rattle.mcs_base.specs.StateOrder.{state_cmp, state_cmp_total, less_is, equal_is, cmp-before, StateBefore-transitive}
use Rattle.mcs_base.proofs.Among.{place_among, drop_among, among_at}
use Rattle.mcs_base.proofs.Ascending.{before_at}
use Rattle.mcs_base.proofs.Each.{all_among}
use Rattle.mcs_table.specs.declared.row.Row.{Row}
use Rattle.mcs_table.specs.Partners.{key_cmp}
use Rattle.mcs_table.specs.RowOrder.{RowBefore, state_and_count}
use Rattle.mcs_table.specs.Tables.{IsCovered}

-- x has a lesser state than the row, or its state and fewer marks
abbrev pub has_fewer : Row → Row → Bool
has_fewer row x = is_lt (key_cmp (state_and_count x) (state_and_count row))

abbrev HasFewer : Row → Row → Type 0
HasFewer row x = StateBefore x.state.values row.state.values ⊎ ((x.state.values ≡ row.state.values) × (size x.marks < size row.marks))

test_fewer : (row x : Row) → has_fewer row x ≡ true → HasFewer row x
test_fewer row x = at (state_cmp x.state.values row.state.values) refl (nat_cmp (size x.marks) (size row.marks)) (ranked (size x.marks) (size row.marks) _ refl)
  where
    at : (o : Ordering) → state_cmp x.state.values row.state.values ≡ o → (p : Ordering) → MatchOrdering p (size x.marks < size row.marks) (size x.marks ≡ size row.marks) (size row.marks < size x.marks) → is_lt (ordering_then o p) ≡ true → HasFewer row x
    at Less e p m h = inl (less_is _ _ e)
    at Equal e Less m h = inr (equal_is _ _ e, m)
    at Equal e Equal m h = absurd (true≢false (sym h))
    at Equal e Greater m h = absurd (true≢false (sym h))
    at Greater e p m h = absurd (true≢false (sym h))

less_of : (a b : ℕ) → a < b → (p : Ordering) → MatchOrdering p (a < b) (a ≡ b) (b < a) → is_lt p ≡ true
less_of a b less Less m = refl
less_of a b less Equal m = absurd (omega arith)
less_of a b less Greater m = absurd (omega arith)

fewer_test : (row x : Row) → HasFewer row x → has_fewer row x ≡ true
fewer_test row x (inl h) = ap (λ (o : Ordering). is_lt (ordering_then o (nat_cmp (size x.marks) (size row.marks)))) (sym (cmp-before _ _ h))
fewer_test row x (inr h) =
    ap (λ (s : ℕ). is_lt (ordering_then (state_cmp x.state.values s) (nat_cmp (size x.marks) (size row.marks)))) (sym h.0)
    ∙ ap (λ (o : Ordering). is_lt (ordering_then o (nat_cmp (size x.marks) (size row.marks)))) (tied_itself state_cmp_total x.state.values)
    ∙ less_of (size x.marks) (size row.marks) h.1 (nat_cmp (size x.marks) (size row.marks)) (ranked (size x.marks) (size row.marks) _ refl)

fewer_before : (row x y : Row) → RowBefore x y → HasFewer row y → HasFewer row x
fewer_before row x y (inl h) (inl k) = inl (StateBefore-transitive _ _ _ h k)
fewer_before row x y (inl h) (inr k) = inl (subst (StateBefore x.state.values) k.0 h)
fewer_before row x y (inr h) (inl k) = inl (subst (λ (s : ℕ). StateBefore s row.state.values) (sym h.0) k)
fewer_before row x y (inr h) (inr k) = inr (h.0 ∙ k.0, let more = before_has_no_more x.marks y.marks h.1 in let less = k.1 in omega arith)

earlier_one : (xs : List Row) (i j : ℕ) (d : Row) → i < j → j < length xs → IsAscending RowBefore xs → RowBefore (get_or xs i d) (get_or xs j d)
earlier_one xs i j d before less up =
    before_at RowBefore xs j d less up (get_or xs i d) (subst (λ (x : Row). IsAmong x (take j xs)) (get_or-take j xs i d before) (among_at (take j xs) i d (omega (arith, length-take j xs))))

pub parted_by_fewer : (row : Row) (xs : List Row) → IsAscending RowBefore xs → IsPartitionedBy (has_fewer row) xs
parted_by_fewer row xs up i j d le less h = elim (cases_lt i j) [
  | inl before ↦ fewer_test row (get_or xs i d) (fewer_before row (get_or xs i d) (get_or xs j d) (earlier_one xs i j d before less up) (test_fewer row (get_or xs j d) h))
  | inr past ↦ let same : i ≡ j = omega arith in ap (λ k. has_fewer row (get_or xs k d)) same ∙ h
]

covering_has_fewer : (row x : Row) → RowBefore x row → x.state ≡ row.state → Within x.marks row.marks → HasFewer row x
covering_has_fewer row x (inl h) state within = inl h
covering_has_fewer row x (inr (same, inl less)) state within = inr (same, less)
covering_has_fewer row x (inr (same, inr h)) state within = absurd (not_within_before x.marks row.marks (inr h) (within_back x.marks row.marks within h.0))

pub none_of_the_rest : (row : Row) (xs : List Row) (i : ℕ) → AllByRecursion (λ (r : Row). RowBefore r row) xs
    → IsPartitionPoint (λ x. has_fewer row x ≡ true) (λ x. has_fewer row x ≡ false) xs i → ¬ IsCovered (drop i xs) row
none_of_the_rest row xs i after point h =
    let (k, less, is) = place_among (drop i xs) h.by h.among in
    let here : get_or xs (i + k) h.by ≡ h.by = sym (get_or-drop i xs k h.by) ∙ is h.by in
    let not : has_fewer row h.by ≡ false = subst (λ (x : Row). has_fewer row x ≡ false) here (point.1 (i + k) h.by (omega arith) (omega (arith, less, length-drop i xs))) in
    let before = all_among (λ (r : Row). RowBefore r row) xs h.by after (drop_among xs i h.by h.among) in
    true≢false (sym (fewer_test row h.by (covering_has_fewer row h.by before h.state h.within)) ∙ not)
