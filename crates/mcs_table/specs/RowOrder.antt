-- The order of rows, and the same as an order of std.
use Rattle.std.specs.Prelude.{◌≡◌, ℕ, Bool, true, nat_eq, ◌&&◌, ◌⊎◌}
use Rattle.std.proofs.Common.{refl, sym, ◌∙◌, ap, subst, inl, inr, arith}
use Rattle.std.proofs.lemmas.Bool.Decides.{nat_tests}
use Rattle.std.proofs.lemmas.Cmp.{on_total, then_total}
use Rattle.std.specs.declared.cmp.Ordering.{Ordering}
use Rattle.std.specs.declared.cmp.Ordering.TheVariants.{Less, Equal, Greater}
use Rattle.std.specs.Ordering.{ordering_then, eq_by_cmp, as_partial_cmp}
use Rattle.std.specs.Cmp.{IsTotalOrder, IsPartialOrder, Equal-is, tied_itself, both_ways, po}
use Rattle.mcs_sets.specs.Sets.{size}
use Rattle.mcs_sets.specs.Orders.{StateBefore, PairBefore}
use Rattle.mcs_base.specs.StateOrder.{state_cmp, state_cmp_total, less_is, equal_is, cmp-same}
use Rattle.mcs_base.specs.PairOrder.{pair_cmp, pair_cmp_total, pair_less_is, pair_equal_is}
use Rattle.mcs_table.specs.declared.row.Row.{Row}

-- in the order of states; rows of one state in the order of pairs
abbrev pub RowBefore : Row → Row → Type 0
RowBefore a b = StateBefore a.state.values b.state.values ⊎ ((a.state.values ≡ b.state.values) × PairBefore a.marks b.marks)

-- the state, and how many marks
abbrev pub state_and_count : Row → ℕ × ℕ
state_and_count r = (r.state.values, size r.marks)

-- the lesser state; of the same state the lesser marks; and then the lesser mask
unfoldable pub row_cmp : Row → Row → Ordering
row_cmp a b = ordering_then (ordering_then (state_cmp a.state.values b.state.values) (pair_cmp a.marks b.marks)) (state_cmp a.state.mask b.state.mask)

pub row_cmp_total : IsTotalOrder row_cmp
unfolding row_cmp
row_cmp_total = then_total (then_total (on_total (λ (r : Row). r.state.values) state_cmp_total) (on_total (λ (r : Row). r.marks) pair_cmp_total)) (on_total (λ (r : Row). r.state.mask) state_cmp_total)

pub same_row : (a b : Row) → a.state.mask ≡ b.state.mask → a.state.values ≡ b.state.values → a.marks ≡ b.marks → a ≡ b
same_row a b masks values marks =
    let of_mask = λ (m : ℕ). let r : Row = record { state = record { mask = m; values = a.state.values }; marks = a.marks } in r in
    let of_values = λ (v : ℕ). let r : Row = record { state = record { mask = b.state.mask; values = v }; marks = a.marks } in r in
    let of_marks = λ (m : ℕ). let r : Row = record { state = b.state; marks = m } in r in
    ap of_mask masks ∙ (ap of_values values ∙ ap of_marks marks)

-- rows that compare alike are one
pub row_equal_is : (a b : Row) → row_cmp a b ≡ Equal → a ≡ b
unfolding row_cmp
row_equal_is a b = at (state_cmp a.state.values b.state.values) refl (pair_cmp a.marks b.marks) refl
  where
    at : (o : Ordering) → state_cmp a.state.values b.state.values ≡ o → (p : Ordering) → pair_cmp a.marks b.marks ≡ p → ordering_then (ordering_then o p) (state_cmp a.state.mask b.state.mask) ≡ Equal → a ≡ b
    at Equal e Equal e' h = same_row a b (equal_is _ _ h) (equal_is _ _ e) (pair_equal_is _ _ e')
    at Less e p e' h = absurd (let no : Less ≡ Equal = h in cc)
    at Greater e p e' h = absurd (let no : Greater ≡ Equal = h in cc)
    at Equal e Less e' h = absurd (let no : Less ≡ Equal = h in cc)
    at Equal e Greater e' h = absurd (let no : Greater ≡ Equal = h in cc)

-- of rows on the same variables, the lesser one comes before
pub row_less_is : (a b : Row) → a.state.mask ≡ b.state.mask → row_cmp a b ≡ Less → RowBefore a b
unfolding row_cmp
row_less_is a b masks = at (state_cmp a.state.values b.state.values) refl (pair_cmp a.marks b.marks) refl
  where
    at : (o : Ordering) → state_cmp a.state.values b.state.values ≡ o → (p : Ordering) → pair_cmp a.marks b.marks ≡ p → ordering_then (ordering_then o p) (state_cmp a.state.mask b.state.mask) ≡ Less → RowBefore a b
    at Less e p e' h = inl (less_is _ _ e)
    at Equal e Less e' h = inr (equal_is _ _ e, pair_less_is _ _ e')
    at Equal e Equal e' h = absurd (let no : Less ≡ Equal = sym h ∙ sym (cmp-same _ _ masks) in cc)
    at Greater e p e' h = absurd (let no : Greater ≡ Less = h in cc)
    at Equal e Greater e' h = absurd (let no : Greater ≡ Less = h in cc)

abbrev pub row_eq : Row → Row → Bool
row_eq a b = (nat_eq a.state.mask b.state.mask && nat_eq a.state.values b.state.values) && nat_eq a.marks b.marks

tie_itself : (a : Row) → eq_by_cmp row_cmp a a ≡ true
tie_itself a = (Equal-is (row_cmp a a)).1 (tied_itself row_cmp_total a)

row_eq-itself : (a : Row) → row_eq a a ≡ true
row_eq-itself a = grind (arith, nat_tests)

pub row_tie : (a b : Row) → row_eq a b ≡ eq_by_cmp row_cmp a b
row_tie a b = both_ways _ _
    (λ e.
    let masks : a.state.mask ≡ b.state.mask = grind (arith, nat_tests) in
    let values : a.state.values ≡ b.state.values = grind (arith, nat_tests) in
    let marks : a.marks ≡ b.marks = grind (arith, nat_tests) in
    subst (λ (c : Row). eq_by_cmp row_cmp a c ≡ true) (same_row a b masks values marks) (tie_itself a))
    (λ e. subst (λ (c : Row). row_eq a c ≡ true) (row_equal_is a b ((Equal-is (row_cmp a b)).0 e)) (row_eq-itself a))

pub row_po : IsPartialOrder row_eq (as_partial_cmp row_cmp)
row_po = po row_cmp_total row_tie
