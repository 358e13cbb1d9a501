-- The tables of contexts, one after the other.
use Rattle.std.proofs.Common.{◌≡◌, ◌+◌, ℕ, ◌<◌, List, [], ◌∷◌, ◌++◌, length, take, get_or, Some, slice_get, refl, sym, ap, ◌∙◌, subst, inl, inr, arith}
use Rattle.std.proofs.lemmas.List.{length-append, take_more}
use Rattle.std.proofs.lemmas.List.FromFn.{get_or-range_with_len, length-range_with_len}
use Rattle.std.proofs.lemmas.List.Sorted.{IsPermutation-keeps, IsPermutation-refl, IsPermutation-swap, IsPermutation-sym, IsPermutation-trans}
use Rattle.std.proofs.lemmas.Option.{get_or_from_slice_get, slice_get_within}
use Rattle.std.specs.List.{AllZip, range_with_len, swap}
use Rattle.std.specs.List.Sorted.{IsPermutation}
use Rattle.mcs_base.specs.Listings.{IsAmong}
use Rattle.mcs_base.proofs.Among.{among_at, among_permutation, range_among}
use Rattle.mcs_base.proofs.Lists.{length_zip, slice_get_push_at, zip_get_or, zip_push, zip_swap}
use Rattle.mcs_system.specs.Plain.{System}
use Rattle.mcs_table.specs.Fitting.{AreFittingAfter}
use Rattle.mcs_table.specs.Tables.{TableData, unit_table}
use Rattle.mcs_table.specs.Without.{IsWithout}
use Rattle.mcs_table.proofs.FittingParts.{fitting_push}
use Rattle.mcs_rows.specs.Local.{IsLocalTable, IsFittingTable, AreFittingTables}
use Rattle.mcs_rows.specs.Changed.{AreEachChanged, AreChangedAt, IsChangedAt, IsChangedTable}

-- ---- local tables
table_more : (m : System) (level i : ℕ) (tables now : List TableData) (t : TableData) → ((c : ℕ) (t : TableData) → slice_get tables c ≡ Some t → IsLocalTable m level c t) → length tables ≡ i → IsLocalTable m level i t → now ≡ tables ++ t ∷ []
    → (c : ℕ) (t : TableData) → slice_get now c ≡ Some t → IsLocalTable m level c t
table_more m level i tables now t so_far long here is c t' at = elim (slice_get_push_at tables t c t' (ap (λ xs. slice_get xs c) (sym is) ∙ at)) [
  | inl before ↦ so_far c t' before
  | inr last ↦ subst (λ z. IsLocalTable m level c z) (sym last.1) (subst (λ n. IsLocalTable m level n t) (sym (last.0 ∙ long)) here)
]

none_at : {P : Type 0} (c : ℕ) (t : TableData) → slice_get [] c ≡ Some t → P
none_at c t is = absurd (let less = slice_get_within [] c t is in omega arith)

-- ---- minimal rows
-- those of some contexts, each with respect to the tables before it
pub record AreSomeFitting (m : System) (level : ℕ) (known contexts : List ℕ) (us : List TableData) : Type 0 where
  pub all : List TableData
  pub local : AllZip (IsLocalTable m level) contexts all
  pub left : List TableData
  pub without : AllZip (IsWithout known) all left
  pub fitting : AreFittingAfter [] left us

pub fitting_begin : (m : System) (level : ℕ) (known : List ℕ) → AreSomeFitting m level known [] []
fitting_begin m level known = record { all = []; local = tt; left = []; without = tt; fitting = tt }

-- the next context of the order
pub fitting_more : (m : System) (level : ℕ) (known order : List ℕ) (k : ℕ) (us now : List TableData) (u : TableData) → k < length order → AreSomeFitting m level known (take k order) us
    → IsFittingTable m level (get_or order k 0) known us u → now ≡ us ++ u ∷ [] → AreSomeFitting m level known (take (k + 1) order) now
fitting_more m level known order k us now u less so_far one is = record {
  all = so_far.all ++ one.all ∷ [];
  local = subst (λ (js : List ℕ). AllZip (IsLocalTable m level) js (so_far.all ++ one.all ∷ [])) (sym (take_more order k 0 less)) (zip_push (IsLocalTable m level) (take k order) so_far.all (get_or order k 0) one.all so_far.local one.local);
  left = so_far.left ++ one.left ∷ [];
  without = zip_push (IsWithout known) so_far.all so_far.left one.all one.left so_far.without one.without;
  fitting = subst (λ (vs : List TableData). AreFittingAfter [] (so_far.left ++ one.left ∷ []) vs) (sym is) (fitting_push [] so_far.left us one.left u so_far.fitting one.fitting);
}

-- local tables of the contexts in another order, and what is left of them
record AreMoved (m : System) (level : ℕ) (known : List ℕ) (ordered : List TableData) (contexts : List ℕ) : Type 0 where
  all : List TableData
  local : AllZip (IsLocalTable m level) contexts all
  left : List TableData
  without : AllZip (IsWithout known) all left
  moved : IsPermutation left ordered

moved_swap : (m : System) (level : ℕ) (known : List ℕ) (ordered : List TableData) (contexts : List ℕ) (i j : ℕ) → i < length contexts → j < length contexts → AreMoved m level known ordered contexts → AreMoved m level known ordered (swap contexts i j)
moved_swap m level known ordered contexts i j less_i less_j h =
    let long = length_zip (IsLocalTable m level) contexts h.all h.local in
    let long' = length_zip (IsWithout known) h.all h.left h.without in
    let back : IsPermutation h.left (swap h.left i j) = IsPermutation-swap h.left (swap h.left i j) i j (omega (arith, less_i, long, long')) (omega (arith, less_j, long, long')) refl in
    record {
      all = swap h.all i j;
      local = zip_swap (IsLocalTable m level) contexts h.all i j 0 unit_table (omega (arith, less_i, long)) (omega (arith, less_j, long)) h.local;
      left = swap h.left i j;
      without = zip_swap (IsWithout known) h.all h.left i j unit_table unit_table (omega (arith, less_i, long, long')) (omega (arith, less_j, long, long')) h.without;
      moved = IsPermutation-trans (swap h.left i j) h.left ordered (IsPermutation-sym h.left (swap h.left i j) back) h.moved;
    }

-- in order
pub fitting_end : (m : System) (level : ℕ) (known order : List ℕ) (us : List TableData) → IsPermutation (range_with_len 0 (length m.contexts)) order → AreSomeFitting m level known order us → AreFittingTables m level known us
fitting_end m level known order us moved so_far =
    let n = length m.contexts in
    let begun : AreMoved m level known so_far.left order = record { all = so_far.all; local = so_far.local; left = so_far.left; without = so_far.without; moved = IsPermutation-refl so_far.left } in
    let h : AreMoved m level known so_far.left (range_with_len 0 n) =
    IsPermutation-keeps order (AreMoved m level known so_far.left) begun (λ l i j less_i less_j one. moved_swap m level known so_far.left l i j less_i less_j one) (range_with_len 0 n) (IsPermutation-sym (range_with_len 0 n) order moved) in
    let long : n ≡ length h.all = sym (length-range_with_len 0 n) ∙ length_zip (IsLocalTable m level) (range_with_len 0 n) h.all h.local in
    record {
      all = h.all;
      local = record {
        one_each = sym long;
        local = λ i t is.
            let less : i < n = let within = slice_get_within h.all i t is in omega (arith, within, long) in
            let (read, same) : (get_or (range_with_len 0 n) i 0 ≡ i) × (get_or h.all i unit_table ≡ t) = (get_or-range_with_len 0 n i 0 less ∙ omega arith, get_or_from_slice_get h.all i t unit_table is) in
            subst (λ (c : ℕ). IsLocalTable m level c t) read
            (subst (IsLocalTable m level (get_or (range_with_len 0 n) i 0)) same (zip_get_or (IsLocalTable m level) (range_with_len 0 n) h.all i 0 unit_table h.local (omega (arith, less, length-range_with_len 0 n))));
      };
      left = h.left;
      without = h.without;
      ordered = so_far.left;
      moved = h.moved;
      fitting = so_far.fitting;
    }

-- each of the order is one of them
pub order_below : (n : ℕ) (order items : List ℕ) → IsPermutation (range_with_len 0 n) order → items ≡ order → (k : ℕ) → k < length items → get_or items k 0 < n
order_below n order items moved is k less =
    let among : IsAmong (get_or items k 0) order = subst (IsAmong (get_or items k 0)) is (among_at items k 0 less) in
    let (low, high) = range_among (get_or items k 0) 0 n ((among_permutation (range_with_len 0 n) order moved (get_or items k 0)).0 among) in
    omega (arith, high)

-- ---- rows with the marks of a pair
pub record AreSomeChanged (m : System) (level pair k : ℕ) (us : List TableData) : Type 0 where
  pub all : List TableData
  pub long : length all ≡ k
  pub many : length us ≡ k
  pub local : (c : ℕ) (t : TableData) → slice_get all c ≡ Some t → IsLocalTable m level c t
  pub changed : AreEachChanged m pair all us

pub changed_begin : (m : System) (level pair : ℕ) → AreSomeChanged m level pair 0 []
changed_begin m level pair = record { all = []; long = refl; many = refl; local = λ c t is. none_at c t is; changed = λ i t u is is'. none_at i t is }

pub changed_more : (m : System) (level pair k : ℕ) (us now : List TableData) (u : TableData) → AreSomeChanged m level pair k us → IsChangedAt m level k pair u → now ≡ us ++ u ∷ [] → AreSomeChanged m level pair (k + 1) now
changed_more m level pair k us now u so_far here is = record {
  all = so_far.all ++ here.all ∷ [];
  long = length-append so_far.all (here.all ∷ []) ∙ ap (λ n. n + 1) so_far.long;
  many = ap length is ∙ length-append us (u ∷ []) ∙ ap (λ n. n + 1) so_far.many;
  local = table_more m level k so_far.all (so_far.all ++ here.all ∷ []) here.all so_far.local so_far.long here.local refl;
  changed = λ i t u' at at'. elim (slice_get_push_at so_far.all here.all i t at) [
    | inl old ↦ elim (slice_get_push_at us u i u' (ap (λ xs. slice_get xs i) (sym is) ∙ at')) [
      | inl old' ↦ so_far.changed i t u' old old'
      | inr last ↦ absurd (let within = slice_get_within so_far.all i t old in let e = so_far.long in let e' = so_far.many in let p = last.0 in omega arith)
    ]
    | inr last ↦ elim (slice_get_push_at us u i u' (ap (λ xs. slice_get xs i) (sym is) ∙ at')) [
      | inl old' ↦ absurd (let within = slice_get_within us i u' old' in let e = so_far.long in let e' = so_far.many in let p = last.0 in omega arith)
      | inr last' ↦
          subst (λ (j : ℕ). IsChangedTable m j pair t u') (sym (last.0 ∙ so_far.long))
          (subst (λ (w : TableData). IsChangedTable m k pair w u') (sym last.1) (subst (λ (w : TableData). IsChangedTable m k pair here.all w) (sym last'.1) here.changed))
    ]
  ];
}

pub changed_end : (m : System) (level pair k : ℕ) (us : List TableData) → k ≡ length m.contexts → AreSomeChanged m level pair k us → AreChangedAt m level pair us
changed_end m level pair k us is so_far = record {
  all = so_far.all;
  local = record { one_each = so_far.long ∙ is; local = so_far.local };
  changed = record { one_each = so_far.many ∙ sym so_far.long; changed = so_far.changed };
}
