-- The order in which tables are joined makes no difference.
use Rattle.std.proofs.Common.{◌≡◌, ◌<◌, ℕ, true, List, [], ◌∷◌, length, refl, sym, ap, ◌∙◌, subst, inl, inr, ◌↔◌, arith, true≢false}
use Rattle.std.specs.List.{AllByRecursion, swap}
use Rattle.std.specs.List.Sorted.{IsPermutation}
use Rattle.std.proofs.lemmas.List.Sorted.{IsPermutation-keeps, IsPermutation-swap, IsPermutation-sym}
use Rattle.mcs_sets.specs.Sets.{has}
use Rattle.mcs_sets.proofs.SetLemmas.{has-empty}
use Rattle.mcs_sets.proofs.Lattice.{within_antisymmetric, in_union, within_union_left, within_union_right}
use Rattle.mcs_base.specs.Listings.{IsAmong}
use Rattle.mcs_base.proofs.ListingLemmas.{same_listing, IsListing-same}
use Rattle.mcs_base.proofs.Each.{all_among, all_from_among}
use Rattle.mcs_base.proofs.Among.{among_permutation}
use Rattle.mcs_base.proofs.Lists.{zip_swap, length_zip}
use Rattle.mcs_table.specs.declared.row.Row.{Row}
use Rattle.mcs_table.specs.RowOrder.{RowBefore, same_row}
use Rattle.mcs_table.specs.Tables.{TableData, IsTable, IsMinimalRow, unit_row, unit_table}
use Rattle.mcs_table.specs.Joins.{union_of, IsJointRow, JoinsIgnoreOrder}
use Rattle.mcs_table.proofs.OrderLemmas.{RowBefore-asymmetric}
use Rattle.mcs_table.proofs.JoinLemmas.{minimal_as}
use Rattle.mcs_table.proofs.JointLemmas.{joins_are_minimal}

module _ {A : Type 0} (f : A → ℕ) where
  pub in_some : (xs : List A) (k : ℕ) → has (union_of f xs) k ≡ true → (x : A) × IsAmong x xs × (has (f x) k ≡ true)
  in_some [] k h = absurd (true≢false (sym h ∙ has-empty k))
  in_some (x ∷ xs) k h = elim (in_union (f x) (union_of f xs) k h) [
    | inl e ↦ (x, inl refl, e)
    | inr e ↦ let (y, among, e') = in_some xs k e in (y, inr among, e')
  ]

  pub some_in : (xs : List A) (k : ℕ) (x : A) → IsAmong x xs → has (f x) k ≡ true → has (union_of f xs) k ≡ true
  some_in [] k x among h = absurd among
  some_in (y ∷ ys) k x (inl e) h = within_union_left (f y) (union_of f ys) k (subst (λ (z : A). has (f z) k ≡ true) e h)
  some_in (y ∷ ys) k x (inr among) h = within_union_right (f y) (union_of f ys) k (some_in ys k x among h)

  -- it depends only on what is in the list
  pub union_of-same : (xs ys : List A) → ((x : A) → IsAmong x xs ↔ IsAmong x ys) → union_of f xs ≡ union_of f ys
  union_of-same xs ys same = within_antisymmetric (union_of f xs) (union_of f ys)
      (λ k h. let (x, among, e) = in_some xs k h in some_in ys k x ((same x).0 among) e)
      (λ k h. let (x, among, e) = in_some ys k h in some_in xs k x ((same x).1 among) e)

-- two tables change places, and with them their rows
joint_swap : (level : ℕ) (r : Row) (tables : List TableData) (i j : ℕ) → i < length tables → j < length tables → IsJointRow level tables r → IsJointRow level (swap tables i j) r
joint_swap level r tables i j less_i less_j joint =
    let of = λ (p : Row) (t : TableData). IsAmong p t.rows in
    let same = length_zip of joint.parts tables joint.of_tables in
    let moved : IsPermutation joint.parts (swap joint.parts i j) = IsPermutation-swap joint.parts (swap joint.parts i j) i j (omega arith) (omega arith) refl in
    let members = among_permutation joint.parts (swap joint.parts i j) moved in
    let as_before = λ (x : Row). let h : IsAmong x joint.parts ↔ IsAmong x (swap joint.parts i j) = ((members x).1, (members x).0) in h in
    record {
      parts = swap joint.parts i j;
      of_tables = zip_swap of joint.parts tables i j unit_row unit_table less_i less_j joint.of_tables;
      fit = λ x y in_x in_y. joint.fit x y ((members x).0 in_x) ((members y).0 in_y);
      is = joint.is ∙ same_row _ _
          (union_of-same (λ (p : Row). p.state.mask) joint.parts (swap joint.parts i j) as_before)
          (union_of-same (λ (p : Row). p.state.values) joint.parts (swap joint.parts i j) as_before)
          (union_of-same (λ (p : Row). p.marks) joint.parts (swap joint.parts i j) as_before);
      few = joint.few;
    }

pub joint_moved : (level : ℕ) (r : Row) (tables others : List TableData) → IsPermutation tables others → IsJointRow level tables r → IsJointRow level others r
joint_moved level r tables others moved joint =
    IsPermutation-keeps tables (λ l. IsJointRow level l r) joint (λ l i j less_i less_j h. joint_swap level r l i j less_i less_j h) others moved

pub table_is : (t u : TableData) → t.scope ≡ u.scope → t.rows ≡ u.rows → t ≡ u
table_is t u scopes rows =
    ap (λ (s : ℕ). let v : TableData = record { scope = s; rows = t.rows } in v) scopes ∙ ap (λ (rs : List Row). let v : TableData = record { scope = u.scope; rows = rs } in v) rows

pub joins_ignore_order : JoinsIgnoreOrder
joins_ignore_order level tables others t u all moved joins joins' =
    let members = among_permutation tables others moved in
    let back = IsPermutation-sym tables others moved in
    let all' : AllByRecursion IsTable others = all_from_among IsTable others (λ a among. all_among IsTable tables a all ((members a).0 among)) in
    let one = joins_are_minimal level tables t all joins in
    let other = joins_are_minimal level others u all' joins' in
    let same : (r : Row) → IsJointRow level others r ↔ IsJointRow level tables r = λ r. (joint_moved level r others tables back, joint_moved level r tables others moved) in
    table_is t u
    (one.scope ∙ (union_of-same (λ (a : TableData). a.scope) tables others (λ a. ((members a).1, (members a).0)) ∙ sym other.scope))
    (same_listing RowBefore RowBefore-asymmetric (IsMinimalRow (IsJointRow level tables)) t.rows u.rows one.rows
    (IsListing-same RowBefore _ _ u.rows (minimal_as (IsJointRow level others) (IsJointRow level tables) same) other.rows))
