-- Rows of which no mark of the one occurs in the other, by all marks of both.
use Rattle.std.proofs.Common.{◌≡◌, ◌<◌, ◌+◌, ℕ, List, ◌∷◌, length, get_or, drop, sym, ap, ◌∙◌, ◌↔◌, drop-cons, add-one, suc, ◌≤◌}
use Rattle.std.proofs.lemmas.List.{drop_all}
use Rattle.mcs_sets.specs.Sets.{union, Meets}
use Rattle.mcs_sets.proofs.Lattice.{union_assoc, union-none}
use Rattle.mcs_table.specs.declared.row.Row.{Row}
use Rattle.mcs_table.specs.Tables.{ShareNoMark}
use Rattle.mcs_table.specs.Joins.{union_of}
use Rattle.mcs_table.proofs.OrderFreeLemmas.{in_some, some_in}

abbrev marks : Row → ℕ
marks r = r.marks

pub apart_is : (xs ys : List Row) → (¬ Meets (union_of (λ (r : Row). r.marks) xs) (union_of (λ (r : Row). r.marks) ys)) ↔ ShareNoMark xs ys
apart_is xs ys = (
  λ not x y in_x in_y meets. not (record { member = meets.member; in_first = some_in marks xs meets.member x in_x meets.in_first; in_second = some_in marks ys meets.member y in_y meets.in_second }),
  λ apart meets.
      let (x, in_x, first) = in_some marks xs meets.member meets.in_first in
      let (y, in_y, second) = in_some marks ys meets.member meets.in_second in
      apart x y in_x in_y (record { member = meets.member; in_first = first; in_second = second }),
)

-- one more row is taken in
pub marks_more : (xs : List Row) (i : ℕ) (x : Row) (all : ℕ) → i < length xs → x ≡ get_or xs i x
    → union all (union_of (λ (r : Row). r.marks) (drop i xs)) ≡ union_of (λ (r : Row). r.marks) xs
    → union (union all x.marks) (union_of (λ (r : Row). r.marks) (drop (i + 1) xs)) ≡ union_of (λ (r : Row). r.marks) xs
marks_more xs i x all less here so_far =
    let split : drop i xs ≡ x ∷ drop (i + 1) xs = rw add-one (drop-cons xs i x less ∙ ap (λ (r : Row). r ∷ drop (suc i) xs) (sym here)) in
    union_assoc all x.marks (union_of marks (drop (i + 1) xs)) ∙ (ap (λ (rs : List Row). union all (union_of marks rs)) (sym split) ∙ so_far)

pub marks_end : (xs : List Row) (i : ℕ) (all : ℕ) → length xs ≤ i → union all (union_of (λ (r : Row). r.marks) (drop i xs)) ≡ union_of (λ (r : Row). r.marks) xs → all ≡ union_of (λ (r : Row). r.marks) xs
marks_end xs i all past so_far =
    sym (union-none all) ∙ (ap (λ (rs : List Row). union all (union_of marks rs)) (sym (drop_all i xs past)) ∙ so_far)
