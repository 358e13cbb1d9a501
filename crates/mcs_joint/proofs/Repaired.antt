-- What is left of the tables of all contexts, made one after the other, each with rows that fit those before.
use Rattle.std.proofs.Common.{◌≡◌, ◌≤◌, ℕ, List, ◌++◌, length, map, min, Some, slice_get, subst, ◌↔◌, arith}
use Rattle.std.proofs.lemmas.Option.{slice_get-get_or}
use Rattle.std.specs.List.{AllByRecursion, AllZip}
use Rattle.mcs_sets.specs.Sets.{size, Meets}
use Rattle.mcs_sets.specs.Orders.{PairBefore}
use Rattle.mcs_base.specs.Antichains.{HasOneWithin}
use Rattle.mcs_base.specs.Listings.{IsAmong, IsListing}
use Rattle.mcs_base.specs.Minimal.{IsMinimal}
use Rattle.mcs_system.specs.Plain.{System}
use Rattle.mcs_system.specs.Faults.{IsValid}
use Rattle.mcs_system.specs.Imports.{marks_at}
use Rattle.mcs_system.specs.Repairs.{IsDiagnosis}
use Rattle.mcs_laws.proofs.Counting.{minimal_is_small}
use Rattle.mcs_laws.proofs.Questions.{marks_are_apart}
use Rattle.mcs_table.specs.declared.row.Row.{Row}
use Rattle.mcs_table.specs.Tables.{TableData, IsTable, unit_table}
use Rattle.mcs_table.specs.Without.{IsWithout}
use Rattle.mcs_table.specs.Elimination.{EliminatesTo, AreJointMarks}
use Rattle.mcs_table.proofs.EliminationLemmas.{elimination_gives_marks}
use Rattle.mcs_rows.specs.Local.{IsRowOf, AreLocalTables, AreFittingTables}
use Rattle.mcs_rows.proofs.LocalLemmas.{local_are_tables}
use Rattle.mcs_joint.specs.Apart.{EachApart}
use Rattle.mcs_joint.proofs.Covering.{MarksCover, apart_fitting, apart_moved, cover_minimal, covers-trans, few_cover, few_are_tables, fitting_cover, moved_cover}
use Rattle.mcs_joint.specs.Reduced.{HasFewMarks, IsReduced}
use Rattle.mcs_joint.proofs.Keeping.{known_listed}
use Rattle.mcs_joint.proofs.Leaving.{apart_left, minimal_left}
use Rattle.mcs_joint.proofs.Repairing.{minimal_marks}
use Rattle.mcs_joint.proofs.Reducing.{reduced_covers}

-- rows of two contexts have no mark in common
rows_apart : (m : System) (k i j : ℕ) (x y : Row) → IsRowOf m k i x → IsRowOf m k j y → ¬ (i ≡ j) → ¬ Meets x.marks y.marks
rows_apart m k i j x y is_x is_y differ =
    let (order, is_order, one) = is_x.local in
    let (order', is_order', other) = is_y.local in
    subst (λ n. ¬ Meets n y.marks) one.marks_is (subst (λ n. ¬ Meets (marks_at m i one.whole one.rules) n) other.marks_is (marks_are_apart m one.whole other.whole one.rules other.rules i j one.of_rules other.of_rules differ))

pub own_apart : (m : System) (k : ℕ) (tables : List TableData) → ((i : ℕ) (t : TableData) (p : Row) → slice_get tables i ≡ Some t → IsAmong p t.rows → IsRowOf m k i p) → EachApart tables
own_apart m k tables own = record {
  at = λ i j less_i less_j differ x y in_x in_y.
      rows_apart m k i j x y (own i _ x (slice_get-get_or tables i unit_table less_i) in_x) (own j _ y (slice_get-get_or tables j unit_table less_j) in_y) differ;
}

local_apart : (m : System) (k : ℕ) (tables : List TableData) → AreLocalTables m k tables → EachApart tables
local_apart m k tables local = own_apart m k tables (λ i t p is among. ((local.local i t is).rows.exactly p).0 among)

pub fitting_apart : (m : System) (k : ℕ) (sets : List ℕ) (tables : List TableData) → AreFittingTables m k sets tables → EachApart tables
fitting_apart m k sets tables given = apart_fitting given.ordered tables given.fitting (apart_moved given.left given.ordered given.moved (apart_left sets given.all given.left given.without (local_apart m k given.all given.local)))

-- no minimal diagnosis has more marks than there are rules
few_are_few : (m : System) (level most : ℕ) → most ≡ min level (length m.bridges) → (p : ℕ) → (IsMinimal (IsDiagnosis m) p × (size p ≤ most)) ↔ (IsMinimal (IsDiagnosis m) p × (size p ≤ level))
few_are_few m level most e p = (λ h. (h.0, let few = h.1 in omega arith), λ h. (h.0, let few = h.1 in let small = minimal_is_small m p h.0 in omega arith))

module _ (m : System) (valid : IsValid m) (k level most : ℕ) (is_most : most ≡ min level (length m.bridges)) (high : level ≤ k) (sets : List ℕ) (tables few ordered : List TableData)
    (given : AreFittingTables m k sets tables) (are_few : AllZip (HasFewMarks most) tables few) (reduced : IsReduced most few ordered) where
  ordered_tables : AllByRecursion IsTable ordered
  ordered_tables = reduced.tables (few_are_tables most tables few are_few)

  covers : MarksCover most given.left ordered
  covers = covers-trans most given.left given.ordered ordered (moved_cover most given.left given.ordered given.moved)
      (covers-trans most given.ordered tables ordered (fitting_cover most given.ordered tables given.fitting) (covers-trans most tables few ordered (few_cover most tables few are_few) (reduced_covers most few ordered reduced)))

  same : (p : ℕ) → ¬ HasOneWithin sets p → IsMinimal (AreJointMarks most ordered) p ↔ (IsMinimal (IsDiagnosis m) p × (size p ≤ level))
  same p none =
      let one = cover_minimal most given.left ordered covers p in
      let whole = minimal_left sets most given.all given.left given.without p none in
      let other = minimal_marks m valid k given.all (local_are_tables m valid k given.all given.local) given.local most (omega arith) p in
      let last = few_are_few m level most is_most p in
      (λ h. last.0 (other.0 (whole.0 (one.0 h))), λ h. one.1 (whole.1 (other.1 (last.1 h))))

  -- of the marks that hold none of the known sets, those of what is left are the minimal diagnoses
  repairs_told : (t : TableData) → EliminatesTo most 0 ordered t → (p : ℕ) → ¬ HasOneWithin sets p → IsAmong p (map (λ (r : Row). r.marks) t.rows) ↔ (IsMinimal (IsDiagnosis m) p × (size p ≤ level))
  repairs_told t eliminates p none =
      let listed = (elimination_gives_marks most ordered t ordered_tables eliminates).exactly p in
      let told = same p none in
      (λ h. told.0 (listed.0 h), λ h. listed.1 (told.1 h))

  -- so with the known ones they are all of them
  pub repairs_listed : (whole left : TableData) (pairs : List ℕ) → EliminatesTo most 0 ordered whole → IsWithout sets whole left → AllByRecursion (λ p. IsMinimal (IsDiagnosis m) p × (size p ≤ level)) sets
      → IsListing (λ p. IsAmong p (map (λ (r : Row). r.marks) left.rows ++ sets)) PairBefore pairs → IsListing (λ p. IsMinimal (IsDiagnosis m) p × (size p ≤ level)) PairBefore pairs
  repairs_listed whole left pairs eliminates without known listed = known_listed (IsDiagnosis m) level sets whole left pairs known without (repairs_told whole eliminates) listed
