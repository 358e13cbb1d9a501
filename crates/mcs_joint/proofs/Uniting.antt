-- Uniting one row of each table, table after table.
use Rattle.std.proofs.Common.{◌≡◌, ◌<◌, ◌≤◌, ◌+◌, ℕ, true, List, [], ◌∷◌, length, get_or, drop, refl, sym, ap, ◌∙◌, subst, inl, inr, ◌↔◌, arith}
use Rattle.std.proofs.lemmas.List.{drop_more, drop_all}
use Rattle.std.specs.List.{AllByRecursion}
use Rattle.mcs_sets.specs.Sets.{has, union}
use Rattle.mcs_sets.proofs.Lattice.{in_union}
use Rattle.mcs_base.specs.Listings.{IsAmong}
use Rattle.mcs_base.specs.Partials.{IsPartial}
use Rattle.mcs_base.proofs.Each.{all_from_among, all_among}
use Rattle.mcs_base.proofs.PartialLemmas.{united-partial}
use Rattle.mcs_table.specs.declared.row.Row.{Row}
use Rattle.mcs_table.specs.Tables.{TableData, IsTable, IsRowOn, IsUnion, ShareNoMark, unit_row}
use Rattle.mcs_table.specs.Joins.{IsJointRow}
use Rattle.mcs_table.proofs.JoinLemmas.{row_of}
use Rattle.mcs_table.proofs.JointLemmas.{IsUnionOf, UnionsFrom, is_unit, joint_is, unit_apart}
use Rattle.mcs_joint.specs.Apart.{EachApart}
use Rattle.mcs_joint.proofs.Eliminating.{later_apart}

-- ---- unions depend only on what there is
union_alike : (S T : Row → Type 0) → ((q : Row) → S q ↔ T q) → (ys : List Row) (level : ℕ) (r : Row) → IsUnionOf S ys level r ↔ IsUnionOf T ys level r
union_alike S T same ys level r = (
  λ u. record { first = u.first; second = u.second; holds = (same u.first).0 u.holds; in_second = u.in_second; fit = u.fit; is = u.is; few = u.few },
  λ u. record { first = u.first; second = u.second; holds = (same u.first).1 u.holds; in_second = u.in_second; fit = u.fit; is = u.is; few = u.few },
)

unions_alike : (level : ℕ) (tables : List TableData) (S T : Row → Type 0) → ((q : Row) → S q ↔ T q) → (r : Row) → UnionsFrom level S tables r ↔ UnionsFrom level T tables r
unions_alike level [] S T same r = same r
unions_alike level (a ∷ rest) S T same r = unions_alike level rest (IsUnionOf S a.rows level) (IsUnionOf T a.rows level) (union_alike S T same a.rows level) r

union_among : (xs ys : List Row) (level : ℕ) (r : Row) → IsUnion xs ys level r ↔ IsUnionOf (λ q. IsAmong q xs) ys level r
union_among xs ys level r = (
  λ u. record { first = u.first; second = u.second; holds = u.in_first; in_second = u.in_second; fit = u.fit; is = u.is; few = u.few },
  λ u. record { first = u.first; second = u.second; in_first = u.holds; in_second = u.in_second; fit = u.fit; is = u.is; few = u.few },
)

-- the unions of one row of each of the first k tables, which are on the variables seen
pub record IsUnited (level : ℕ) (tables : List TableData) (k seen : ℕ) (all : List Row) : Type 0 where
  pub reaches : (r : Row) → UnionsFrom level (λ q. IsAmong q all) (drop k tables) r ↔ UnionsFrom level is_unit tables r
  pub on_scope : AllByRecursion (IsRowOn seen) all
  pub apart : AllByRecursion (λ (c : TableData). ShareNoMark all c.rows) (drop k tables)

pub united_begin : (level : ℕ) (tables : List TableData) → IsUnited level tables 0 0 (unit_row ∷ [])
united_begin level tables = record {
  reaches = λ r. unions_alike level tables (λ q. IsAmong q (unit_row ∷ [])) is_unit (λ q. (λ h. elim h [ inl e ↦ e | inr none ↦ absurd none ], λ e. inl e)) r;
  on_scope = (record { mask = refl; partial = record { of_mask = λ k h. h; small = omega arith } }, tt);
  apart = all_from_among (λ (c : TableData). ShareNoMark (unit_row ∷ []) c.rows) tables (λ c among. unit_apart c);
}

module _ (level : ℕ) (tables : List TableData) (k seen : ℕ) (all : List Row) (a : TableData) (less : k < length tables) (here : a ≡ get_or tables k a) (so_far : IsUnited level tables k seen all) where
  split : drop k tables ≡ a ∷ drop (k + 1) tables
  split = drop_more tables k a less ∙ ap (λ (t : TableData). t ∷ drop (k + 1) tables) (sym here)

  parts : ShareNoMark all a.rows × AllByRecursion (λ (c : TableData). ShareNoMark all c.rows) (drop (k + 1) tables)
  parts = subst (AllByRecursion (λ (c : TableData). ShareNoMark all c.rows)) split so_far.apart

  pub united_apart : ShareNoMark all a.rows
  united_apart = parts.0

  module _ (is_a : IsTable a) (apart : EachApart tables) (next : List Row) (unions : (r : Row) → IsAmong r next ↔ IsUnion all a.rows level r) where
    next_is : (q : Row) → IsAmong q next ↔ IsUnionOf (λ p. IsAmong p all) a.rows level q
    next_is q = let same = union_among all a.rows level q in (λ h. same.0 ((unions q).0 h), λ u. (unions q).1 (same.1 u))

    next_reaches : (r : Row) → UnionsFrom level (λ q. IsAmong q next) (drop (k + 1) tables) r ↔ UnionsFrom level is_unit tables r
    next_reaches r =
        let step = unions_alike level (drop (k + 1) tables) (λ q. IsAmong q next) (IsUnionOf (λ p. IsAmong p all) a.rows level) next_is r in (
          λ h. (so_far.reaches r).0 (subst (λ ts. UnionsFrom level (λ q. IsAmong q all) ts r) (sym split) (step.0 h)),
          λ h. step.1 (subst (λ ts. UnionsFrom level (λ q. IsAmong q all) ts r) split ((so_far.reaches r).1 h)),
        )

    next_on : (r : Row) → IsAmong r next → IsRowOn (union seen a.scope) r
    next_on r among =
        let u = (unions r).0 among in
        let x = all_among (IsRowOn seen) all u.first so_far.on_scope u.in_first in
        let y = row_of a is_a u.second u.in_second in
        record {
          mask = ap (λ (w : Row). w.state.mask) u.is ∙ (ap (λ m. union m u.second.state.mask) x.mask ∙ ap (union seen) y.mask);
          partial = subst (λ (w : Row). IsPartial w.state) (sym u.is) (united-partial u.first.state u.second.state x.partial y.partial);
        }

    next_apart : (c : TableData) → IsAmong c (drop (k + 1) tables) → ShareNoMark next c.rows
    next_apart c later x y in_x in_y meets =
        let u = (unions x).0 in_x in
        let is_in : has (union u.first.marks u.second.marks) meets.member ≡ true = subst (λ (w : Row). has w.marks meets.member ≡ true) u.is meets.in_first in
        elim (in_union u.first.marks u.second.marks meets.member is_in) [
          | inl h ↦ all_among (λ (t : TableData). ShareNoMark all t.rows) (drop (k + 1) tables) c parts.1 later u.first y u.in_first in_y (record { member = meets.member; in_first = h; in_second = meets.in_second })
          | inr h ↦ later_apart tables k a less here apart c later u.second y u.in_second in_y (record { member = meets.member; in_first = h; in_second = meets.in_second })
        ]

    pub united_more : IsUnited level tables (k + 1) (union seen a.scope) next
    united_more = record {
      reaches = next_reaches;
      on_scope = all_from_among (IsRowOn (union seen a.scope)) next next_on;
      apart = all_from_among (λ (c : TableData). ShareNoMark next c.rows) (drop (k + 1) tables) next_apart;
    }

pub united_end : (level : ℕ) (tables : List TableData) (k seen : ℕ) (all : List Row) → length tables ≤ k → IsUnited level tables k seen all → AllByRecursion IsTable tables → (r : Row) → IsAmong r all ↔ IsJointRow level tables r
united_end level tables k seen all past so_far are r =
    let none = drop_all k tables past in
    let joint = joint_is level tables are r in (
      λ h. joint.0 ((so_far.reaches r).0 (subst (λ ts. UnionsFrom level (λ q. IsAmong q all) ts r) (sym none) h)),
      λ j. subst (λ ts. UnionsFrom level (λ q. IsAmong q all) ts r) none ((so_far.reaches r).1 (joint.1 j)),
    )
