-- Tables joined one after the other, where what no later table has is forgotten after each join.
use Rattle.std.proofs.Common.{◌≡◌, ℕ, List, [], ◌∷◌, map, refl, sym, ap, ◌∙◌, subst, inl, inr, ◌↔◌, arith}
use Rattle.std.specs.List.{AllByRecursion}
use Rattle.std.proofs.lemmas.List.Sorted.{IsPermutation-sym}
use Rattle.mcs_sets.specs.Sets.{union, common, Within, Meets}
use Rattle.mcs_sets.specs.Orders.{StateBefore, PairBefore}
use Rattle.mcs_sets.proofs.Lattice.{union-none, none-union, union_assoc, common-union_within}
use Rattle.mcs_sets.proofs.SetLemmas.{same_set, sets, not_before_itself}
use Rattle.mcs_base.specs.Listings.{IsAmong}
use Rattle.mcs_base.specs.Partials.{PartialState, IsPartial, restricted}
use Rattle.mcs_base.proofs.PartialLemmas.{restricted-partial}
use Rattle.mcs_base.proofs.ListingLemmas.{same_listing, IsListing-same}
use Rattle.mcs_base.proofs.Numbered.{common_assoc, common-none, none-common}
use Rattle.mcs_base.proofs.Among.{among_map, map_among, among_permutation}
use Rattle.mcs_base.proofs.Ascending.{ascending_as, ascending_map}
use Rattle.mcs_base.proofs.Each.{all_among, all_from_among}
use Rattle.mcs_table.specs.declared.row.Row.{Row}
use Rattle.mcs_table.specs.RowOrder.{RowBefore, same_row}
use Rattle.mcs_table.specs.Tables.{TableData, IsTable, IsRowOn, ShareNoMark, IsRestriction, IsMinimalRow, unit_row, unit_table, restricted_row}
use Rattle.mcs_table.specs.Joins.{union_of, IsJointRow, ForgettingExists, ForgettingStaysApart}
use Rattle.mcs_table.specs.Elimination.{still_kept, EliminatesFrom, IsRestrictionOf, EliminationExists, EliminationIsMinimal, EliminationIgnoresOrder, EliminationGivesMinimalMarks, EliminationStaysApart}
use Rattle.mcs_table.proofs.OrderLemmas.{RowBefore-asymmetric}
use Rattle.mcs_table.proofs.TableLemmas.{unit-kept}
use Rattle.mcs_table.proofs.JoinLemmas.{row_of, minimal_as}
use Rattle.mcs_table.proofs.ForgetLemmas.{restrictions}
use Rattle.mcs_table.proofs.JointLemmas.{IsUnionOf, UnionsFrom, Presents, join_presents, presents_alike, is_unit, unit_presents, joint_is, join_apart, unit_apart}
use Rattle.mcs_table.proofs.OrderFreeLemmas.{union_of-same, joint_moved, table_is}
use Rattle.mcs_table.proofs.CommuteLemmas.{forget_presents, union_restricted, restricted_twice}
use Rattle.mcs_table.proofs.ExistLemmas.{minimal_listed, listed_in_order, join_exists}

-- ---- there is a table without what is forgotten
pub forgetting_exists : ForgettingExists
forgetting_exists a keep is =
    let (rows, l) = listed_in_order (common a.scope keep) (IsMinimalRow (IsRestriction a.rows keep)) (λ r m. (on_kept r m.one).mask) (minimal_listed (IsRestriction a.rows keep) (map (λ (x : Row). restricted_row x keep) a.rows, restrictions a.rows keep)) in (
      record { scope = common a.scope keep; rows = rows },
      record { on_scope = all_from_among (IsRowOn (common a.scope keep)) rows (λ r among. on_kept r ((l.exactly r).0 among).one); ascending = l.ascending },
      record { scope = refl; rows = l },
    )
  where
    on_kept : (r : Row) → IsRestriction a.rows keep r → IsRowOn (common a.scope keep) r
    on_kept r u =
        let x = row_of a is u.row u.among in
        record {
          mask = ap (λ (w : Row). w.state.mask) u.is ∙ ap (λ m. common m keep) x.mask;
          partial = subst (λ (w : Row). IsPartial w.state) (sym u.is) (restricted-partial u.row.state keep x.partial);
        }

eliminates_from : (level keep : ℕ) (tables : List TableData) (from : TableData) → IsTable from → AllByRecursion IsTable tables → (t : TableData) × IsTable t × EliminatesFrom level keep from tables t
eliminates_from level keep [] from is all = (from, is, refl)
eliminates_from level keep (a ∷ rest) from is all =
    let (joined, is_joined, j) = join_exists from a level is all.0 in
    let (next, is_next, forget) = forgetting_exists joined (still_kept keep rest) is_joined in
    let (t, is_t, later) = eliminates_from level keep rest next is_next all.1 in
    (t, is_t, (joined, next, j, forget, later))

pub elimination_exists : EliminationExists
elimination_exists level keep tables all = eliminates_from level keep tables unit_table unit-kept all

-- ---- no mark in common
pub forgetting_apart : ForgettingStaysApart
forgetting_apart a f c keep forget apart x y in_x in_y meets =
    let u = ((forget.rows.exactly x).0 in_x).one in
    apart u.row y u.among in_y (subst (λ (w : Row). Meets w.marks y.marks) u.is meets)

apart_eliminated : (level keep : ℕ) (tables : List TableData) (from t c : TableData) → ShareNoMark from.rows c.rows → EliminatesFrom level keep from tables t → AllByRecursion (λ (a : TableData). ShareNoMark a.rows c.rows) tables → ShareNoMark t.rows c.rows
apart_eliminated level keep [] from t c apart e all = subst (λ (a : TableData). ShareNoMark a.rows c.rows) (sym e) apart
apart_eliminated level keep (a ∷ rest) from t c apart (joined, next, j, forget, later) all =
    apart_eliminated level keep rest next t c (forgetting_apart joined next c (still_kept keep rest) forget (join_apart level from a joined c j apart all.0)) later all.1

pub elimination_apart : EliminationStaysApart
elimination_apart level keep tables t c eliminates all = apart_eliminated level keep tables unit_table t c (unit_apart c) eliminates all

-- ---- what is still kept
pub later_kept : (keep : ℕ) (a : TableData) (rest : List TableData) → common (still_kept keep (a ∷ rest)) (still_kept keep rest) ≡ still_kept keep rest
later_kept keep a rest = same_set _ _ (λ k. grind (arith, sets))

pub scope_kept : (keep : ℕ) (a : TableData) (rest : List TableData) → Within a.scope (still_kept keep (a ∷ rest))
scope_kept keep a rest k is = grind (arith, sets)

-- ---- table after table
eliminates_present : (level keep : ℕ) (tables : List TableData) → AllByRecursion IsTable tables → (S : Row → Type 0) (from t : TableData)
    → Presents (IsRestrictionOf S (still_kept keep tables)) from → EliminatesFrom level keep from tables t → Presents (IsRestrictionOf (UnionsFrom level S tables) keep) t
eliminates_present level keep [] all S from t p e =
    subst (λ (k : ℕ). Presents (IsRestrictionOf S k) t) (union-none keep) (subst (Presents (IsRestrictionOf S (union keep 0))) (sym e) p)
eliminates_present level keep (a ∷ rest) all S from t p (joined, next, j, forget, later) =
    let before = still_kept keep (a ∷ rest) in
    let after = still_kept keep rest in
    let T = IsUnionOf S a.rows level in
    let unions = join_presents (IsRestrictionOf S before) from a joined level p.covers j in
    let restricts = presents_alike (IsUnionOf (IsRestrictionOf S before) a.rows level) (IsRestrictionOf T before) joined (union_restricted S a all.0 before level (scope_kept keep a rest)) unions in
    let left = forget_presents (IsRestrictionOf T before) joined next after restricts.covers forget in
    let once = presents_alike (IsRestrictionOf (IsRestrictionOf T before) after) (IsRestrictionOf T (common before after)) next (restricted_twice T before after) left in
    eliminates_present level keep rest all.1 T next t (subst (λ (k : ℕ). Presents (IsRestrictionOf T k) next) (later_kept keep a rest) once) later

-- s: the variables of all tables that have been taken
eliminates_scope : (level keep : ℕ) (tables : List TableData) (from t : TableData) (s : ℕ) → from.scope ≡ common s (still_kept keep tables) → EliminatesFrom level keep from tables t → t.scope ≡ common (union s (union_of (λ (a : TableData). a.scope) tables)) keep
eliminates_scope level keep [] from t s is e = ap (λ (a : TableData). a.scope) e ∙ (is ∙ (ap (common s) (union-none keep) ∙ ap (λ u. common u keep) (sym (union-none s))))
eliminates_scope level keep (a ∷ rest) from t s is (joined, next, j, forget, later) =
    let before = still_kept keep (a ∷ rest) in
    let after = still_kept keep rest in
    let of_joined : joined.scope ≡ common (union s a.scope) before = j.scope ∙ (ap (λ u. union u a.scope) is ∙ sym (common-union_within s a.scope before (scope_kept keep a rest))) in
    let of_next : next.scope ≡ common (union s a.scope) after = forget.scope ∙ (ap (λ u. common u after) of_joined ∙ (common_assoc (union s a.scope) before after ∙ ap (common (union s a.scope)) (later_kept keep a rest))) in
    eliminates_scope level keep rest next t (union s a.scope) of_next later ∙ ap (λ u. common u keep) (union_assoc s a.scope (union_of (λ (b : TableData). b.scope) rest))

-- the row of no variables says nothing of any
pub unit_restricted : (keep : ℕ) → unit_row ≡ restricted_row unit_row keep
unit_restricted keep = same_row _ _ (sym (none-common keep)) (sym (none-common keep)) refl

unit_alike : (keep : ℕ) (r : Row) → is_unit r ↔ IsRestrictionOf is_unit keep r
unit_alike keep r = (
  λ e. record { row = unit_row; holds = refl; is = e ∙ unit_restricted keep },
  λ u. u.is ∙ (ap (λ (w : Row). restricted_row w keep) u.holds ∙ sym (unit_restricted keep)),
)

pub restricts_alike : (P Q : Row → Type 0) (keep : ℕ) → ((r : Row) → P r ↔ Q r) → (r : Row) → IsRestrictionOf P keep r ↔ IsRestrictionOf Q keep r
restricts_alike P Q keep same r = (λ u. record { row = u.row; holds = (same u.row).0 u.holds; is = u.is }, λ u. record { row = u.row; holds = (same u.row).1 u.holds; is = u.is })

pub elimination_is_minimal : EliminationIsMinimal
elimination_is_minimal level keep tables t all eliminates =
    let whole = still_kept keep tables in
    let p = eliminates_present level keep tables all is_unit unit_table t (presents_alike is_unit (IsRestrictionOf is_unit whole) unit_table (unit_alike whole) unit_presents) eliminates in
    record {
      scope = eliminates_scope level keep tables unit_table t 0 (sym (none-common whole)) eliminates ∙ ap (λ u. common u keep) (none-union (union_of (λ (a : TableData). a.scope) tables));
      rows = (presents_alike (IsRestrictionOf (UnionsFrom level is_unit tables) keep) (IsRestrictionOf (IsJointRow level tables) keep) t
          (restricts_alike (UnionsFrom level is_unit tables) (IsJointRow level tables) keep (joint_is level tables all)) p).rows;
    }

-- ---- in any order
pub elimination_ignores_order : EliminationIgnoresOrder
elimination_ignores_order level keep tables others t u all moved eliminates eliminates' =
    let members = among_permutation tables others moved in
    let back = IsPermutation-sym tables others moved in
    let all' : AllByRecursion IsTable others = all_from_among IsTable others (λ a among. all_among IsTable tables a all ((members a).0 among)) in
    let one = elimination_is_minimal level keep tables t all eliminates in
    let other = elimination_is_minimal level keep others u all' eliminates' in
    let same : (r : Row) → IsJointRow level others r ↔ IsJointRow level tables r = λ r. (joint_moved level r others tables back, joint_moved level r tables others moved) in
    table_is t u
    (one.scope ∙ (ap (λ s. common s keep) (union_of-same (λ (a : TableData). a.scope) tables others (λ a. ((members a).1, (members a).0))) ∙ sym other.scope))
    (same_listing RowBefore RowBefore-asymmetric (IsMinimalRow (IsRestrictionOf (IsJointRow level tables) keep)) t.rows u.rows one.rows
    (IsListing-same RowBefore _ _ u.rows (minimal_as (IsRestrictionOf (IsJointRow level others) keep) (IsRestrictionOf (IsJointRow level tables) keep) (restricts_alike (IsJointRow level others) (IsJointRow level tables) keep same)) other.rows))

-- ---- where nothing is kept
empty_restriction : (s t : PartialState) → restricted s 0 ≡ restricted t 0
empty_restriction s t = rw (common-none s.mask, common-none s.values, common-none t.mask, common-none t.values) refl

-- rows that say nothing come in the order of their marks
marks_before : (x y : Row) → x.state ≡ y.state → RowBefore x y → PairBefore x.marks y.marks
marks_before x y state (inl h) = absurd (not_before_itself y.state.values (subst (λ (s : PartialState). StateBefore s.values y.state.values) state h))
marks_before x y state (inr h) = h.1

pub elimination_gives_marks : EliminationGivesMinimalMarks
elimination_gives_marks level tables t all eliminates =
    let l = (elimination_is_minimal level 0 tables t all eliminates).rows in
    let marks = λ (r : Row). r.marks in
    let state_of : (x : Row) → IsAmong x t.rows → x.state ≡ restricted unit_row.state 0 = λ x among.
    let u = ((l.exactly x).0 among).one in
    ap (λ (w : Row). w.state) u.is ∙ empty_restriction u.row.state unit_row.state in
    record {
      exactly = λ s. (
        λ among. let (x, there, e) = map_among marks s t.rows among in
            let m = (l.exactly x).0 there in
            record {
              one = (m.one.row, m.one.holds, e ∙ ap marks m.one.is);
              least = λ q (r, joint, e') within.
                  e' ∙ m.least (restricted_row r 0) (record { row = r; holds = joint; is = refl }) (empty_restriction r.state unit_row.state ∙ sym (state_of x there))
                  (subst (λ (a : ℕ). Within a x.marks) e' (subst (Within q) e within)) ∙ sym e;
            },
        λ m. let (r, joint, e) = m.one in
            let x = restricted_row r 0 in
            let there : IsAmong x t.rows = (l.exactly x).1 (record {
              one = record { row = r; holds = joint; is = refl };
              least = λ y u state within. ap marks u.is ∙ (m.least u.row.marks (u.row, u.holds, refl) (subst (λ (a : ℕ). Within u.row.marks a) (sym e) (subst (λ (w : Row). Within w.marks r.marks) u.is within)) ∙ e);
            }) in
            subst (λ (a : ℕ). IsAmong a (map marks t.rows)) (sym e) (among_map marks x t.rows there),
      );
      ascending = ascending_map (λ (x y : Row). PairBefore x.marks y.marks) marks PairBefore (λ x y h. h) t.rows
          (ascending_as RowBefore (λ (x y : Row). PairBefore x.marks y.marks) t.rows (λ x y in_x in_y h. marks_before x y (state_of x in_x ∙ sym (state_of y in_y)) h) l.ascending);
    }
