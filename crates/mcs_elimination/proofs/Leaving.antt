-- What is left of tables that are joined one after the other, where what no later table has is forgotten after each join, and then only some rows are kept, with the cheapest.
use Rattle.std.proofs.Common.{◌≡◌, ℕ, ◌+◌, ◌<◌, ◌≤◌, List, [], ◌∷◌, ◌++◌, map, length, get_or, take, drop, Option, refl, sym, ap, ◌∙◌, subst, inl, inr, ◌↔◌, true≢false}
use Rattle.std.proofs.lemmas.List.{take_more, take_all, drop_more, drop_all}
use Rattle.std.specs.List.{AllByRecursion}
use Rattle.mcs_sets.specs.Sets.{union, Within, Meets}
use Rattle.mcs_sets.proofs.Lattice.{meets_either, none_within, union-none}
use Rattle.mcs_sets.proofs.SetLemmas.{has-empty}
use Rattle.mcs_base.specs.Listings.{IsAmong}
use Rattle.mcs_base.specs.Partials.{PartialState, restricted}
use Rattle.mcs_base.proofs.Among.{among_map}
use Rattle.mcs_base.proofs.Each.{all_from_among}
use Rattle.mcs_base.proofs.Numbered.{common-none}
use Rattle.mcs_table.specs.declared.row.Row.{Row}
use Rattle.mcs_table.specs.Tables.{TableData, IsTable, ShareNoMark, IsJoin, IsForgetting, unit_row, unit_table, restricted_row}
use Rattle.mcs_table.specs.Joins.{IsJointRow}
use Rattle.mcs_table.specs.Elimination.{still_kept, IsRestrictionOf}
use Rattle.mcs_table.proofs.CommuteLemmas.{restricted_twice, union_restricted}
use Rattle.mcs_table.proofs.EliminationLemmas.{later_kept, restricts_alike, scope_kept, unit_restricted}
use Rattle.mcs_table.proofs.JointLemmas.{IsUnionOf, UnionsFrom, is_unit, joint_is, unions_more}
use Rattle.mcs_elimination.specs.CheapestRows.{HaveOneState, IsBelow, IsCheapestRow, HasCheapest, HasCheapestMarks}
use Rattle.mcs_elimination.proofs.Exchanging.{IsPrice, cheapest_of_fewer, known_all, next_inside, next_kept, rest_inside}

-- what the unions of a row of each of the first tables say of the variables of the later ones
abbrev pub Whole : ℕ → List TableData → ℕ → Row → Type 0
Whole level tables k = IsRestrictionOf (UnionsFrom level is_unit (take k tables)) (still_kept 0 (drop k tables))

-- what is left of the first k of the tables has all the cheapest of these
pub record IsLeftCheapest (price : ℕ → ℕ) (all : ℕ) (below : Option ℕ) (level : ℕ) (tables : List TableData) (k : ℕ) (left : TableData) : Type 0 where
  pub known : (r : Row) → Whole level tables k r → Within r.marks all
  pub apart : (x : Row) → Whole level tables k x → (c : TableData) → IsAmong c (drop k tables) → (y : Row) → IsAmong y c.rows → ¬ Meets x.marks y.marks
  pub inside : (r : Row) → IsAmong r left.rows → Whole level tables k r
  pub cheap : (r : Row) → IsAmong r left.rows → IsBelow below (price r.marks)
  pub kept : (r : Row) → IsCheapestRow price below (Whole level tables k) r → IsAmong r left.rows
  pub alike : HaveOneState (Whole level tables k) → (x y : Row) → IsAmong x left.rows → IsAmong y left.rows → price x.marks ≡ price y.marks

-- ---- beginning with the table of no variables
module _ (price : ℕ → ℕ) (all : ℕ) (below : Option ℕ) (level : ℕ) (tables : List TableData) (left : TableData) (cheapest : HasCheapest price below unit_table left) where
  whole_unit : (r : Row) → Whole level tables 0 r → r ≡ unit_row
  whole_unit r h = h.is ∙ (ap (λ (w : Row). restricted_row w (still_kept 0 tables)) h.holds ∙ sym (unit_restricted (still_kept 0 tables)))

  unit_whole : (r : Row) → IsAmong r unit_table.rows → Whole level tables 0 r
  unit_whole r (inl e) = record { row = unit_row; holds = refl; is = e ∙ unit_restricted (still_kept 0 tables) }
  unit_whole r (inr none) = absurd none

  no_marks : (r : Row) → Whole level tables 0 r → 0 ≡ r.marks
  no_marks r h = sym (ap (λ (w : Row). w.marks) (whole_unit r h))

  pub left_begin : IsLeftCheapest price all below level tables 0 left
  left_begin = record {
    known = λ r h. subst (λ (n : ℕ). Within n all) (no_marks r h) (none_within all);
    apart = λ x h c later y among. subst (λ (n : ℕ). ¬ Meets n y.marks) (no_marks x h) (λ meets. true≢false (sym meets.in_first ∙ has-empty meets.member));
    inside = λ r among. unit_whole r (cheapest.rows r among);
    cheap = cheapest.cheap;
    kept = λ r l. cheapest.cheapest r (cheapest_of_fewer price below (λ s. IsAmong s unit_table.rows) (Whole level tables 0) unit_whole r (inl (whole_unit r l.one)) l);
    alike = λ _. cheapest.alike (λ x y in_x in_y. ap (λ (w : Row). w.state) (whole_unit x (unit_whole x in_x) ∙ sym (whole_unit y (unit_whole y in_y))));
  }

-- ---- one table more
module _ (price : ℕ → ℕ) (all : ℕ) (below : Option ℕ) (level : ℕ) (prices : IsPrice price all level) (tables : List TableData) (k : ℕ) (left a : TableData) (less : k < length tables) (here : a ≡ get_or tables k a) (is_a : IsTable a)
    (so_far : IsLeftCheapest price all below level tables k left) where
  abbrev keep : ℕ
  keep = still_kept 0 (drop (k + 1) tables)

  split : drop k tables ≡ a ∷ drop (k + 1) tables
  split = drop_more tables k a less ∙ ap (λ (t : TableData). t ∷ drop (k + 1) tables) (sym here)

  first : take (k + 1) tables ≡ take k tables ++ a ∷ []
  first = take_more tables k a less ∙ ap (λ (t : TableData). take k tables ++ t ∷ []) (sym here)

  now : IsAmong a (drop k tables)
  now = subst (IsAmong a) (sym split) (inl refl)

  later : (c : TableData) → IsAmong c (drop (k + 1) tables) → IsAmong c (drop k tables)
  later c among = subst (IsAmong c) (sym split) (inr among)

  pub whole_apart : (x y : Row) → Whole level tables k x → IsAmong y a.rows → ¬ Meets x.marks y.marks
  whole_apart x y h among = so_far.apart x h a now y among

  pub left_apart : ShareNoMark left.rows a.rows
  left_apart x y in_x in_y = whole_apart x y (so_far.inside x in_x) in_y

  pub left_known : AllByRecursion (λ (r : Row). Within r.marks all) left.rows
  left_known = all_from_among (λ (r : Row). Within r.marks all) left.rows (λ r among. so_far.known r (so_far.inside r among))

  abbrev Next : Row → Type 0
  Next = IsRestrictionOf (IsUnionOf (Whole level tables k) a.rows level) keep

  whole_more : (r : Row) → Next r ↔ Whole level tables (k + 1) r
  whole_more r =
      let T = UnionsFrom level is_unit (take k tables) in
      let before = still_kept 0 (a ∷ drop (k + 1) tables) in
      let U = IsUnionOf T a.rows level in
      let of_union = restricts_alike (IsUnionOf (IsRestrictionOf T before) a.rows level) (IsRestrictionOf U before) keep (union_restricted T a is_a before level (scope_kept 0 a (drop (k + 1) tables))) r in
      let once = restricted_twice U before keep r in
      let one_more = restricts_alike (UnionsFrom level is_unit (take k tables ++ a ∷ [])) U keep (unions_more level (take k tables) a is_unit) r in
      let to : Next r → IsRestrictionOf (IsUnionOf (IsRestrictionOf T before) a.rows level) keep r = λ h. subst (λ ts. IsRestrictionOf (IsUnionOf (IsRestrictionOf T (still_kept 0 ts)) a.rows level) keep r) split h in
      let from : IsRestrictionOf (IsUnionOf (IsRestrictionOf T before) a.rows level) keep r → Next r = λ h. subst (λ ts. IsRestrictionOf (IsUnionOf (IsRestrictionOf T (still_kept 0 ts)) a.rows level) keep r) (sym split) h in (
        λ h. subst (λ ts. IsRestrictionOf (UnionsFrom level is_unit ts) keep r) (sym first) (one_more.1 (subst (λ n. IsRestrictionOf U n r) (later_kept 0 a (drop (k + 1) tables)) (once.0 (of_union.0 (to h))))),
        λ h. from (of_union.1 (once.1 (subst (λ n. IsRestrictionOf U n r) (sym (later_kept 0 a (drop (k + 1) tables))) (one_more.0 (subst (λ ts. IsRestrictionOf (UnionsFrom level is_unit ts) keep r) first h))))),
      )

  module _ (known_next : (r : Row) → IsAmong r a.rows → Within r.marks all) (later_apart : (c : TableData) → IsAmong c (drop (k + 1) tables) → ShareNoMark a.rows c.rows)
      (joined rest next : TableData) (join : IsJoin left a level joined) (forget : IsForgetting joined keep rest) (cheapest : HasCheapest price below rest next) where
    pub left_more : IsLeftCheapest price all below level tables (k + 1) next
    left_more = record {
      known = λ r h. known_all price all level prices below keep (Whole level tables k) left a so_far.known known_next whole_apart so_far.inside so_far.kept r ((whole_more r).1 h);
      apart = λ x h c among y there.
          let u = (whole_more x).1 h in
          let v = u.holds in
          let marks : x.marks ≡ union v.first.marks v.second.marks = ap (λ (w : Row). w.marks) u.is ∙ ap (λ (w : Row). w.marks) v.is in
          subst (λ (n : ℕ). ¬ Meets n y.marks) (sym marks)
          (meets_either v.first.marks v.second.marks y.marks (so_far.apart v.first v.holds c (later c among) y there) (later_apart c among v.second y v.in_second there));
      inside = λ r among. (whole_more r).0 (next_inside price all level prices below keep (Whole level tables k) left a so_far.known known_next whole_apart so_far.inside so_far.kept joined rest next join forget cheapest r among);
      cheap = cheapest.cheap;
      kept = λ r l. next_kept price all level prices below keep (Whole level tables k) left a so_far.known known_next whole_apart so_far.inside so_far.kept joined rest next join forget cheapest r
          (cheapest_of_fewer price below Next (Whole level tables (k + 1)) (λ s h. (whole_more s).0 h) r ((whole_more r).1 l.one) l);
      alike = λ one. cheapest.alike (λ x y in_x in_y. one x y (of_rest x in_x) (of_rest y in_y));
    }
      where
        of_rest : (r : Row) → IsAmong r rest.rows → Whole level tables (k + 1) r
        of_rest r among = (whole_more r).0 (rest_inside price all level prices below keep (Whole level tables k) left a so_far.known known_next whole_apart so_far.inside so_far.kept joined rest next join forget cheapest r among)

-- ---- in the end
-- what is left speaks of no variable, so all of it costs as much
module _ (price : ℕ → ℕ) (all : ℕ) (below : Option ℕ) (level : ℕ) (tables : List TableData) (are : AllByRecursion IsTable tables) (k : ℕ) (left : TableData) (past : length tables ≤ k) (so_far : IsLeftCheapest price all below level tables k left) where
  joint_of : (r : Row) (h : Whole level tables k r) → IsJointRow level tables h.row
  joint_of r h = (joint_is level tables are h.row).0 (subst (λ ts. UnionsFrom level is_unit ts h.row) (take_all k tables past) h.holds)

  whole_of : (r : Row) → IsJointRow level tables r → Whole level tables k (restricted_row r (still_kept 0 (drop k tables)))
  whole_of r joint = record { row = r; holds = subst (λ ts. UnionsFrom level is_unit ts r) (sym (take_all k tables past)) ((joint_is level tables are r).1 joint); is = refl }

  nothing_kept : still_kept 0 (drop k tables) ≡ 0
  nothing_kept = ap (still_kept 0) (drop_all k tables past) ∙ union-none 0

  no_state : (r : Row) → Whole level tables k r → r.state ≡ unit_row.state
  no_state r h = ap (λ (w : Row). w.state) h.is ∙ (ap (restricted h.row.state) nothing_kept ∙ emptied h.row.state)
    where
      emptied : (s : PartialState) → restricted s 0 ≡ unit_row.state
      emptied s = rw (common-none s.mask, common-none s.values) refl

  pub left_end : HasCheapestMarks price below level tables left
  left_end = record {
    joint = λ r among. let h = so_far.inside r among in (h.row, joint_of r h, ap (λ (w : Row). w.marks) h.is);
    cheap = so_far.cheap;
    alike = so_far.alike (λ x y is_x is_y. no_state x is_x ∙ sym (no_state y is_y));
    cheapest = λ s (r, joint, e) is least.
        let here = restricted_row r (still_kept 0 (drop k tables)) in
        let kept : IsAmong here left.rows = so_far.kept here (record {
          one = whole_of r joint;
          cheap = subst (λ n. IsBelow below (price n)) e is;
          least = λ t h state.
              let others = least h.row.marks (h.row, joint_of t h, refl) in
              subst (λ n. price r.marks ≤ price n) (sym (ap (λ (w : Row). w.marks) h.is)) (subst (λ n. price n ≤ price h.row.marks) e others);
        }) in
        subst (λ n. IsAmong n (map (λ (w : Row). w.marks) left.rows)) (sym e) (among_map (λ (w : Row). w.marks) here left.rows kept);
  }
