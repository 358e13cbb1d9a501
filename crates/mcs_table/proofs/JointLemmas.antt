-- Several tables joined one after the other: the minimal unions of one row of each.
use Rattle.std.proofs.Common.{◌≡◌, ◌≤◌, ℕ, true, List, [], ◌∷◌, ◌++◌, refl, sym, ap, ◌∙◌, subst, inl, inr, ◌↔◌, arith, true≢false, IsTrue}
use Rattle.std.specs.List.{AllByRecursion, AllZip}
use Rattle.mcs_sets.specs.Sets.{has, union, size, Within}
use Rattle.mcs_sets.proofs.SetLemmas.{has-union, has-empty, members-empty}
use Rattle.mcs_sets.proofs.Lattice.{union_assoc, union-none, none-union, in_union, within_union_left, within_union_right, unions_within, size_within}
use Rattle.mcs_base.specs.Listings.{IsAmong, IsListing}
use Rattle.mcs_base.specs.Partials.{PartialState, IsPartial, Fits, united}
use Rattle.mcs_base.proofs.PartialLemmas.{united-partial}
use Rattle.mcs_base.proofs.ListingLemmas.{IsListing-same}
use Rattle.mcs_table.specs.declared.row.Row.{Row}
use Rattle.mcs_table.specs.RowOrder.{RowBefore, same_row}
use Rattle.mcs_table.specs.Tables.{Covers, TableData, IsTable, ShareNoMark, IsUnion, IsMinimalRow, IsJoin, unit_row, unit_table, united_row}
use Rattle.mcs_table.specs.Joins.{JoinsFrom, union_of, united_rows, FitTogether, IsJointRow, JoinsStayApart, JoinsAreMinimalUnions}
use Rattle.mcs_table.proofs.JoinLemmas.{row_of, minimal_as}
use Rattle.mcs_table.proofs.CoverLemmas.{Covers-trans, covers_same, minimal_covers, unions_listed}

-- ---- unions of rows
pub united-assoc : (x y z : Row) → united_row (united_row x y) z ≡ united_row x (united_row y z)
united-assoc x y z = same_row _ _ (union_assoc x.state.mask y.state.mask z.state.mask) (union_assoc x.state.values y.state.values z.state.values) (union_assoc x.marks y.marks z.marks)

pub united-unit : (x : Row) → united_row x unit_row ≡ x
united-unit x = same_row _ _ (union-none x.state.mask) (union-none x.state.values) (union-none x.marks)

pub unit-united : (x : Row) → united_row unit_row x ≡ x
unit-united x = same_row _ _ (none-union x.state.mask) (none-union x.state.values) (none-union x.marks)

pub fits-sym : (s t : PartialState) → Fits s t → Fits t s
fits-sym s t fit v in_t in_s = sym (fit v in_s in_t)

-- who fits a union fits each of its parts
fits_first : (s t u : PartialState) → IsPartial t → Fits s t → Fits (united s t) u → Fits s u
fits_first s t u partial fit both v in_s in_u = let same = fit v in let joint = both v in let inside = partial.of_mask v in grind (arith, has-union)

fits_second : (s t u : PartialState) → IsPartial s → Fits s t → Fits (united s t) u → Fits t u
fits_second s t u partial fit both v in_t in_u = let same = fit v in let joint = both v in let inside = partial.of_mask v in grind (arith, has-union)

-- who fits both parts fits their union
fits_union : (s t u : PartialState) → IsPartial s → IsPartial t → Fits s t → Fits s u → Fits t u → Fits (united s t) u
fits_union s t u partial_s partial_t fit first second v in_both in_u =
    let same = fit v in let one = first v in let other = second v in let inside_s = partial_s.of_mask v in let inside_t = partial_t.of_mask v in
    grind (arith, has-union)

-- ---- one more table
-- the union of a row for which S holds and one of the list
pub record IsUnionOf (S : Row → Type 0) (ys : List Row) (level : ℕ) (r : Row) : Type 0 where
  pub first : Row
  pub second : Row
  pub holds : S first
  pub in_second : IsAmong second ys
  pub fit : Fits first.state second.state
  pub is : r ≡ united_row first second
  pub few : size r.marks ≤ level

union_covers : (S : Row → Type 0) (xs ys : List Row) (level : ℕ) → Covers (λ r. IsAmong r xs) S → Covers (IsUnion xs ys level) (IsUnionOf S ys level)
union_covers S xs ys level c = record {
  from = λ r u. record { first = u.first; second = u.second; holds = c.from u.first u.in_first; in_second = u.in_second; fit = u.fit; is = u.is; few = u.few };
  below = λ r u.
      let (m, among, state, within) = c.below u.first u.holds in
      let inside : Within (union m.marks u.second.marks) r.marks = λ k h. subst (λ (w : Row). IsTrue (has w.marks k)) (sym u.is) (unions_within m.marks u.second.marks u.first.marks u.second.marks within (λ j h. h) k h) in (
        united_row m u.second,
        record { first = m; second = u.second; in_first = among; in_second = u.in_second; fit = subst (λ (s : PartialState). Fits s u.second.state) (sym state) u.fit; is = refl; few = (let le = size_within (union m.marks u.second.marks) r.marks inside in omega arith) },
        ap (λ (s : PartialState). united s u.second.state) state ∙ sym (ap (λ (w : Row). w.state) u.is),
        inside,
      );
}

-- the table has the minimal rows of S, and one within each
pub record Presents (S : Row → Type 0) (t : TableData) : Type 0 where
  pub rows : IsListing (IsMinimalRow S) RowBefore t.rows
  pub covers : Covers (λ r. IsAmong r t.rows) S

pub covers_listing : (P : Row → Type 0) (xs : List Row) → Covers (IsMinimalRow P) P → IsListing (IsMinimalRow P) RowBefore xs → Covers (λ r. IsAmong r xs) P
covers_listing P xs c l = record {
  from = λ r among. c.from r ((l.exactly r).0 among);
  below = λ r p. let (m, minimal, state, within) = c.below r p in (m, (l.exactly m).1 minimal, state, within);
}

pub join_presents : (S : Row → Type 0) (from a next : TableData) (level : ℕ) → Covers (λ r. IsAmong r from.rows) S → IsJoin from a level next → Presents (IsUnionOf S a.rows level) next
join_presents S from a next level covers j =
    let unions = union_covers S from.rows a.rows level covers in
    record {
      rows = IsListing-same RowBefore _ _ next.rows (covers_same (IsUnion from.rows a.rows level) (IsUnionOf S a.rows level) unions) j.rows;
      covers = Covers-trans (λ r. IsAmong r next.rows) (IsUnion from.rows a.rows level) (IsUnionOf S a.rows level)
          (covers_listing (IsUnion from.rows a.rows level) next.rows (minimal_covers (IsUnion from.rows a.rows level) (unions_listed from.rows a.rows level)) j.rows) unions;
    }

pub covers_alike : (P Q : Row → Type 0) → ((r : Row) → P r ↔ Q r) → Covers P Q
covers_alike P Q same = record { from = λ r p. (same r).0 p; below = λ r q. (r, (same r).1 q, refl, λ k h. h) }

pub presents_alike : (S T : Row → Type 0) (t : TableData) → ((r : Row) → S r ↔ T r) → Presents S t → Presents T t
presents_alike S T t same p = record {
  rows = IsListing-same RowBefore _ _ t.rows (minimal_as S T same) p.rows;
  covers = Covers-trans (λ r. IsAmong r t.rows) S T p.covers (covers_alike S T same);
}

-- ---- table after table
abbrev pub UnionsFrom : ℕ → (Row → Type 0) → List TableData → Row → Type 0
UnionsFrom level S [] = S
UnionsFrom level S (a ∷ rest) = UnionsFrom level (IsUnionOf S a.rows level) rest

-- the unions with one table more
pub unions_more : (level : ℕ) (tables : List TableData) (a : TableData) (S : Row → Type 0) (r : Row) → UnionsFrom level S (tables ++ a ∷ []) r ↔ IsUnionOf (UnionsFrom level S tables) a.rows level r
unions_more level [] a S r = (λ h. h, λ h. h)
unions_more level (t ∷ tables) a S r = unions_more level tables a (IsUnionOf S t.rows level) r

joins_present : (level : ℕ) (tables : List TableData) (S : Row → Type 0) (from t : TableData) → Presents S from → JoinsFrom level from tables t → Presents (UnionsFrom level S tables) t
joins_present level [] S from t p e = subst (Presents S) (sym e) p
joins_present level (a ∷ rest) S from t p (next, j, later) = joins_present level rest (IsUnionOf S a.rows level) next t (join_presents S from a next level p.covers j) later

joins_scope : (level : ℕ) (tables : List TableData) (from t : TableData) → JoinsFrom level from tables t → t.scope ≡ union from.scope (union_of (λ (a : TableData). a.scope) tables)
joins_scope level [] from t e = ap (λ (a : TableData). a.scope) e ∙ sym (union-none from.scope)
joins_scope level (a ∷ rest) from t (next, j, later) =
    joins_scope level rest next t later ∙ (ap (λ s. union s (union_of (λ (b : TableData). b.scope) rest)) j.scope ∙ union_assoc from.scope a.scope (union_of (λ (b : TableData). b.scope) rest))

-- a row for which S holds, and the joint row of others, the parts of which fit it too
pub record IsFrom (S : Row → Type 0) (level : ℕ) (tables : List TableData) (r : Row) : Type 0 where
  pub first : Row
  pub holds : S first
  pub others : Row
  pub joint : IsJointRow level tables others
  pub fit : FitTogether (first ∷ joint.parts)
  pub is : r ≡ united_row first others
  pub few : size r.marks ≤ level

fit_alone : (x : Row) → FitTogether (x ∷ [])
fit_alone x y z (inl e) (inl e') = subst (λ (w : Row). Fits y.state w.state) (e ∙ sym e') (λ v h k. refl)
fit_alone x y z (inl e) (inr h) = absurd h
fit_alone x y z (inr h) k = absurd h

-- the parts of a part
fit_split : (x y : Row) (parts : List Row) → IsPartial x.state → IsPartial y.state → Fits x.state y.state → FitTogether (united_row x y ∷ parts) → FitTogether (x ∷ (y ∷ parts))
fit_split x y parts partial_x partial_y fit all p q in_p in_q = at p q in_p in_q
  where
    with_first : (q : Row) → IsAmong q parts → Fits x.state q.state
    with_first q h = fits_first x.state y.state q.state partial_y fit (all (united_row x y) q (inl refl) (inr h))

    with_second : (q : Row) → IsAmong q parts → Fits y.state q.state
    with_second q h = fits_second x.state y.state q.state partial_x fit (all (united_row x y) q (inl refl) (inr h))

    first_with : (p : Row) → IsAmong p (x ∷ (y ∷ parts)) → Fits x.state p.state
    first_with p (inl e) = subst (λ (w : Row). Fits x.state w.state) (sym e) (λ v h k. refl)
    first_with p (inr (inl e)) = subst (λ (w : Row). Fits x.state w.state) (sym e) fit
    first_with p (inr (inr h)) = with_first p h

    second_with : (p : Row) → IsAmong p (x ∷ (y ∷ parts)) → Fits y.state p.state
    second_with p (inl e) = subst (λ (w : Row). Fits y.state w.state) (sym e) (fits-sym x.state y.state fit)
    second_with p (inr (inl e)) = subst (λ (w : Row). Fits y.state w.state) (sym e) (λ v h k. refl)
    second_with p (inr (inr h)) = with_second p h

    at : (p q : Row) → IsAmong p (x ∷ (y ∷ parts)) → IsAmong q (x ∷ (y ∷ parts)) → Fits p.state q.state
    at p q (inl e) k = subst (λ (w : Row). Fits w.state q.state) (sym e) (first_with q k)
    at p q (inr (inl e)) k = subst (λ (w : Row). Fits w.state q.state) (sym e) (second_with q k)
    at p q (inr (inr h)) (inl e) = subst (λ (w : Row). Fits p.state w.state) (sym e) (fits-sym x.state p.state (with_first p h))
    at p q (inr (inr h)) (inr (inl e)) = subst (λ (w : Row). Fits p.state w.state) (sym e) (fits-sym y.state p.state (with_second p h))
    at p q (inr (inr h)) (inr (inr k)) = all p q (inr h) (inr k)

fit_joined : (x y : Row) (parts : List Row) → IsPartial x.state → IsPartial y.state → FitTogether (x ∷ (y ∷ parts)) → FitTogether (united_row x y ∷ parts)
fit_joined x y parts partial_x partial_y all p q in_p in_q = at p q in_p in_q
  where
    both_with : (q : Row) → IsAmong q parts → Fits (united x.state y.state) q.state
    both_with q h = fits_union x.state y.state q.state partial_x partial_y (all x y (inl refl) (inr (inl refl))) (all x q (inl refl) (inr (inr h))) (all y q (inr (inl refl)) (inr (inr h)))

    at : (p q : Row) → IsAmong p (united_row x y ∷ parts) → IsAmong q (united_row x y ∷ parts) → Fits p.state q.state
    at p q (inl e) (inl e') = subst (λ (w : Row). Fits p.state w.state) (e ∙ sym e') (λ v h k. refl)
    at p q (inl e) (inr k) = subst (λ (w : Row). Fits w.state q.state) (sym e) (both_with q k)
    at p q (inr h) (inl e) = subst (λ (w : Row). Fits p.state w.state) (sym e) (fits-sym (united x.state y.state) p.state (both_with p h))
    at p q (inr h) (inr k) = all p q (inr (inr h)) (inr (inr k))

unions_to_parts : (level : ℕ) (tables : List TableData) → AllByRecursion IsTable tables → (S : Row → Type 0) → ((r : Row) → S r → IsPartial r.state) → ((r : Row) → S r → size r.marks ≤ level) → (r : Row) → UnionsFrom level S tables r → IsFrom S level tables r
unions_to_parts level [] all S partial few r s = record {
  first = r;
  holds = s;
  others = unit_row;
  joint = record { parts = []; of_tables = tt; fit = λ p q none. absurd none; is = refl; few = rw members-empty (omega arith) };
  fit = fit_alone r;
  is = sym (united-unit r);
  few = few r s;
}
unions_to_parts level (a ∷ rest) all S partial few r u =
    let later = unions_to_parts level rest all.1 (IsUnionOf S a.rows level) (λ q h. subst (λ (w : Row). IsPartial w.state) (sym h.is) (united-partial h.first.state h.second.state (partial h.first h.holds) (row_of a all.0 h.second h.in_second).partial)) (λ q h. h.few) r u in
    let h = later.holds in
    let parts = h.second ∷ later.joint.parts in
    let fit : FitTogether (h.first ∷ parts) = fit_split h.first h.second later.joint.parts (partial h.first h.holds) (row_of a all.0 h.second h.in_second).partial h.fit (subst (λ (w : Row). FitTogether (w ∷ later.joint.parts)) h.is later.fit) in
    let whole : r ≡ united_row h.first (united_row h.second later.others) = later.is ∙ (ap (λ (w : Row). united_row w later.others) h.is ∙ united-assoc h.first h.second later.others) in
    let inside : Within (union h.second.marks later.others.marks) r.marks = λ k is. subst (λ (w : Row). IsTrue (has w.marks k)) (sym whole) (within_union_right h.first.marks (union h.second.marks later.others.marks) k is) in
    record {
      first = h.first;
      holds = h.holds;
      others = united_row h.second later.others;
      joint = record {
        parts = parts;
        of_tables = (h.in_second, later.joint.of_tables);
        fit = λ p q in_p in_q. fit p q (inr in_p) (inr in_q);
        is = ap (united_row h.second) later.joint.is;
        few = (let le = size_within (union h.second.marks later.others.marks) r.marks inside in let few = later.few in omega arith);
      };
      fit = fit;
      is = whole;
      few = later.few;
    }

parts_to_unions : (level : ℕ) (tables : List TableData) → AllByRecursion IsTable tables → (S : Row → Type 0) → ((r : Row) → S r → IsPartial r.state) → (r first : Row) → S first → (parts : List Row) → AllZip (λ (p : Row) (t : TableData). IsAmong p t.rows) parts tables → FitTogether (first ∷ parts) → r ≡ united_row first (united_rows parts) → size r.marks ≤ level → UnionsFrom level S tables r
parts_to_unions level [] all S partial r first s [] zip fit is few = subst S (sym (is ∙ united-unit first)) s
parts_to_unions level [] all S partial r first s (p ∷ parts) zip fit is few = absurd zip
parts_to_unions level (a ∷ rest) all S partial r first s [] zip fit is few = absurd zip
parts_to_unions level (a ∷ rest) all S partial r first s (p ∷ parts) zip fit is few =
    let partial_p : IsPartial p.state = (row_of a all.0 p zip.0).partial in
    let whole : r ≡ united_row (united_row first p) (united_rows parts) = is ∙ sym (united-assoc first p (united_rows parts)) in
    let inside : Within (union first.marks p.marks) r.marks = λ k h. subst (λ (w : Row). IsTrue (has w.marks k)) (sym whole) (within_union_left (union first.marks p.marks) (united_rows parts).marks k h) in
    parts_to_unions level rest all.1 (IsUnionOf S a.rows level) (λ q h. subst (λ (w : Row). IsPartial w.state) (sym h.is) (united-partial h.first.state h.second.state (partial h.first h.holds) (row_of a all.0 h.second h.in_second).partial))
    r (united_row first p)
    (record { first = first; second = p; holds = s; in_second = zip.0; fit = fit first p (inl refl) (inr (inl refl)); is = refl; few = (let le = size_within (union first.marks p.marks) r.marks inside in omega arith) })
    parts zip.1 (fit_joined first p parts (partial first s) partial_p fit) whole few

-- ---- beginning with the table of no variables
abbrev pub is_unit : Row → Type 0
is_unit r = r ≡ unit_row

unit_partial : (r : Row) → is_unit r → IsPartial r.state
unit_partial r e = subst (λ (w : Row). IsPartial w.state) (sym e) (record { of_mask = λ k h. h; small = omega arith })

unit_few : (level : ℕ) (r : Row) → is_unit r → size r.marks ≤ level
unit_few level r e = subst (λ (w : Row). size w.marks ≤ level) (sym e) (rw members-empty (omega arith))

pub unit_presents : Presents is_unit unit_table
unit_presents = record {
  rows = record {
    exactly = λ r. (
      λ h. elim h [ inl e ↦ record { one = e; least = λ s e' state within. ap (λ (w : Row). w.marks) (e' ∙ sym e) } | inr none ↦ absurd none ],
      λ m. inl m.one,
    );
    ascending = (tt, tt);
  };
  covers = record { from = λ r h. elim h [ inl e ↦ e | inr none ↦ absurd none ]; below = λ r e. (r, inl e, refl, λ k h. h) };
}

unit_fits : (parts : List Row) → FitTogether parts → FitTogether (unit_row ∷ parts)
unit_fits parts fit p q (inl e) k = subst (λ (w : Row). Fits w.state q.state) (sym e) (λ v in_none in_q. absurd (true≢false (sym in_none ∙ has-empty v)))
unit_fits parts fit p q (inr h) (inl e) = subst (λ (w : Row). Fits p.state w.state) (sym e) (λ v in_p in_none. absurd (true≢false (sym in_none ∙ has-empty v)))
unit_fits parts fit p q (inr h) (inr k) = fit p q h k

pub joint_is : (level : ℕ) (tables : List TableData) → AllByRecursion IsTable tables → (r : Row) → UnionsFrom level is_unit tables r ↔ IsJointRow level tables r
joint_is level tables all r = (
  λ u. let f = unions_to_parts level tables all is_unit unit_partial (unit_few level) r u in
      subst (IsJointRow level tables) (sym (f.is ∙ (ap (λ (w : Row). united_row w f.others) f.holds ∙ unit-united f.others))) f.joint,
  λ j. parts_to_unions level tables all is_unit unit_partial r unit_row refl j.parts j.of_tables (unit_fits j.parts j.fit) (j.is ∙ sym (unit-united (united_rows j.parts))) j.few,
)

pub joins_are_minimal : JoinsAreMinimalUnions
joins_are_minimal level tables t all joins =
    let p = joins_present level tables is_unit unit_table t unit_presents joins in
    record {
      scope = joins_scope level tables unit_table t joins ∙ none-union (union_of (λ (a : TableData). a.scope) tables);
      rows = IsListing-same RowBefore _ _ t.rows (minimal_as (UnionsFrom level is_unit tables) (IsJointRow level tables) (joint_is level tables all)) p.rows;
    }

-- ---- no mark in common
pub join_apart : (level : ℕ) (a b t c : TableData) → IsJoin a b level t → ShareNoMark a.rows c.rows → ShareNoMark b.rows c.rows → ShareNoMark t.rows c.rows
join_apart level a b t c j first second x y in_x in_y meets =
    let u = ((j.rows.exactly x).0 in_x).one in
    let is_in : has (union u.first.marks u.second.marks) meets.member ≡ true = subst (λ (w : Row). has w.marks meets.member ≡ true) u.is meets.in_first in
    elim (in_union u.first.marks u.second.marks meets.member is_in) [
      | inl h ↦ first u.first y u.in_first in_y (record { member = meets.member; in_first = h; in_second = meets.in_second })
      | inr h ↦ second u.second y u.in_second in_y (record { member = meets.member; in_first = h; in_second = meets.in_second })
    ]

pub unit_apart : (c : TableData) → ShareNoMark unit_table.rows c.rows
unit_apart c x y in_x in_y meets = elim in_x [ inl e ↦ true≢false (sym (subst (λ (w : Row). has w.marks meets.member ≡ true) e meets.in_first) ∙ has-empty meets.member) | inr none ↦ none ]

apart_joined : (level : ℕ) (tables : List TableData) (from t c : TableData) → ShareNoMark from.rows c.rows → JoinsFrom level from tables t → AllByRecursion (λ (a : TableData). ShareNoMark a.rows c.rows) tables → ShareNoMark t.rows c.rows
apart_joined level [] from t c apart e all = subst (λ (a : TableData). ShareNoMark a.rows c.rows) (sym e) apart
apart_joined level (a ∷ rest) from t c apart (next, j, later) all = apart_joined level rest next t c (join_apart level from a next c j apart all.0) later all.1

pub joins_apart : JoinsStayApart
joins_apart level tables t c joins all = apart_joined level tables unit_table t c (unit_apart c) joins all
