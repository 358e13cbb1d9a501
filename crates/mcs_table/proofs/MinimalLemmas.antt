-- Keeping the minimal rows of an ascending list.
use Rattle.std.proofs.lemmas.Bool.Decides.{nat_tests}
use Rattle.std.proofs.Common.{◌≤◌, true, false, not, ◌&&◌, eqb, ◌≡◌, ◌<◌, ◌-◌, ℕ, ◌+◌, List, [], ◌∷◌, ◌++◌, length, get_or, take, drop, refl, sym, ap, ◌∙◌, subst, inl, inr, ◌⊎◌, ◌↔◌, arith}
use Rattle.std.proofs.Math.ListN.{set}
use Rattle.std.proofs.lemmas.List.{drop-drop, get_or-drop, drop-set-lt, take_more_set, length-set}
use Rattle.std.specs.List.{AllByRecursion}
use Rattle.mcs_sets.specs.Sets.{Within}
use Rattle.mcs_sets.specs.Orders.{StateBefore}
use Rattle.mcs_sets.proofs.SetLemmas.{not_before_itself}
use Rattle.mcs_sets.proofs.Lattice.{within_antisymmetric, not_within_before}
use Rattle.mcs_base.specs.Listings.{IsAscending, IsAmong, IsListing}
use Rattle.mcs_base.specs.Partials.{PartialState}
use Rattle.mcs_base.specs.StateOrder.{StateBefore-transitive}
use Rattle.mcs_base.proofs.Among.{among_take_more, among_at, take_among, among_push, among_parts, among_drop_more}
use Rattle.mcs_base.proofs.Ascending.{before_at, ascending_push}
use Rattle.mcs_base.proofs.Each.{all_among, all_from_among}
use Rattle.mcs_table.specs.declared.row.Row.{Row}
use Rattle.mcs_table.specs.RowOrder.{RowBefore, same_row}
use Rattle.mcs_table.specs.Tables.{IsTable, IsRowOn, IsCovered, IsMinimalRow}

pub row_is : (a b : Row) → a.state ≡ b.state → a.marks ≡ b.marks → a ≡ b
row_is a b states marks = same_row a b (ap (λ (s : PartialState). s.mask) states) (ap (λ (s : PartialState). s.values) states) marks

-- what has been kept of the rows so far
pub record MinimalSoFar (xs kept : List Row) : Type 0 where
  pub from : (r : Row) → IsAmong r kept → IsAmong r xs
  pub covers : (r : Row) → IsAmong r xs → IsCovered kept r
  pub ascending : IsAscending RowBefore kept
  pub apart : (r s : Row) → IsAmong r kept → IsAmong s kept → s.state ≡ r.state → Within s.marks r.marks → s ≡ r

pub minimal_begin : MinimalSoFar [] []
minimal_begin = record { from = λ r h. h; covers = λ r h. absurd h; ascending = tt; apart = λ r s h. absurd h }

-- a row that comes before another of its state does not have its marks within
not_within_later : (a b : Row) → RowBefore a b → a.state ≡ b.state → Within b.marks a.marks → ⊥
not_within_later a b (inl h) state within = not_before_itself _ (subst (λ (v : ℕ). StateBefore v b.state.values) (ap (λ (s : PartialState). s.values) state) h)
not_within_later a b (inr h) state within = not_within_before _ _ h.1 within

pub covered_more : (xs ys : List Row) (r : Row) → ((x : Row) → IsAmong x xs → IsAmong x ys) → IsCovered xs r → IsCovered ys r
covered_more xs ys r more h = record { by = h.by; among = more h.by h.among; state = h.state; within = h.within }

pub covered_itself : (xs : List Row) (r : Row) → IsAmong r xs → IsCovered xs r
covered_itself xs r among = record { by = r; among = among; state = refl; within = λ k h. h }

-- all has what xs has, and the row x, which comes after what is kept
module _ (xs all kept : List Row) (x : Row) (step : (r : Row) → IsAmong r all ↔ (IsAmong r xs ⊎ (r ≡ x))) (so_far : MinimalSoFar xs kept) where
  pub minimal_same : IsCovered kept x → MinimalSoFar all kept
  minimal_same h = record {
    from = λ r among. (step r).1 (inl (so_far.from r among));
    covers = λ r among. elim ((step r).0 among) [ inl old ↦ so_far.covers r old | inr e ↦ subst (IsCovered kept) (sym e) h ];
    ascending = so_far.ascending;
    apart = so_far.apart;
  }

  pub minimal_more : ((r : Row) → IsAmong r kept → RowBefore r x) → ¬ IsCovered kept x → IsAscending RowBefore (kept ++ x ∷ []) → MinimalSoFar all (kept ++ x ∷ [])
  minimal_more before not up = record {
    from = λ r among. (step r).1 (elim ((among_push r kept x).0 among) [ inl old ↦ inl (so_far.from r old) | inr e ↦ inr e ]);
    covers = λ r among. elim ((step r).0 among) [
      | inl old ↦ covered_more kept (kept ++ x ∷ []) r (λ y h. (among_push y kept x).1 (inl h)) (so_far.covers r old)
      | inr e ↦ covered_itself (kept ++ x ∷ []) r ((among_push r kept x).1 (inr e))
    ];
    ascending = up;
    apart = λ r s in_r in_s state within. elim ((among_push r kept x).0 in_r) [
      | inl old ↦ elim ((among_push s kept x).0 in_s) [
        | inl old' ↦ so_far.apart r s old old' state within
        | inr e ↦ absurd (not_within_later r x (before r old) (sym state ∙ ap (λ (y : Row). y.state) e) (subst (λ (y : Row). Within y.marks r.marks) e within))
      ]
      | inr e ↦ elim ((among_push s kept x).0 in_s) [
        | inl old' ↦ absurd (not (record { by = s; among = old'; state = state ∙ ap (λ (y : Row). y.state) e; within = subst (λ (y : Row). Within s.marks y.marks) e within }))
        | inr e' ↦ e' ∙ sym e
      ]
    ];
  }

pub minimal_end : (P : Row → Type 0) (xs kept : List Row) → ((r : Row) → IsAmong r xs ↔ P r) → MinimalSoFar xs kept → IsListing (IsMinimalRow P) RowBefore kept
minimal_end P xs kept is so_far = record {
  exactly = λ r. (
    λ among. record {
      one = (is r).0 (so_far.from r among);
      least = λ s p state within.
          let c = so_far.covers s ((is s).1 p) in
          let same : c.by ≡ r = so_far.apart r c.by among c.among (c.state ∙ state) (λ k h. within k (c.within k h)) in
          within_antisymmetric s.marks r.marks within (λ k h. c.within k (subst (λ (y : Row). Within r.marks y.marks) (sym same) (λ j h'. h') k h));
    },
    λ m. let c = so_far.covers r ((is r).1 m.one) in
        let same : c.by ≡ r = row_is c.by r c.state (m.least c.by ((is c.by).0 (so_far.from c.by c.among)) c.state c.within) in
        subst (λ (y : Row). IsAmong y kept) same c.among,
  );
  ascending = so_far.ascending;
}

-- ---- looking back over the kept rows for one of the same state
-- the rows of the state are the last ones: before one of another state there is none
none_before : (x y row : Row) → y.state.mask ≡ row.state.mask → ¬ (y.state ≡ row.state) → RowBefore y row → RowBefore x y → ¬ (x.state ≡ row.state)
none_before x y row masks differ later earlier same = not_before_itself row.state.values (at earlier later)
  where
    values : x.state.values ≡ row.state.values
    values = ap (λ (s : PartialState). s.values) same

    state_is : y.state.values ≡ row.state.values → y.state ≡ row.state
    state_is e = ap (λ (m : ℕ). let s : PartialState = record { mask = m; values = y.state.values } in s) masks ∙ ap (λ (v : ℕ). let s : PartialState = record { mask = row.state.mask; values = v } in s) e

    at : RowBefore x y → RowBefore y row → StateBefore row.state.values row.state.values
    at (inl h) (inl k) = subst (λ (v : ℕ). StateBefore v row.state.values) values (StateBefore-transitive _ _ _ h k)
    at (inl h) (inr k) = subst (λ (v : ℕ). StateBefore v row.state.values) values (subst (λ (v : ℕ). StateBefore x.state.values v) k.0 h)
    at (inr h) (inl k) = subst (λ (v : ℕ). StateBefore v row.state.values) (sym h.0 ∙ values) k
    at (inr h) (inr k) = absurd (differ (state_is k.0))

-- x is the one before those that have been looked at
module _ (kept : List Row) (row : Row) (i : ℕ) (x : Row) (some : 0 < i) (less : i - 1 < length kept) (here : x ≡ get_or kept (i - 1) x) (past : ¬ IsCovered (drop i kept) row) where
  from_here : (y : Row) → IsAmong y (drop (i - 1) kept) → (y ≡ x) ⊎ IsAmong y (drop i kept)
  from_here y h = let e : i - 1 + 1 ≡ i = omega arith in subst (λ n. (y ≡ x) ⊎ IsAmong y (drop n kept)) e (rw here ((among_drop_more kept (i - 1) x less y).0 h))

  pub not_here : ¬ Within x.marks row.marks → ¬ IsCovered (drop (i - 1) kept) row
  not_here not h = elim (from_here h.by h.among) [
    | inl e ↦ not (subst (λ (y : Row). Within y.marks row.marks) e h.within)
    | inr later ↦ past (record { by = h.by; among = later; state = h.state; within = h.within })
  ]

  pub other_state : AllByRecursion (λ (r : Row). r.state.mask ≡ row.state.mask) kept → IsAscending RowBefore kept → AllByRecursion (λ (r : Row). RowBefore r row) kept → ¬ (x.state ≡ row.state) → ¬ IsCovered kept row
  other_state masks up after differ h =
      let among : IsAmong x kept = subst (λ (y : Row). IsAmong y kept) (sym here) (among_at kept (i - 1) x less) in
      elim (among_parts kept (i - 1) h.by h.among) [
        | inl earlier ↦ none_before h.by x row (all_among (λ (r : Row). r.state.mask ≡ row.state.mask) kept x masks among) differ (all_among (λ (r : Row). RowBefore r row) kept x after among) (subst (RowBefore h.by) (sym here) (before_at RowBefore kept (i - 1) x less up h.by earlier)) h.state
        | inr rest ↦ elim (from_here h.by rest) [
          | inl e ↦ differ (sym (ap (λ (y : Row). y.state) e) ∙ h.state)
          | inr later ↦ past (record { by = h.by; among = later; state = h.state; within = h.within })
        ]
      ]

  pub found_here : x.state ≡ row.state → Within x.marks row.marks → IsCovered kept row
  found_here state within = record { by = x; among = subst (λ (y : Row). IsAmong y kept) (sym here) (among_at kept (i - 1) x less); state = state; within = within }

-- ---- what the test of two states says
pub states_differ : (s t : PartialState) → not (eqb s.mask t.mask && eqb s.values t.values) ≡ true → ¬ (s ≡ t)
states_differ s t e same =
    let masks : s.mask ≡ t.mask = ap (λ (u : PartialState). u.mask) same in
    let values : s.values ≡ t.values = ap (λ (u : PartialState). u.values) same in
    grind (arith, nat_tests)

pub states_same : (s t : PartialState) → not (eqb s.mask t.mask && eqb s.values t.values) ≡ false → s ≡ t
states_same s t e =
    let masks : s.mask ≡ t.mask = grind (arith, nat_tests) in
    let values : s.values ≡ t.values = grind (arith, nat_tests) in
    ap (λ (m : ℕ). let u : PartialState = record { mask = m; values = s.values } in u) masks ∙ ap (λ (v : ℕ). let u : PartialState = record { mask = t.mask; values = v } in u) values

-- ---- the loop over the rows of a table
module _ (scope : ℕ) (items kept : List Row) (i : ℕ) (table : IsTable (record { scope = scope; rows = items })) (so_far : MinimalSoFar (take i items) kept) where
  kept_row : (r : Row) → IsAmong r kept → IsAmong r items
  kept_row r among = take_among items i r (so_far.from r among)

  pub kept_table : IsTable (record { scope = scope; rows = kept })
  kept_table = record {
    on_scope = all_from_among (IsRowOn scope) kept (λ r among. all_among (IsRowOn scope) items r table.on_scope (kept_row r among));
    ascending = so_far.ascending;
  }

  module _ (row : Row) (less : i < length items) (here : row ≡ get_or items i row) where
    row_on_scope : row.state.mask ≡ scope
    row_on_scope = subst (λ (r : Row). r.state.mask ≡ scope) (sym here) (all_among (IsRowOn scope) items (get_or items i row) table.on_scope (among_at items i row less)).mask

    pub same_masks : AllByRecursion (λ (r : Row). r.state.mask ≡ row.state.mask) kept
    same_masks = all_from_among (λ (r : Row). r.state.mask ≡ row.state.mask) kept (λ r among. (all_among (IsRowOn scope) items r table.on_scope (kept_row r among)).mask ∙ sym row_on_scope)

    earlier : (r : Row) → IsAmong r kept → RowBefore r row
    earlier r among = subst (RowBefore r) (sym here) (before_at RowBefore items i row less table.ascending r (so_far.from r among))

    pub all_earlier : AllByRecursion (λ (r : Row). RowBefore r row) kept
    all_earlier = all_from_among (λ (r : Row). RowBefore r row) kept earlier

    pub same_more : IsCovered kept row → MinimalSoFar (take (i + 1) items) kept
    same_more h = minimal_same (take i items) (take (i + 1) items) kept row (among_take_more items i row less here) so_far h

    pub push_more : ¬ IsCovered kept row → MinimalSoFar (take (i + 1) items) (kept ++ row ∷ [])
    push_more not = minimal_more (take i items) (take (i + 1) items) kept row (among_take_more items i row less here) so_far earlier not (ascending_push RowBefore kept row so_far.ascending earlier)

-- ---- in place: the first ones are those that are kept, and those from i on are as they were
pub record KeptInPlace (all rows : List Row) (i kept : ℕ) : Type 0 where
  pub len : length rows ≡ length all
  pub few : kept ≤ i
  pub rest : drop i rows ≡ drop i all
  pub so_far : MinimalSoFar (take i all) (take kept rows)

pub in_place_begin : (all : List Row) → KeptInPlace all all 0 0
in_place_begin all = record { len = refl; few = omega arith; rest = refl; so_far = minimal_begin }

module _ (scope : ℕ) (all rows : List Row) (i kept : ℕ) (table : IsTable (record { scope = scope; rows = all })) (in_place : KeptInPlace all rows i kept) (x : Row) (less : i < length rows) (here : x ≡ get_or rows i x) where
  less_all : i < length all
  less_all = let same = in_place.len in omega arith

  at_first : (xs : List Row) → get_or (drop i xs) 0 x ≡ get_or xs i x
  at_first xs = get_or-drop i xs 0 x ∙ let e : i + 0 ≡ i = omega arith in ap (λ n. get_or xs n x) e

  here_all : x ≡ get_or all i x
  here_all = here ∙ (sym (at_first rows) ∙ (ap (λ (xs : List Row). get_or xs 0 x) in_place.rest ∙ at_first all))

  next : drop (i + 1) rows ≡ drop (i + 1) all
  next = sym (drop-drop 1 i rows) ∙ (ap (drop 1) in_place.rest ∙ drop-drop 1 i all)

  pub masks_in_place : AllByRecursion (λ (r : Row). r.state.mask ≡ x.state.mask) (take kept rows)
  masks_in_place = same_masks scope all (take kept rows) i table in_place.so_far x less_all here_all

  pub earlier_in_place : AllByRecursion (λ (r : Row). RowBefore r x) (take kept rows)
  earlier_in_place = all_earlier scope all (take kept rows) i table in_place.so_far x less_all here_all

  pub same_in_place : IsCovered (take kept rows) x → KeptInPlace all rows (i + 1) kept
  same_in_place h = record {
    len = in_place.len;
    few = let few = in_place.few in omega arith;
    rest = next;
    so_far = same_more scope all (take kept rows) i table in_place.so_far x less_all here_all h;
  }

  pub push_in_place : ¬ IsCovered (take kept rows) x → KeptInPlace all (set rows kept x) (i + 1) (kept + 1)
  push_in_place not = let few = in_place.few in record {
    len = length-set rows kept x ∙ in_place.len;
    few = omega arith;
    rest = drop-set-lt (i + 1) rows kept x (omega arith) ∙ next;
    so_far = subst (MinimalSoFar (take (i + 1) all)) (sym (take_more_set rows kept x (omega arith))) (push_more scope all (take kept rows) i table in_place.so_far x less_all here_all not);
  }
