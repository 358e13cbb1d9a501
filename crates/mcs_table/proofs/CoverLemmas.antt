-- The minimal rows of finitely many: each row has a minimal one within it.
use Rattle.std.proofs.Common.{◌≡◌, ◌<◌, ◌≤◌, ℕ, ◌+◌, zero, suc, List, [], ◌∷◌, ◌++◌, refl, sym, ap, ◌∙◌, subst, inl, inr, ◌⊎◌, ◌↔◌, arith, IsTrue}
use Rattle.std.proofs.lemmas.Bool.{cases_lt, cases_eq}
use Rattle.mcs_sets.specs.Sets.{has, union, size, Within}
use Rattle.mcs_sets.proofs.SetLemmas.{Within-le}
use Rattle.mcs_sets.proofs.Lattice.{within_antisymmetric, cases_within}
use Rattle.mcs_base.specs.Listings.{IsAmong, IsListing}
use Rattle.mcs_base.specs.Partials.{Fits}
use Rattle.mcs_base.proofs.Among.{among_append}
use Rattle.mcs_base.proofs.PartialLemmas.{cases_state, cases_fit}
use Rattle.mcs_table.specs.declared.row.Row.{Row}
use Rattle.mcs_table.specs.RowOrder.{RowBefore}
use Rattle.mcs_table.specs.Tables.{Covers, IsUnion, IsMinimalRow, united_row}
use Rattle.mcs_table.proofs.MinimalLemmas.{row_is}

pub Covers-trans : (Q P O : Row → Type 0) → Covers Q P → Covers P O → Covers Q O
Covers-trans Q P O c d = record {
  from = λ r q. d.from r (c.from r q);
  below = λ r o. let (m, p, state, within) = d.below r o in
      let (n, q, state', within') = c.below m p in
      (n, q, state' ∙ state, λ k h. within k (within' k h));
}

-- then both have the same minimal rows
pub covers_same : (Q P : Row → Type 0) → Covers Q P → (r : Row) → IsMinimalRow Q r ↔ IsMinimalRow P r
covers_same Q P c r = (
  λ m. record {
    one = c.from r m.one;
    least = λ s p state within.
        let (n, q, state', within') = c.below s p in
        let same : n.marks ≡ r.marks = m.least n q (state' ∙ state) (λ k h. within k (within' k h)) in
        within_antisymmetric s.marks r.marks within (λ k h. within' k (subst (λ (x : ℕ). IsTrue (has x k)) (sym same) h));
  },
  λ m. let (n, q, state, within) = c.below r m.one in
      let same : n ≡ r = row_is n r state (m.least n (c.from n q) state within) in
      record { one = subst Q same q; least = λ s q'. m.least s (c.from s q') },
)

-- what covers the first parts of lists, and the last ones, covers the lists
pub covers_append : (xs ys zs ws : List Row) → Covers (λ r. IsAmong r xs) (λ r. IsAmong r ys) → Covers (λ r. IsAmong r zs) (λ r. IsAmong r ws) → Covers (λ r. IsAmong r (xs ++ zs)) (λ r. IsAmong r (ys ++ ws))
covers_append xs ys zs ws c d = record {
  from = λ r h. (among_append r ys ws).1 (elim ((among_append r xs zs).0 h) [ inl one ↦ inl (c.from r one) | inr other ↦ inr (d.from r other) ]);
  below = λ r h. elim ((among_append r ys ws).0 h) [
    | inl one ↦ let (m, q, state, within) = c.below r one in (m, (among_append m xs zs).1 (inl q), state, within)
    | inr other ↦ let (m, q, state, within) = d.below r other in (m, (among_append m xs zs).1 (inr q), state, within)
  ];
}

-- ---- each of finitely many rows has a minimal one within it
-- y is strictly within x
pub record IsSmaller (x y : Row) : Type 0 where
  pub state : y.state ≡ x.state
  pub within : Within y.marks x.marks
  pub other : ¬ (y.marks ≡ x.marks)

decide_smaller : (x y : Row) → IsSmaller x y ⊎ (y.state ≡ x.state → Within y.marks x.marks → y.marks ≡ x.marks)
decide_smaller x y = elim (cases_state y.state x.state) [
  | inr differ ↦ inr (λ e. absurd (differ e))
  | inl state ↦ elim (cases_within y.marks x.marks) [
    | inr not ↦ inr (λ e w. absurd (not w))
    | inl within ↦ elim (cases_eq y.marks x.marks) [ inl e ↦ inr (λ e' w. e) | inr other ↦ inl (record { state = state; within = within; other = other }) ]
  ]
]

pub smaller_or_none : (xs : List Row) (x : Row) → ((y : Row) × IsAmong y xs × IsSmaller x y) ⊎ ((y : Row) → IsAmong y xs → y.state ≡ x.state → Within y.marks x.marks → y.marks ≡ x.marks)
smaller_or_none [] x = inr (λ y h. absurd h)
smaller_or_none (z ∷ zs) x = elim (decide_smaller x z) [
  | inl smaller ↦ inl (z, inl refl, smaller)
  | inr none ↦ elim (smaller_or_none zs x) [
    | inl (y, among, smaller) ↦ inl (y, inr among, smaller)
    | inr rest ↦ inr (λ y among. elim among [ inl e ↦ subst (λ (w : Row). w.state ≡ x.state → Within w.marks x.marks → w.marks ≡ x.marks) (sym e) none | inr h ↦ rest y h ])
  ]
]

-- as numbers: marks strictly within others are below them
minimal_below : (xs : List Row) (n : ℕ) (x : Row) → x.marks < n → IsAmong x xs → (m : Row) × IsMinimalRow (λ r. IsAmong r xs) m × (m.state ≡ x.state) × Within m.marks x.marks
minimal_below xs zero x less among = absurd (omega arith)
minimal_below xs (suc n) x less among = elim (smaller_or_none xs x) [
  | inr none ↦ (x, record { one = among; least = none }, refl, λ k h. h)
  | inl (y, among', smaller) ↦
      let le : y.marks ≤ x.marks = Within-le y.marks x.marks smaller.within in
      let less' : y.marks < n = elim (cases_lt y.marks n) [ inl h ↦ h | inr past ↦ absurd (smaller.other (omega arith)) ] in
      let (m, minimal, state, within) = minimal_below xs n y less' among' in
      (m, minimal, state ∙ smaller.state, λ k h. smaller.within k (within k h))
]

-- P is of finitely many rows
abbrev pub Listed : (Row → Type 0) → Type 0
Listed P = (xs : List Row) × ((r : Row) → IsAmong r xs ↔ P r)

pub minimal_covers : (P : Row → Type 0) → Listed P → Covers (IsMinimalRow P) P
minimal_covers P listed = let (xs, is) = listed in record {
  from = λ r m. m.one;
  below = λ r p. let (m, minimal, state, within) = minimal_below xs (r.marks + 1) r (omega arith) ((is r).1 p) in
      (m, record { one = (is m).0 minimal.one; least = λ s q. minimal.least s ((is s).1 q) }, state, within);
}

-- ---- the unions of two lists of rows are finitely many
record IsUnionWith (x : Row) (ys : List Row) (level : ℕ) (r : Row) : Type 0 where
  second : Row
  in_second : IsAmong second ys
  fit : Fits x.state second.state
  is : r ≡ united_row x second
  few : size r.marks ≤ level

unions_with : (x : Row) (ys : List Row) (level : ℕ) → Listed (IsUnionWith x ys level)
unions_with x [] level = ([], λ r. (λ h. absurd h, λ u. absurd u.in_second))
unions_with x (y ∷ ys) level = let (zs, is) = unions_with x ys level in at zs is (cases_fit x.state y.state) (cases_lt level (size (union x.marks y.marks)))
  where
    later : (zs : List Row) → ((r : Row) → IsAmong r zs ↔ IsUnionWith x ys level r) → (r : Row) → IsAmong r zs → IsUnionWith x (y ∷ ys) level r
    later zs is r h = let u = (is r).0 h in record { second = u.second; in_second = inr u.in_second; fit = u.fit; is = u.is; few = u.few }

    none : (zs : List Row) → ((r : Row) → IsAmong r zs ↔ IsUnionWith x ys level r) → (Fits x.state y.state → size (union x.marks y.marks) ≤ level → ⊥) → Listed (IsUnionWith x (y ∷ ys) level)
    none zs is not = (
      zs,
      λ r. (
        later zs is r,
        λ u. elim u.in_second [
          | inl e ↦ absurd (not (subst (λ (w : Row). Fits x.state w.state) e u.fit) (subst (λ (w : Row). size w.marks ≤ level) (u.is ∙ ap (united_row x) e) u.few))
          | inr h ↦ (is r).1 (record { second = u.second; in_second = h; fit = u.fit; is = u.is; few = u.few })
        ],
      ),
    )

    at : (zs : List Row) → ((r : Row) → IsAmong r zs ↔ IsUnionWith x ys level r) → Fits x.state y.state ⊎ ¬ Fits x.state y.state → (level < size (union x.marks y.marks)) ⊎ (size (union x.marks y.marks) ≤ level) → Listed (IsUnionWith x (y ∷ ys) level)
    at zs is (inr not) many = none zs is (λ fit few. not fit)
    at zs is (inl fit) (inl many) = none zs is (λ fit' few. absurd (omega arith))
    at zs is (inl fit) (inr few) = (
      united_row x y ∷ zs,
      λ r. (
        λ h. elim h [
          | inl e ↦ record { second = y; in_second = inl refl; fit = fit; is = e; few = subst (λ (w : Row). size w.marks ≤ level) (sym e) few }
          | inr h' ↦ later zs is r h'
        ],
        λ u. elim u.in_second [
          | inl e ↦ inl (u.is ∙ ap (united_row x) e)
          | inr h ↦ inr ((is r).1 (record { second = u.second; in_second = h; fit = u.fit; is = u.is; few = u.few }))
        ],
      ),
    )

pub unions_listed : (xs ys : List Row) (level : ℕ) → Listed (IsUnion xs ys level)
unions_listed [] ys level = ([], λ r. (λ h. absurd h, λ u. absurd u.in_first))
unions_listed (x ∷ xs) ys level = let (vs, is) = unions_with x ys level in let (ws, is') = unions_listed xs ys level in (
  vs ++ ws,
  λ r. (
    λ h. elim ((among_append r vs ws).0 h) [
      | inl a ↦ let u = (is r).0 a in record { first = x; second = u.second; in_first = inl refl; in_second = u.in_second; fit = u.fit; is = u.is; few = u.few }
      | inr b ↦ let u = (is' r).0 b in record { first = u.first; second = u.second; in_first = inr u.in_first; in_second = u.in_second; fit = u.fit; is = u.is; few = u.few }
    ],
    λ u. (among_append r vs ws).1 (elim u.in_first [
      | inl e ↦ inl ((is r).1 (record { second = u.second; in_second = u.in_second; fit = subst (λ (w : Row). Fits w.state u.second.state) e u.fit; is = u.is ∙ ap (λ (w : Row). united_row w u.second) e; few = u.few }))
      | inr h ↦ inr ((is' r).1 (record { first = u.first; second = u.second; in_first = h; in_second = u.in_second; fit = u.fit; is = u.is; few = u.few }))
    ]),
  ),
)

-- the listing of the minimal ones of some rows covers them
pub listing_covers : (xs ys : List Row) → IsListing (IsMinimalRow (λ r. IsAmong r xs)) RowBefore ys → Covers (λ r. IsAmong r ys) (λ r. IsAmong r xs)
listing_covers xs ys l = let c = minimal_covers (λ r. IsAmong r xs) (xs, λ r. (λ h. h, λ h. h)) in record {
  from = λ r h. c.from r ((l.exactly r).0 h);
  below = λ r h. let (m, q, state, within) = c.below r h in (m, (l.exactly m).1 q, state, within);
}
