-- How the latest of the literals of a false clause is found.
use Rattle.std.proofs.Common.{◌≡◌, ℕ, zero, suc, ◌+◌, ◌-◌, ◌<◌, ◌≤◌, List, [], ◌∷◌, ◌⊎◌, inl, inr, refl, sym, ap, ◌∙◌, subst, arith, ℤ, pos, neg_ℤ, unsigned_abs, length, drop, get_or, Option, Some, None, MatchOption}
use Rattle.std.proofs.Math.IntN.{neg_ℤ-neg_ℤ}
use Rattle.std.proofs.lemmas.Bool.{cases_lt, cases_eq}
use Rattle.mcs_base.specs.Listings.{IsAmong}
use Rattle.mcs_base.proofs.ListingLemmas.{all_from_among}
use Rattle.mcs_base.proofs.Among.{among_drop_more, none_among_drop, among_at}
use Rattle.mcs_base.proofs.Numbers.{unsigned_abs-neg_ℤ}
use Rattle.mcs_engine.specs.declared.latest.Latest.{Latest}
use Rattle.mcs_engine.specs.declared.trail.Entry.{Entry}
use Rattle.mcs_engine.specs.Learning.{IsLatestOf, IsLatest}
use Rattle.mcs_engine.specs.Trails.{literal_at, ArePlaced, AreCovered, StandsAt, StandsNowhere, IsOn, IsOnBelow, IsFalse}
use Rattle.mcs_engine.proofs.TrailLemmas.{same_place}

-- each literal of the clause below i, or none where there is none, was false at the latest place or before
abbrev pub LatestSoFar : List Entry → List ℤ → ℕ → Option Latest → Type 0
LatestSoFar es c i None = (k : ℤ) → IsAmong k c → IsAmong k (drop i c)
LatestSoFar es c i (Some l) =
    (l.place < length es) × (l.others ≤ l.place) × IsAmong (neg_ℤ (literal_at es l.place)) c × (0 < l.others → IsAmong (neg_ℤ (literal_at es (l.others - 1))) c) × ((k : ℤ) → IsAmong k c → ((k ≡ neg_ℤ (literal_at es l.place)) ⊎ IsOnBelow es l.others (neg_ℤ k)) ⊎ IsAmong k (drop i c))

pub latest-start : (es : List Entry) (c : List ℤ) → LatestSoFar es c 0 None
latest-start es c k among = among

pub covered-false : (es : List Entry) (ps : List ℕ) (c : List ℤ) → ArePlaced es ps → IsFalse es c → AreCovered ps c
covered-false es ps c placed false' = all_from_among (λ (l : ℤ). unsigned_abs l < length ps) c (λ k among.
    let (p, less, e) = false' k among in
    let same : unsigned_abs (literal_at es p) ≡ unsigned_abs k = ap unsigned_abs e ∙ unsigned_abs-neg_ℤ k in
    let within : unsigned_abs (literal_at es p) < length ps = (placed p less).1 in
    omega arith)

-- the variable of a literal that is false stands somewhere
pub false-somewhere : (es : List Entry) (k : ℤ) → IsOn es (neg_ℤ k) → StandsNowhere es (unsigned_abs k) → ⊥
false-somewhere es k (p, less, e) nowhere = nowhere p (less, ap unsigned_abs e ∙ unsigned_abs-neg_ℤ k)

-- it is the negation that stands there
false-place : (es : List Entry) (ps : List ℕ) (k : ℤ) (q : ℕ) → ArePlaced es ps → IsOn es (neg_ℤ k) → StandsAt es (unsigned_abs k) q → k ≡ neg_ℤ (literal_at es q)
false-place es ps k q placed (p, less, e) (less', size) =
    let same : p ≡ q = same_place es ps p q placed less less' (ap unsigned_abs e ∙ unsigned_abs-neg_ℤ k ∙ sym size) in
    sym (neg_ℤ-neg_ℤ k) ∙ ap neg_ℤ (sym e ∙ ap (literal_at es) same)

module _ (es : List Entry) (ps : List ℕ) (c : List ℤ) (i q : ℕ) (placed : ArePlaced es ps) (false' : IsFalse es c) (less : i < length c) (stands : StandsAt es (unsigned_abs (get_or c i (pos 0))) q) where
  abbrev here : get_or c i (pos 0) ≡ neg_ℤ (literal_at es q)
  here = false-place es ps (get_or c i (pos 0)) q placed (false' (get_or c i (pos 0)) (among_at c i (pos 0) less)) stands

  abbrev has : IsAmong (neg_ℤ (literal_at es q)) c
  has = subst (λ (k : ℤ). IsAmong k c) here (among_at c i (pos 0) less)

  pub latest-joined : (found : Option Latest) (new : Latest) → MatchOption found (new ≡ record { place = q; others = 0 }) (λ l. IsLatestOf l q new) → LatestSoFar es c i found → LatestSoFar es c (i + 1) (Some new)
  latest-joined None new e h = subst (λ (l : Latest). LatestSoFar es c (i + 1) (Some l)) (sym e) (
    stands.0,
    omega arith,
    has,
    λ some. absurd (omega arith),
    λ k among. elim ((among_drop_more c i (pos 0) less k).0 (h k among)) [
      | inl e' ↦ inl (inl (e' ∙ here))
      | inr later ↦ inr later
    ],
  )
  latest-joined (Some l) new (inl (after, place, others)) (bound, ordered, among', last, h) =
      let here' : get_or c i (pos 0) ≡ neg_ℤ (literal_at es new.place) = here ∙ ap (λ j. neg_ℤ (literal_at es j)) (sym place) in
      let before : new.others - 1 ≡ l.place = omega arith in (
        (let b = stands.0 in omega arith),
        omega arith,
        subst (λ (k : ℤ). IsAmong k c) here' (among_at c i (pos 0) less),
        λ some. subst (λ (j : ℕ). IsAmong (neg_ℤ (literal_at es j)) c) (sym before) among',
        λ k among. elim (h k among) [
          | inl (inl e) ↦ inl (inr (l.place, omega arith, sym (neg_ℤ-neg_ℤ (literal_at es l.place)) ∙ ap neg_ℤ (sym e)))
          | inl (inr (j, less', on)) ↦ inl (inr (j, omega arith, on))
          | inr rest ↦ elim ((among_drop_more c i (pos 0) less k).0 rest) [ inl e ↦ inl (inl (e ∙ here')) | inr later ↦ inr later ]
        ],
      )
  latest-joined (Some l) new (inr (inl (old, same))) (bound, ordered, among', last, h) = subst (λ (l : Latest). LatestSoFar es c (i + 1) (Some l)) (sym same) (
    bound,
    ordered,
    among',
    last,
    λ k among. elim (h k among) [
      | inl found ↦ inl found
      | inr rest ↦ elim ((among_drop_more c i (pos 0) less k).0 rest) [
        | inl e ↦ elim old [
          | inl at ↦ inl (inl (e ∙ here ∙ ap (λ j. neg_ℤ (literal_at es j)) at))
          | inr earlier ↦ inl (inr (q, earlier, sym (neg_ℤ-neg_ℤ (literal_at es q)) ∙ ap neg_ℤ (sym (e ∙ here))))
        ]
        | inr later ↦ inr later
      ]
    ],
  )
  latest-joined (Some l) new (inr (inr (before, past, place, others))) (bound, ordered, among', last, h) =
      let same : neg_ℤ (literal_at es l.place) ≡ neg_ℤ (literal_at es new.place) = ap (λ j. neg_ℤ (literal_at es j)) (sym place) in
      let at : new.others - 1 ≡ q = omega arith in (
        omega arith,
        omega arith,
        subst (λ (k : ℤ). IsAmong k c) same among',
        λ some. subst (λ (j : ℕ). IsAmong (neg_ℤ (literal_at es j)) c) (sym at) has,
        λ k among. elim (h k among) [
          | inl (inl e) ↦ inl (inl (e ∙ same))
          | inl (inr (j, less', on)) ↦ inl (inr (j, omega arith, on))
          | inr rest ↦ elim ((among_drop_more c i (pos 0) less k).0 rest) [
            | inl e ↦ inl (inr (q, omega arith, sym (neg_ℤ-neg_ℤ (literal_at es q)) ∙ ap neg_ℤ (sym (e ∙ here))))
            | inr later ↦ inr later
          ]
        ],
      )

pub latest-end : (es : List Entry) (c : List ℤ) (i : ℕ) (found : Option Latest) → length c ≤ i → LatestSoFar es c i found → MatchOption found (c ≡ []) (IsLatest es c)
latest-end es c i None past h = empty c (λ k among. none_among_drop c i k past (h k among))
  where
    empty : (xs : List ℤ) → ((k : ℤ) → IsAmong k xs → ⊥) → xs ≡ []
    empty [] none = refl
    empty (x ∷ xs) none = absurd (none x (inl refl))
latest-end es c i (Some l) past (bound, ordered, among', last, h) = record {
  here = bound;
  before = ordered;
  has = among';
  last = last;
  others = λ k among. elim (h k among) [ inl found ↦ found | inr rest ↦ absurd (none_among_drop c i k past rest) ];
}

-- ---- the latest of the literals of a clause that is false
join : (o : Option Latest) (q : ℕ) → (new : Latest) × MatchOption o (new ≡ record { place = q; others = 0 }) (λ l. IsLatestOf l q new)
join None q = (record { place = q; others = 0 }, refl)
join (Some l) q = elim (cases_lt l.place q) [
  | inl after ↦ (record { place = q; others = l.place + 1 }, inl (after, refl, refl))
  | inr past ↦ elim (cases_lt q l.others) [
    | inl earlier ↦ (l, inr (inl (inr earlier, refl)))
    | inr later ↦ elim (cases_eq q l.place) [
      | inl same ↦ (l, inr (inl (inl same, refl)))
      | inr differ ↦ (record { place = l.place; others = q + 1 }, inr (inr (omega arith, later, refl, refl)))
    ]
  ]
]

latest-below : (es : List Entry) (ps : List ℕ) (c : List ℤ) → ArePlaced es ps → IsFalse es c → (n : ℕ) → n ≤ length c → (o : Option Latest) × LatestSoFar es c n o
latest-below es ps c placed off zero bound = (None, latest-start es c)
latest-below es ps c placed off (suc n) bound =
    let (o, so_far) = latest-below es ps c placed off n (omega arith) in
    let k : ℤ = get_or c n (pos 0) in
    let less : n < length c = omega arith in
    let (q, within, e) = off k (among_at c n (pos 0) less) in
    let stands : StandsAt es (unsigned_abs k) q = (within, ap unsigned_abs e ∙ unsigned_abs-neg_ℤ k) in
    let (new, joined) = join o q in
    let up : n + 1 ≡ suc n = omega arith in
    (Some new, subst (λ (m : ℕ). LatestSoFar es c m (Some new)) up (latest-joined es ps c n q placed off less stands o new joined so_far))

pub some-latest : (es : List Entry) (ps : List ℕ) (c : List ℤ) (l : ℤ) → ArePlaced es ps → IsFalse es c → IsAmong l c → (latest : Latest) × IsLatest es c latest
some-latest es ps c l placed off among = let (o, so_far) = latest-below es ps c placed off (length c) (omega arith) in at o (latest-end es c (length c) o (omega arith) so_far)
  where
    at : (o : Option Latest) → MatchOption o (c ≡ []) (IsLatest es c) → (latest : Latest) × IsLatest es c latest
    at (Some latest) is = (latest, is)
    at None none = absurd (subst (IsAmong l) none among)
