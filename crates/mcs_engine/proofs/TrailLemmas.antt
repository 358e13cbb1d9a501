-- Trails that grow and are taken back, and the values of literals.
use Rattle.std.proofs.Common.{◌≡◌, ℕ, ◌+◌, ◌^◌, ◌<◌, ◌≤◌, List, [], ◌∷◌, ◌++◌, ◌⊎◌, ◌↔◌, inl, inr, refl, sym, ap, ◌∙◌, subst, arith, ℤ, pos, neg_ℤ, unsigned_abs, length, length-append, take, get_or, Option, Some, None, MatchOption, Bool, true, false, IsTrue, is_some, unwrap_or, true≢false}
use Rattle.std.specs.Bool.{MatchBool}
use Rattle.std.proofs.lemmas.Bool.{cases_lt}
use Rattle.std.proofs.lemmas.List.{get_or_append_left, get_or_push, get_or-take, length_push, length-take, get_or_read}
use Rattle.mcs_base.specs.Listings.{IsAmong}
use Rattle.mcs_base.proofs.Among.{among_at}
use Rattle.mcs_base.proofs.Distinct.{covers_below}
use Rattle.mcs_base.proofs.Numbers.{unsigned_abs-neg_ℤ}
use Rattle.mcs_trace.specs.Clauses.{IsClause, IsLiteral}
use Rattle.mcs_trace.specs.Traces.{numbered_clause}
use Rattle.mcs_trace.proofs.OrderLemmas.{neg_differs}
use Rattle.mcs_engine.specs.declared.trail.Entry.{Entry}
use Rattle.mcs_engine.specs.Trails.{literal_at, reason_at, AreAssigned, ArePlaced, StandsAt, StandsNowhere, IsOn, IsOnBelow, IsReason, AreExplained}
use Rattle.mcs_engine.proofs.KnownLemmas.{numbered-more}

abbrev pub entry_at : List Entry → ℕ → Entry
entry_at entries i = get_or entries i (record { literal = pos 0; reason = 0; level = 0 })

pub entry-old : (es more : List Entry) (i : ℕ) → i < length es → entry_at (es ++ more) i ≡ entry_at es i
entry-old es more i less = get_or_append_left es more (record { literal = pos 0; reason = 0; level = 0 }) i less

pub entry-new : (es : List Entry) (e : Entry) → entry_at (es ++ e ∷ []) (length es) ≡ e
entry-new es e = get_or_push es e (record { literal = pos 0; reason = 0; level = 0 }) (length es) refl

pub entry-back : (es : List Entry) (n i : ℕ) → i < n → entry_at (take n es) i ≡ entry_at es i
entry-back es n i less = get_or-take n es i (record { literal = pos 0; reason = 0; level = 0 }) less

-- what the code reads at a place
pub entry-read : (es : List Entry) (i : ℕ) (e : Entry) → i < length es → e ≡ get_or es i e → e ≡ entry_at es i
entry-read es i e less is = get_or_read es i e less is (record { literal = pos 0; reason = 0; level = 0 })

pub literal-read : (es : List Entry) (i : ℕ) (e : Entry) → i < length es → e ≡ get_or es i e → e.literal ≡ literal_at es i
literal-read es i e less is = ap (λ (x : Entry). x.literal) (entry-read es i e less is)

pub reason-read : (es : List Entry) (i : ℕ) (e : Entry) → i < length es → e ≡ get_or es i e → e.reason ≡ reason_at es i
reason-read es i e less is = ap (λ (x : Entry). x.reason) (entry-read es i e less is)

-- ---- literals that stay true
pub below-same : (es es' : List Entry) (n : ℕ) (k : ℤ) → ((j : ℕ) → j < n → entry_at es' j ≡ entry_at es j) → IsOnBelow es n k → IsOnBelow es' n k
below-same es es' n k same (p, less, e) = (p, less, ap (λ (x : Entry). x.literal) (same p less) ∙ e)

pub on-more : (es more : List Entry) (k : ℤ) → IsOn es k → IsOn (es ++ more) k
on-more es more k (p, less, e) = (p, omega (arith, length-append es more), ap (λ (x : Entry). x.literal) (entry-old es more p less) ∙ e)

pub on_below : (es : List Entry) (n : ℕ) (k : ℤ) → n ≤ length es → IsOnBelow es n k → IsOn es k
on_below es n k bound (p, less, e) = (p, omega arith, e)

pub on-back : (es : List Entry) (n : ℕ) (k : ℤ) → n ≤ length es → IsOnBelow es n k → IsOn (take n es) k
on-back es n k bound (p, less, e) = (p, omega (arith, length-take n es), ap (λ (x : Entry). x.literal) (entry-back es n p less) ∙ e)

-- ---- reasons
-- what the reason of an implied literal is
pub reason_of : (known : List (List ℤ)) (es : List Entry) (p : ℕ) → AreExplained known es → p < length es → (reason_at es p ≡ 0 → ⊥) → (c : List ℤ) × (numbered_clause known (reason_at es p) ≡ Some c) × IsReason es p c
reason_of known es p explained less decided = elim (explained p less) [ inl none ↦ absurd (decided none) | inr found ↦ found ]

reason-same : (es es' : List Entry) (i : ℕ) (c : List ℤ) → ((j : ℕ) → j ≤ i → entry_at es' j ≡ entry_at es j) → IsReason es i c → IsReason es' i c
reason-same es es' i c same r =
    let here : literal_at es' i ≡ literal_at es i = ap (λ (x : Entry). x.literal) (same i (omega arith)) in
    record {
      clause = r.clause;
      has = subst (λ (l : ℤ). IsAmong l c) (sym here) r.has;
      others = λ k among. elim (r.others k among) [
        | inl e ↦ inl (e ∙ sym here)
        | inr below ↦ inr (below-same es es' i (neg_ℤ k) (λ j less. same j (omega arith)) below)
      ];
    }

explained-same : (known : List (List ℤ)) (es es' : List Entry) (i : ℕ) → ((j : ℕ) → j ≤ i → entry_at es' j ≡ entry_at es j)
    → (reason_at es i ≡ 0) ⊎ ((c : List ℤ) × (numbered_clause known (reason_at es i) ≡ Some c) × IsReason es i c)
    → (reason_at es' i ≡ 0) ⊎ ((c : List ℤ) × (numbered_clause known (reason_at es' i) ≡ Some c) × IsReason es' i c)
explained-same known es es' i same (inl e) = inl (ap (λ (x : Entry). x.reason) (same i (omega arith)) ∙ e)
explained-same known es es' i same (inr (c, e, r)) = inr (c, ap (λ (x : Entry). numbered_clause known x.reason) (same i (omega arith)) ∙ e, reason-same es es' i c same r)

pub explained-back : (known : List (List ℤ)) (es : List Entry) (n : ℕ) → AreExplained known es → AreExplained known (take n es)
explained-back known es n h i less =
    let bound : length (take n es) ≤ n = omega (arith, length-take n es) in
    let bound' : length (take n es) ≤ length es = omega (arith, length-take n es) in
    explained-same known es (take n es) i (λ j at_most. entry-back es n j (omega arith)) (h i (omega arith))

-- what an entry with a reason has
abbrev pub IsForced : List (List ℤ) → List Entry → Entry → Type 0
IsForced known es e = (c : List ℤ) × (numbered_clause known e.reason ≡ Some c) × IsClause c × IsAmong e.literal c × ((k : ℤ) → IsAmong k c → (k ≡ e.literal) ⊎ IsOn es (neg_ℤ k))

pub explained-push : (known : List (List ℤ)) (es : List Entry) (e : Entry) → AreExplained known es → (e.reason ≡ 0) ⊎ IsForced known es e → AreExplained known (es ++ e ∷ [])
explained-push known es e h new i less = elim (cases_lt i (length es)) [
  | inl old ↦ explained-same known es (es ++ e ∷ []) i (λ j at_most. entry-old es (e ∷ []) j (omega arith)) (h i old)
  | inr past ↦ last i (omega (arith, length_push es e)) new
]
  where
    last : (i : ℕ) → i ≡ length es → (e.reason ≡ 0) ⊎ IsForced known es e → (reason_at (es ++ e ∷ []) i ≡ 0) ⊎ ((c : List ℤ) × (numbered_clause known (reason_at (es ++ e ∷ []) i) ≡ Some c) × IsReason (es ++ e ∷ []) i c)
    last i at (inl none) = inl (ap (reason_at (es ++ e ∷ [])) at ∙ ap (λ (x : Entry). x.reason) (entry-new es e) ∙ none)
    last i at (inr (c, is, clause, has, others)) =
        let same : entry_at (es ++ e ∷ []) i ≡ e = ap (entry_at (es ++ e ∷ [])) at ∙ entry-new es e in
        let here : literal_at (es ++ e ∷ []) i ≡ e.literal = ap (λ (x : Entry). x.literal) same in
        inr (
          c,
          ap (λ (x : Entry). numbered_clause known x.reason) same ∙ is,
          record {
            clause = clause;
            has = subst (λ (l : ℤ). IsAmong l c) (sym here) has;
            others = λ k among. elim (others k among) [
              | inl e' ↦ inl (e' ∙ sym here)
              | inr (p, less, on) ↦ inr (p, omega arith, ap (λ (x : Entry). x.literal) (entry-old es (e ∷ []) p less) ∙ on)
            ];
          },
        )

pub explained-known : (known more : List (List ℤ)) (es : List Entry) → AreExplained known es → AreExplained (known ++ more) es
explained-known known more es h i less = elim (h i less) [
  | inl e ↦ inl e
  | inr (c, e, r) ↦ inr (c, numbered-more known more (reason_at es i) c e, r)
]

-- ---- places
pub placed-back : (es : List Entry) (ps : List ℕ) (n : ℕ) → ArePlaced es ps → ArePlaced (take n es) ps
placed-back es ps n h i less =
    let bound : length (take n es) ≤ n = omega (arith, length-take n es) in
    let bound' : length (take n es) ≤ length es = omega (arith, length-take n es) in
    let same : literal_at (take n es) i ≡ literal_at es i = ap (λ (x : Entry). x.literal) (entry-back es n i (omega arith)) in
    subst (λ (l : ℤ). IsLiteral l × (unsigned_abs l < length ps) × (get_or ps (unsigned_abs l) 0 ≡ i)) (sym same) (h i (omega arith))

-- there is a place for one more variable
pub placed-more : (es : List Entry) (ps : List ℕ) → ArePlaced es ps → ArePlaced es (ps ++ 0 ∷ [])
placed-more es ps is i less =
    let (literal, within, at) = is i less in
    (literal, omega (arith, length_push ps 0), get_or_append_left ps (0 ∷ []) 0 (unsigned_abs (literal_at es i)) within ∙ at)

-- there are no more literals than places
pub placed-most : (es : List Entry) (ps : List ℕ) → ArePlaced es ps → length es ≤ length ps
placed-most es ps h = covers_below (length es) ps (λ i less. let (literal, within, at) = h i less in subst (λ (x : ℕ). IsAmong x ps) at (among_at ps (unsigned_abs (literal_at es i)) 0 within))

-- ---- values
-- what is false is a literal
pub off-literal : (es : List Entry) (ps : List ℕ) (l : ℤ) → ArePlaced es ps → IsOn es (neg_ℤ l) → IsLiteral l
off-literal es ps l placed (p, less, e) = subst (λ (n : ℕ). (0 < n) × (n < 2 ^ 63)) (ap unsigned_abs e ∙ unsigned_abs-neg_ℤ l) (placed p less).0

-- a variable stands at one place
pub same_place : (es : List Entry) (ps : List ℕ) (i j : ℕ) → ArePlaced es ps → i < length es → j < length es → unsigned_abs (literal_at es i) ≡ unsigned_abs (literal_at es j) → i ≡ j
same_place es ps i j placed less less' e = sym (placed i less).2 ∙ ap (λ n. get_or ps n 0) e ∙ (placed j less').2

-- no literal is on with its negation
pub not_both_on : (es : List Entry) (ps : List ℕ) (k : ℤ) → ArePlaced es ps → IsOn es k → IsOn es (neg_ℤ k) → ⊥
not_both_on es ps k placed (i, less, e) (j, less', e') =
    let sizes : unsigned_abs (literal_at es i) ≡ unsigned_abs (literal_at es j) = ap unsigned_abs e ∙ sym (unsigned_abs-neg_ℤ k) ∙ sym (ap unsigned_abs e') in
    let same : i ≡ j = same_place es ps i j placed less less' sizes in
    let k-is : k ≡ neg_ℤ k = sym e ∙ ap (literal_at es) same ∙ e' in
    neg_differs k (subst IsLiteral e (placed i less).0) k-is

pub true-is_on : (es : List Entry) (ps : List ℕ) (l : ℤ) (o : Option Bool) (b : Bool) → b ≡ unwrap_or o false → ArePlaced es ps
    → MatchOption o (StandsNowhere es (unsigned_abs l)) (λ v. MatchBool v (IsOn es l) (IsOn es (neg_ℤ l))) → IsTrue b ↔ IsOn es l
true-is_on es ps l None b e placed nowhere = (
  λ yes. absurd (true≢false (sym yes ∙ e)),
  λ (p, less, at). absurd (nowhere p (less, ap unsigned_abs at)),
)
true-is_on es ps l (Some true) b e placed on = (λ yes. on, λ on'. e)
true-is_on es ps l (Some false) b e placed off = (
  λ yes. absurd (true≢false (sym yes ∙ e)),
  λ on. absurd (not_both_on es ps l placed on off),
)

-- ---- variables that stand somewhere
pub assigned-more : (es : List Entry) (from i : ℕ) (o : Option ℕ) → AreAssigned es from i → is_some o ≡ true → MatchOption o (StandsNowhere es i) (StandsAt es i) → AreAssigned es from (i + 1)
assigned-more es from i None h some at v low less = absurd (cc)
assigned-more es from i (Some p) h some at v low less = elim (cases_lt v i) [
  | inl before ↦ h v low before
  | inr past ↦ let same : i ≡ v = omega arith in (p, subst (λ (w : ℕ). StandsAt es w p) same at)
]
