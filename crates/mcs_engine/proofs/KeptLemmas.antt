-- What is kept of the visits of the first clauses, over whatever changes.
use Rattle.std.proofs.Common.{◌≡◌, ℕ, ◌+◌, ◌<◌, ◌≤◌, List, [], ◌∷◌, ◌++◌, ◌⊎◌, inl, inr, sym, ap, ◌∙◌, subst, arith, ℤ, neg_ℤ, unsigned_abs, length, take, Some, slice_get, w64, to_z, of_z}
use Rattle.std.proofs.lemmas.Bool.{cases_lt}
use Rattle.std.proofs.lemmas.Option.{slice_get_within}
use Rattle.mcs_base.proofs.Lists.{slice_get_push_at, slice_get_take}
use Rattle.mcs_base.proofs.Numbers.{unsigned_abs-neg_ℤ}
use Rattle.mcs_trace.specs.Clauses.{IsLiteral}
use Rattle.mcs_trace.proofs.OrderLemmas.{read_literal}
use Rattle.mcs_engine.specs.declared.state.Kept.{Kept}
use Rattle.mcs_engine.specs.declared.state.Reach.{Reach}
use Rattle.mcs_engine.specs.declared.trail.Entry.{Entry}
use Rattle.mcs_engine.specs.declared.watches.Pair.{Pair}
use Rattle.mcs_engine.specs.declared.watches.Watches.{Watches}
use Rattle.mcs_engine.specs.Pairs.{no_pair}
use Rattle.mcs_engine.specs.Trails.{ArePlaced, GrowsOnLevel, IsOn, IsOnBelow, StandsAt, StandsNowhere, literal_at}
use Rattle.mcs_engine.specs.Watching.{AreMoved, AreSpared, AreUnwatched, IsFreshPair, AreVisitsKept, IsLong, IsOf, IsReached}
use Rattle.mcs_engine.proofs.GrowLemmas.{entry-grown, neg_literal, on-grown}
use Rattle.mcs_engine.proofs.TrailLemmas.{entry-back, entry-old, on_below, same_place}
use Rattle.mcs_engine.proofs.WatchLemmas.{below_end}

-- each literal that one of the first clauses watches now it watched before, or it was not false among the first ones
abbrev pub AreMovedBelow : ℕ → List Pair → List Pair → List Entry → ℕ → Type 0
AreMovedBelow count old new es n = (i : ℕ) (p : Pair) (l : ℤ) → i < count → slice_get new i ≡ Some p → IsOf l p → ((q : Pair) × (slice_get old i ≡ Some q) × IsOf l q) ⊎ (¬ IsOnBelow es n (neg_ℤ l))

-- the first literals are as before
abbrev pub SameFront : List Entry → List Entry → ℕ → Type 0
SameFront es es' n = (p : ℕ) → p < n → literal_at es' p ≡ literal_at es p

-- the first clauses are as before
abbrev pub SameFirst : List (List ℤ) → List (List ℤ) → ℕ → Type 0
SameFirst known known' n = (i : ℕ) (c : List ℤ) → i < n → slice_get known' i ≡ Some c → slice_get known i ≡ Some c

-- each level begins later
abbrev pub AreLater : List Reach → ℕ → Type 0
AreLater levels n = (k : ℕ) (r : Reach) → slice_get levels k ≡ Some r → n ≤ r.entries

-- each long clause that watches nothing did so before
abbrev pub AreStillSpared : List (List ℤ) → List (List ℤ) → List Pair → List Pair → Type 0
AreStillSpared known known' pairs pairs' = (i : ℕ) (c : List ℤ) → slice_get known' i ≡ Some c → slice_get pairs' i ≡ Some no_pair → IsLong c → (slice_get known i ≡ Some c) × (slice_get pairs i ≡ Some no_pair)

pub kept-change : (known known' : List (List ℤ)) (w w' : Watches) (es es' : List Entry) (levels levels' : List Reach) (m : Kept) → m.count ≤ length w'.pairs → m.entries ≤ length es' → AreLater levels' m.entries → SameFirst known known' m.count → AreStillSpared known known' w.pairs w'.pairs → AreMovedBelow m.count w.pairs w'.pairs es m.visited → SameFront es es' m.entries
    → AreVisitsKept known w es levels m → AreVisitsKept known' w' es' levels' m
kept-change known known' w w' es es' levels levels' m count within early first still moved front is = record {
  count = count;
  within = within;
  bound = is.bound;
  early = early;
  visited = λ i c p l less here at literal of (q, low, e).
      let b = is.bound in
      let off : IsOnBelow es m.visited (neg_ℤ l) = (q, low, sym (front q (omega arith)) ∙ e) in
      elim (moved i p l less at of) [
        | inl (p', at', of') ↦
            let (k, among, (r, low', e')) = is.visited i c p' l less (first i c less here) at' literal of' off in
            (k, among, (r, low', front r low' ∙ e'))
        | inr opened ↦ absurd (opened off)
      ];
  spared = λ i c here at long.
      let (here', at') = still i c here at long in
      let (k, among, (r, low, e)) = is.spared i c here' at' long in
      (k, among, (r, low, front r low ∙ e));
}

-- ---- what stays
pub first-same : (known known' : List (List ℤ)) (n : ℕ) → known' ≡ known → SameFirst known known' n
first-same known known' n e i c less at = subst (λ (ks : List (List ℤ)). slice_get ks i ≡ Some c) e at

pub first-push : (known : List (List ℤ)) (d : List ℤ) (known' : List (List ℤ)) (n : ℕ) → n ≤ length known → known' ≡ known ++ d ∷ [] → SameFirst known known' n
first-push known d known' n bound e i c less at = elim (slice_get_push_at known d i c (subst (λ (ks : List (List ℤ)). slice_get ks i ≡ Some c) e at)) [
  | inl before ↦ before
  | inr (last, same) ↦ absurd (omega arith)
]

pub first-take : (known known' : List (List ℤ)) (k n : ℕ) → known' ≡ take k known → SameFirst known known' n
first-take known known' k n e i c less at = (slice_get_take k known i c (subst (λ (ks : List (List ℤ)). slice_get ks i ≡ Some c) e at)).1

pub still-same : (known known' : List (List ℤ)) (old new : List Pair) → known' ≡ known → new ≡ old → AreStillSpared known known' old new
still-same known known' old new clauses pairs i c here at long = (subst (λ (ks : List (List ℤ)). slice_get ks i ≡ Some c) clauses here, subst (λ (ps : List Pair). slice_get ps i ≡ Some no_pair) pairs at)

pub still-moved : (known : List (List ℤ)) (old new : List Pair) → AreSpared old new → AreStillSpared known known old new
still-moved known old new spared i c here at long = (here, spared i at)

-- the clauses go on
pub still-known : (known : List (List ℤ)) (d : List ℤ) (known' : List (List ℤ)) (pairs : List Pair) → length pairs ≤ length known → known' ≡ known ++ d ∷ [] → AreStillSpared known known' pairs pairs
still-known known d known' pairs few e i c here at long = elim (slice_get_push_at known d i c (subst (λ (ks : List (List ℤ)). slice_get ks i ≡ Some c) e here)) [
  | inl before ↦ (before, at)
  | inr (last, same) ↦ absurd (let less = slice_get_within pairs i no_pair at in omega arith)
]

-- the next clause watches something, or is short
pub still-push : (known : List (List ℤ)) (old new : List Pair) (q : Pair) → new ≡ old ++ q ∷ [] → ((c : List ℤ) → slice_get known (length old) ≡ Some c → q ≡ no_pair → ¬ IsLong c) → AreStillSpared known known old new
still-push known old new q e short i c here at long = elim (slice_get_push_at old q i no_pair (subst (λ (ps : List Pair). slice_get ps i ≡ Some no_pair) e at)) [
  | inl before ↦ (here, before)
  | inr (last, same) ↦ absurd (short c (sym (ap (slice_get known) last) ∙ here) (sym same) long)
]

pub still-take : (known known' : List (List ℤ)) (old new : List Pair) (k : ℕ) → known' ≡ take k known → new ≡ take k old → AreStillSpared known known' old new
still-take known known' old new k clauses pairs i c here at long = (
  (slice_get_take k known i c (subst (λ (ks : List (List ℤ)). slice_get ks i ≡ Some c) clauses here)).1,
  (slice_get_take k old i no_pair (subst (λ (ps : List Pair). slice_get ps i ≡ Some no_pair) pairs at)).1,
)

pub moved-same : (n : ℕ) (old new : List Pair) (es : List Entry) (v : ℕ) → new ≡ old → AreMovedBelow n old new es v
moved-same n old new es v e i p l less at of = inl (p, subst (λ (ps : List Pair). slice_get ps i ≡ Some p) e at, of)

pub moved-push : (n : ℕ) (old new : List Pair) (q : Pair) (es : List Entry) (v : ℕ) → n ≤ length old → new ≡ old ++ q ∷ [] → AreMovedBelow n old new es v
moved-push n old new q es v bound e i p l less at of = elim (slice_get_push_at old q i p (subst (λ (ps : List Pair). slice_get ps i ≡ Some p) e at)) [
  | inl before ↦ inl (p, before, of)
  | inr (last, same) ↦ absurd (omega arith)
]

pub moved-take : (n : ℕ) (old new : List Pair) (k : ℕ) (es : List Entry) (v : ℕ) → new ≡ take k old → AreMovedBelow n old new es v
moved-take n old new k es v e i p l less at of = inl (p, (slice_get_take k old i p (subst (λ (ps : List Pair). slice_get ps i ≡ Some p) e at)).1, of)

pub moved-below : (n : ℕ) (old new : List Pair) (es : List Entry) (v : ℕ) → v ≤ length es → AreMoved old new es → AreMovedBelow n old new es v
moved-below n old new es v bound moved i p l less at of = elim (moved i p l at of) [
  | inl before ↦ inl before
  | inr opened ↦ inr (λ below. opened (on_below es v (neg_ℤ l) bound below))
]

pub front-same : (es es' : List Entry) (n : ℕ) → es' ≡ es → SameFront es es' n
front-same es es' n e p less = ap (λ (xs : List Entry). literal_at xs p) e

pub front-grows : (level : ℕ) (es es' : List Entry) (n : ℕ) → n ≤ length es → GrowsOnLevel level es es' → SameFront es es' n
front-grows level es es' n bound grows p less = ap (λ (x : Entry). x.literal) (entry-grown level es es' p grows (omega arith))

pub front-push : (es es' : List Entry) (x : Entry) (n : ℕ) → n ≤ length es → es' ≡ es ++ x ∷ [] → SameFront es es' n
front-push es es' x n bound e p less = ap (λ (xs : List Entry). literal_at xs p) e ∙ ap (λ (y : Entry). y.literal) (entry-old es (x ∷ []) p (omega arith))

pub front-take : (es es' : List Entry) (k n : ℕ) → n ≤ k → es' ≡ take k es → SameFront es es' n
front-take es es' k n bound e p less = ap (λ (xs : List Entry). literal_at xs p) e ∙ ap (λ (y : Entry). y.literal) (entry-back es k p (omega arith))

pub later-take : (levels levels' : List Reach) (k n : ℕ) → levels' ≡ take k levels → AreLater levels n → AreLater levels' n
later-take levels levels' k n e later j r at = later j r (slice_get_take k levels j r (subst (λ (ls : List Reach). slice_get ls j ≡ Some r) e at)).1

pub later-same : (levels levels' : List Reach) (n : ℕ) → levels' ≡ levels → AreLater levels n → AreLater levels' n
later-same levels levels' n e later j r at = later j r (subst (λ (ls : List Reach). slice_get ls j ≡ Some r) e at)

pub later-push : (levels levels' : List Reach) (q : Reach) (n : ℕ) → n ≤ q.entries → levels' ≡ levels ++ q ∷ [] → AreLater levels n → AreLater levels' n
later-push levels levels' q n bound e later j r at = elim (slice_get_push_at levels q j r (subst (λ (ls : List Reach). slice_get ls j ≡ Some r) e at)) [
  | inl before ↦ later j r before
  | inr (last, same) ↦ subst (λ (x : Reach). n ≤ x.entries) (sym same) bound
]

pub later-none : (levels : List Reach) (n : ℕ) → levels ≡ [] → AreLater levels n
later-none levels n none k r at = absurd (let less = slice_get_within levels k r at in omega (arith, ap length none))

-- ---- what is watched now
pub moved-none : (pairs : List Pair) (es : List Entry) → AreMoved pairs pairs es
moved-none pairs es i p l at of = inl (p, at, of)

pub moved-list : (old new : List Pair) (es : List Entry) → new ≡ old → AreMoved old new es
moved-list old new es e i p l at of = inl (p, subst (λ (ps : List Pair). slice_get ps i ≡ Some p) e at, of)

pub spared-none : (pairs : List Pair) → AreSpared pairs pairs
spared-none pairs i at = at

pub spared-list : (old new : List Pair) → new ≡ old → AreSpared old new
spared-list old new e i at = subst (λ (ps : List Pair). slice_get ps i ≡ Some no_pair) e at

pub spared-then : (a b c : List Pair) → AreSpared a b → AreSpared b c → AreSpared a c
spared-then a b c first second i at = first i (second i at)

pub moved-then : (level : ℕ) (a b c : List Pair) (es es' : List Entry) → GrowsOnLevel level es es' → AreMoved a b es → AreMoved b c es' → AreMoved a c es
moved-then level a b c es es' grows first second i p l at of = elim (second i p l at of) [
  | inl (q, at', of') ↦ first i q l at' of'
  | inr opened ↦ inr (λ on. opened (on-grown level es es' (neg_ℤ l) grows on))
]

-- ---- nothing is kept
pub kept-none : (known : List (List ℤ)) (w : Watches) (es : List Entry) (levels : List Reach) (m : Kept) → m ≡ record { count = 0; entries = 0; visited = 0 } → w.pairs ≡ [] → AreVisitsKept known w es levels m
kept-none known w es levels m none empty = subst (AreVisitsKept known w es levels) (sym none) (record {
  count = omega arith;
  within = omega arith;
  bound = omega arith;
  early = λ k r at. omega arith;
  visited = λ i c p l less. absurd (omega arith);
  spared = λ i c here at. absurd (let less = slice_get_within w.pairs i no_pair at in omega (arith, ap length empty));
})

-- ---- all is kept that was visited
pub kept-now : (known : List (List ℤ)) (w : Watches) (es : List Entry) (levels : List Reach) (v s : ℕ) (m : Kept) → levels ≡ [] → v ≤ length es → IsReached known w es (record { entries = length es; visited = v; settled = s }) → AreVisitsKept known w es levels m → AreVisitsKept known w es levels (record { count = length w.pairs; entries = length es; visited = v })
kept-now known w es levels v s m none bound is before = record {
  count = omega arith;
  within = omega arith;
  bound = bound;
  early = later-none levels (length es) none;
  visited = λ i c p l less here at literal of off. is.visited i c p l here at literal of off;
  spared = λ i c here at long.
      let within = before.within in
      let (k, among, (r, low, e)) = before.spared i c here at long in
      (k, among, (r, omega arith, e));
}

-- ---- literals that were not false among the first ones
not-below : (es : List Entry) (n : ℕ) (l : ℤ) → IsLiteral l → ((q : ℕ) → q < n → q < length es → literal_at es q ≡ neg_ℤ l → ⊥) → ¬ IsOnBelow es n (neg_ℤ l)
not-below es n l literal none below =
    let (q, less, e) = below_end es n (neg_ℤ l) (neg_literal l literal) below in
    none q (omega arith) (omega arith) e

pub past-not_below : (es : List Entry) (ps : List ℕ) (n : ℕ) (l : ℤ) → ArePlaced es ps → IsLiteral l → length ps ≤ unsigned_abs l → ¬ IsOnBelow es n (neg_ℤ l)
past-not_below es ps n l placed literal past = not-below es n l literal (λ q less here e.
    let within = (placed q here).1 in
    let same : unsigned_abs (literal_at es q) ≡ unsigned_abs l = ap unsigned_abs e ∙ unsigned_abs-neg_ℤ l in
    omega arith)

pub open-not_below : (es : List Entry) (n : ℕ) (l : ℤ) → IsLiteral l → ¬ IsOn es (neg_ℤ l) → ¬ IsOnBelow es n (neg_ℤ l)
open-not_below es n l literal opened = not-below es n l literal (λ q less here e. opened (q, here, e))

pub free-not_below : (es : List Entry) (n : ℕ) (l : ℤ) → IsLiteral l → StandsNowhere es (unsigned_abs l) → ¬ IsOnBelow es n (neg_ℤ l)
free-not_below es n l literal free = not-below es n l literal (λ q less here e. free q (here, ap unsigned_abs e ∙ unsigned_abs-neg_ℤ l))

pub placed-not_below : (es : List Entry) (ps : List ℕ) (n p : ℕ) (l : ℤ) → ArePlaced es ps → IsLiteral l → StandsAt es (unsigned_abs l) p → n ≤ p → ¬ IsOnBelow es n (neg_ℤ l)
placed-not_below es ps n p l placed literal (within, is) low = not-below es n l literal (λ q less here e.
    let same : q ≡ p = same_place es ps q p placed here within (ap unsigned_abs e ∙ unsigned_abs-neg_ℤ l ∙ sym is) in
    omega arith)

pub fewer-not_below : (es : List Entry) (n m : ℕ) (l : ℤ) → m ≤ n → ¬ IsOnBelow es n (neg_ℤ l) → ¬ IsOnBelow es m (neg_ℤ l)
fewer-not_below es n m l low none (q, less, e) = none (q, omega arith, e)

-- one more clause is looked at
pub unwatched-more : (es : List Entry) (pairs : List Pair) (from index m n n' : ℕ) (p : Pair) → slice_get pairs index ≡ Some p → n ≤ m → n' ≤ n → (IsLiteral p.first → ¬ IsOnBelow es n (neg_ℤ p.first)) → (IsLiteral p.second → ¬ IsOnBelow es n' (neg_ℤ p.second)) → AreUnwatched es pairs from index m → AreUnwatched es pairs from (index + 1) n'
unwatched-more es pairs from index m n n' p here low low' first second before i q l after less at literal of = elim (cases_lt i index) [
  | inl earlier ↦ fewer-not_below es m n' l (omega arith) (before i q l after earlier at literal of)
  | inr past ↦
      let last : i ≡ index = omega arith in
      let both : Some q ≡ Some p = sym at ∙ ap (slice_get pairs) last ∙ here in
      let same : q ≡ p = cc in
      elim of [
        | inl e ↦
            let is : p.first ≡ l = sym (ap (λ (x : Pair). x.first) same) ∙ e in
            fewer-not_below es n n' l low' (subst (λ (k : ℤ). ¬ IsOnBelow es n (neg_ℤ k)) is (first (subst IsLiteral (sym is) literal)))
        | inr e ↦
            let is : p.second ≡ l = sym (ap (λ (x : Pair). x.second) same) ∙ e in
            subst (λ (k : ℤ). ¬ IsOnBelow es n' (neg_ℤ k)) is (second (subst IsLiteral (sym is) literal))
      ]
]

-- neither literal of a pair was false among the first ones
pub fresh-pair : (es : List Entry) (a n : ℕ) (p : Pair) → IsLiteral p.first → IsLiteral p.second → n ≤ a → (IsLiteral p.first → ¬ IsOnBelow es a (neg_ℤ p.first)) → (IsLiteral p.second → ¬ IsOnBelow es n (neg_ℤ p.second)) → IsFreshPair es n (Some p)
fresh-pair es a n p literal literal' low first second l of = elim of [
  | inl e ↦ subst (λ (k : ℤ). ¬ IsOnBelow es n (neg_ℤ k)) e (fewer-not_below es a n p.first low (first literal))
  | inr e ↦ subst (λ (k : ℤ). ¬ IsOnBelow es n (neg_ℤ k)) e (second literal')
]

-- as the code reads a literal
pub as-read : (es : List Entry) (n : ℕ) (l : ℤ) → (IsLiteral (to_z w64 (of_z w64 l)) → ¬ IsOnBelow es n (neg_ℤ (to_z w64 (of_z w64 l)))) → IsLiteral l → ¬ IsOnBelow es n (neg_ℤ l)
as-read es n l none literal = subst (λ (k : ℤ). ¬ IsOnBelow es n (neg_ℤ k)) (read_literal l literal) (none (subst IsLiteral (sym (read_literal l literal)) literal))
