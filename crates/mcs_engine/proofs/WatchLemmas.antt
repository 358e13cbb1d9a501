-- Lists of what watches a literal, and pairs that are watched.
use Rattle.std.proofs.Common.{◌≡◌, ◌≢◌, ℕ, ◌+◌, ◌-◌, ◌<◌, ◌≤◌, min, ◌⊎◌, ◌↔◌, inl, inr, List, [], ◌∷◌, ◌++◌, refl, sym, ap, ◌∙◌, subst, arith, ℤ, pos, neg_ℤ, unsigned_abs, length, get_or, set, swap_remove, Some, Result, Ok, Err, OnOk, OnErr, slice_get}
use Rattle.std.specs.List.{AllByRecursion}
use Rattle.std.proofs.lemmas.Bool.{cases_eq, cases_lt}
use Rattle.std.proofs.lemmas.List.{get_or_past, length-set, length-take}
use Rattle.std.proofs.lemmas.List.Sorted.{IsPermutation-swap_remove}
use Rattle.std.proofs.lemmas.Option.{get_or_from_slice_get, slice_get_within}
use Rattle.std.proofs.Math.IntN.{neg_ℤ-neg_ℤ}
use Rattle.mcs_base.specs.Listings.{IsAmong}
use Rattle.mcs_base.proofs.Among.{among_permutation, among_push, get_among}
use Rattle.mcs_base.proofs.Each.{all_among, all_get}
use Rattle.mcs_base.proofs.Lists.{slice_get_below}
use Rattle.mcs_base.proofs.Written.{slice_get_set, slice_get-set_other, slice_get-take}
use Rattle.mcs_trace.specs.Clauses.{IsClause, IsLiteral, place}
use Rattle.mcs_trace.proofs.OrderLemmas.{place-injective}
use Rattle.mcs_engine.specs.declared.lists.Lists.{Lists}
use Rattle.mcs_engine.specs.declared.state.Reach.{Reach}
use Rattle.mcs_engine.specs.declared.trail.Entry.{Entry}
use Rattle.mcs_engine.specs.declared.watches.Pair.{Pair}
use Rattle.mcs_engine.specs.declared.watches.Watches.{Watches}
use Rattle.mcs_engine.specs.Lists.{ChangesAt, IsInList, KeepsLists, list_at}
use Rattle.mcs_engine.specs.Pairs.{no_pair}
use Rattle.mcs_engine.specs.Trails.{GrowsOnLevel, IsOn, IsOnBelow, IsClauseSatisfied, IsSatisfiedBelow, literal_at}
use Rattle.mcs_engine.specs.Watching.{AreMoved, ArePair, AreSpared, AreVisited, AreWatched, IsLong, IsOf, IsPaired, IsPairOf, IsReached}
use Rattle.mcs_engine.proofs.GrowLemmas.{entry-grown, grows-longer, satisfied-grown}
use Rattle.mcs_engine.proofs.TrailLemmas.{below-same}

-- ---- what is read after one is taken out
module _ {A : Type 0} where
  -- one is taken out, and the last one takes its place
  pub slice_get-swap_remove : (xs : List A) (i : ℕ) (d : A) (j : ℕ) → i < length xs → j < i → slice_get (swap_remove xs i d) j ≡ slice_get xs j
  slice_get-swap_remove xs i d j within less =
      slice_get-take (length xs - 1) (set xs i (get_or xs (length xs - 1) d)) j (omega arith) ∙ slice_get-set_other xs i j (get_or xs (length xs - 1) d) (λ e. absurd (omega arith))

  pub among_swap_remove : (xs : List A) (i : ℕ) (x k : A) → i < length xs → x ≡ get_or xs i x → IsAmong k xs → k ≢ x → IsAmong k (swap_remove xs i x)
  among_swap_remove xs i x k within is among differ = elim ((among_permutation xs (x ∷ swap_remove xs i x) (IsPermutation-swap_remove xs i x within is) k).1 among) [
    | inl e ↦ absurd (differ e)
    | inr rest ↦ rest
  ]

-- ---- lists
-- one more in the list of a place
module _ (old new : Lists) (p index : ℕ) (more : ChangesAt (list_at old) (list_at new) p (list_at old p ++ index ∷ [])) where
  pub listed-kept : (l : ℤ) (i : ℕ) → IsInList old l i → IsInList new l i
  listed-kept l i listed = elim (cases_eq (place l) p) [
    | inl here ↦ subst (IsAmong i) (sym (ap (list_at new) here ∙ more.here)) ((among_push i (list_at old p) index).1 (inl (subst (λ (q : ℕ). IsAmong i (list_at old q)) here listed)))
    | inr differ ↦ subst (IsAmong i) (sym (more.others (place l) differ)) listed
  ]

  pub listed-more : (l : ℤ) → place l ≡ p → IsInList new l index
  listed-more l here = subst (IsAmong index) (sym (ap (list_at new) here ∙ more.here)) ((among_push index (list_at old p) index).1 (inr refl))

-- the same lists
listed-same : (old new : Lists) → ((p : ℕ) → list_at new p ≡ list_at old p) → (l : ℤ) (i : ℕ) → IsInList old l i → IsInList new l i
listed-same old new same l i = subst (IsAmong i) (sym (same (place l)))

-- one more, or the same
pub listed-after : {E : Type 0} (r : Result (Unit {0}) E) (old new : Lists) (p index : ℕ) → OnOk r (ChangesAt (list_at old) (list_at new) p (list_at old p ++ index ∷ [])) → OnErr r ((q : ℕ) → list_at new q ≡ list_at old q)
    → KeepsLists old new
listed-after (Ok done) old new p index more same = record { listed = listed-kept old new p index more }
listed-after (Err error) old new p index more same = record { listed = listed-same old new same }

pub others-after : {E : Type 0} (r : Result (Unit {0}) E) (old new : Lists) (p : ℕ) (xs : List ℕ) → OnOk r (ChangesAt (list_at old) (list_at new) p xs) → OnErr r ((q : ℕ) → list_at new q ≡ list_at old q) → (q : ℕ) → q ≢ p → list_at new q ≡ list_at old q
others-after (Ok done) old new p xs more same q differ = more.others q differ
others-after (Err error) old new p xs more same q differ = same q

-- ---- pairs
pub no-pair : (l : ℤ) → IsLiteral l → IsOf l no_pair → ⊥
no-pair l literal (inl e) = let size = ap unsigned_abs e in let some = literal.0 in omega arith
no-pair l literal (inr e) = let size = ap unsigned_abs e in let some = literal.0 in omega arith

pub pair-long : (c : List ℤ) (q : Pair) → ArePair c q → IsLong c
pair-long [] q pair = absurd pair.first
pair-long (x ∷ []) q pair = elim pair.first [ inl e ↦ elim pair.second [ inl e' ↦ absurd (pair.differ (e ∙ sym e')) | inr none ↦ absurd none ] | inr none ↦ absurd none ]
pair-long (x ∷ y ∷ c) q pair = omega arith

-- where a literal stands, the pair is one of the clause
pub some-pair : (c : List ℤ) (p : Pair) (l : ℤ) → IsLiteral l → IsOf l p → IsPaired c p → ArePair c p
some-pair c p l literal of (inl none) = absurd (no-pair l literal (subst (IsOf l) none of))
some-pair c p l literal of (inr two) = two

-- ---- what a clause watches
-- the clause of the index watches the literal and the other one
pub record IsWatching (known : List (List ℤ)) (w : Watches) (i : ℕ) (c : List ℤ) (l other : ℤ) : Type 0 where
  pub has : IsAmong l c
  pub has_other : IsAmong other c
  pub differ : other ≢ l
  pub of_other : (p : Pair) → slice_get w.pairs i ≡ Some p → IsOf other p

pub watching : (known : List (List ℤ)) (w : Watches) (i : ℕ) (c : List ℤ) (p : Pair) (l other : ℤ) → AreWatched known w → IsLiteral l → slice_get known i ≡ Some c → slice_get w.pairs i ≡ Some p → IsPairOf p l other → IsWatching known w i c l other
watching known w i c p l other watched literal is at pair = by pair
  where
    same : (q : Pair) → slice_get w.pairs i ≡ Some q → p ≡ q
    same q at' = let both : Some p ≡ Some q = sym at ∙ at' in cc

    by : IsPairOf p l other → IsWatching known w i c l other
    by (inl (first, second)) =
        let two : ArePair c p = some-pair c p l literal (inl first) (watched.paired i c p is at) in
        record {
          has = subst (λ (k : ℤ). IsAmong k c) first two.first;
          has_other = subst (λ (k : ℤ). IsAmong k c) second two.second;
          differ = λ e. two.differ (first ∙ sym e ∙ sym second);
          of_other = λ q at'. subst (IsOf other) (same q at') (inr second);
        }
    by (inr (second, first)) =
        let two : ArePair c p = some-pair c p l literal (inr second) (watched.paired i c p is at) in
        record {
          has = subst (λ (k : ℤ). IsAmong k c) second two.second;
          has_other = subst (λ (k : ℤ). IsAmong k c) first two.first;
          differ = λ e. two.differ (first ∙ e ∙ sym second);
          of_other = λ q at'. subst (IsOf other) (same q at') (inl first);
        }

-- the clause of an index that has a pair
pub watched_at : (known : List (List ℤ)) (w : Watches) (i : ℕ) → AreWatched known w → i < length w.pairs → (c : List ℤ) × (slice_get known i ≡ Some c)
watched_at known w i watched less = slice_get_below known i (let sized = watched.sized in omega arith)

-- ---- lists that grow
pub watched-list : (known : List (List ℤ)) (w w' : Watches) → AreWatched known w → w'.pairs ≡ w.pairs → w'.short.items ≡ w.short.items
    → KeepsLists w.lists w'.lists → AreWatched known w'
watched-list known w w' watched pairs short kept = record {
  sized = (let sized = watched.sized in omega (arith, ap length pairs));
  paired = λ i c p is at. watched.paired i c p is (sym (ap (λ (ps : List Pair). slice_get ps i) pairs) ∙ at);
  listed = λ i p l at literal of. kept.listed l i (watched.listed i p l (sym (ap (λ (ps : List Pair). slice_get ps i) pairs) ∙ at) literal of);
  short = λ i c less is few. subst (IsAmong i) (sym short) (watched.short i c (omega (arith, ap length pairs)) is few);
}

pub reached-list : (known : List (List ℤ)) (w w' : Watches) (es : List Entry) (r : Reach) → w'.pairs ≡ w.pairs → w'.short.items ≡ w.short.items → IsReached known w es r → IsReached known w' es r
reached-list known w w' es r pairs short h = record {
  visited = λ i c p l is at. h.visited i c p l is (sym (ap (λ (ps : List Pair). slice_get ps i) pairs) ∙ at);
  settled = λ j i c less at. h.settled j i c less (sym (ap (λ (xs : List ℕ). slice_get xs j) short) ∙ at);
}

-- ---- a pair that is replaced
module _ (known : List (List ℤ)) (w w' : Watches) (i : ℕ) (c : List ℤ) (q : Pair) (is : slice_get known i ≡ Some c) (pairs : w'.pairs ≡ set w.pairs i q) (short : w'.short.items ≡ w.short.items) where
  -- the pair of an index is the new one, or as before
  pair_cases : (j : ℕ) (p : Pair) → slice_get w'.pairs j ≡ Some p → ((j ≡ i) × (p ≡ q)) ⊎ (slice_get w.pairs j ≡ Some p)
  pair_cases j p at = elim (cases_eq j i) [
    | inl e ↦ inl (e, slice_get_set w.pairs i q p (subst (λ (k : ℕ). slice_get (set w.pairs i q) k ≡ Some p) e (sym (ap (λ (ps : List Pair). slice_get ps j) pairs) ∙ at)))
    | inr differ ↦ inr (sym (slice_get-set_other w.pairs i j q differ) ∙ sym (ap (λ (ps : List Pair). slice_get ps j) pairs) ∙ at)
  ]

  pub watched-move : AreWatched known w → w'.lists ≡ w.lists → ArePair c q → ((l : ℤ) → IsLiteral l → IsOf l q → IsInList w.lists l i) → AreWatched known w'
  watched-move watched lists two listed = record {
    sized = (let sized = watched.sized in omega (arith, ap length pairs, length-set w.pairs i q));
    paired = λ j d p is' at. elim (pair_cases j p at) [
      | inl (e, e') ↦
          let both : Some c ≡ Some d = sym is ∙ ap (slice_get known) (sym e) ∙ is' in
          let same : c ≡ d = cc in
          subst (λ (x : List ℤ). IsPaired x p) same (subst (IsPaired c) (sym e') (inr two))
      | inr old ↦ watched.paired j d p is' old
    ];
    listed = λ j p l at literal of. subst (λ (ls : Lists). IsInList ls l j) (sym lists) (elim (pair_cases j p at) [
      | inl (e, e') ↦ subst (IsInList w.lists l) (sym e) (listed l literal (subst (IsOf l) e' of))
      | inr old ↦ watched.listed j p l old literal of
    ]);
    short = λ j d less is' few. subst (IsAmong j) (sym short) (watched.short j d (omega (arith, ap length pairs, length-set w.pairs i q)) is' few);
  }

  pub reached-move : (es : List Entry) (r : Reach) → IsReached known w es r → ((l : ℤ) → IsLiteral l → IsOf l q → IsOnBelow es r.visited (neg_ℤ l) → IsSatisfiedBelow es r.entries c) → IsReached known w' es r
  reached-move es r h new = record {
    visited = λ j d p l is' at literal of below. elim (pair_cases j p at) [
      | inl (e, e') ↦
          let both : Some c ≡ Some d = sym is ∙ ap (slice_get known) (sym e) ∙ is' in
          let same : c ≡ d = cc in
          subst (IsSatisfiedBelow es r.entries) same (new l literal (subst (IsOf l) e' of) below)
      | inr old ↦ h.visited j d p l is' old literal of below
    ];
    settled = λ k j d less at. h.settled k j d less (sym (ap (λ (xs : List ℕ). slice_get xs k) short) ∙ at);
  }

-- what is watched now
pub moved-move : (pairs : List Pair) (i : ℕ) (old q : Pair) (es : List Entry) → slice_get pairs i ≡ Some old → ((l : ℤ) → IsOf l q → IsOf l old ⊎ (¬ IsOn es (neg_ℤ l))) → AreMoved pairs (set pairs i q) es
moved-move pairs i old q es at each j p l here of = elim (cases_eq j i) [
  | inl e ↦ elim (each l (subst (IsOf l) (slice_get_set pairs i q p (subst (λ (k : ℕ). slice_get (set pairs i q) k ≡ Some p) e here)) of)) [
    | inl was ↦ inl (old, subst (λ (k : ℕ). slice_get pairs k ≡ Some old) (sym e) at, was)
    | inr opened ↦ inr opened
  ]
  | inr differ ↦ inl (p, sym (slice_get-set_other pairs i j q differ) ∙ here, of)
]

-- what watches nothing is the same
pub spared-move : (pairs : List Pair) (i : ℕ) (q : Pair) → q ≢ no_pair → AreSpared pairs (set pairs i q)
spared-move pairs i q some j at = elim (cases_eq j i) [
  | inl e ↦ absurd (some (sym (slice_get_set pairs i q no_pair (subst (λ (k : ℕ). slice_get (set pairs i q) k ≡ Some no_pair) e at))))
  | inr differ ↦ sym (slice_get-set_other pairs i j q differ) ∙ at
]

pub gone-move : (pairs : List Pair) (i : ℕ) (q : Pair) (l : ℤ) → ¬ IsOf l q → (p : Pair) → slice_get (set pairs i q) i ≡ Some p → ¬ IsOf l p
gone-move pairs i q l none p at of = none (subst (IsOf l) (slice_get_set pairs i q p at) of)

-- ---- a list that is gone through
-- the clauses of the first indices in the list are satisfied
abbrev pub ArePassed : List (List ℤ) → List ℕ → List Entry → ℕ → Type 0
ArePassed known list es at = (j i : ℕ) (c : List ℤ) → j < at → slice_get list j ≡ Some i → slice_get known i ≡ Some c → IsClauseSatisfied es c

module _ (known : List (List ℤ)) (list list' : List ℕ) (level : ℕ) (es es' : List Entry) (at : ℕ) (grows : GrowsOnLevel level es es') (passed : ArePassed known list es at) where
  -- the clause of the index at the place is satisfied too
  pub passed-more : list' ≡ list → (index : ℕ) → slice_get list at ≡ Some index → ((c : List ℤ) → slice_get known index ≡ Some c → IsClauseSatisfied es' c) → ArePassed known list' es' (at + 1)
  passed-more same index here satisfied j i c less at' known-is =
      let was : slice_get list j ≡ Some i = sym (ap (λ (xs : List ℕ). slice_get xs j) same) ∙ at' in
      elim (cases_lt j at) [
        | inl before ↦ satisfied-grown level es es' c grows (passed j i c before was known-is)
        | inr past ↦
            let at-is : j ≡ at = omega arith in
            let both : Some index ≡ Some i = sym here ∙ sym (ap (slice_get list) at-is) ∙ was in
            let index-is : i ≡ index = cc in
            satisfied c (sym (ap (slice_get known) index-is) ∙ known-is)
      ]

  -- the index at the place is taken out
  pub passed-swap : at < length list → (x : ℕ) → list' ≡ swap_remove list at x → ArePassed known list' es' at
  passed-swap within x swapped j i c less at' known-is =
      let was : slice_get list j ≡ Some i = sym (slice_get-swap_remove list at x j within less) ∙ sym (ap (λ (xs : List ℕ). slice_get xs j) swapped) ∙ at' in
      satisfied-grown level es es' c grows (passed j i c less was known-is)

pub length-swap_remove : (xs : List ℕ) (at x : ℕ) → at < length xs → length (swap_remove xs at x) + 1 ≡ length xs
length-swap_remove xs at x less = omega (arith, length-take (length xs - 1) (set xs at (get_or xs (length xs - 1) x)), length-set xs at (get_or xs (length xs - 1) x))

-- an index that does not watch the literal any more is taken out of its list
pub watched-swap : (known : List (List ℤ)) (w w' : Watches) (l : ℤ) (p at x : ℕ) → AreWatched known w → w'.pairs ≡ w.pairs → w'.short.items ≡ w.short.items → p ≡ place l
    → slice_get (list_at w.lists p) at ≡ Some x → list_at w'.lists p ≡ swap_remove (list_at w.lists p) at x → ((q : ℕ) → q ≢ p → list_at w'.lists q ≡ list_at w.lists q)
    → ((q : Pair) → slice_get w.pairs x ≡ Some q → ¬ IsOf l q) → AreWatched known w'
watched-swap known w w' l p at x watched pairs short place-is is swapped others gone = record {
  sized = (let sized = watched.sized in omega (arith, ap length pairs));
  paired = λ i c q known-is here. watched.paired i c q known-is (before i q here);
  listed = λ i q k here literal of. elim (cases_eq (place k) p) [
    | inl same ↦
        let list : List ℕ = list_at w.lists p in
        let k-is : k ≡ l = place-injective k l (same ∙ place-is) in
        let among : IsAmong i list = subst (λ (n : ℕ). IsAmong i (list_at w.lists n)) same (watched.listed i q k (before i q here) literal of) in
        subst (IsAmong i) (sym (ap (list_at w'.lists) same ∙ swapped))
        (among_swap_remove list at x i (slice_get_within list at x is) (sym (get_or_from_slice_get list at x x is)) among (λ e. gone q (sym (ap (slice_get w.pairs) e) ∙ before i q here) (subst (λ (m : ℤ). IsOf m q) k-is of)))
    | inr differ ↦ subst (IsAmong i) (sym (others (place k) differ)) (watched.listed i q k (before i q here) literal of)
  ];
  short = λ i c less known-is few. subst (IsAmong i) (sym short) (watched.short i c (omega (arith, ap length pairs)) known-is few);
}
  where
    before : (i : ℕ) (q : Pair) → slice_get w'.pairs i ≡ Some q → slice_get w.pairs i ≡ Some q
    before i q here = sym (ap (λ (ps : List Pair). slice_get ps i) pairs) ∙ here

-- all of the list
pub visited-all : (known : List (List ℤ)) (w : Watches) (es : List Entry) (l : ℤ) (p at : ℕ) → AreWatched known w → IsLiteral l → p ≡ place l → length (list_at w.lists p) ≤ at → ArePassed known (list_at w.lists p) es at → AreVisited known w es l
visited-all known w es l p at watched literal place-is all passed i c q known-is here of =
    let list : List ℕ = list_at w.lists p in
    let among : IsAmong i list = subst (λ (n : ℕ). IsAmong i (list_at w.lists n)) (sym place-is) (watched.listed i q l here literal of) in
    let (j, at-j) = get_among i list among in
    let less : j < length list = slice_get_within list j i at-j in
    passed j i c (omega arith) at-j known-is

-- ---- a trail that grows
-- what was true below a place within the first trail
below-grown : (level : ℕ) (es es' : List Entry) (n : ℕ) (k : ℤ) → GrowsOnLevel level es es' → n ≤ length es → IsOnBelow es n k ↔ IsOnBelow es' n k
below-grown level es es' n k grows bound = (
  below-same es es' n k (λ j less. entry-grown level es es' j grows (omega arith)),
  below-same es' es n k (λ j less. sym (entry-grown level es es' j grows (omega arith))),
)

-- no literal stands past the end
pub below_end : (es : List Entry) (n : ℕ) (k : ℤ) → IsLiteral k → IsOnBelow es n k → IsOnBelow es (min n (length es)) k
below_end es n k literal (p, less, e) = elim (cases_lt p (length es)) [
  | inl here ↦ (p, omega arith, e)
  | inr past ↦
      let none : literal_at es p ≡ pos 0 = ap (λ (x : Entry). x.literal) (get_or_past es p (record { literal = pos 0; reason = 0; level = 0 }) past) in
      let zero-is : unsigned_abs k ≡ 0 = ap unsigned_abs (sym e ∙ none) in
      let some : 0 < unsigned_abs k = literal.0 in
      absurd (omega arith)
]

module _ (known : List (List ℤ)) (level : ℕ) (es es' : List Entry) (clauses : AllByRecursion IsClause known) (grows : GrowsOnLevel level es es') (r : Reach) (bound : r.visited ≤ length es) where
  -- the part of what was reached that stands on the first trail
  abbrev front : Reach
  front = record { entries = min r.entries (length es); visited = r.visited; settled = r.settled }

  satisfied-front : (i : ℕ) (c : List ℤ) → slice_get known i ≡ Some c → IsSatisfiedBelow es r.entries c → IsSatisfiedBelow es' (min r.entries (length es)) c
  satisfied-front i c is (k, among, below) =
      let literal : IsLiteral k = all_among IsLiteral c k (all_get IsClause known i c clauses is).0 among in
      (k, among, (below-grown level es es' (min r.entries (length es)) k grows (omega arith)).0 (below_end es r.entries k literal below))

  satisfied-whole : (c : List ℤ) → IsSatisfiedBelow es' (min r.entries (length es)) c → IsSatisfiedBelow es r.entries c
  satisfied-whole c (k, among, below) =
      let (p, less, e) = (below-grown level es es' (min r.entries (length es)) k grows (omega arith)).1 below in
      (k, among, (p, omega arith, e))

  -- what is kept on the second trail is kept on the first
  pub reached-across : (w w' : Watches) → ((r' : Reach) → r'.visited ≤ length es' → IsReached known w es' r' → IsReached known w' es' r') → IsReached known w es r → IsReached known w' es r
  reached-across w w' kept h =
      let longer : length es ≤ length es' = grows-longer level es es' grows in
      let before : IsReached known w es' front = record {
        visited = λ i c p l is at literal of below. satisfied-front i c is (h.visited i c p l is at literal of ((below-grown level es es' r.visited (neg_ℤ l) grows bound).1 below));
        settled = λ j i c less at is few. satisfied-front i c is (h.settled j i c less at is few);
      } in
      let after : IsReached known w' es' front = kept front (omega arith) before in
      record {
        visited = λ i c p l is at literal of below. satisfied-whole c (after.visited i c p l is at literal of ((below-grown level es es' r.visited (neg_ℤ l) grows bound).0 below));
        settled = λ j i c less at is few. satisfied-whole c (after.settled j i c less at is few);
      }

-- ---- how far it has come now
pub reached-grown : (known : List (List ℤ)) (w : Watches) (level : ℕ) (es es' : List Entry) (visited settled : ℕ) → GrowsOnLevel level es es' → visited ≤ length es
    → IsReached known w es (record { entries = length es; visited = visited; settled = settled }) → IsReached known w es' (record { entries = length es'; visited = visited; settled = settled })
reached-grown known w level es es' visited settled grows bound h = record {
  visited = λ i c p l is at literal of below. satisfied-grown level es es' c grows (h.visited i c p l is at literal of ((below-grown level es es' visited (neg_ℤ l) grows bound).1 below));
  settled = λ j i c less at is few. satisfied-grown level es es' c grows (h.settled j i c less at is few);
}

-- one more is visited
pub reached-next : (known : List (List ℤ)) (w : Watches) (es : List Entry) (visited settled : ℕ) (k : ℤ) → k ≡ neg_ℤ (literal_at es visited) → AreVisited known w es k
    → IsReached known w es (record { entries = length es; visited = visited; settled = settled }) → IsReached known w es (record { entries = length es; visited = visited + 1; settled = settled })
reached-next known w es visited settled k k-is satisfied h = record {
  visited = λ i c p l is at literal of (q, less, e). elim (cases_lt q visited) [
    | inl before ↦ h.visited i c p l is at literal of (q, before, e)
    | inr past ↦
        let here : q ≡ visited = omega arith in
        let l-is : l ≡ k = sym (neg_ℤ-neg_ℤ l) ∙ ap neg_ℤ (sym e ∙ ap (literal_at es) here) ∙ sym k-is in
        satisfied i c p is at (subst (λ (m : ℤ). IsOf m p) l-is of)
  ];
  settled = h.settled;
}
