-- Where a false clause leads back, and what it watches then.
use Rattle.std.proofs.Common.{◌≡◌, ℕ, ◌-◌, ◌<◌, ◌≤◌, List, [], ◌∷◌, ◌++◌, ◌⊎◌, inl, inr, refl, sym, ap, ◌∙◌, subst, arith, ℤ, neg_ℤ, unsigned_abs, length, take, Option, Some, Bor, slice_get, Vec, Global}
use Rattle.std.specs.Option.{option_copied}
use Rattle.std.proofs.lemmas.Bool.{cases_lt}
use Rattle.std.proofs.lemmas.Option.{same_Some, slice_get_within}
use Rattle.mcs_base.specs.Listings.{IsAmong}
use Rattle.mcs_base.proofs.Lists.{slice_get_take}
use Rattle.std.proofs.Math.IntN.{neg_ℤ-neg_ℤ}
use Rattle.mcs_trace.specs.Clauses.{IsClause, LiteralBefore, place}
use Rattle.mcs_trace.specs.Traces.{IsChainResolvent}
use Rattle.mcs_engine.specs.declared.latest.Latest.{Latest}
use Rattle.mcs_engine.specs.declared.state.Reach.{Reach}
use Rattle.mcs_engine.specs.declared.state.State.{State}
use Rattle.mcs_engine.specs.declared.state.Turn.{Turn}
use Rattle.mcs_engine.specs.declared.trail.Entry.{Entry}
use Rattle.mcs_engine.specs.declared.trail.Trail.{Trail}
use Rattle.mcs_engine.specs.declared.watches.Watches.{Watches}
use Rattle.mcs_engine.specs.Learning.{IsLatest, IsSingle}
use Rattle.mcs_engine.specs.States.{AreStarts, IsFull, IsLastLevel, IsOfLastLevel, IsState, IsTurn}
use Rattle.mcs_engine.specs.Trails.{AreCovered, AreLevelled, ArePlaced, IsFalse, IsOnBelow, literal_at}
use Rattle.mcs_engine.specs.Lists.{KeepsLists}
use Rattle.mcs_engine.specs.Watching.{IsFreshPair, IsLong, IsPushed}
use Rattle.mcs_engine.proofs.KnownLemmas.{chain-clause}
use Rattle.mcs_engine.proofs.LatestLemmas.{covered-false}
use Rattle.mcs_engine.proofs.TrailLemmas.{same_place}
use Rattle.mcs_engine.proofs.LevelLemmas.{below-start}
use Rattle.mcs_engine.proofs.StateLemmas.{FitsPair, starts-order, state-back, state-pushed, take-below}

-- a place whose literal's negation is the literal
turned : (es : List Entry) (p q : ℕ) → neg_ℤ (literal_at es p) ≡ neg_ℤ (literal_at es q) → literal_at es p ≡ literal_at es q
turned es p q e = sym (neg_ℤ-neg_ℤ (literal_at es p)) ∙ ap neg_ℤ e ∙ neg_ℤ-neg_ℤ (literal_at es q)

-- the literal at one place stands before the other, or nowhere below it
below-at : (es : List Entry) (ps : List ℕ) (n q : ℕ) → ArePlaced es ps → n ≤ length es → q < length es → IsOnBelow es n (neg_ℤ (neg_ℤ (literal_at es q))) → q < n
below-at es ps n q placed bound here (p, less, e) =
    let same : p ≡ q = same_place es ps p q placed (omega arith) here (ap unsigned_abs (e ∙ neg_ℤ-neg_ℤ (literal_at es q))) in
    omega arith

-- a place of a literal of the clause is the latest one, or one of the others
latest-cases : (es : List Entry) (ps : List ℕ) (c : List ℤ) (l : Latest) (q : ℕ) → ArePlaced es ps → IsLatest es c l → q < length es → IsAmong (neg_ℤ (literal_at es q)) c → (q ≡ l.place) ⊎ (q < l.others)
latest-cases es ps c l q placed is here among = elim (is.others (neg_ℤ (literal_at es q)) among) [
  | inl e ↦ inl (same_place es ps q l.place placed here is.here (ap unsigned_abs (turned es q l.place e)))
  | inr below ↦ inr (below-at es ps l.others q placed (let b = is.before in let h = is.here in omega arith) here below)
]

-- a clause of which one literal alone became false from the place on
pub single-latest : (es : List Entry) (ps : List ℕ) (c : List ℤ) (start : ℕ) (m : Latest) → ArePlaced es ps → IsSingle es start c → IsLatest es c m → (m.others ≤ start) × (start ≤ m.place)
single-latest es ps c start m placed (l, is, low, high) is' =
    let same : m.place ≡ l.place = elim (latest-cases es ps c l m.place placed is is'.here is'.has) [
      | inl e ↦ e
      | inr early ↦ elim (latest-cases es ps c m l.place placed is' is.here is.has) [
        | inl e ↦ sym e
        | inr early' ↦ absurd (let b = is.before in let b' = is'.before in omega arith)
      ]
    ] in
    (others (cases_lt 0 m.others) same, omega arith)
  where
    others : ((0 < m.others) ⊎ (m.others ≤ 0)) → m.place ≡ l.place → m.others ≤ start
    others (inr none) same = omega arith
    others (inl some) same = elim (latest-cases es ps c l (m.others - 1) placed is (let b = is'.before in let h = is'.here in omega arith) (is'.last some)) [
      | inl e ↦ absurd (let b = is'.before in omega arith)
      | inr early ↦ omega arith
    ]

-- the level is one that is there
pub turn-level : (es : List Entry) (levels : List Reach) (m : Latest) (turn : Turn) (r : Reach) → AreLevelled es → AreStarts es levels → IsLastLevel levels r → m.others ≤ r.entries → IsTurn es m turn → turn.level < length levels
turn-level es levels m turn r levelled starts last low (none, others) = let some = slice_get_within levels (length levels - 1) r last in elim (cases_lt 0 m.others) [
  | inl there ↦ let at = (others there).0 in let bound = below-start es levels (length levels - 1) (m.others - 1) r levelled starts last (omega arith) in omega arith
  | inr empty ↦ let at = (none (omega arith)).0 in omega arith
]

-- a clause whose literals are all the same has no two
one-literal : (c : List ℤ) (k : ℤ) → IsClause c → ((l : ℤ) → IsAmong l c → l ≡ k) → ¬ IsLong c
one-literal [] k clause all long = omega arith
one-literal (x ∷ []) k clause all long = omega arith
one-literal (x ∷ y ∷ c) k clause all long =
    let same : x ≡ y = all x (inl refl) ∙ sym (all y (inr (inl refl))) in
    let order = clause.1.0.0 in
    absurd (before-itself x y same order)
  where
    before-itself : (x y : ℤ) → x ≡ y → LiteralBefore x y → ⊥
    before-itself x y same less = let e = ap place same in omega arith

pub turn-fits : (es : List Entry) (ps : List ℕ) (c : List ℤ) (m : Latest) (turn : Turn) → ArePlaced es ps → IsClause c → IsLatest es c m → IsTurn es m turn → FitsPair c turn.pair
turn-fits es ps c m turn placed clause is (none, others) = elim (cases_lt 0 m.others) [
  | inl there ↦ subst (FitsPair c) (sym (others there).2) (record {
    first = is.has;
    second = is.last there;
    differ = λ e. let same : m.place ≡ m.others - 1 = same_place es ps m.place (m.others - 1) placed is.here (let b = is.before in let h = is.here in omega arith) (ap unsigned_abs (turned es m.place (m.others - 1) e)) in let b = is.before in omega arith;
  })
  | inr empty ↦ subst (FitsPair c) (sym (none (omega arith)).2) (one-literal c (neg_ℤ (literal_at es m.place)) clause (λ l among. elim (is.others l among) [
    | inl e ↦ e
    | inr (p, less, e) ↦ absurd (omega arith)
  ]))
]

-- neither of the two was false among the first n, where the latest place comes later and the other place is not among them
pub turn-fresh : (es : List Entry) (ps : List ℕ) (m : Latest) (turn : Turn) (n k : ℕ) → ArePlaced es ps → m.place < length es → m.others ≤ m.place → IsTurn es m turn → n ≤ k → k ≤ m.place → (0 < m.others → n ≤ m.others - 1) → IsFreshPair (take k es) n turn.pair
turn-fresh es ps m turn n k placed here before (none, others) low high early = elim (cases_lt 0 m.others) [
  | inl there ↦ subst (IsFreshPair (take k es) n) (sym (others there).2) (λ l of off. elim of [
    | inl e ↦ let late = below-at es ps n m.place placed (omega arith) here (take-below es n k (neg_ℤ (neg_ℤ (literal_at es m.place))) low (subst (λ (x : ℤ). IsOnBelow (take k es) n (neg_ℤ x)) (sym e) off)) in omega arith
    | inr e ↦ let late = below-at es ps n (m.others - 1) placed (omega arith) (omega arith) (take-below es n k (neg_ℤ (neg_ℤ (literal_at es (m.others - 1)))) low (subst (λ (x : ℤ). IsOnBelow (take k es) n (neg_ℤ x)) (sym e) off)) in let b = early there in omega arith
  ])
  | inr empty ↦ subst (IsFreshPair (take k es) n) (sym (none (omega arith)).2) tt
]

-- a clause is learnt, and the levels above its own are taken back
pub state-learnt : (s : State) (t : Trail) (ls : Vec Reach Global) (cs : List (List ℤ)) (ms : List (List ℕ)) (w : Watches) (c : List ℤ) (ns : List ℕ) (m : Latest) (turn : Turn) (r : Reach) (v : ℕ) → IsState s → IsFalse s.trail.entries.items c → IsChainResolvent s.clauses ns c → IsOfLastLevel s c
    → IsLatest s.trail.entries.items c m → IsTurn s.trail.entries.items m turn → slice_get s.levels.items turn.level ≡ Some r
    → IsFull s → cs ≡ s.clauses ++ c ∷ [] → ms ≡ s.chains ++ ns ∷ [] → KeepsLists s.watches.lists w.lists → IsPushed s.watches w turn.pair
    → t.entries.items ≡ take r.entries s.trail.entries.items → t.positions.items ≡ s.trail.positions.items → ls.items ≡ take turn.level s.levels.items → v ≤ r.visited → v ≤ turn.place
    → IsState (record { clauses = cs; chains = ms; trail = t; watches = w; levels = ls; visited = v; settled = r.settled; kept = s.kept })
state-learnt s t ls cs ms w c ns m turn r v is all_false right single is-latest is-turn at full clauses chains kept pushed entries positions levels low low' =
    let es : List Entry = s.trail.entries.items in
    let ps : List ℕ = s.trail.positions.items in
    let placed : ArePlaced es ps = s.trail.placed in
    let last : Reach = single.last in
    let at_last = single.is in
    let (few, late) = single-latest es ps c last.entries m placed single.single is-latest in
    let order : r.entries ≤ last.entries = not-after es s.levels.items turn.level r last is.starts at at_last in
    let (bounded, count) = is.bounds turn.level r at in
    let before : AreCovered ps c = covered-false es ps c placed all_false in
    let clause : IsClause c = chain-clause s.clauses ns c is.trail.clauses right in
    state-pushed (record { clauses = s.clauses; chains = s.chains; trail = t; watches = s.watches; levels = ls; visited = r.visited; settled = r.settled; kept = s.kept }) cs ms w c ns turn.pair v
    (state-back s t ls turn.level r is at entries positions levels) full clauses chains kept pushed (turn-fits es ps c m turn placed clause is-latest is-turn) clause (subst (λ (xs : List ℕ). AreCovered xs c) (sym positions) before) (inr right) low
    (subst (λ (xs : List Entry). IsFreshPair xs v turn.pair) (sym entries) (turn-fresh es ps m turn v r.entries placed is-latest.here is-latest.before is-turn (omega arith) (omega arith) (λ there. let other = (is-turn.1 there).1 in omega arith)))
    (λ j q at'.
    let (less, here) = slice_get_take turn.level s.levels.items j q (subst (λ (xs : List Reach). slice_get xs j ≡ Some q) levels at') in
    let (bound, n) = is.bounds j q here in
    let earlier = starts-order es s.levels.items j turn.level q r is.starts less here at in
    subst (λ (xs : List Entry). IsFreshPair xs q.visited turn.pair) (sym entries) (turn-fresh es ps m turn q.visited r.entries placed is-latest.here is-latest.before is-turn (omega arith) (omega arith)
    (λ there. elim (cases_lt (m.others - 1) q.visited) [
      | inl below ↦ absurd (let at-level = (is-turn.1 there).0 in let bound' = below-start es s.levels.items j (m.others - 1) q is.levelled is.starts here (omega arith) in omega arith)
      | inr above ↦ above
    ])))
  where
    not-after : (es : List Entry) (levels : List Reach) (k : ℕ) (r last : Reach) → AreStarts es levels → slice_get levels k ≡ Some r → IsLastLevel levels last → r.entries ≤ last.entries
    not-after es levels k r last starts at at_last =
        let less : k < length levels = slice_get_within levels k r at in
        elim (cases_lt k (length levels - 1)) [
          | inl earlier ↦ let order = starts-order es levels k (length levels - 1) r last starts earlier at at_last in omega arith
          | inr end ↦
              let same-place : k ≡ length levels - 1 = omega arith in
              let same : r ≡ last = same_Some r last (sym at ∙ ap (slice_get levels) same-place ∙ at_last) in
              subst (λ (x : Reach). r.entries ≤ x.entries) same (omega arith)
        ]

pub single-some : (es : List Entry) (start : ℕ) (c : List ℤ) → IsSingle es start c → c ≡ [] → ⊥
single-some es start c (l, is, low, high) empty = subst (λ (x : List ℤ). IsAmong (neg_ℤ (literal_at es l.place)) x) empty is.has

-- the level to go back to is one that is there
pub level-there : (s : State) (c : List ℤ) (m : Latest) (turn : Turn) → IsState s → IsOfLastLevel s c → IsLatest s.trail.entries.items c m → IsTurn s.trail.entries.items m turn → turn.level < length s.levels.items
level-there s c m turn is single is-latest is-turn =
    let (few, late) = single-latest s.trail.entries.items s.trail.positions.items c single.last.entries m s.trail.placed single.single is-latest in
    turn-level s.trail.entries.items s.levels.items m turn single.last is.levelled is.starts single.is few is-turn

-- the last of some levels, as the code reads it
pub last-found : (xs ys : List Reach) (o : Option (Bor Reach)) (r : Bor Reach) → ys ≡ xs → option_copied o ≡ slice_get ys (length ys - 1) → o ≡ Some r → IsLastLevel xs r.now
last-found xs ys o r same value is = subst (λ (zs : List Reach). slice_get zs (length zs - 1) ≡ Some r.now) same (sym value ∙ ap option_copied is)
