-- What stays right of a solver where nothing is decided, when clauses are taken off and when a variable is added.
use Rattle.std.proofs.Common.{◌≡◌, ℕ, ◌+◌, ◌<◌, ◌≤◌, zero, suc, List, [], ◌∷◌, ◌++◌, ◌⊎◌, inl, inr, sym, ap, ◌∙◌, subst, arith, ℤ, neg_ℤ, unsigned_abs, length, length-append, take, filter, ltb, min, Some, slice_get}
use Rattle.std.specs.List.{AllByRecursion}
use Rattle.std.proofs.lemmas.List.{length-take, length-take-le, take-take, take_all}
use Rattle.std.proofs.lemmas.Bool.{cases_lt, lt-ltb, ltb-true}
use Rattle.std.proofs.lemmas.Option.{slice_get_within}
use Rattle.mcs_base.specs.Listings.{IsAmong}
use Rattle.mcs_base.proofs.Among.{among_filter, among_get, filter_among, get_among}
use Rattle.mcs_base.proofs.Each.{all_weaker, all_take}
use Rattle.mcs_base.proofs.Lists.{slice_get_take}
use Rattle.mcs_trace.specs.Clauses.{IsClause}
use Rattle.mcs_trace.specs.Traces.{IsChainResolvent, numbered_clause}
use Rattle.mcs_engine.specs.declared.lists.Lists.{Lists}
use Rattle.mcs_engine.specs.declared.state.Kept.{Kept}
use Rattle.mcs_engine.specs.declared.state.State.{State}
use Rattle.mcs_engine.specs.declared.trail.Entry.{Entry}
use Rattle.mcs_engine.specs.declared.trail.Trail.{Trail}
use Rattle.mcs_engine.specs.declared.watches.Pair.{Pair}
use Rattle.mcs_engine.specs.declared.watches.Watches.{Watches}
use Rattle.mcs_engine.specs.States.{AreChains, AreStarts, IsState}
use Rattle.mcs_engine.specs.Extending.{IsTrail}
use Rattle.mcs_engine.specs.Trails.{AreCovered, AreExplained, AreLevelled, IsOnBelow, IsSatisfiedBelow, decisions, reason_at}
use Rattle.mcs_engine.specs.Lists.{IsInList}
use Rattle.mcs_engine.specs.Watching.{AreUnwatched, AreWatched, AreVisitsKept, IsReached}
use Rattle.mcs_engine.proofs.KeptLemmas.{first-take, front-take, kept-change, later-none, moved-take, still-take}
use Rattle.mcs_engine.proofs.LevelLemmas.{decisions-longer, levelled-back}
use Rattle.mcs_engine.proofs.TrailLemmas.{entry-back, explained-back}
use Rattle.mcs_base.proofs.Written.{slice_get-take}

-- ---- the first clauses
chains-first : (k : ℕ) (known : List (List ℤ)) (chains : List (List ℕ)) → AreChains known chains → AreChains (take k known) (take k chains)
chains-first k known chains is = record {
  sized = length-take k chains ∙ ap (min k) is.sized ∙ sym (length-take k known);
  right = λ i c ns at at'.
      let (less, here) = slice_get_take k known i c at in
      let (less', here') = slice_get_take k chains i ns at' in
      subst (λ (ks : List (List ℤ)). (ns ≡ []) ⊎ IsChainResolvent ks ns c) (sym (take-take i k known (omega arith))) (is.right i c ns here here');
}

numbered-first : (k : ℕ) (known : List (List ℤ)) (n : ℕ) (c : List ℤ) → n ≤ k → numbered_clause known n ≡ Some c → numbered_clause (take k known) n ≡ Some c
numbered-first k known zero c less e = cc
numbered-first k known (suc n) c less e = slice_get-take k known n (omega arith) ∙ e

explained-first : (k : ℕ) (known : List (List ℤ)) (es : List Entry) → AreExplained known es → ((i : ℕ) → i < length es → reason_at es i ≤ k) → AreExplained (take k known) es
explained-first k known es is few i less = elim (is i less) [
  | inl none ↦ inl none
  | inr (c, at, reason) ↦ inr (c, numbered-first k known (reason_at es i) c (few i less) at, reason)
]

pub watched-first : (k : ℕ) (known : List (List ℤ)) (w w' : Watches) → w'.pairs ≡ take k w.pairs → w'.lists ≡ w.lists → w'.short.items ≡ filter (λ (i : ℕ). ltb i k) w.short.items → AreWatched known w → AreWatched (take k known) w'
watched-first k known w w' pairs lists short is = record {
  sized = (let sized = is.sized in omega (arith, ap length pairs, length-take k w.pairs, length-take k known));
  paired = λ i c p at at'. is.paired i c p (slice_get_take k known i c at).1 (slice_get_take k w.pairs i p (subst (λ (ps : List Pair). slice_get ps i ≡ Some p) pairs at')).1;
  listed = λ i p l at literal of. subst (λ (ls : Lists). IsInList ls l i) (sym lists) (is.listed i p l (slice_get_take k w.pairs i p (subst (λ (ps : List Pair). slice_get ps i ≡ Some p) pairs at)).1 literal of);
  short = λ i c few at none.
      let (less, here) = slice_get_take k known i c at in
      let within : i < length w.pairs = omega (arith, ap length pairs, length-take k w.pairs) in
      subst (λ (xs : List ℕ). IsAmong i xs) (sym short) (among_filter (λ (i : ℕ). ltb i k) i w.short.items (is.short i c within here none) (lt-ltb i k less));
}

reached-first : (k : ℕ) (known : List (List ℤ)) (w w' : Watches) (es : List Entry) (v s : ℕ) → w'.pairs ≡ take k w.pairs → IsReached known w es (record { entries = length es; visited = v; settled = s }) → IsReached (take k known) w' es (record { entries = length es; visited = v; settled = 0 })
reached-first k known w w' es v s pairs is = record {
  visited = λ i c p l at at' literal of off. is.visited i c p l (slice_get_take k known i c at).1 (slice_get_take k w.pairs i p (subst (λ (ps : List Pair). slice_get ps i ≡ Some p) pairs at')).1 literal of off;
  settled = λ j i c less. absurd (omega arith);
}

pub reached-none : (known : List (List ℤ)) (w : Watches) (es : List Entry) (n : ℕ) → IsReached known w es (record { entries = n; visited = 0; settled = 0 })
reached-none known w es n = record {
  visited = λ i c p l at at' literal of (q, less, on). absurd (omega arith);
  settled = λ j i c less. absurd (omega arith);
}

-- nothing was visited, or no literal goes and what was visited stays so
abbrev pub IsVisitedStill : State → ℕ → ℕ → Type 0
IsVisitedStill s n v = (v ≡ 0) ⊎ ((length s.trail.entries.items ≤ n) × (v ≡ s.visited))

-- what is visited where some clauses and literals are left: so many literals as it is said in one of two ways, by what was visited and by what is kept
module _ (s : State) (k n v : ℕ) (m : Kept) (t : Trail) (w : Watches) (is : IsState s) (base : s.levels.items ≡ []) (bound : n ≤ length s.trail.entries.items) (entries : t.entries.items ≡ take n s.trail.entries.items) (pairs : w.pairs ≡ take k s.watches.pairs) where
  size : length t.entries.items ≡ n
  size = ap length entries ∙ length-take-le n s.trail.entries.items bound

  pub cut-kept : (cs : List (List ℤ)) → cs ≡ take k s.clauses → s.kept.entries ≤ n → m ≡ record { count = min s.kept.count k; entries = s.kept.entries; visited = s.kept.visited } → AreVisitsKept cs w t.entries.items s.levels.items m
  cut-kept cs clauses low e =
      let b = is.kept.count in
      let count : m.count ≡ min s.kept.count k = ap (λ (x : Kept). x.count) e in
      let same : m.entries ≡ s.kept.entries = ap (λ (x : Kept). x.entries) e in
      let same' : m.visited ≡ s.kept.visited = ap (λ (x : Kept). x.visited) e in
      let old : AreVisitsKept s.clauses s.watches s.trail.entries.items s.levels.items m = record {
        count = omega arith;
        within = (let h = is.kept.within in omega arith);
        bound = (let h = is.kept.bound in omega arith);
        early = later-none s.levels.items m.entries base;
        visited = λ i c p l less here at literal of off.
            let off' : IsOnBelow s.trail.entries.items s.kept.visited (neg_ℤ l) = subst (λ (x : ℕ). IsOnBelow s.trail.entries.items x (neg_ℤ l)) same' off in
            subst (λ (x : ℕ). IsSatisfiedBelow s.trail.entries.items x c) (sym same) (is.kept.visited i c p l (omega arith) here at literal of off');
        spared = λ i c here at long. subst (λ (x : ℕ). IsSatisfiedBelow s.trail.entries.items x c) (sym same) (is.kept.spared i c here at long);
      } in
      kept-change s.clauses cs s.watches w s.trail.entries.items t.entries.items s.levels.items s.levels.items m (omega (arith, ap length pairs, length-take k s.watches.pairs)) (omega (arith, size)) (later-none s.levels.items m.entries base)
      (first-take s.clauses cs k m.count clauses) (still-take s.clauses cs s.watches.pairs w.pairs k clauses pairs) (moved-take m.count s.watches.pairs w.pairs k s.trail.entries.items m.visited pairs) (front-take s.trail.entries.items t.entries.items n m.entries (omega arith) entries) old

  pub now-visited : IsVisitedStill s n v → IsReached (take k s.clauses) w t.entries.items (record { entries = length t.entries.items; visited = v; settled = 0 })
  now-visited (inl none) = subst (λ (x : ℕ). IsReached (take k s.clauses) w t.entries.items (record { entries = length t.entries.items; visited = x; settled = 0 })) (sym none) (reached-none (take k s.clauses) w t.entries.items (length t.entries.items))
  now-visited (inr (all, same)) =
      let whole : t.entries.items ≡ s.trail.entries.items = entries ∙ take_all n s.trail.entries.items all in
      subst (λ (x : ℕ). IsReached (take k s.clauses) w t.entries.items (record { entries = length t.entries.items; visited = x; settled = 0 })) (sym same)
      (subst (λ (xs : List Entry). IsReached (take k s.clauses) w xs (record { entries = length xs; visited = s.visited; settled = 0 })) (sym whole)
      (reached-first k s.clauses s.watches w s.trail.entries.items s.visited s.settled pairs is.now))

  pub now-kept : (cs : List (List ℤ)) → cs ≡ take k s.clauses → AreVisitsKept cs w t.entries.items s.levels.items m → v ≤ m.visited → AreUnwatched t.entries.items w.pairs m.count (length w.pairs) v → IsReached (take k s.clauses) w t.entries.items (record { entries = length t.entries.items; visited = v; settled = 0 })
  now-kept cs clauses kept low fresh = record {
    visited = λ i c p l here at literal of (q, less, e). elim (cases_lt i m.count) [
      | inl first ↦
          let (j, among, (r, less', e')) = kept.visited i c p l first (subst (λ (ks : List (List ℤ)). slice_get ks i ≡ Some c) (sym clauses) here) at literal of (q, omega arith, e) in
          let b = kept.within in
          (j, among, (r, omega arith, e'))
      | inr later ↦ absurd (fresh i p l later (slice_get_within w.pairs i p at) at literal of (q, less, e))
    ];
    settled = λ j i c less. absurd (omega arith);
  }

pub now-most : (known : List (List ℤ)) (w : Watches) (es : List Entry) (a b v : ℕ) → (v ≡ a) ⊎ (v ≡ b) → IsReached known w es (record { entries = length es; visited = a; settled = 0 }) → IsReached known w es (record { entries = length es; visited = b; settled = 0 }) → IsReached known w es (record { entries = length es; visited = v; settled = 0 })
now-most known w es a b v (inl e) first second = subst (λ (x : ℕ). IsReached known w es (record { entries = length es; visited = x; settled = 0 })) (sym e) first
now-most known w es a b v (inr e) first second = subst (λ (x : ℕ). IsReached known w es (record { entries = length es; visited = x; settled = 0 })) (sym e) second

-- the short clauses among the first ones
pub shorts-first : (s : State) (k : ℕ) (w : Watches) → IsState s → w.short.items ≡ filter (λ (i : ℕ). ltb i k) s.watches.short.items → (j i : ℕ) → slice_get w.short.items j ≡ Some i → i < length (take k s.clauses)
shorts-first s k w is short j i at =
    let (among, passes) = filter_among (λ (i : ℕ). ltb i k) i s.watches.short.items (among_get i (filter (λ (i : ℕ). ltb i k) s.watches.short.items) j (subst (λ (xs : List ℕ). slice_get xs j ≡ Some i) short at)) in
    let less : i < k = ltb-true i k passes in
    let (q, here) = get_among i s.watches.short.items among in
    let within = is.shorts q i here in
    omega (arith, length-take k s.clauses)

-- where nothing is watched
pub watched-none : (known : List (List ℤ)) (w : Watches) → w.pairs ≡ [] → AreWatched known w
watched-none known w none = record {
  sized = omega (arith, ap length none);
  paired = λ i c p known' at. absurd (empty i p at);
  listed = λ i p l at. absurd (empty i p at);
  short = λ i c less. absurd (omega (arith, ap length none));
}
  where
    empty : (i : ℕ) (p : Pair) → slice_get w.pairs i ≡ Some p → ⊥
    empty i p at = let less = slice_get_within w.pairs i p at in omega (arith, ap length none)

pub shorts-none : (n : ℕ) (w : Watches) → w.short.items ≡ [] → (j i : ℕ) → slice_get w.short.items j ≡ Some i → i < n
shorts-none n w none j i at = absurd (let less = slice_get_within w.short.items j i at in omega (arith, ap length none))

pub state-cut : (s : State) (cs : List (List ℤ)) (ms : List (List ℕ)) (t : Trail) (w : Watches) (k n v : ℕ) (m : Kept) → IsState s → s.levels.items ≡ []
    → cs ≡ take k s.clauses → ms ≡ take k s.chains → t.entries.items ≡ take n s.trail.entries.items → t.positions.items ≡ s.trail.positions.items → n ≤ length s.trail.entries.items → ((i : ℕ) → i < n → reason_at s.trail.entries.items i ≤ k)
    → AreWatched (take k s.clauses) w → ((j i : ℕ) → slice_get w.short.items j ≡ Some i → i < length (take k s.clauses))
    → v ≤ length t.entries.items → IsReached (take k s.clauses) w t.entries.items (record { entries = length t.entries.items; visited = v; settled = 0 }) → AreVisitsKept cs w t.entries.items s.levels.items m
    → IsState (record { clauses = cs; chains = ms; trail = t; watches = w; levels = s.levels; visited = v; settled = 0; kept = m })
state-cut s cs ms t w k n v m is base clauses chains entries positions bound few watched shorts low visited kept =
    let es : List Entry = s.trail.entries.items in
    let known : List (List ℤ) = take k s.clauses in
    let size : length t.entries.items ≡ n = ap length entries ∙ length-take-le n es bound in
    record {
      chains = subst (λ (ks : List (List ℤ)). AreChains ks ms) (sym clauses) (subst (AreChains known) (sym chains) (chains-first k s.clauses s.chains is.chains));
      trail = subst (λ (ks : List (List ℤ)). IsTrail ks t) (sym clauses) (record {
        clauses = all_take IsClause k s.clauses is.trail.clauses;
        covered = subst (λ (ps : List ℕ). AllByRecursion (AreCovered ps) known) (sym positions) (all_take (AreCovered s.trail.positions.items) k s.clauses is.trail.covered);
        explained = subst (AreExplained known) (sym entries) (explained-first k s.clauses (take n es) (explained-back s.clauses es n is.trail.explained) (λ i less.
            let less' : i < n = omega (arith, length-take-le n es bound) in
            subst (λ (e : Entry). e.reason ≤ k) (sym (entry-back es n i less')) (few i less')));
      });
      levelled = subst AreLevelled (sym entries) (levelled-back n es is.levelled);
      starts = record {
        count = (let none : length s.levels.items ≡ 0 = ap length base in let all = is.starts.count in let part = decisions-longer n (length es) es bound in omega (arith, ap decisions entries, ap decisions (take_all (length es) es (omega arith))));
        start = λ j r at. absurd (let less = slice_get_within s.levels.items j r at in omega (arith, ap length base));
      };
      watched = subst (λ (ks : List (List ℤ)). AreWatched ks w) (sym clauses) watched;
      shorts = λ j i at. subst (λ (ks : List (List ℤ)). i < length ks) (sym clauses) (shorts j i at);
      bound = low;
      short_bound = omega arith;
      bounds = λ j r at. absurd (let less = slice_get_within s.levels.items j r at in omega (arith, ap length base));
      reached = λ j r at. absurd (let less = slice_get_within s.levels.items j r at in omega (arith, ap length base));
      now = subst (λ (ks : List (List ℤ)). IsReached ks w t.entries.items (record { entries = length t.entries.items; visited = v; settled = 0 })) (sym clauses) visited;
      kept = kept;
    }

-- ---- one more variable
covered-more : (known : List (List ℤ)) (ps ps' : List ℕ) → length ps ≤ length ps' → AllByRecursion (AreCovered ps) known → AllByRecursion (AreCovered ps') known
covered-more known ps ps' longer all = all_weaker (AreCovered ps) (AreCovered ps') (λ c covered. all_weaker (λ (l : ℤ). unsigned_abs l < length ps) (λ (l : ℤ). unsigned_abs l < length ps') (λ l less. omega arith) c covered) known all

pub state-widened : (s : State) (t : Trail) → IsState s → t.entries.items ≡ s.trail.entries.items → t.positions.items ≡ s.trail.positions.items ++ 0 ∷ []
    → IsState (record { clauses = s.clauses; chains = s.chains; trail = t; watches = s.watches; levels = s.levels; visited = s.visited; settled = s.settled; kept = s.kept })
state-widened s t is entries positions =
    let ps : List ℕ = s.trail.positions.items in
    let size : length t.positions.items ≡ length ps + 1 = omega (arith, ap length positions, length-append ps (0 ∷ [])) in
    record {
      chains = is.chains;
      trail = record {
        clauses = is.trail.clauses;
        covered = covered-more s.clauses ps t.positions.items (omega arith) is.trail.covered;
        explained = subst (AreExplained s.clauses) (sym entries) is.trail.explained;
      };
      levelled = subst AreLevelled (sym entries) is.levelled;
      starts = subst (λ (xs : List Entry). AreStarts xs s.levels.items) (sym entries) is.starts;
      watched = is.watched;
      shorts = is.shorts;
      bound = (let b = is.bound in omega (arith, ap length entries));
      short_bound = is.short_bound;
      bounds = is.bounds;
      reached = λ k r at. subst (λ (es : List Entry). IsReached s.clauses s.watches es r) (sym entries) (is.reached k r at);
      now = subst (λ (es : List Entry). IsReached s.clauses s.watches es (record { entries = length es; visited = s.visited; settled = s.settled })) (sym entries) is.now;
      kept = subst (λ (es : List Entry). AreVisitsKept s.clauses s.watches es s.levels.items s.kept) (sym entries) is.kept;
    }
