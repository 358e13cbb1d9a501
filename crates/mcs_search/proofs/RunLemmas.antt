-- What stays right of a solver when literals are made true, and what it comes to when all was visited.
use Rattle.std.proofs.Common.{◌≡◌, ℕ, ◌≤◌, List, inl, inr, refl, sym, ap, ◌∙◌, subst, arith, ℤ, neg_ℤ, length, take, Some, slice_get}
use Rattle.std.proofs.Math.Seq.{take-append_seam}
use Rattle.std.specs.List.{AllByRecursion}
use Rattle.std.proofs.lemmas.Bool.{cases_lt}
use Rattle.std.proofs.lemmas.Option.{slice_get_within}
use Rattle.mcs_base.proofs.Among.{get_among}
use Rattle.mcs_base.proofs.Each.{all_among, all_from_among, all_get}
use Rattle.mcs_base.proofs.Lists.{slice_get_below}
use Rattle.mcs_trace.specs.Clauses.{IsClause, IsLiteral}
use Rattle.mcs_engine.specs.declared.state.Kept.{Kept}
use Rattle.mcs_engine.specs.declared.state.Reach.{Reach}
use Rattle.mcs_engine.specs.declared.state.State.{State}
use Rattle.mcs_engine.specs.declared.trail.Entry.{Entry}
use Rattle.mcs_engine.specs.declared.trail.Trail.{Trail}
use Rattle.mcs_engine.specs.declared.watches.Pair.{Pair}
use Rattle.mcs_engine.specs.declared.watches.Watches.{Watches}
use Rattle.mcs_engine.specs.Extending.{Extends}
use Rattle.mcs_engine.specs.States.{AreStarts, IsFull, IsState, KeepsLevels}
use Rattle.mcs_engine.specs.Trails.{AreCovered, AreExplained, AreLevelled, ArePlaced, GrowsOnLevel, IsOn, IsOnBelow, IsOpen, IsClauseSatisfied}
use Rattle.mcs_engine.specs.Watching.{ArePair, AreSettled, IsOf, IsReached, KeepsWatches}
use Rattle.mcs_search.specs.Searches.{CanBeTakenBack}
use Rattle.mcs_engine.proofs.FindingLemmas.{value-or-free}
use Rattle.mcs_engine.proofs.GrowLemmas.{grows-longer}
use Rattle.mcs_engine.proofs.KeptLemmas.{first-same, front-grows, front-take, kept-change, moved-below, moved-same, still-moved, still-same}
use Rattle.mcs_engine.proofs.LevelLemmas.{levelled-more, starts-more}
use Rattle.mcs_engine.proofs.StateLemmas.{reached-back, reached-more, reached-on}
use Rattle.mcs_engine.proofs.TrailLemmas.{explained-back}

-- ---- longer trails
reached-grows : (level : ℕ) (known : List (List ℤ)) (w : Watches) (es new : List Entry) (r : Reach) → GrowsOnLevel level es new → r.entries ≤ length es → r.visited ≤ length es → IsReached known w es r → IsReached known w new r
reached-grows level known w es new r (more, e, all) entries visited is = subst (λ (xs : List Entry). IsReached known w xs r) (sym e) (reached-more known w es more r entries visited is)

now-grows : (level : ℕ) (known : List (List ℤ)) (w : Watches) (es new : List Entry) (v s : ℕ) → GrowsOnLevel level es new → v ≤ length es → IsReached known w es (record { entries = length es; visited = v; settled = s }) → IsReached known w new (record { entries = length new; visited = v; settled = s })
now-grows level known w es new v s (more, e, all) visited is = subst (λ (xs : List Entry). IsReached known w xs (record { entries = length new; visited = v; settled = s })) (sym e) (reached-on known w es more v s (length new) visited (ap length e) is)

-- ---- short clauses are settled
pub state-settled : (s : State) (t : Trail) (n : ℕ) → IsState s → Extends s.clauses (length s.levels.items) s.trail t → AreSettled s.clauses s.watches.short.items t.entries.items s.settled n → n ≤ length s.watches.short.items
    → IsState (record { clauses = s.clauses; chains = s.chains; trail = t; watches = s.watches; levels = s.levels; visited = s.visited; settled = n; kept = s.kept })
state-settled s t n is extends settled bound =
    let es : List Entry = s.trail.entries.items in
    let grows = extends.grows in
    let level : ℕ = length s.levels.items in
    let longer = grows-longer level es t.entries.items grows in
    let before = now-grows level s.clauses s.watches es t.entries.items s.visited s.settled grows is.bound is.now in
    record {
      chains = is.chains;
      trail = extends.trail;
      levelled = (levelled-more level es t.entries.items is.levelled grows is.starts.count).0;
      starts = starts-more level es t.entries.items s.levels.items is.starts grows;
      watched = is.watched;
      shorts = is.shorts;
      bound = (let b = is.bound in omega arith);
      short_bound = bound;
      bounds = is.bounds;
      reached = λ k r at. let (below, none, count) = is.starts.start k r at in let (v, m) = is.bounds k r at in
          reached-grows level s.clauses s.watches es t.entries.items r grows (omega arith) (omega arith) (is.reached k r at);
      now = record {
        visited = before.visited;
        settled = λ j i c less at known none. elim (cases_lt j s.settled) [
          | inl earlier ↦ before.settled j i c earlier at known none
          | inr later ↦ settled j i c later less at known none
        ];
      };
      kept = (let b = is.kept.within in kept-change s.clauses s.clauses s.watches s.watches es t.entries.items s.levels.items s.levels.items s.kept is.kept.count (omega arith) is.kept.early
          (first-same s.clauses s.clauses s.kept.count refl) (still-same s.clauses s.clauses s.watches.pairs s.watches.pairs refl refl) (moved-same s.kept.count s.watches.pairs s.watches.pairs es s.kept.visited refl) (front-grows level es t.entries.items s.kept.entries b grows) is.kept);
    }

-- ---- clauses are visited
pub state-visited : (s : State) (t : Trail) (w : Watches) (v : ℕ) → IsState s → Extends s.clauses (length s.levels.items) s.trail t → KeepsWatches s.clauses s.watches w s.trail.entries.items → v ≤ length t.entries.items
    → ((n : ℕ) → IsReached s.clauses s.watches s.trail.entries.items (record { entries = length s.trail.entries.items; visited = s.visited; settled = n }) → IsReached s.clauses w t.entries.items (record { entries = length t.entries.items; visited = v; settled = n }))
    → IsState (record { clauses = s.clauses; chains = s.chains; trail = t; watches = w; levels = s.levels; visited = v; settled = s.settled; kept = s.kept })
state-visited s t w v is extends keeps bound now =
    let es : List Entry = s.trail.entries.items in
    let grows = extends.grows in
    let short = keeps.short in
    let level : ℕ = length s.levels.items in
    let longer = grows-longer level es t.entries.items grows in
    record {
      chains = is.chains;
      trail = extends.trail;
      levelled = (levelled-more level es t.entries.items is.levelled grows is.starts.count).0;
      starts = starts-more level es t.entries.items s.levels.items is.starts grows;
      watched = keeps.watched;
      shorts = λ j i at. is.shorts j i (subst (λ (xs : List ℕ). slice_get xs j ≡ Some i) short at);
      bound = bound;
      short_bound = (let b = is.short_bound in omega (arith, ap length short));
      bounds = λ k r at. let (b, m) = is.bounds k r at in (b, omega (arith, ap length short));
      reached = λ k r at. let (below, none, count) = is.starts.start k r at in let (b, m) = is.bounds k r at in
          reached-grows level s.clauses w es t.entries.items r grows (omega arith) (omega arith) (keeps.reached r (omega arith) (is.reached k r at));
      now = now s.settled is.now;
      kept = (let b = is.kept.within in let v' = is.kept.bound in kept-change s.clauses s.clauses s.watches w es t.entries.items s.levels.items s.levels.items s.kept (let b = is.kept.count in let sized = keeps.sized in omega arith) (omega arith) is.kept.early
          (first-same s.clauses s.clauses s.kept.count refl) (still-moved s.clauses s.watches.pairs w.pairs keeps.spared) (moved-below s.kept.count s.watches.pairs w.pairs es s.kept.visited (omega arith) keeps.moved) (front-grows level es t.entries.items s.kept.entries b grows) is.kept);
    }

-- ---- where all was visited
-- a clause whose watched literals are not false has one that is true, or two that are free
pair-open : (es : List Entry) (ps : List ℕ) (c : List ℤ) (p : Pair) → ArePlaced es ps → ArePair c p → ((l : ℤ) → IsOf l p → IsOn es (neg_ℤ l) → IsClauseSatisfied es c) → IsOpen es c
pair-open es ps c p placed pair watched = elim (value-or-free es ps p.first placed) [
  | inl on ↦ inl (p.first, pair.first, on)
  | inr (inl off) ↦ inl (watched p.first (inl refl) off)
  | inr (inr free) ↦ elim (value-or-free es ps p.second placed) [
    | inl on ↦ inl (p.second, pair.second, on)
    | inr (inl off) ↦ inl (watched p.second (inr refl) off)
    | inr (inr free') ↦ inr (record { first = p.first; second = p.second; has_first = pair.first; has_second = pair.second; differ = pair.differ; free_first = free; free_second = free' })
  ]
]

-- each clause has a true literal, or two that are free
pub all-open : (s : State) → IsState s → IsFull s → s.visited ≡ length s.trail.entries.items → length s.watches.short.items ≤ s.settled → AllByRecursion (IsOpen s.trail.entries.items) s.clauses
all-open s is full all settled = all_from_among (IsOpen s.trail.entries.items) s.clauses (λ c among.
    let (i, at) = get_among c s.clauses among in
    elim (cases_lt (length c) 2) [
      | inl short ↦
          let (j, here) = get_among i s.watches.short.items (is.watched.short i c (let less = slice_get_within s.clauses i c at in omega arith) at (λ long. omega arith)) in
          let less = slice_get_within s.watches.short.items j i here in
          inl (is.now.settled j i c (omega arith) here at (λ long. omega arith))
      | inr long ↦
          let (p, pair) = slice_get_below s.watches.pairs i (let less = slice_get_within s.clauses i c at in omega arith) in
          elim (is.watched.paired i c p at pair) [
            | inl none ↦
                let (k, among', (q, less, e)) = is.kept.spared i c at (subst (λ (x : Pair). slice_get s.watches.pairs i ≡ Some x) none pair) long in
                let within = is.kept.within in
                inl (k, among', (q, omega arith, e))
            | inr are ↦ pair-open s.trail.entries.items s.trail.positions.items c p s.trail.placed are (λ l of off.
                is.now.visited i c p l at pair (literal c p l i at are of) of (subst (λ (n : ℕ). IsOnBelow s.trail.entries.items n (neg_ℤ l)) (sym all) off))
          ]
    ])
  where
    literal : (c : List ℤ) (p : Pair) (l : ℤ) (i : ℕ) → slice_get s.clauses i ≡ Some c → ArePair c p → IsOf l p → IsLiteral l
    literal c p l i at are of =
        let clause : IsClause c = all_get IsClause s.clauses i c is.trail.clauses at in
        elim of [
          | inl e ↦ subst IsLiteral e (all_among IsLiteral c p.first clause.0 are.first)
          | inr e ↦ subst IsLiteral e (all_among IsLiteral c p.second clause.0 are.second)
        ]

-- ---- where memory runs out
pub grows-front : (level : ℕ) (es new : List Entry) → GrowsOnLevel level es new → take (length es) new ≡ es
grows-front level es new (more, e, all) = ap (take (length es)) e ∙ take-append_seam es more

-- what was reached before still holds of what is watched now
pub before-visited : (level : ℕ) (known : List (List ℤ)) (w w' : Watches) (es new : List Entry) (r : Reach) → GrowsOnLevel level es new → r.entries ≤ length es → r.visited ≤ length es → IsReached known w es r → ((q : Reach) → q.visited ≤ length new → IsReached known w new q → IsReached known w' new q) → IsReached known w' es r
before-visited level known w w' es new r grows entries visited is moved =
    let longer = grows-longer level es new grows in
    subst (λ (xs : List Entry). IsReached known w' xs r) (grows-front level es new grows) (reached-back known w' new (length es) r entries visited (moved r (omega arith) (reached-grows level known w es new r grows entries visited is)))

-- the literals that were made true are taken back, and no more
pub state-restored : (old new : State) (t : Trail) → IsState old → KeepsLevels old new → GrowsOnLevel (length old.levels.items) old.trail.entries.items new.trail.entries.items → CanBeTakenBack old new
    → t.entries.items ≡ take (length old.trail.entries.items) new.trail.entries.items → t.positions.items ≡ new.trail.positions.items
    → IsState (record { clauses = new.clauses; chains = new.chains; trail = t; watches = new.watches; levels = new.levels; visited = old.visited; settled = old.settled; kept = new.kept })
state-restored old new t is same grows back entries places =
    let is' = same.same.state in
    let levels = same.levels in
    let short = back.short in
    let marked = back.marked in
    let es : List Entry = old.trail.entries.items in
    let front : t.entries.items ≡ es = entries ∙ grows-front (length old.levels.items) es new.trail.entries.items grows in
    let at : (k : ℕ) (r : Reach) → slice_get new.levels.items k ≡ Some r → slice_get old.levels.items k ≡ Some r = λ k r. subst (λ (ls : List Reach). slice_get ls k ≡ Some r) levels in
    record {
      chains = is'.chains;
      trail = record {
        clauses = is'.trail.clauses;
        covered = subst (λ (xs : List ℕ). AllByRecursion (AreCovered xs) new.clauses) (sym places) is'.trail.covered;
        explained = subst (AreExplained new.clauses) (sym entries) (explained-back new.clauses new.trail.entries.items (length es) is'.trail.explained);
      };
      levelled = subst AreLevelled (sym front) is.levelled;
      starts = subst (λ (xs : List Entry). AreStarts xs new.levels.items) (sym front) (subst (AreStarts es) (sym levels) is.starts);
      watched = is'.watched;
      shorts = is'.shorts;
      bound = (let b = is.bound in omega (arith, ap length front));
      short_bound = (let b = is.short_bound in omega (arith, ap length short));
      bounds = λ k r here. let (b, n) = is.bounds k r (at k r here) in (b, omega (arith, ap length short));
      reached = λ k r here. let (below, none, count) = is.starts.start k r (at k r here) in let (b, n) = is.bounds k r (at k r here) in
          subst (λ (xs : List Entry). IsReached new.clauses new.watches xs r) (sym entries) (reached-back new.clauses new.watches new.trail.entries.items (length es) r (omega arith) (omega arith) (is'.reached k r here));
      now = subst (λ (xs : List Entry). IsReached new.clauses new.watches xs (record { entries = length xs; visited = old.visited; settled = old.settled })) (sym front) back.before;
      kept = (let b = is.kept.within in let same : new.kept.entries ≡ old.kept.entries = ap (λ (m : Kept). m.entries) marked in kept-change new.clauses new.clauses new.watches new.watches new.trail.entries.items t.entries.items new.levels.items new.levels.items new.kept is'.kept.count (omega (arith, ap length front)) is'.kept.early
          (first-same new.clauses new.clauses new.kept.count refl) (still-same new.clauses new.clauses new.watches.pairs new.watches.pairs refl refl) (moved-same new.kept.count new.watches.pairs new.watches.pairs new.trail.entries.items new.kept.visited refl) (front-take new.trail.entries.items t.entries.items (length es) new.kept.entries (omega arith) entries) is'.kept);
    }
