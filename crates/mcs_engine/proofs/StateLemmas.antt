-- What stays right of a solver when a level is opened, when levels are taken back, and when a clause is added.
use Rattle.std.proofs.Common.{◌≡◌, ℕ, ◌+◌, ◌<◌, ◌≤◌, List, [], ◌∷◌, ◌++◌, ◌⊎◌, inl, inr, refl, sym, ap, ◌∙◌, subst, arith, ℤ, neg_ℤ, unsigned_abs, length, length-append, take, Option, Some, None, MatchOption, IfSome, slice_get, Vec, Global}
use Rattle.std.specs.List.{AllByRecursion}
use Rattle.std.proofs.Math.Seq.{take-append_seam}
use Rattle.std.proofs.lemmas.List.{length_push, length-take-le, take-append-le}
use Rattle.std.proofs.lemmas.Bool.{cases_lt}
use Rattle.std.proofs.lemmas.Option.{slice_get_within}
use Rattle.mcs_base.specs.Listings.{IsAmong}
use Rattle.mcs_base.proofs.Among.{among_left, among_push}
use Rattle.mcs_base.proofs.Each.{all_among, all_get, all_push}
use Rattle.mcs_base.proofs.Lists.{slice_get-append_right, slice_get_push_at, slice_get_take}
use Rattle.mcs_trace.specs.Clauses.{IsClause, IsLiteral}
use Rattle.mcs_trace.specs.Traces.{IsChainResolvent}
use Rattle.mcs_engine.specs.declared.lists.Lists.{Lists}
use Rattle.mcs_engine.specs.declared.state.Kept.{Kept}
use Rattle.mcs_engine.specs.declared.state.Reach.{Reach}
use Rattle.mcs_engine.specs.declared.state.State.{State}
use Rattle.mcs_engine.specs.declared.trail.Entry.{Entry}
use Rattle.mcs_engine.specs.declared.trail.Trail.{Trail}
use Rattle.mcs_engine.specs.declared.watches.Pair.{Pair}
use Rattle.mcs_engine.specs.declared.watches.Watches.{Watches}
use Rattle.mcs_engine.specs.States.{AreChains, AreStarts, IsFull, IsState, KeepsClauses, KeepsLevels, KeepsLiterals, reach_of}
use Rattle.mcs_engine.specs.Extending.{IsTrail}
use Rattle.mcs_engine.specs.Trails.{AreCovered, AreExplained, AreLevelled, IsOnBelow, IsClauseSatisfied}
use Rattle.mcs_engine.specs.Pairs.{no_pair}
use Rattle.mcs_engine.specs.Lists.{IsInList, KeepsLists}
use Rattle.mcs_engine.specs.Watching.{ArePair, AreWatched, IsFreshPair, AreVisitsKept, IsLong, IsOf, IsPaired, IsPushed, IsReached}
use Rattle.mcs_engine.proofs.GrowLemmas.{trail-same}
use Rattle.mcs_engine.proofs.KeptLemmas.{first-push, first-same, front-push, front-same, front-take, kept-change, kept-now, later-push, later-same, later-take, moved-push, moved-same, still-known, still-push, still-same}
use Rattle.mcs_engine.proofs.LevelLemmas.{decisions-longer, levelled-back, levelled-decide, starts-back, starts-decide}
use Rattle.mcs_engine.proofs.TrailLemmas.{entry-back, entry-old, explained-back, explained-known, explained-push}
use Rattle.mcs_engine.proofs.WatchLemmas.{no-pair, pair-long, reached-list, watched-list}

-- ---- parts that stay as they were
pub covered-same : (known : List (List ℤ)) (ps ps' : List ℕ) → length ps' ≡ length ps → AllByRecursion (AreCovered ps) known → AllByRecursion (AreCovered ps') known
covered-same known ps ps' size all = subst (λ (n : ℕ). AllByRecursion (λ (c : List ℤ). AllByRecursion (λ (l : ℤ). unsigned_abs l < n) c) known) (sym size) all

-- where nothing but memory changed
pub state-same : (old new : State) → IsState old → new.clauses ≡ old.clauses → new.chains ≡ old.chains → new.trail.entries.items ≡ old.trail.entries.items → length new.trail.positions.items ≡ length old.trail.positions.items → KeepsLists old.watches.lists new.watches.lists → new.watches.pairs ≡ old.watches.pairs → new.watches.short.items ≡ old.watches.short.items → new.levels.items ≡ old.levels.items → new.visited ≡ old.visited → new.settled ≡ old.settled → new.kept ≡ old.kept → IsState new
state-same old new is clauses chains entries positions kept pairs short levels visited settled marked =
    let reached : (r : Reach) → IsReached old.clauses old.watches old.trail.entries.items r → IsReached new.clauses new.watches new.trail.entries.items r = λ r h.
    subst (λ (known : List (List ℤ)). IsReached known new.watches new.trail.entries.items r) (sym clauses) (subst (λ (es : List Entry). IsReached old.clauses new.watches es r) (sym entries) (reached-list old.clauses old.watches new.watches old.trail.entries.items r pairs short h)) in
    record {
      chains = subst (λ (known : List (List ℤ)). AreChains known new.chains) (sym clauses) (subst (AreChains old.clauses) (sym chains) is.chains);
      trail = subst (λ (known : List (List ℤ)). IsTrail known new.trail) (sym clauses) (trail-same old.clauses old.trail new.trail is.trail positions entries);
      levelled = subst AreLevelled (sym entries) is.levelled;
      starts = subst (λ (es : List Entry). AreStarts es new.levels.items) (sym entries) (subst (AreStarts old.trail.entries.items) (sym levels) is.starts);
      watched = subst (λ (known : List (List ℤ)). AreWatched known new.watches) (sym clauses) (watched-list old.clauses old.watches new.watches is.watched pairs short kept);
      shorts = λ j i at. let less = is.shorts j i (subst (λ (xs : List ℕ). slice_get xs j ≡ Some i) short at) in omega (arith, ap length clauses);
      bound = (let b = is.bound in omega (arith, visited, ap length entries));
      short_bound = (let b = is.short_bound in omega (arith, settled, ap length short));
      bounds = λ k r at. let (b, s) = is.bounds k r (subst (λ (ls : List Reach). slice_get ls k ≡ Some r) levels at) in (b, omega (arith, ap length short));
      reached = λ k r at. reached r (is.reached k r (subst (λ (ls : List Reach). slice_get ls k ≡ Some r) levels at));
      now = subst (IsReached new.clauses new.watches new.trail.entries.items) (same-reach old new entries visited settled) (reached (reach_of old) is.now);
      kept = subst (AreVisitsKept new.clauses new.watches new.trail.entries.items new.levels.items) (sym marked)
          (kept-change old.clauses new.clauses old.watches new.watches old.trail.entries.items new.trail.entries.items old.levels.items new.levels.items old.kept (let b = is.kept.count in omega (arith, ap length pairs)) (let b = is.kept.within in omega (arith, ap length entries))
          (later-same old.levels.items new.levels.items old.kept.entries levels is.kept.early) (first-same old.clauses new.clauses old.kept.count clauses) (still-same old.clauses new.clauses old.watches.pairs new.watches.pairs clauses pairs) (moved-same old.kept.count old.watches.pairs new.watches.pairs old.trail.entries.items old.kept.visited pairs) (front-same old.trail.entries.items new.trail.entries.items old.kept.entries entries) is.kept);
    }
  where
    same-reach : (old new : State) → new.trail.entries.items ≡ old.trail.entries.items → new.visited ≡ old.visited → new.settled ≡ old.settled → reach_of old ≡ reach_of new
    same-reach old new entries visited settled = cc

-- where nothing changed
pub keeps-none : (s : State) → IsState s → KeepsClauses s s
keeps-none s is = record { state = is; clauses = refl; chains = refl; positions = refl; full = λ full. full }

pub keeps-then : (a b c : State) → KeepsClauses a b → KeepsClauses b c → KeepsClauses a c
keeps-then a b c ab bc = record { state = bc.state; clauses = bc.clauses ∙ ab.clauses; chains = bc.chains ∙ ab.chains; positions = bc.positions ∙ ab.positions; full = λ full. bc.full (ab.full full) }

pub levels-none : (s : State) → IsState s → KeepsLevels s s
levels-none s is = record { same = keeps-none s is; levels = refl }

pub levels-then : (a b c : State) → KeepsLevels a b → KeepsLevels b c → KeepsLevels a c
levels-then a b c ab bc = record { same = keeps-then a b c ab.same bc.same; levels = bc.levels ∙ ab.levels }

pub literals-none : (s : State) → IsState s → KeepsLiterals s s
literals-none s is = record { same = levels-none s is; entries = refl }

pub literals-then : (a b c : State) → KeepsLiterals a b → KeepsLiterals b c → KeepsLiterals a c
literals-then a b c ab bc = record { same = levels-then a b c ab.same bc.same; entries = bc.entries ∙ ab.entries }

-- where only what is watched and visited changed
pub literals-watched : (s : State) (w : Watches) (v : ℕ) (m : Kept) → IsState (record { clauses = s.clauses; chains = s.chains; trail = s.trail; watches = w; levels = s.levels; visited = v; settled = s.settled; kept = m }) → (IsFull s → length w.pairs ≡ length s.clauses)
    → KeepsLiterals s (record { clauses = s.clauses; chains = s.chains; trail = s.trail; watches = w; levels = s.levels; visited = v; settled = s.settled; kept = m })
literals-watched s w v m is full = record { same = record { same = record { state = is; clauses = refl; chains = refl; positions = refl; full = full }; levels = refl }; entries = refl }

-- what is visited now is kept
pub state-marked : (s : State) (m : Kept) → IsState s → s.levels.items ≡ [] → m ≡ record { count = length s.watches.pairs; entries = length s.trail.entries.items; visited = s.visited }
    → IsState (record { clauses = s.clauses; chains = s.chains; trail = s.trail; watches = s.watches; levels = s.levels; visited = s.visited; settled = s.settled; kept = m })
state-marked s m is base now = record {
  chains = is.chains;
  trail = is.trail;
  levelled = is.levelled;
  starts = is.starts;
  watched = is.watched;
  shorts = is.shorts;
  bound = is.bound;
  short_bound = is.short_bound;
  bounds = is.bounds;
  reached = is.reached;
  now = is.now;
  kept = subst (AreVisitsKept s.clauses s.watches s.trail.entries.items s.levels.items) (sym now) (kept-now s.clauses s.watches s.trail.entries.items s.levels.items s.visited s.settled s.kept base is.bound is.now is.kept);
}

-- ---- more literals, and fewer
pub below-more : (es more : List Entry) (n m : ℕ) (l : ℤ) → n ≤ m → n ≤ length es → IsOnBelow es n l → IsOnBelow (es ++ more) m l
below-more es more n m l order bound (p, less, e) = (p, omega arith, ap (λ (x : Entry). x.literal) (entry-old es more p (omega arith)) ∙ e)

pub below-less : (es more : List Entry) (n : ℕ) (l : ℤ) → n ≤ length es → IsOnBelow (es ++ more) n l → IsOnBelow es n l
below-less es more n l bound (p, less, e) = (p, less, ap (λ (x : Entry). x.literal) (sym (entry-old es more p (omega arith))) ∙ e)

pub below-take : (es : List Entry) (n m : ℕ) (l : ℤ) → n ≤ m → IsOnBelow es n l → IsOnBelow (take m es) n l
below-take es n m l order (p, less, e) = (p, less, ap (λ (x : Entry). x.literal) (entry-back es m p (omega arith)) ∙ e)

pub take-below : (es : List Entry) (n m : ℕ) (l : ℤ) → n ≤ m → IsOnBelow (take m es) n l → IsOnBelow es n l
take-below es n m l order (p, less, e) = (p, less, ap (λ (x : Entry). x.literal) (sym (entry-back es m p (omega arith))) ∙ e)

pub reached-more : (known : List (List ℤ)) (w : Watches) (es more : List Entry) (r : Reach) → r.entries ≤ length es → r.visited ≤ length es → IsReached known w es r → IsReached known w (es ++ more) r
reached-more known w es more r entries visited is = record {
  visited = λ i c p l known' at literal of off.
      let (k, among, on) = is.visited i c p l known' at literal of (below-less es more r.visited (neg_ℤ l) visited off) in
      (k, among, below-more es more r.entries r.entries k (omega arith) entries on);
  settled = λ j i c less at known' none.
      let (k, among, on) = is.settled j i c less at known' none in
      (k, among, below-more es more r.entries r.entries k (omega arith) entries on);
}

-- as far as before, where there are more literals
pub reached-on : (known : List (List ℤ)) (w : Watches) (es more : List Entry) (v s n : ℕ) → v ≤ length es → n ≡ length (es ++ more) → IsReached known w es (record { entries = length es; visited = v; settled = s }) → IsReached known w (es ++ more) (record { entries = n; visited = v; settled = s })
reached-on known w es more v s n visited size is =
    let order : length es ≤ n = omega (arith, length-append es more, size) in
    record {
      visited = λ i c p l known' at literal of off.
          let (k, among, on) = is.visited i c p l known' at literal of (below-less es more v (neg_ℤ l) visited off) in
          (k, among, below-more es more (length es) n k order (omega arith) on);
      settled = λ j i c less at known' none.
          let (k, among, on) = is.settled j i c less at known' none in
          (k, among, below-more es more (length es) n k order (omega arith) on);
    }

pub reached-back : (known : List (List ℤ)) (w : Watches) (es : List Entry) (n : ℕ) (r : Reach) → r.entries ≤ n → r.visited ≤ n → IsReached known w es r → IsReached known w (take n es) r
reached-back known w es n r entries visited is = record {
  visited = λ i c p l known' at literal of off.
      let (k, among, on) = is.visited i c p l known' at literal of (take-below es r.visited n (neg_ℤ l) visited off) in
      (k, among, below-take es r.entries n k entries on);
  settled = λ j i c less at known' none.
      let (k, among, on) = is.settled j i c less at known' none in
      (k, among, below-take es r.entries n k entries on);
}

-- ---- a level is opened
abbrev pub decided_entry : State → ℤ → Entry
decided_entry s l = record { literal = l; reason = 0; level = length s.levels.items + 1 }

pub state-decided : (s : State) (t : Trail) (ls : Vec Reach Global) (l : ℤ) → IsState s → t.entries.items ≡ s.trail.entries.items ++ decided_entry s l ∷ [] → length t.positions.items ≡ length s.trail.positions.items → ls.items ≡ s.levels.items ++ reach_of s ∷ []
    → IsState (record { clauses = s.clauses; chains = s.chains; trail = t; watches = s.watches; levels = ls; visited = s.visited; settled = s.settled; kept = s.kept })
state-decided s t ls l is entries positions levels =
    let es : List Entry = s.trail.entries.items in
    let e : Entry = decided_entry s l in
    let longer : length t.entries.items ≡ length es + 1 = ap length entries ∙ length_push es e in
    let reached : (r : Reach) → r.entries ≤ length es → r.visited ≤ length es → IsReached s.clauses s.watches es r → IsReached s.clauses s.watches t.entries.items r = λ r b v h.
    subst (λ (xs : List Entry). IsReached s.clauses s.watches xs r) (sym entries) (reached-more s.clauses s.watches es (e ∷ []) r b v h) in
    record {
      chains = is.chains;
      trail = record {
        clauses = is.trail.clauses;
        covered = covered-same s.clauses s.trail.positions.items t.positions.items positions is.trail.covered;
        explained = subst (AreExplained s.clauses) (sym entries) (explained-push s.clauses es e is.trail.explained (inl refl));
      };
      levelled = subst AreLevelled (sym entries) (levelled-decide es e is.levelled refl (omega (arith, is.starts.count)));
      starts = subst (λ (xs : List Entry). AreStarts xs ls.items) (sym entries) (subst (AreStarts (es ++ e ∷ [])) (sym levels) (starts-decide es s.levels.items e (reach_of s) is.starts refl refl));
      watched = is.watched;
      shorts = is.shorts;
      bound = (let b = is.bound in omega (arith, longer));
      short_bound = is.short_bound;
      bounds = λ k r at. elim (slice_get_push_at s.levels.items (reach_of s) k r (subst (λ (xs : List Reach). slice_get xs k ≡ Some r) levels at)) [
        | inl old ↦ is.bounds k r old
        | inr (last, same) ↦ subst (λ (x : Reach). (x.visited ≤ x.entries) × (x.settled ≤ length s.watches.short.items)) (sym same) (is.bound, is.short_bound)
      ];
      reached = λ k r at. elim (slice_get_push_at s.levels.items (reach_of s) k r (subst (λ (xs : List Reach). slice_get xs k ≡ Some r) levels at)) [
        | inl old ↦ let (below, none, count) = is.starts.start k r old in let (v, n) = is.bounds k r old in reached r (omega arith) (omega arith) (is.reached k r old)
        | inr (last, same) ↦ subst (IsReached s.clauses s.watches t.entries.items) (sym same) (reached (reach_of s) (omega arith) is.bound is.now)
      ];
      now = subst (λ (xs : List Entry). IsReached s.clauses s.watches xs (record { entries = length t.entries.items; visited = s.visited; settled = s.settled })) (sym entries) (reached-on s.clauses s.watches es (e ∷ []) s.visited s.settled (length t.entries.items) is.bound (ap length entries) is.now);
      kept = (let b = is.kept.within in kept-change s.clauses s.clauses s.watches s.watches es t.entries.items s.levels.items ls.items s.kept is.kept.count (omega (arith, longer))
          (later-push s.levels.items ls.items (reach_of s) s.kept.entries b levels is.kept.early) (first-same s.clauses s.clauses s.kept.count refl) (still-same s.clauses s.clauses s.watches.pairs s.watches.pairs refl refl) (moved-same s.kept.count s.watches.pairs s.watches.pairs es s.kept.visited refl) (front-push es t.entries.items e s.kept.entries b entries) is.kept);
    }

-- ---- levels are taken back
-- a lower level begins earlier
pub starts-order : (es : List Entry) (levels : List Reach) (j k : ℕ) (q r : Reach) → AreStarts es levels → j < k → slice_get levels j ≡ Some q → slice_get levels k ≡ Some r → q.entries < r.entries
starts-order es levels j k q r is less at at' =
    let (below, none, count) = is.start j q at in
    let (below', none', count') = is.start k r at' in
    elim (cases_lt q.entries r.entries) [
      | inl earlier ↦ earlier
      | inr late ↦ absurd (let more = decisions-longer r.entries q.entries es late in omega arith)
    ]

-- what all levels below that of the reach say stays, where the literals from it on are taken back
pub state-back : (s : State) (t : Trail) (ls : Vec Reach Global) (k : ℕ) (r : Reach) → IsState s → slice_get s.levels.items k ≡ Some r → t.entries.items ≡ take r.entries s.trail.entries.items → t.positions.items ≡ s.trail.positions.items → ls.items ≡ take k s.levels.items
    → IsState (record { clauses = s.clauses; chains = s.chains; trail = t; watches = s.watches; levels = ls; visited = r.visited; settled = r.settled; kept = s.kept })
state-back s t ls k r is at entries positions levels =
    let es : List Entry = s.trail.entries.items in
    let (here, none, count) = is.starts.start k r at in
    let (v, n) = is.bounds k r at in
    let size : length t.entries.items ≡ r.entries = ap length entries ∙ length-take-le r.entries es (omega arith) in
    let reached : (q : Reach) → q.entries ≤ r.entries → q.visited ≤ r.entries → IsReached s.clauses s.watches es q → IsReached s.clauses s.watches t.entries.items q = λ q b w h.
    subst (λ (xs : List Entry). IsReached s.clauses s.watches xs q) (sym entries) (reached-back s.clauses s.watches es r.entries q b w h) in
    record {
      chains = is.chains;
      trail = record {
        clauses = is.trail.clauses;
        covered = covered-same s.clauses s.trail.positions.items t.positions.items (ap length positions) is.trail.covered;
        explained = subst (AreExplained s.clauses) (sym entries) (explained-back s.clauses es r.entries is.trail.explained);
      };
      levelled = subst AreLevelled (sym entries) (levelled-back r.entries es is.levelled);
      starts = subst (λ (xs : List Entry). AreStarts xs ls.items) (sym entries) (subst (AreStarts (take r.entries es)) (sym levels) (starts-back es s.levels.items k r is.starts at));
      watched = is.watched;
      shorts = is.shorts;
      bound = omega (arith, size);
      short_bound = n;
      bounds = λ j q at'. is.bounds j q (slice_get_take k s.levels.items j q (subst (λ (xs : List Reach). slice_get xs j ≡ Some q) levels at')).1;
      reached = λ j q at'.
          let (less, at'') = slice_get_take k s.levels.items j q (subst (λ (xs : List Reach). slice_get xs j ≡ Some q) levels at') in
          let order = starts-order es s.levels.items j k q r is.starts less at'' at in
          let (w, m) = is.bounds j q at'' in
          reached q (omega arith) (omega arith) (is.reached j q at'');
      now = subst (λ (n : ℕ). IsReached s.clauses s.watches t.entries.items (record { entries = n; visited = r.visited; settled = r.settled })) (sym size) (reached r (omega arith) v (is.reached k r at));
      kept = (let early = is.kept.early k r at in kept-change s.clauses s.clauses s.watches s.watches es t.entries.items s.levels.items ls.items s.kept is.kept.count (omega (arith, size))
          (later-take s.levels.items ls.items k s.kept.entries levels is.kept.early) (first-same s.clauses s.clauses s.kept.count refl) (still-same s.clauses s.clauses s.watches.pairs s.watches.pairs refl refl) (moved-same s.kept.count s.watches.pairs s.watches.pairs es s.kept.visited refl) (front-take es t.entries.items r.entries s.kept.entries early entries) is.kept);
    }

-- ---- a clause is added
-- what stands for the pair
abbrev pub get_pair : Option Pair → Pair
get_pair (Some p) = p
get_pair None = no_pair

-- a long clause has the pair, a short one has none
abbrev pub FitsPair : List ℤ → Option Pair → Type 0
FitsPair c o = MatchOption o (¬ IsLong c) (ArePair c)

paired-pushed : (c : List ℤ) (o : Option Pair) (p : Pair) → FitsPair c o → p ≡ get_pair o → IsPaired c p
paired-pushed c None p short same = inl same
paired-pushed c (Some q) p pair same = inr (subst (ArePair c) (sym same) pair)

-- no literals are the pair of a short clause alone
short-none : (c : List ℤ) (o : Option Pair) → AllByRecursion IsLiteral c → FitsPair c o → get_pair o ≡ no_pair → ¬ IsLong c
short-none c None literals fits none = fits
short-none c (Some p) literals fits none = absurd (no-pair p.first (all_among IsLiteral c p.first literals fits.first) (inl (ap (λ (q : Pair). q.first) (sym none))))

fits-short : (c : List ℤ) (o : Option Pair) → FitsPair c o → ¬ IsLong c → o ≡ None
fits-short c None fits none = refl
fits-short c (Some p) fits none = absurd (none (pair-long c p fits))

pairs-pushed : (old new : Watches) (o : Option Pair) → IsPushed old new o → new.pairs ≡ old.pairs ++ get_pair o ∷ []
pairs-pushed old new (Some p) h = h.0
pairs-pushed old new None h = h.0

-- each clause has its pair still
pub full-pushed : (known known' : List (List ℤ)) (old new : Watches) (c : List ℤ) (o : Option Pair) → length old.pairs ≡ length known → known' ≡ known ++ c ∷ [] → IsPushed old new o → length new.pairs ≡ length known'
full-pushed known known' old new c o full more pushed = omega (arith, ap length (pairs-pushed old new o pushed), length_push old.pairs (get_pair o), ap length more, length_push known c)

short-pushed : (old new : Watches) (o : Option Pair) (i : ℕ) → IsPushed old new o → IsAmong i old.short.items → IsAmong i new.short.items
short-pushed old new (Some p) i h among = subst (λ (xs : List ℕ). IsAmong i xs) (sym h.1) among
short-pushed old new None i h among = subst (λ (xs : List ℕ). IsAmong i xs) (sym h.1) (among_left i old.short.items (length old.pairs ∷ []) among)

short-added : (old new : Watches) (o : Option Pair) → IsPushed old new o → o ≡ None → IsAmong (length old.pairs) new.short.items
short-added old new None h e = subst (λ (xs : List ℕ). IsAmong (length old.pairs) xs) (sym h.1) ((among_push (length old.pairs) old.short.items (length old.pairs)).1 (inr refl))
short-added old new (Some p) h e = cc

-- an index of a short clause, before and after
short-at : (old new : Watches) (o : Option Pair) (j i : ℕ) → IsPushed old new o → slice_get new.short.items j ≡ Some i → (slice_get old.short.items j ≡ Some i) ⊎ ((j ≡ length old.short.items) × (i ≡ length old.pairs))
short-at old new (Some p) j i h at = inl (subst (λ (xs : List ℕ). slice_get xs j ≡ Some i) h.1 at)
short-at old new None j i h at = slice_get_push_at old.short.items (length old.pairs) j i (subst (λ (xs : List ℕ). slice_get xs j ≡ Some i) h.1 at)

short-longer : (old new : Watches) (o : Option Pair) → IsPushed old new o → length old.short.items ≤ length new.short.items
short-longer old new (Some p) h = omega (arith, ap length h.1)
short-longer old new None h = omega (arith, ap length h.1, length_push old.short.items (length old.pairs))

listed-pushed : (old new : Watches) (o : Option Pair) (l : ℤ) → IsPushed old new o → IsLiteral l → IsOf l (get_pair o) → IsInList new.lists l (length old.pairs)
listed-pushed old new (Some p) l h literal (inl e) = subst (λ (k : ℤ). IsInList new.lists k (length old.pairs)) e h.2
listed-pushed old new (Some p) l h literal (inr e) = subst (λ (k : ℤ). IsInList new.lists k (length old.pairs)) e h.3
listed-pushed old new None l h literal of = absurd (no-pair l literal of)

-- the pair of a clause that was there, or the new one
pair-at : (old new : Watches) (o : Option Pair) (i : ℕ) (p : Pair) → IsPushed old new o → slice_get new.pairs i ≡ Some p → (slice_get old.pairs i ≡ Some p) ⊎ ((i ≡ length old.pairs) × (p ≡ get_pair o))
pair-at old new o i p pushed at = slice_get_push_at old.pairs (get_pair o) i p (subst (λ (ps : List Pair). slice_get ps i ≡ Some p) (pairs-pushed old new o pushed) at)

watched-pushed : (known : List (List ℤ)) (c : List ℤ) (old new : Watches) (o : Option Pair) → slice_get known (length old.pairs) ≡ Some c → AreWatched known old → KeepsLists old.lists new.lists → IsPushed old new o → FitsPair c o → AreWatched known new
watched-pushed known c old new o here is kept pushed fits = record {
  sized = (let less = slice_get_within known (length old.pairs) c here in omega (arith, ap length (pairs-pushed old new o pushed), length_push old.pairs (get_pair o)));
  paired = λ i d p known' at. elim (pair-at old new o i p pushed at) [
    | inl at' ↦ is.paired i d p known' at'
    | inr (last, same) ↦ subst (λ (x : List ℤ). IsPaired x p) (this i d last known') (paired-pushed c o p fits same)
  ];
  listed = λ i p l at literal of. elim (pair-at old new o i p pushed at) [
    | inl at' ↦ kept.listed l i (is.listed i p l at' literal of)
    | inr (last, same) ↦ subst (λ (n : ℕ). IsInList new.lists l n) (sym last) (listed-pushed old new o l pushed literal (subst (IsOf l) same of))
  ];
  short = λ i d less known' none. elim (cases_lt i (length old.pairs)) [
    | inl before ↦ short-pushed old new o i pushed (is.short i d before known' none)
    | inr past ↦
        let last : i ≡ length old.pairs = omega (arith, ap length (pairs-pushed old new o pushed), length_push old.pairs (get_pair o)) in
        subst (λ (n : ℕ). IsAmong n new.short.items) (sym last) (short-added old new o pushed (fits-short c o fits (subst (λ (x : List ℤ). ¬ IsLong x) (sym (this i d last known')) none)))
  ];
}
  where
    this : (i : ℕ) (d : List ℤ) → i ≡ length old.pairs → slice_get known i ≡ Some d → c ≡ d
    this i d last at = let both : Some c ≡ Some d = sym here ∙ ap (slice_get known) (sym last) ∙ at in cc

fresh-at : (es : List Entry) (n : ℕ) (o : Option Pair) (l : ℤ) → IsFreshPair es n o → IsLiteral l → IsOf l (get_pair o) → ¬ IsOnBelow es n (neg_ℤ l)
fresh-at es n (Some p) l fresh literal of = fresh l of
fresh-at es n None l fresh literal of = absurd (no-pair l literal of)

reached-pushed : (known : List (List ℤ)) (old new : Watches) (o : Option Pair) (es : List Entry) (r : Reach) → IsPushed old new o → r.settled ≤ length old.short.items → IsFreshPair es r.visited o → IsReached known old es r → IsReached known new es r
reached-pushed known old new o es r pushed settled fresh is = record {
  visited = λ i d p l known' at literal of off. elim (pair-at old new o i p pushed at) [
    | inl at' ↦ is.visited i d p l known' at' literal of off
    | inr (last, same) ↦ absurd (fresh-at es r.visited o l fresh literal (subst (IsOf l) same of) off)
  ];
  settled = λ j i d less at known' none. elim (short-at old new o j i pushed at) [
    | inl at' ↦ is.settled j i d less at' known' none
    | inr (last, same) ↦ absurd (omega arith)
  ];
}

-- where the clauses go on
reached-known : (known : List (List ℤ)) (c : List ℤ) (w : Watches) (es : List Entry) (r : Reach) → AreWatched known w → ((j i : ℕ) → slice_get w.short.items j ≡ Some i → i < length known) → IsReached known w es r → IsReached (known ++ c ∷ []) w es r
reached-known known c w es r watched shorts is = record {
  visited = λ i d p l known' at literal of off. elim (slice_get_push_at known c i d known') [
    | inl before ↦ is.visited i d p l before at literal of off
    | inr (last, same) ↦ absurd (let sized = watched.sized in let less = slice_get_within w.pairs i p at in omega arith)
  ];
  settled = λ j i d less at known' none. elim (slice_get_push_at known c i d known') [
    | inl before ↦ is.settled j i d less at before none
    | inr (last, same) ↦ absurd (let within = shorts j i at in omega arith)
  ];
}

watched-known : (known : List (List ℤ)) (c : List ℤ) (w : Watches) → AreWatched known w → AreWatched (known ++ c ∷ []) w
watched-known known c w is = record {
  sized = (let sized = is.sized in omega (arith, length_push known c));
  paired = λ i d p known' at. elim (slice_get_push_at known c i d known') [
    | inl before ↦ is.paired i d p before at
    | inr (last, same) ↦ absurd (let sized = is.sized in let less = slice_get_within w.pairs i p at in omega arith)
  ];
  listed = is.listed;
  short = λ i d less known' none. elim (slice_get_push_at known c i d known') [
    | inl before ↦ is.short i d less before none
    | inr (last, same) ↦ absurd (let sized = is.sized in omega arith)
  ];
}

chains-pushed : (known : List (List ℤ)) (chains : List (List ℕ)) (c : List ℤ) (ns : List ℕ) → AreChains known chains → (ns ≡ []) ⊎ IsChainResolvent known ns c → AreChains (known ++ c ∷ []) (chains ++ ns ∷ [])
chains-pushed known chains c ns is right = record {
  sized = omega (arith, length_push chains ns, length_push known c, is.sized);
  right = λ i d ms known' at. elim (slice_get_push_at known c i d known') [
    | inl before ↦ elim (slice_get_push_at chains ns i ms at) [
      | inl at' ↦ subst (λ (ks : List (List ℤ)). (ms ≡ []) ⊎ IsChainResolvent ks ms d) (sym (take-append-le i known (c ∷ []) (let less = slice_get_within known i d before in omega arith))) (is.right i d ms before at')
      | inr (last, same) ↦ absurd (let less = slice_get_within known i d before in omega (arith, is.sized))
    ]
    | inr (last, same) ↦ elim (slice_get_push_at chains ns i ms at) [
      | inl at' ↦ absurd (let less = slice_get_within chains i ms at' in omega (arith, is.sized))
      | inr (last', same') ↦ subst (λ (ks : List (List ℤ)). (ms ≡ []) ⊎ IsChainResolvent ks ms d) (sym (ap (λ (n : ℕ). take n (known ++ c ∷ [])) last ∙ take-append_seam known (c ∷ [])))
          (subst (λ (xs : List ℕ). (xs ≡ []) ⊎ IsChainResolvent known xs d) (sym same') (subst (λ (x : List ℤ). (ns ≡ []) ⊎ IsChainResolvent known ns x) (sym same) right))
    ]
  ];
}

-- a clause with its chain is added, which watches nothing yet
pub state-added : (s : State) (cs : List (List ℤ)) (ms : List (List ℕ)) (c : List ℤ) (ns : List ℕ) → IsState s → cs ≡ s.clauses ++ c ∷ [] → ms ≡ s.chains ++ ns ∷ [] → IsClause c → AreCovered s.trail.positions.items c → (ns ≡ []) ⊎ IsChainResolvent s.clauses ns c
    → IsState (record { clauses = cs; chains = ms; trail = s.trail; watches = s.watches; levels = s.levels; visited = s.visited; settled = s.settled; kept = s.kept })
state-added s cs ms c ns is clauses chains clause covered right =
    let known : List (List ℤ) = s.clauses ++ c ∷ [] in
    let es : List Entry = s.trail.entries.items in
    record {
      chains = subst (λ (ks : List (List ℤ)). AreChains ks ms) (sym clauses) (subst (AreChains known) (sym chains) (chains-pushed s.clauses s.chains c ns is.chains right));
      trail = subst (λ (ks : List (List ℤ)). IsTrail ks s.trail) (sym clauses) (record {
        clauses = all_push IsClause s.clauses c is.trail.clauses clause;
        covered = all_push (AreCovered s.trail.positions.items) s.clauses c is.trail.covered covered;
        explained = explained-known s.clauses (c ∷ []) es is.trail.explained;
      });
      levelled = is.levelled;
      starts = is.starts;
      watched = subst (λ (ks : List (List ℤ)). AreWatched ks s.watches) (sym clauses) (watched-known s.clauses c s.watches is.watched);
      shorts = λ j i at. let less = is.shorts j i at in omega (arith, ap length clauses, length_push s.clauses c);
      bound = is.bound;
      short_bound = is.short_bound;
      bounds = is.bounds;
      reached = λ k r at. subst (λ (ks : List (List ℤ)). IsReached ks s.watches es r) (sym clauses) (reached-known s.clauses c s.watches es r is.watched is.shorts (is.reached k r at));
      now = subst (λ (ks : List (List ℤ)). IsReached ks s.watches es (reach_of s)) (sym clauses) (reached-known s.clauses c s.watches es (reach_of s) is.watched is.shorts is.now);
      kept = (let b = is.kept.count in let few = is.watched.sized in kept-change s.clauses cs s.watches s.watches es es s.levels.items s.levels.items s.kept b is.kept.within is.kept.early
          (first-push s.clauses c cs s.kept.count (omega arith) clauses) (still-known s.clauses c cs s.watches.pairs few clauses) (moved-same s.kept.count s.watches.pairs s.watches.pairs es s.kept.visited refl) (front-same es es s.kept.entries refl) is.kept);
    }

-- the next clause watches the pair, and less may have been visited than before
pub state-attached : (s : State) (w : Watches) (c : List ℤ) (o : Option Pair) (v : ℕ) → IsState s → slice_get s.clauses (length s.watches.pairs) ≡ Some c → KeepsLists s.watches.lists w.lists → IsPushed s.watches w o → FitsPair c o
    → v ≤ s.visited → IsFreshPair s.trail.entries.items v o → ((k : ℕ) (r : Reach) → slice_get s.levels.items k ≡ Some r → IsFreshPair s.trail.entries.items r.visited o)
    → IsState (record { clauses = s.clauses; chains = s.chains; trail = s.trail; watches = w; levels = s.levels; visited = v; settled = s.settled; kept = s.kept })
state-attached s w c o v is here kept pushed fits low fresh levels =
    let es : List Entry = s.trail.entries.items in
    let longer = short-longer s.watches w o pushed in
    let within = slice_get_within s.clauses (length s.watches.pairs) c here in
    record {
      chains = is.chains;
      trail = is.trail;
      levelled = is.levelled;
      starts = is.starts;
      watched = watched-pushed s.clauses c s.watches w o here is.watched kept pushed fits;
      shorts = λ j i at. elim (short-at s.watches w o j i pushed at) [
        | inl at' ↦ is.shorts j i at'
        | inr (last, same) ↦ omega arith
      ];
      bound = (let b = is.bound in omega arith);
      short_bound = (let b = is.short_bound in omega arith);
      bounds = λ k r at. let (b, n) = is.bounds k r at in (b, omega arith);
      reached = λ k r at. let (b, n) = is.bounds k r at in reached-pushed s.clauses s.watches w o es r pushed n (levels k r at) (is.reached k r at);
      now = reached-pushed s.clauses s.watches w o es (record { entries = length es; visited = v; settled = s.settled }) pushed is.short_bound fresh (reached-fewer s.clauses s.watches es (length es) s.visited v s.settled low is.now);
      kept = (let b = is.kept.count in kept-change s.clauses s.clauses s.watches w es es s.levels.items s.levels.items s.kept (omega (arith, ap length (pairs-pushed s.watches w o pushed), length_push s.watches.pairs (get_pair o))) is.kept.within is.kept.early
          (first-same s.clauses s.clauses s.kept.count refl) (still-push s.clauses s.watches.pairs w.pairs (get_pair o) (pairs-pushed s.watches w o pushed) (λ d at none. short-none d o (all_get IsClause s.clauses (length s.watches.pairs) d is.trail.clauses at).0 (subst (λ (x : List ℤ). FitsPair x o) (this d at) fits) none))
          (moved-push s.kept.count s.watches.pairs w.pairs (get_pair o) es s.kept.visited b (pairs-pushed s.watches w o pushed)) (front-same es es s.kept.entries refl) is.kept);
    }
  where
    this : (d : List ℤ) → slice_get s.clauses (length s.watches.pairs) ≡ Some d → c ≡ d
    this d at = let both : Some c ≡ Some d = sym here ∙ at in cc

    reached-fewer : (known : List (List ℤ)) (w : Watches) (es : List Entry) (n m v t : ℕ) → v ≤ m → IsReached known w es (record { entries = n; visited = m; settled = t }) → IsReached known w es (record { entries = n; visited = v; settled = t })
    reached-fewer known w es n m v t low is = record {
      visited = λ i c p l known' at literal of (q, less, on). is.visited i c p l known' at literal of (q, omega arith, on);
      settled = is.settled;
    }

-- the next clause is satisfied, and watches nothing
pub state-spared : (s : State) (w : Watches) (c : List ℤ) → IsState s → slice_get s.clauses (length s.watches.pairs) ≡ Some c → w.pairs ≡ s.watches.pairs ++ no_pair ∷ [] → w.lists ≡ s.watches.lists → w.short.items ≡ s.watches.short.items
    → IsLong c → IsClauseSatisfied s.trail.entries.items c → s.kept.entries ≡ length s.trail.entries.items
    → IsState (record { clauses = s.clauses; chains = s.chains; trail = s.trail; watches = w; levels = s.levels; visited = s.visited; settled = s.settled; kept = s.kept })
state-spared s w c is here pairs lists short long satisfied all =
    let es : List Entry = s.trail.entries.items in
    let within = slice_get_within s.clauses (length s.watches.pairs) c here in
    let size : length w.pairs ≡ length s.watches.pairs + 1 = omega (arith, ap length pairs, length_push s.watches.pairs no_pair) in
    let reached : (r : Reach) → IsReached s.clauses s.watches es r → IsReached s.clauses w es r = λ r h. record {
      visited = λ i d p l known at literal of off. elim (before i p at) [
        | inl at' ↦ h.visited i d p l known at' literal of off
        | inr (last, same) ↦ absurd (no-pair l literal (subst (IsOf l) same of))
      ];
      settled = λ j i d less at known none. h.settled j i d less (subst (λ (xs : List ℕ). slice_get xs j ≡ Some i) short at) known none;
    } in
    record {
      chains = is.chains;
      trail = is.trail;
      levelled = is.levelled;
      starts = is.starts;
      watched = record {
        sized = omega arith;
        paired = λ i d p known at. elim (before i p at) [ inl at' ↦ is.watched.paired i d p known at' | inr (last, same) ↦ inl same ];
        listed = λ i p l at literal of. elim (before i p at) [
          | inl at' ↦ subst (λ (ls : Lists). IsInList ls l i) (sym lists) (is.watched.listed i p l at' literal of)
          | inr (last, same) ↦ absurd (no-pair l literal (subst (IsOf l) same of))
        ];
        short = λ i d less known none. subst (λ (xs : List ℕ). IsAmong i xs) (sym short) (elim (cases_lt i (length s.watches.pairs)) [
          | inl earlier ↦ is.watched.short i d earlier known none
          | inr past ↦ absurd (none (subst IsLong (this i d (omega arith) known) long))
        ]);
      };
      shorts = λ j i at. is.shorts j i (subst (λ (xs : List ℕ). slice_get xs j ≡ Some i) short at);
      bound = is.bound;
      short_bound = (let b = is.short_bound in omega (arith, ap length short));
      bounds = λ k r at. let (b, n) = is.bounds k r at in (b, omega (arith, ap length short));
      reached = λ k r at. reached r (is.reached k r at);
      now = reached (reach_of s) is.now;
      kept = record {
        count = (let b = is.kept.count in omega arith);
        within = is.kept.within;
        bound = is.kept.bound;
        early = is.kept.early;
        visited = λ i d p l less known at literal of off. elim (before i p at) [
          | inl at' ↦ is.kept.visited i d p l less known at' literal of off
          | inr (last, same) ↦ absurd (no-pair l literal (subst (IsOf l) same of))
        ];
        spared = λ i d known at long'. elim (before i no_pair at) [
          | inl at' ↦ is.kept.spared i d known at' long'
          | inr (last, same) ↦
              let (k, among, (p, less, e)) = subst (IsClauseSatisfied es) (this i d last known) satisfied in
              (k, among, (p, omega arith, e))
        ];
      };
    }
  where
    before : (i : ℕ) (p : Pair) → slice_get w.pairs i ≡ Some p → (slice_get s.watches.pairs i ≡ Some p) ⊎ ((i ≡ length s.watches.pairs) × (p ≡ no_pair))
    before i p at = slice_get_push_at s.watches.pairs no_pair i p (subst (λ (ps : List Pair). slice_get ps i ≡ Some p) pairs at)

    this : (i : ℕ) (d : List ℤ) → i ≡ length s.watches.pairs → slice_get s.clauses i ≡ Some d → c ≡ d
    this i d last at = let both : Some c ≡ Some d = sym here ∙ ap (slice_get s.clauses) (sym last) ∙ at in cc

-- a clause with its chain is added and watches the pair, where each clause before it has its own
pub state-pushed : (s : State) (cs : List (List ℤ)) (ms : List (List ℕ)) (w : Watches) (c : List ℤ) (ns : List ℕ) (o : Option Pair) (v : ℕ) → IsState s → IsFull s → cs ≡ s.clauses ++ c ∷ [] → ms ≡ s.chains ++ ns ∷ [] → KeepsLists s.watches.lists w.lists → IsPushed s.watches w o → FitsPair c o → IsClause c → AreCovered s.trail.positions.items c → (ns ≡ []) ⊎ IsChainResolvent s.clauses ns c
    → v ≤ s.visited → IsFreshPair s.trail.entries.items v o → ((k : ℕ) (r : Reach) → slice_get s.levels.items k ≡ Some r → IsFreshPair s.trail.entries.items r.visited o)
    → IsState (record { clauses = cs; chains = ms; trail = s.trail; watches = w; levels = s.levels; visited = v; settled = s.settled; kept = s.kept })
state-pushed s cs ms w c ns o v is full clauses chains kept pushed fits clause covered right low fresh levels =
    let last : length s.watches.pairs ≡ length s.clauses + 0 = omega (arith, full) in
    let here : slice_get cs (length s.watches.pairs) ≡ Some c = ap (λ (ks : List (List ℤ)). slice_get ks (length s.watches.pairs)) clauses ∙ ap (slice_get (s.clauses ++ c ∷ [])) last ∙ slice_get-append_right s.clauses (c ∷ []) 0 in
    state-attached (record { clauses = cs; chains = ms; trail = s.trail; watches = s.watches; levels = s.levels; visited = s.visited; settled = s.settled; kept = s.kept }) w c o v (state-added s cs ms c ns is clauses chains clause covered right) here kept pushed fits low fresh levels

-- ---- pairs of a clause
fits-each : (P : ℤ → Type 0) (c : List ℤ) (o : Option Pair) → AllByRecursion P c → FitsPair c o → IfSome o (λ p. P p.first × P p.second)
fits-each P c None all fits = tt
fits-each P c (Some p) all fits = (all_among P c p.first all fits.first, all_among P c p.second all fits.second)

pub fits-literals : (c : List ℤ) (o : Option Pair) → IsClause c → FitsPair c o → IfSome o (λ p. IsLiteral p.first × IsLiteral p.second)
fits-literals c o clause fits = fits-each IsLiteral c o clause.0 fits

pub fresh-none : (es : List Entry) (o : Option Pair) → IsFreshPair es 0 o
fresh-none es None = tt
fresh-none es (Some p) = λ l of (q, less, on). omega arith

pub fresh-base : (es : List Entry) (levels : List Reach) (o : Option Pair) → levels ≡ [] → (k : ℕ) (r : Reach) → slice_get levels k ≡ Some r → IsFreshPair es r.visited o
fresh-base es levels o none k r at = absurd (let less = slice_get_within levels k r at in omega (arith, ap length none))
