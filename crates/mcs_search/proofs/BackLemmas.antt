-- What stays right of a search that learns and goes back, and that less is left to do then.
use Rattle.std.proofs.Common.{◌≡◌, ℕ, ◌+◌, ◌-◌, ◌<◌, ◌≤◌, List, [], ◌∷◌, ◌++◌, ◌⊎◌, inl, inr, refl, sym, ap, ◌∙◌, subst, arith, ℤ, pos, neg_ℤ, unsigned_abs, length, take, Option, Some, None, slice_get}
use Rattle.std.proofs.Math.IntN.{neg_ℤ-neg_ℤ}
use Rattle.std.specs.List.{AllByRecursion}
use Rattle.std.proofs.lemmas.Bool.{cases_lt}
use Rattle.std.proofs.lemmas.List.{append-nil, append_assoc, length-take-le, take-take}
use Rattle.std.proofs.lemmas.Option.{same_Some}
use Rattle.mcs_base.specs.Listings.{IsAmong}
use Rattle.mcs_base.proofs.Among.{among_push}
use Rattle.mcs_base.proofs.Each.{all_among, all_get, all_push}
use Rattle.mcs_base.proofs.Lists.{slice_get_below, slice_get_push_at, slice_get_take}
use Rattle.mcs_base.proofs.Numbers.{unsigned_abs-neg_ℤ}
use Rattle.mcs_engine.specs.declared.latest.Latest.{Latest}
use Rattle.mcs_engine.specs.declared.state.Reach.{Reach}
use Rattle.mcs_engine.specs.declared.state.State.{State}
use Rattle.mcs_engine.specs.declared.trail.Entry.{Entry}
use Rattle.mcs_engine.specs.Learning.{IsLatest, IsSingle}
use Rattle.mcs_search.specs.Searches.{IsRun, IsSatSearch, work_left, work_of}
use Rattle.mcs_engine.specs.States.{IsLastLevel, IsLearntBack, IsOfLastLevel, IsReady, IsState}
use Rattle.mcs_engine.specs.Trails.{ArePlaced, GrowsOnLevel, IsFalse, IsOn, IsOpen, StandsNowhere, literal_at}
use Rattle.mcs_engine.proofs.LevelLemmas.{before-start, below-start}
use Rattle.mcs_search.proofs.SearchLemmas.{open-not_false}
use Rattle.mcs_engine.proofs.StateLemmas.{starts-order}
use Rattle.mcs_engine.proofs.TrailLemmas.{entry-back, not_both_on, on-back, placed-back, placed-most, same_place}
use Rattle.mcs_engine.proofs.TurnLemmas.{single-latest}
use Rattle.mcs_search.proofs.WorkLemmas.{work_left-back, work_left-more}

-- ---- where a learnt clause leads back
-- the reach of the level that is gone back to, and what is known of the places of the clause
pub record IsGoneBack (s : State) (c : List ℤ) (latest : Latest) (level : ℕ) : Type 0 where
  pub reach : Reach
  pub at : slice_get s.levels.items level ≡ Some reach
  pub late : reach.entries ≤ latest.place
  pub early : latest.others ≤ reach.entries

pub gone-back : (old new : State) (c : List ℤ) (ns : List ℕ) → IsState old → (b : IsLearntBack old new c ns) → IsOfLastLevel old c → IsGoneBack old c b.latest b.level
gone-back old new c ns is b single =
    let es : List Entry = old.trail.entries.items in
    let (reach, at) = slice_get_below old.levels.items b.level b.below in
    let last : Reach = single.last in
    let (few, far) = single-latest es old.trail.positions.items c last.entries b.latest old.trail.placed single.single b.is_latest in
    record {
      reach = reach;
      at = at;
      late = let order = not-after b.level (length old.levels.items - 1) reach last (let l = b.below in omega arith) at single.is in omega arith;
      early = elim (cases_lt 0 b.latest.others) [
        | inl some ↦ let here = before-start es old.levels.items b.level (b.latest.others - 1) reach is.levelled is.starts at (let x = b.is_latest.before in let y = b.is_latest.here in omega arith) (let e = b.some some in omega arith) in omega arith
        | inr none ↦ omega arith
      ];
    }
  where
    not-after : (j k : ℕ) (q r : Reach) → j ≤ k → slice_get old.levels.items j ≡ Some q → slice_get old.levels.items k ≡ Some r → q.entries ≤ r.entries
    not-after j k q r order at at' = elim (cases_lt j k) [
      | inl less ↦ let o = starts-order old.trail.entries.items old.levels.items j k q r is.starts less at at' in omega arith
      | inr past ↦ let same-index : j ≡ k = omega arith in let same : q ≡ r = same_Some q r (sym at ∙ ap (slice_get old.levels.items) same-index ∙ at') in subst (λ (x : Reach). q.entries ≤ x.entries) same (omega arith)
    ]

-- a variable does not stand before its place
nowhere-before : (es : List Entry) (ps : List ℕ) (n q : ℕ) → ArePlaced es ps → n ≤ q → q < length es → StandsNowhere (take n es) (unsigned_abs (neg_ℤ (literal_at es q)))
nowhere-before es ps n q placed early here i (less, size) =
    let bound : length (take n es) ≡ n = length-take-le n es (omega arith) in
    let e : literal_at (take n es) i ≡ literal_at es i = ap (λ (x : Entry). x.literal) (entry-back es n i (omega arith)) in
    let same : i ≡ q = same_place es ps i q placed (omega arith) here (ap unsigned_abs (sym e) ∙ size ∙ unsigned_abs-neg_ℤ (literal_at es q)) in
    omega arith

-- the literals of the clause but the latest are false where it goes back to
others-false : (es : List Entry) (c : List ℤ) (m : Latest) (n : ℕ) (k : ℤ) → IsLatest es c m → m.others ≤ n → n ≤ length es → IsAmong k c → (k ≡ neg_ℤ (literal_at es m.place)) ⊎ IsOn (take n es) (neg_ℤ k)
others-false es c m n k is early bound among = elim (is.others k among) [
  | inl e ↦ inl e
  | inr (p, less, e) ↦ inr (on-back es n (neg_ℤ k) bound (p, omega arith, e))
]

-- so it is neither open there nor false
forcing-not_open : (es : List Entry) (ps : List ℕ) (c : List ℤ) (m : Latest) (n : ℕ) → ArePlaced es ps → IsLatest es c m → m.others ≤ n → n ≤ m.place → IsOpen (take n es) c → ⊥
forcing-not_open es ps c m n placed is early late (inl (k, among, on)) =
    let bound : n ≤ length es = (let h = is.here in omega arith) in
    elim (others-false es c m n k is early bound among) [
      | inl e ↦ let (p, less, at) = on in nowhere-before es ps n m.place placed late is.here p (less, ap unsigned_abs (at ∙ e))
      | inr off ↦ not_both_on (take n es) ps k (placed-back es ps n placed) on off
    ]
forcing-not_open es ps c m n placed is early late (inr two) =
    let bound : n ≤ length es = (let h = is.here in omega arith) in
    let stands : (k : ℤ) → StandsNowhere (take n es) (unsigned_abs k) → IsOn (take n es) (neg_ℤ k) → ⊥ = λ k free (p, less, at). free p (less, ap unsigned_abs at ∙ unsigned_abs-neg_ℤ k) in
    elim (others-false es c m n two.first is early bound two.has_first) [
      | inl e ↦ elim (others-false es c m n two.second is early bound two.has_second) [
        | inl e' ↦ two.differ (e ∙ sym e')
        | inr off ↦ stands two.second two.free_second off
      ]
      | inr off ↦ stands two.first two.free_first off
    ]

forcing-not_false : (es : List Entry) (ps : List ℕ) (c : List ℤ) (m : Latest) (n : ℕ) → ArePlaced es ps → IsLatest es c m → n ≤ m.place → IsFalse (take n es) c → ⊥
forcing-not_false es ps c m n placed is late off =
    let (p, less, at) = off (neg_ℤ (literal_at es m.place)) is.has in
    nowhere-before es ps n m.place placed late is.here p (less, ap unsigned_abs at ∙ unsigned_abs-neg_ℤ (neg_ℤ (literal_at es m.place)))

-- below a lower level two of its literals are free
open-below : (old new : State) (c : List ℤ) (ns : List ℕ) (k : ℕ) (r : Reach) → IsState old → (b : IsLearntBack old new c ns) → (g : IsGoneBack old c b.latest b.level) → k < b.level → slice_get old.levels.items k ≡ Some r → IsOpen (take r.entries old.trail.entries.items) c
open-below old new c ns k r is b g less at =
    let es : List Entry = old.trail.entries.items in
    let ps : List ℕ = old.trail.positions.items in
    let m : Latest = b.latest in
    let order = starts-order es old.levels.items k b.level r g.reach is.starts less at g.at in
    let there : 0 < m.others = elim (cases_lt 0 m.others) [ inl some ↦ some | inr none ↦ absurd (let e = b.none (omega arith) in omega arith) ] in
    let within : m.others - 1 < length es = (let x = b.is_latest.before in let y = b.is_latest.here in omega arith) in
    let later : r.entries ≤ m.others - 1 = elim (cases_lt (m.others - 1) r.entries) [
      | inl below ↦ absurd (let low = below-start es old.levels.items k (m.others - 1) r is.levelled is.starts at below in let e = b.some there in omega arith)
      | inr past ↦ past
    ] in
    inr (record {
      first = neg_ℤ (literal_at es m.place);
      second = neg_ℤ (literal_at es (m.others - 1));
      has_first = b.is_latest.has;
      has_second = b.is_latest.last there;
      differ = λ e. let same = same_place es ps m.place (m.others - 1) old.trail.placed b.is_latest.here within (ap unsigned_abs (sym (neg_ℤ-neg_ℤ (literal_at es m.place)) ∙ ap neg_ℤ e ∙ neg_ℤ-neg_ℤ (literal_at es (m.others - 1)))) in let x = b.is_latest.before in omega arith;
      free_first = nowhere-before es ps r.entries m.place old.trail.placed (let l = g.late in omega arith) b.is_latest.here;
      free_second = nowhere-before es ps r.entries (m.others - 1) old.trail.placed later within;
    })

-- ---- the search
pub search-learnt : (old new : State) (c : List ℤ) (ns : List ℕ) → IsSatSearch old → IsReady new → (b : IsLearntBack old new c ns) → IsGoneBack old c b.latest b.level → IsSatSearch new
search-learnt old new c ns is ready b g = record {
  full = ready.full;
  state = ready.state;
  before = λ k r at.
      let es : List Entry = old.trail.entries.items in
      let (less, at') = slice_get_take b.level old.levels.items k r (subst (λ (ls : List Reach). slice_get ls k ≡ Some r) b.back.levels at) in
      let order = starts-order es old.levels.items k b.level r g.reach is.state.starts less at' g.at in
      let front : take r.entries new.trail.entries.items ≡ take r.entries es = ap (take r.entries) (b.back.entries g.reach g.at) ∙ take-take r.entries g.reach.entries es (omega arith) in
      subst (λ (cs : List (List ℤ)). AllByRecursion (IsOpen (take r.entries new.trail.entries.items)) cs) (sym b.clauses)
      (subst (λ (xs : List Entry). AllByRecursion (IsOpen xs) (old.clauses ++ c ∷ [])) (sym front)
      (all_push (IsOpen (take r.entries es)) old.clauses c (is.before k r at') (open-below old new c ns k r is.state b g less at')));
}

-- what a run comes to, by clauses and literals
abbrev IsRunOf : List (List ℤ) → List Entry → Option ℕ → Type 0
IsRunOf known xs None = AllByRecursion (IsOpen xs) known
IsRunOf known xs (Some i) = (d : List ℤ) × (slice_get known i ≡ Some d) × IsFalse xs d

-- after it a run makes at least one literal true
run-some : (old between new : State) (c : List ℤ) (ns : List ℕ) (found : Option ℕ) → IsSatSearch old → (b : IsLearntBack old between c ns) → IsGoneBack old c b.latest b.level → new.clauses ≡ between.clauses → new.trail.entries.items ≡ between.trail.entries.items → IsRun new found → ⊥
run-some old between new c ns found is b g clauses entries run =
    let es : List Entry = old.trail.entries.items in
    let ps : List ℕ = old.trail.positions.items in
    let known : new.clauses ≡ old.clauses ++ c ∷ [] = clauses ∙ b.clauses in
    let back : new.trail.entries.items ≡ take g.reach.entries es = entries ∙ b.back.entries g.reach g.at in
    at found (subst (λ (xs : List Entry). IsRunOf new.clauses xs found) back (as-run new found run)) known
  where
    as-run : (s : State) (o : Option ℕ) → IsRun s o → IsRunOf s.clauses s.trail.entries.items o
    as-run s None h = h
    as-run s (Some i) h = h

    at : (o : Option ℕ) → IsRunOf new.clauses (take g.reach.entries old.trail.entries.items) o → new.clauses ≡ old.clauses ++ c ∷ [] → ⊥
    at None all known = forcing-not_open old.trail.entries.items old.trail.positions.items c b.latest g.reach.entries old.trail.placed b.is_latest g.early g.late
        (all_among (IsOpen (take g.reach.entries old.trail.entries.items)) (old.clauses ++ c ∷ []) c (subst (λ (cs : List (List ℤ)). AllByRecursion (IsOpen (take g.reach.entries old.trail.entries.items)) cs) known all) ((among_push c old.clauses c).1 (inr refl)))
    at (Some i) (d, here, off) known = elim (slice_get_push_at old.clauses c i d (subst (λ (cs : List (List ℤ)). slice_get cs i ≡ Some d) known here)) [
      | inl before ↦ open-not_false (take g.reach.entries old.trail.entries.items) old.trail.positions.items d (placed-back old.trail.entries.items old.trail.positions.items g.reach.entries old.trail.placed) (all_get (IsOpen (take g.reach.entries old.trail.entries.items)) old.clauses i d (is.before b.level g.reach g.at) before) off
      | inr (last, same) ↦ forcing-not_false old.trail.entries.items old.trail.positions.items c b.latest g.reach.entries old.trail.placed b.is_latest g.late (subst (IsFalse (take g.reach.entries old.trail.entries.items)) same off)
    ]

pub less-learnt : (old between new : State) (c : List ℤ) (ns : List ℕ) (found : Option ℕ) → IsSatSearch old → (b : IsLearntBack old between c ns) → IsGoneBack old c b.latest b.level → new.clauses ≡ between.clauses → GrowsOnLevel (length between.levels.items) between.trail.entries.items new.trail.entries.items → IsRun new found → length new.trail.positions.items ≡ length old.trail.positions.items → work_of new < work_of old
less-learnt old between new c ns found is b g clauses (more, e, all) run size = subst (λ (m : ℕ). work_left m new.trail.entries.items < work_of old) (sym size) (at more e all)
  where
    at : (more : List Entry) → new.trail.entries.items ≡ between.trail.entries.items ++ more → AllByRecursion (λ (x : Entry). (0 < x.reason) × (x.level ≡ length between.levels.items)) more → work_left (length old.trail.positions.items) new.trail.entries.items < work_of old
    at [] e all = absurd (run-some old between new c ns found is b g clauses (e ∙ append-nil between.trail.entries.items) run)
    at (x ∷ more) e all =
        let n : ℕ = length old.trail.positions.items in
        let es : List Entry = old.trail.entries.items in
        let k : ℕ = g.reach.entries in
        let (here, none, count) = is.state.starts.start b.level g.reach g.at in
        let bound = placed-most es old.trail.positions.items old.trail.placed in
        let bound' = placed-most new.trail.entries.items new.trail.positions.items new.trail.placed in
        let front : new.trail.entries.items ≡ (take k es ++ x ∷ []) ++ more = e ∙ ap (λ (xs : List Entry). xs ++ x ∷ more) (b.back.entries g.reach g.at) ∙ sym (append_assoc (take k es) (x ∷ []) more) in
        let first : work_left n (take k es ++ x ∷ []) < work_left n es = work_left-back n es k (record { literal = pos 0; reason = 0; level = 0 }) x here (omega arith) none (λ zero. let some = all.0.0 in omega arith) in
        let rest : work_left n ((take k es ++ x ∷ []) ++ more) ≤ work_left n (take k es ++ x ∷ []) = work_left-more n (take k es ++ x ∷ []) more (omega (arith, ap length front)) in
        subst (λ (xs : List Entry). work_left n xs < work_left n es) (sym front) (omega arith)

-- what is learnt has one literal alone of the last level
pub single-last : (s : State) (r : Reach) (c : List ℤ) → IsState s → IsLastLevel s.levels.items r → (r.entries + 1 ≤ length s.trail.entries.items → IsSingle s.trail.entries.items r.entries c) → IsOfLastLevel s c
single-last s r c is last single =
    let (below, none, count) = is.starts.start (length s.levels.items - 1) r last in
    record { last = r; is = last; single = single (omega arith) }
