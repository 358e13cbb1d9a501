-- A clause with one literal of the last level: how it is found, and where it leads back.
use Rattle.std.proofs.Common.{◌≡◌, ℕ, suc, ◌+◌, ◌-◌, ◌<◌, ◌≤◌, List, [], inl, inr, sym, ap, ◌∙◌, subst, arith, ℤ, neg_ℤ, unsigned_abs, length, take, get_or, Some, slice_get}
use Rattle.std.specs.List.{AllByRecursion, flat_map}
use Rattle.std.proofs.Math.IntN.{neg_ℤ-neg_ℤ}
use Rattle.std.proofs.lemmas.Bool.{cases_lt}
use Rattle.std.proofs.lemmas.List.{length-take, take_all}
use Rattle.std.proofs.lemmas.Option.{slice_get-get_or, get_or_from_slice_get}
use Rattle.mcs_base.specs.Listings.{IsAmong}
use Rattle.mcs_base.proofs.Each.{all_among}
use Rattle.mcs_base.proofs.Lists.{slice_get_below}
use Rattle.mcs_base.proofs.Numbers.{unsigned_abs-neg_ℤ}
use Rattle.mcs_trace.specs.declared.trace.Step.{Step}
use Rattle.mcs_engine.specs.declared.latest.Latest.{Latest}
use Rattle.mcs_engine.specs.declared.state.Reach.{Reach}
use Rattle.mcs_engine.specs.declared.state.State.{State}
use Rattle.mcs_engine.specs.declared.trail.Entry.{Entry}
use Rattle.mcs_engine.specs.Learning.{AreImplied, IsLate, IsLatest, IsLearnt, IsSingle}
use Rattle.mcs_sat.specs.Solvers.{HasNoValue, HasOneOfLevel, IsAsserting, IsBackLevel, IsFalseUnder, IsLearned, IsValueOfLevel, IsOpenUnder, SolverView, trues, trues_below, view_of}
use Rattle.mcs_engine.specs.States.{IsLastLevel, IsLearntBack, IsOfLastLevel, IsState}
use Rattle.mcs_engine.specs.Trails.{AreLevelled, IsFalse, decisions, level_at, levels_of, literal_at}
use Rattle.mcs_engine.proofs.LatestLemmas.{some-latest}
use Rattle.mcs_engine.proofs.LevelLemmas.{before-start, below-start, decisions-longer, implied-last, levels-at, levels-back, levels-count, levels-from}
use Rattle.mcs_sat.proofs.UnitRunLemmas.{among-on, false-under, flat-levels, literals, on-among, open-not_false, placed-consistent, under-false}
use Rattle.mcs_sat.proofs.SolverLemmas.{same-view}
use Rattle.mcs_engine.proofs.TrailLemmas.{entry-back, on-back, placed-back, same_place}

-- ---- levels of literals
-- the place of a literal of the level
of-place : (es : List Entry) (m : ℕ) (l : ℤ) → AreLevelled es → IsValueOfLevel (levels_of es) m l → (i : ℕ) × (i < length es) × (level_at es i ≡ m) × (unsigned_abs (literal_at es i) ≡ unsigned_abs l)
of-place es m l levelled (level, at, here) =
    let read : get_or (levels_of es) m [] ≡ level = get_or_from_slice_get (levels_of es) m level [] at in
    elim here [
      | inl among ↦ let (i, less, is, e) = levels-from es m l levelled (subst (IsAmong l) (sym read) among) in (i, less, is, ap unsigned_abs e)
      | inr among ↦ let (i, less, is, e) = levels-from es m (neg_ℤ l) levelled (subst (IsAmong (neg_ℤ l)) (sym read) among) in (i, less, is, ap unsigned_abs e ∙ unsigned_abs-neg_ℤ l)
    ]

level-bound : (es : List Entry) (i : ℕ) → AreLevelled es → i < length es → level_at es i ≤ decisions es
level-bound es i levelled less = omega (arith, levelled i less, decisions-longer (i + 1) (length es) es (omega arith), ap decisions (take_all (length es) es (omega arith)))

-- the literal that stands at a place, negated, is of the level there
place-of : (es : List Entry) (i : ℕ) → AreLevelled es → i < length es → IsValueOfLevel (levels_of es) (level_at es i) (neg_ℤ (literal_at es i))
place-of es i levelled less =
    let within : level_at es i < length (levels_of es) = omega (arith, levels-count es, level-bound es i levelled less) in (
      get_or (levels_of es) (level_at es i) [],
      slice_get-get_or (levels_of es) (level_at es i) [] within,
      inr (subst (λ (k : ℤ). IsAmong k (get_or (levels_of es) (level_at es i) [])) (sym (neg_ℤ-neg_ℤ (literal_at es i))) (levels-at es i levelled less)),
    )

-- ---- the last level
module _ (s : State) (r : Reach) (is : IsState s) (some : 0 < length s.levels.items) (at : IsLastLevel s.levels.items r) where
  abbrev es : List Entry
  es = s.trail.entries.items

  abbrev ps : List ℕ
  ps = s.trail.positions.items

  -- its number
  abbrev last : ℕ
  last = length (levels_of s.trail.entries.items) - 1

  last-is : last ≡ length s.levels.items
  last-is = omega (arith, levels-count es, is.starts.count)

  from-last : (i : ℕ) → i < length es → r.entries ≤ i → level_at es i ≡ last
  from-last i less past =
      let bound : level_at es i ≤ decisions es = level-bound es i is.levelled less in
      elim (cases_lt (level_at es i) last) [
        | inl low ↦ absurd (let before = before-start es s.levels.items (length s.levels.items - 1) i r is.levelled is.starts at less (omega (arith, last-is)) in omega arith)
        | inr high ↦ omega (arith, last-is, is.starts.count)
      ]

  below-last : (i : ℕ) → i < length es → level_at es i ≡ last → r.entries ≤ i
  below-last i less e = elim (cases_lt i r.entries) [
    | inl before ↦ absurd (let low = below-start es s.levels.items (length s.levels.items - 1) i r is.levelled is.starts at before in omega (arith, last-is))
    | inr past ↦ past
  ]

  pub last-within : r.entries < length es
  last-within = (is.starts.start (length s.levels.items - 1) r at).0

  pub last-implied : AreImplied es r.entries
  last-implied = implied-last es s.levels.items (length s.levels.items - 1) r is.starts at (omega arith)

  -- under the literals before it
  below-trues : trues_below (levels_of es) last ≡ literals (take r.entries es)
  below-trues =
      let up : last ≡ length s.levels.items - 1 + 1 = omega (arith, last-is) in
      ap (λ (n : ℕ). flat_map (λ (x : List ℤ). x) (take n (levels_of es))) up
      ∙ sym (ap (flat_map (λ (x : List ℤ). x)) (levels-back es s.levels.items (length s.levels.items - 1) r is.starts at))
      ∙ flat-levels (take r.entries es)

  pub last-late : (c : List ℤ) → AllByRecursion (IsOpenUnder (trues_below (levels_of es) last)) s.clauses → IsAmong c s.clauses → IsLate es r.entries c
  last-late c opens among = inl (λ below. open-not_false (literals (take r.entries es)) c
      (placed-consistent (take r.entries es) ps (placed-back es ps r.entries s.trail.placed))
      (subst (λ (x : List ℤ). IsOpenUnder x c) below-trues (all_among (IsOpenUnder (trues_below (levels_of es) last)) s.clauses c opens among))
      (λ k among'. on-among (take r.entries es) (neg_ℤ k) (on-back es r.entries (neg_ℤ k) (let w = last-within in omega arith) (below k among'))))

  -- one literal of it
  pub single-one : (c : List ℤ) → IsSingle es r.entries c → HasOneOfLevel (levels_of es) last c
  single-one c (l, latest, before, after) = record {
    literal = neg_ℤ (literal_at es l.place);
    has = latest.has;
    here = subst (λ (m : ℕ). IsValueOfLevel (levels_of es) m (neg_ℤ (literal_at es l.place))) (from-last l.place latest.here after) (place-of es l.place is.levelled latest.here);
    only = λ k among of. elim (latest.others k among) [
      | inl e ↦ e
      | inr (j, less, on) ↦ absurd (
          let (i, within, level, size) = of-place es last k is.levelled of in
          let past : r.entries ≤ i = below-last i within level in
          let w = last-within in
          let same : i ≡ j = same_place es ps i j s.trail.placed within (omega arith) (size ∙ sym (ap unsigned_abs on ∙ unsigned_abs-neg_ℤ k)) in
          omega arith)
    ];
  }

  -- the latest of a clause with one literal of it
  one-split : (c : List ℤ) (l : Latest) → IsLatest es c l → HasOneOfLevel (levels_of es) last c → (l.others ≤ r.entries) × (r.entries ≤ l.place)
  one-split c l latest one =
      let here : l.place < length es = latest.here in
      let before : l.others ≤ l.place = latest.before in
      let after : r.entries ≤ l.place = elim (cases_lt l.place r.entries) [
        | inr past ↦ past
        | inl low ↦ absurd (
            let (i, within, level, size) = of-place es last one.literal is.levelled one.here in
            let past : r.entries ≤ i = below-last i within level in
            elim (latest.others one.literal one.has) [
              | inl e ↦ let same : i ≡ l.place = same_place es ps i l.place s.trail.placed within here (size ∙ ap unsigned_abs e ∙ unsigned_abs-neg_ℤ (literal_at es l.place)) in omega arith
              | inr (j, less, on) ↦ let same : i ≡ j = same_place es ps i j s.trail.placed within (omega arith) (size ∙ sym (ap unsigned_abs on ∙ unsigned_abs-neg_ℤ one.literal)) in omega arith
            ])
      ] in (
        elim (cases_lt r.entries l.others) [
          | inr within ↦ within
          | inl many ↦ absurd (
              let j : ℕ = l.others - 1 in
              let less : j < length es = omega arith in
              let first : neg_ℤ (literal_at es j) ≡ one.literal = one.only (neg_ℤ (literal_at es j)) (latest.last (omega arith)) (subst (λ (m : ℕ). IsValueOfLevel (levels_of es) m (neg_ℤ (literal_at es j))) (from-last j less (omega arith)) (place-of es j is.levelled less)) in
              let second : neg_ℤ (literal_at es l.place) ≡ one.literal = one.only (neg_ℤ (literal_at es l.place)) latest.has (subst (λ (m : ℕ). IsValueOfLevel (levels_of es) m (neg_ℤ (literal_at es l.place))) (from-last l.place here after) (place-of es l.place is.levelled here)) in
              let sizes : unsigned_abs (literal_at es j) ≡ unsigned_abs (literal_at es l.place) = sym (unsigned_abs-neg_ℤ (literal_at es j)) ∙ ap unsigned_abs (first ∙ sym second) ∙ unsigned_abs-neg_ℤ (literal_at es l.place) in
              let same : j ≡ l.place = same_place es ps j l.place s.trail.placed less here sizes in
              omega arith)
        ],
        after,
      )

  pub one-single : (c : List ℤ) → IsFalse es c → HasOneOfLevel (levels_of es) last c → IsSingle es r.entries c
  one-single c off one =
      let (l, latest) = some-latest es ps c one.literal s.trail.placed off one.has in
      let (before, after) = one-split c l latest one in
      (l, latest, before, after)

-- ---- what is analysed
pub some-levels : (s : State) (v : SolverView) → IsState s → view_of s ≡ v → 1 < length v.levels → 0 < length s.levels.items
some-levels s v is seen more = omega (arith, levels-count s.trail.entries.items, is.starts.count, ap (λ (x : SolverView). length x.levels) seen)

-- a right step with one literal of the last level
pub asserting : (s : State) (r : Reach) (step : Step) → IsState s → 0 < length s.levels.items → IsLastLevel s.levels.items r → IsLearnt s.clauses s.trail.entries.items step → (r.entries + 1 ≤ length s.trail.entries.items → IsSingle s.trail.entries.items r.entries step.clause) → IsAsserting (view_of s) step
asserting s r step is some at learnt single = record {
  right = learnt.chain;
  all_false = subst (λ (x : List ℤ). IsFalseUnder x step.clause) (sym (flat-levels s.trail.entries.items)) (false-under s.trail.entries.items step.clause learnt.all_false);
  single = single-one s r is some at step.clause (single (let w = last-within s r is some at in omega arith));
}

-- what is learnt of such a step
pub asserting-false : (s : State) (step : Step) → IsAsserting (view_of s) step → IsFalse s.trail.entries.items step.clause
asserting-false s step a = under-false s.trail.entries.items step.clause (subst (λ (x : List ℤ). IsFalseUnder x step.clause) (flat-levels s.trail.entries.items) a.all_false)

pub asserting-last : (s : State) (step : Step) → IsState s → 0 < length s.levels.items → IsAsserting (view_of s) step → IsOfLastLevel s step.clause
asserting-last s step is some a =
    let (r, at) = slice_get_below s.levels.items (length s.levels.items - 1) (omega arith) in
    record { last = r; is = at; single = one-single s r is some at step.clause (asserting-false s step a) a.single }

-- ---- what is learnt
module _ (old new : State) (step : Step) (is : IsState old) (asserting : IsAsserting (view_of old) step) (r last : Reach) (some : 0 < length old.levels.items) (at-last : IsLastLevel old.levels.items last) (back : IsLearntBack old new step.clause step.chain.items) (at : slice_get old.levels.items back.level ≡ Some r) where
  abbrev all : List Entry
  all = old.trail.entries.items

  abbrev kept : List Entry
  kept = take r.entries all

  abbrev l : Latest
  l = back.latest

  abbrev latest : IsLatest all step.clause l
  latest = back.is_latest

  abbrev free : ℤ
  free = neg_ℤ (literal_at all l.place)

  -- the latest is of the last level, and the others are of lower ones
  split : (l.others ≤ last.entries) × (last.entries ≤ l.place)
  split = one-split old last is some at-last step.clause l latest asserting.single

  -- the levels up to the one of the others end before the place
  lower : r.entries ≤ l.place
  lower = elim (cases_lt l.place r.entries) [
    | inl less ↦ absurd (
        let low = below-start all old.levels.items back.level l.place r is.levelled is.starts at less in
        let high = from-last old last is some at-last l.place latest.here split.1 in
        let below = back.below in
        omega (arith, last-is old last is some at-last))
    | inr past ↦ past
  ]

  -- the others stand on levels up to that one
  other-level : (j : ℕ) → j < l.others → level_at all j ≤ back.level
  other-level j less =
      let b = latest.before in
      let h = latest.here in
      omega (arith, is.levelled j (omega arith), is.levelled (l.others - 1) (omega arith), decisions-longer (j + 1) (l.others - 1 + 1) all (omega arith), back.some (omega arith))

  other-kept : (j : ℕ) → j < l.others → j < r.entries
  other-kept j less = before-start all old.levels.items back.level j r is.levelled is.starts at (let b = latest.before in let h = latest.here in omega arith) (other-level j less)

  new-entries : new.trail.entries.items ≡ kept
  new-entries = back.back.entries r at

  back-level : IsBackLevel (view_of old) step.clause back.level
  back-level = record {
    below = (let b = back.below in omega (arith, last-is old last is some at-last));
    others = λ k j among of.
        let (i, within, level, size) = of-place all j k is.levelled of in
        elim (latest.others k among) [
          | inl e ↦ inr (
              let same : i ≡ l.place = same_place all old.trail.positions.items i l.place old.trail.placed within latest.here (size ∙ ap unsigned_abs e ∙ unsigned_abs-neg_ℤ (literal_at all l.place)) in
              sym level ∙ ap (level_at all) same ∙ from-last old last is some at-last l.place latest.here split.1)
          | inr (p, less, on) ↦ inl (
              let b = latest.before in
              let h = latest.here in
              let same : i ≡ p = same_place all old.trail.positions.items i p old.trail.placed within (omega arith) (size ∙ sym (ap unsigned_abs on ∙ unsigned_abs-neg_ℤ k)) in
              omega (arith, other-level p less, ap (level_at all) same))
        ];
    has = elim (cases_lt 0 l.others) [
      | inl many ↦ inr (
        neg_ℤ (literal_at all (l.others - 1)),
        latest.last many,
        subst (λ (m : ℕ). IsValueOfLevel (levels_of all) m (neg_ℤ (literal_at all (l.others - 1)))) (sym (back.some many)) (place-of all (l.others - 1) is.levelled (let b = latest.before in let h = latest.here in omega arith)),
      )
      | inr none ↦ inl (back.none (omega arith))
    ];
  }

  new-trues : trues (view_of new) ≡ literals kept
  new-trues = flat-levels new.trail.entries.items ∙ ap literals new-entries

  no-value : HasNoValue (literals kept) free
  no-value k among size =
      let (p, less, on) = among-on kept k among in
      let below : p < r.entries = omega (arith, length-take r.entries all) in
      let within : p < length all = omega (arith, length-take r.entries all) in
      let there : literal_at all p ≡ k = ap (λ (e : Entry). e.literal) (sym (entry-back all r.entries p below)) ∙ on in
      let same : p ≡ l.place = same_place all old.trail.positions.items p l.place old.trail.placed within latest.here (ap unsigned_abs there ∙ size ∙ unsigned_abs-neg_ℤ (literal_at all l.place)) in
      let low = lower in
      omega arith

  pub learned-at : IsLearned (view_of old) (view_of new) step
  learned-at = record {
    level = back.level;
    back = back-level;
    is = same-view _ _ _ _ _ _ (ap (λ (n : ℕ). n - 1) back.positions) back.clauses (
        ap levels_of new-entries ∙ levels-back all old.levels.items back.level r is.starts at ∙ ap (λ (n : ℕ). take n (levels_of all)) (let up : back.level + 1 ≡ suc back.level = omega arith in up));
    free = free;
    has = latest.has;
    no_value = subst (λ (x : List ℤ). HasNoValue x free) (sym new-trues) no-value;
    others = λ k among. elim (latest.others k among) [
      | inl e ↦ inl e
      | inr (j, less, on) ↦ inr (subst (IsAmong (neg_ℤ k)) (sym new-trues) (on-among kept (neg_ℤ k) (on-back all r.entries (neg_ℤ k) (let low = lower in let h = latest.here in omega arith) (j, other-kept j less, on))))
    ];
  }

pub learned : (old new : State) (step : Step) → IsState old → IsAsserting (view_of old) step → 0 < length old.levels.items → IsLearntBack old new step.clause step.chain.items → IsLearned (view_of old) (view_of new) step
learned old new step is asserting some back =
    let (r, at) = slice_get_below old.levels.items back.level back.below in
    let (last, at-last) = slice_get_below old.levels.items (length old.levels.items - 1) (omega arith) in
    learned-at old new step is asserting r last some at-last back at
