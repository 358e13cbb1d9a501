-- What stays right of a search from turn to turn, and that less is left to do.
use Rattle.std.proofs.Common.{◌≡◌, ℕ, ◌+◌, ◌<◌, ◌≤◌, List, [], ◌++◌, inl, inr, sym, ap, ◌∙◌, subst, arith, ℤ, neg_ℤ, unsigned_abs, length, length-append, take, Some, slice_get}
use Rattle.std.specs.List.{AllByRecursion}
use Rattle.std.proofs.Math.Seq.{take-append_seam}
use Rattle.std.proofs.lemmas.Option.{slice_get_within}
use Rattle.std.proofs.lemmas.List.{length_push, take-append-le}
use Rattle.mcs_base.proofs.Each.{all_among, all_from_among}
use Rattle.mcs_base.proofs.Lists.{slice_get_push_at}
use Rattle.mcs_base.proofs.Numbers.{unsigned_abs-neg_ℤ}
use Rattle.mcs_trace.specs.Clauses.{IsClause, IsLiteral}
use Rattle.mcs_engine.specs.declared.state.Reach.{Reach}
use Rattle.mcs_engine.specs.declared.state.State.{State}
use Rattle.mcs_engine.specs.declared.trail.Entry.{Entry}
use Rattle.mcs_engine.specs.Learning.{IsLate}
use Rattle.mcs_search.specs.Searches.{IsSatSearch, work_left, work_of}
use Rattle.mcs_engine.specs.States.{IsDecided, IsFull, IsState, KeepsClauses, KeepsLevels, reach_of}
use Rattle.mcs_engine.specs.Trails.{AreAssigned, AreCovered, ArePlaced, GrowsOnLevel, IsFalse, IsOpen, IsClauseSatisfied}
use Rattle.mcs_engine.proofs.TrailLemmas.{not_both_on, on-back, placed-back, placed-most}
use Rattle.mcs_search.proofs.WorkLemmas.{work_left-more, work_left-push}

-- ---- open clauses
-- a clause that is open is not false
pub open-not_false : (es : List Entry) (ps : List ℕ) (c : List ℤ) → ArePlaced es ps → IsOpen es c → IsFalse es c → ⊥
open-not_false es ps c placed (inl (k, among, on)) off = not_both_on es ps k placed on (off k among)
open-not_false es ps c placed (inr two) off = let (p, less, e) = off two.first two.has_first in two.free_first p (less, ap unsigned_abs e ∙ unsigned_abs-neg_ℤ two.first)

pub open-late : (es : List Entry) (ps : List ℕ) (n : ℕ) (c : List ℤ) → ArePlaced es ps → n ≤ length es → IsOpen (take n es) c → IsLate es n c
open-late es ps n c placed bound opened = inl (λ off. open-not_false (take n es) ps c (placed-back es ps n placed) opened (λ k among. on-back es n (neg_ℤ k) bound (off k among)))

-- where each variable has a value an open clause is satisfied
pub open-satisfied : (es : List Entry) (ps : List ℕ) (c : List ℤ) → AreAssigned es 1 (length ps) → IsClause c → AreCovered ps c → IsOpen es c → IsClauseSatisfied es c
open-satisfied es ps c all clause covered (inl satisfied) = satisfied
open-satisfied es ps c all clause covered (inr two) =
    let literal : IsLiteral two.first = all_among IsLiteral c two.first clause.0 two.has_first in
    let within : unsigned_abs two.first < length ps = all_among (λ (l : ℤ). unsigned_abs l < length ps) c two.first covered two.has_first in
    let (p, stands) = all (unsigned_abs two.first) (let some = literal.0 in omega arith) within in
    absurd (two.free_first p stands)

pub all-satisfied : (s : State) → IsState s → AreAssigned s.trail.entries.items 1 (length s.trail.positions.items) → AllByRecursion (IsOpen s.trail.entries.items) s.clauses → AllByRecursion (IsClauseSatisfied s.trail.entries.items) s.clauses
all-satisfied s is assigned opened = all_from_among (IsClauseSatisfied s.trail.entries.items) s.clauses (λ c among.
    open-satisfied s.trail.entries.items s.trail.positions.items c assigned (all_among IsClause s.clauses c is.trail.clauses among) (all_among (AreCovered s.trail.positions.items) s.clauses c is.trail.covered among) (all_among (IsOpen s.trail.entries.items) s.clauses c opened among))

-- ---- runs
front-same : (es new : List Entry) (n : ℕ) (more : List Entry) → new ≡ es ++ more → n ≤ length es → take n new ≡ take n es
front-same es new n more e bound = ap (take n) e ∙ take-append-le n es more bound

pub search-run : (old new : State) → IsSatSearch old → KeepsLevels old new → GrowsOnLevel (length old.levels.items) old.trail.entries.items new.trail.entries.items → IsSatSearch new
search-run old new is same (more, e, all) = record {
  full = same.same.full is.full;
  state = same.same.state;
  before = λ k r at.
      let at' : slice_get old.levels.items k ≡ Some r = subst (λ (ls : List Reach). slice_get ls k ≡ Some r) same.levels at in
      let (below, none, count) = is.state.starts.start k r at' in
      subst (λ (cs : List (List ℤ)). AllByRecursion (IsOpen (take r.entries new.trail.entries.items)) cs) (sym same.same.clauses)
      (subst (λ (xs : List Entry). AllByRecursion (IsOpen xs) old.clauses) (sym (front-same old.trail.entries.items new.trail.entries.items r.entries more e (omega arith))) (is.before k r at'));
}

pub search-decided : (old new : State) (l : ℤ) → IsSatSearch old → AllByRecursion (IsOpen old.trail.entries.items) old.clauses → KeepsClauses old new → IsDecided old new l → IsSatSearch new
search-decided old new l is opened same decided = record {
  full = same.full is.full;
  state = same.state;
  before = λ k r at. subst (λ (cs : List (List ℤ)). AllByRecursion (IsOpen (take r.entries new.trail.entries.items)) cs) (sym same.clauses)
      (elim (slice_get_push_at old.levels.items (reach_of old) k r (subst (λ (ls : List Reach). slice_get ls k ≡ Some r) decided.levels at)) [
        | inl at' ↦
            let (below, none, count) = is.state.starts.start k r at' in
            subst (λ (xs : List Entry). AllByRecursion (IsOpen xs) old.clauses) (sym (front-same old.trail.entries.items new.trail.entries.items r.entries _ decided.entries (omega arith))) (is.before k r at')
        | inr (last, e) ↦
            let whole : take r.entries new.trail.entries.items ≡ old.trail.entries.items = ap (λ (x : Reach). take x.entries new.trail.entries.items) e ∙ ap (take (length old.trail.entries.items)) decided.entries ∙ take-append_seam old.trail.entries.items _ in
            subst (λ (xs : List Entry). AllByRecursion (IsOpen xs) old.clauses) (sym whole) opened
      ]);
}

-- ---- less is left
-- a literal was decided, and then a run came
pub less-decided : (old between new : State) (l : ℤ) → IsDecided old between l → GrowsOnLevel (length between.levels.items) between.trail.entries.items new.trail.entries.items → length new.trail.positions.items ≡ length old.trail.positions.items → work_of new < work_of old
less-decided old between new l decided (more, e, all) size =
    let n : ℕ = length old.trail.positions.items in
    let es : List Entry = old.trail.entries.items in
    let bound : length new.trail.entries.items ≤ length new.trail.positions.items = placed-most new.trail.entries.items new.trail.positions.items new.trail.placed in
    let longer : length new.trail.entries.items ≡ length between.trail.entries.items + length more = ap length e ∙ length-append between.trail.entries.items more in
    let size' : length between.trail.entries.items ≡ length es + 1 = ap length decided.entries ∙ length_push es _ in
    let first : work_left n between.trail.entries.items < work_left n es = subst (λ (xs : List Entry). work_left n xs < work_left n es) (sym decided.entries) (work_left-push n es _ (omega arith)) in
    let rest : work_left n new.trail.entries.items ≤ work_left n between.trail.entries.items = subst (λ (xs : List Entry). work_left n xs ≤ work_left n between.trail.entries.items) (sym e) (work_left-more n between.trail.entries.items more (omega (arith, ap length e))) in
    subst (λ (m : ℕ). work_left m new.trail.entries.items < work_left n es) (sym size) (omega arith)

-- where nothing is decided
pub search-base : (s : State) → IsState s → IsFull s → s.levels.items ≡ [] → IsSatSearch s
search-base s kept full none = record {
  full = full;
  state = kept;
  before = λ k r at. absurd (let less = slice_get_within s.levels.items k r at in omega (arith, ap length none));
}

-- ---- all that was decided is taken back
pub search-back : (old new : State) → IsSatSearch old → KeepsClauses old new → new.levels.items ≡ [] → IsSatSearch new
search-back old new is same none = search-base new same.state (same.full is.full) none
