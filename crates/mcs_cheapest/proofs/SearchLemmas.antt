-- The search begins, goes on by a level, or breaks off.
use Rattle.std.proofs.Common.{◌≡◌, ℕ, zero, suc, ◌+◌, ◌<◌, ◌≤◌, max, List, [], ◌++◌, map, length, Option, Some, None, Result, Ok, Err, refl, sym, ap, ◌∙◌, subst, inl, inr, ◌⊎◌, arith}
use Rattle.std.proofs.lemmas.Bool.{cases_lt}
use Rattle.std.specs.List.{AllByRecursion}
use Rattle.std.specs.Result.{IsErrAnd}
use Rattle.mcs_sets.specs.Orders.{PairBefore}
use Rattle.mcs_sets.specs.Sets.{size, Within}
use Rattle.mcs_base.specs.Listings.{IsAmong, IsListing}
use Rattle.mcs_base.proofs.Each.{all_from_among}
use Rattle.mcs_base.proofs.ListingLemmas.{IsListing-append, IsListing-nil, IsListing-same}
use Rattle.mcs_base.proofs.NumberCases.{not_less}
use Rattle.mcs_system.specs.Faults.{IsValid}
use Rattle.mcs_system.specs.Plain.{System}
use Rattle.mcs_system.specs.Repairs.{all_marks, IsDiagnosis}
use Rattle.mcs_system.proofs.MarkLemmas.{allowed_known}
use Rattle.mcs_states.specs.Calls.{CanBegin}
use Rattle.mcs_states.specs.Evaluators.{EvaluatorState, KeepsRest, HasDone, HasHaltCause, IsEvaluatorSettled, IsHaltOf, raised}
use Rattle.mcs_states.specs.declared.halt.Halt.{Halt}
use Rattle.mcs_states.specs.declared.halt.Halt.TheVariants.{Memory}
use Rattle.mcs_states.proofs.Causes.{cause_before, rest_kept, rest_same}
use Rattle.mcs_diagnosis.specs.Courses.{Course, IsPast}
use Rattle.mcs_diagnosis.specs.Diagnoses.{ArePairsOfSize, IsDiagnosisOfSize}
use Rattle.mcs_base.specs.Least.{IsLeastOf}
use Rattle.mcs_costs.specs.Costs.{ArePairs, cost, IsUpToStop}
use Rattle.mcs_cheapest.specs.Found.{HasBrokenOff, Searches}
use Rattle.mcs_cheapest.specs.Searching.{IsBelowMarks, IsDoneBefore, IsSearching, IsTaken}
use Rattle.mcs_cheapest.proofs.CountLemmas.{beyond_after, unanswered_after}
use Rattle.mcs_cheapest.proofs.EndLemmas.{IsBelow, next_up_to_stop}

-- ---- what breaks a part of the search off breaks it off whole
module _ {T : Type 0} (Wanted : T → Type 0) (e e' : EvaluatorState) where
  pub searches_cut : (h : Halt) (r : Result T Halt) → IsErrAnd r (λ f. f ≡ h) → HasBrokenOff e e' h → KeepsRest e e' → Searches Wanted e e' r
  searches_cut h (Ok x) is broke kept = absurd is
  searches_cut h (Err f) is broke kept = record { found = tt; stop = subst (HasBrokenOff e e') (sym is) broke; rest = kept }

  -- want of memory, at whatever level
  pub searches_memory : (r : Result T Halt) → IsErrAnd r (λ f. f ≡ Memory) → KeepsRest e e' → Searches Wanted e e' r
  searches_memory r is kept = searches_cut Memory r is broke kept
    where
      broke : HasBrokenOff e e' Memory
      broke = record { level = 0; up_to_stop = λ stop _. omega arith; cause = tt; told = tt; within = λ k less. absurd (omega (arith, less)); answered = λ k i x less. absurd (omega (arith, less)) }

-- ---- the pairs of a level come after those below it
pairs_below : (m : System) (level : ℕ) (pairs fresh : List ℕ) → IsListing (IsBelow m level) PairBefore pairs → ArePairsOfSize m level fresh → IsListing (IsBelow m (level + 1)) PairBefore (pairs ++ fresh)
pairs_below m level pairs fresh below found = IsListing-same PairBefore _ (IsBelow m (level + 1)) _ (λ p. (to p, from p)) (IsListing-append PairBefore (IsBelow m level) (IsDiagnosisOfSize m level) pairs fresh first below found)
  where
    first : (p q : ℕ) → IsBelow m level p → IsDiagnosisOfSize m level q → PairBefore p q
    first p q less is = inl (omega (arith, less.1, is.1))

    to : (p : ℕ) → IsBelow m level p ⊎ IsDiagnosisOfSize m level p → IsBelow m (level + 1) p
    to p (inl less) = (less.0, omega (arith, less.1))
    to p (inr is) = (is.0, omega (arith, is.1))

    from : (p : ℕ) → IsBelow m (level + 1) p → IsBelow m level p ⊎ IsDiagnosisOfSize m level p
    from p h = elim (cases_lt (size p) level) [
      | inl less ↦ inl (h.0, less)
      | inr past ↦ inr (h.0, omega (arith, h.1))
    ]

-- before level 0
pub search_begins : (m : System) (e : EvaluatorState) (level : ℕ) → level ≡ 0 → CanBegin m e → IsSearching e e level [] None
search_begins m e level none can = subst (λ (n : ℕ). IsSearching e e n [] None) (sym none) (record {
  going = can.going;
  rest = rest_same e;
  done = can.fresh;
  listed = IsListing-nil PairBefore _ (λ p h. absurd (omega (arith, h.1)));
  least_is = refl;
  taken = λ k less. absurd (omega (arith, less));
})

-- ---- a level more
pub raised_next : (e e' : EvaluatorState) (level : ℕ) → IsDoneBefore e level → e'.done ≡ raised e.done level → e'.done ≡ Some level
raised_next e e' zero fresh up = up ∙ ap (λ (d : Option ℕ). raised d 0) fresh
raised_next e e' (suc k) done up = up ∙ ap (λ (d : Option ℕ). raised d (suc k)) done.0 ∙ ap (λ (n : ℕ). Some n) (let most : max k (suc k) ≡ suc k = omega arith in most)

pub done_next : (e : EvaluatorState) (level : ℕ) → e.done ≡ Some level → IsEvaluatorSettled e → IsDoneBefore e (level + 1)
done_next e level done settled = subst (IsDoneBefore e) (let next : suc level ≡ level + 1 = omega arith in next) (done, settled)

module _ (first e : EvaluatorState) (n : System) (same : first.system ≡ n) (valid : IsValid n) (level : ℕ) (pairs : List ℕ) (least : Option ℕ) (s : IsSearching first e level pairs least) (open_yet : ¬ IsPast e.system level) (not_yet : ¬ IsBelowMarks first.system level least) where
  up_to_stop : IsUpToStop first.system level
  up_to_stop = next_up_to_stop first.system (subst IsValid (sym same) valid) level pairs s.listed least s.least_is (subst (λ (m : System). ¬ IsPast m level) s.rest.system open_yet) not_yet

  -- a call of the level halted
  pub breaks_off : (e' : EvaluatorState) (halt : Halt) → HasHaltCause e level halt → IsHaltOf e' halt → HasBrokenOff first e' halt
  breaks_off e' halt cause told = record {
    level = level;
    up_to_stop = up_to_stop;
    cause = cause_before first e s.rest level halt cause;
    told = told;
    within = λ k less. (s.taken k less).within;
    answered = λ k i x less. (s.taken k less).answered i x;
  }

  -- it was done
  pub goes_on : (e' : EvaluatorState) (level' : ℕ) (fresh seen seen' pairs' : List ℕ) (least' : Option ℕ) → KeepsRest e e' → HasDone e e' level → level' ≡ level + 1 → ArePairsOfSize e.system level fresh → seen ≡ fresh → seen' ≡ fresh → pairs' ≡ pairs ++ seen'
      → ((before : List ℕ) → IsLeastOf (map (cost n) before) least → IsLeastOf (map (cost n) (before ++ seen)) least') → IsSearching first e' level' pairs' least'
  goes_on e' level' fresh seen seen' pairs' least' kept h next found seen_is seen_is' grown least_grown =
      subst (λ (k : ℕ). IsSearching first e' k pairs' least') (sym next) (subst (λ (ps : List ℕ). IsSearching first e' (level + 1) ps least') (sym (grown ∙ ap (λ xs. pairs ++ xs) seen_is')) all)
    where
      here : IsTaken first level
      here = record { up_to_stop = up_to_stop; within = λ beyond. h.within (beyond_after first e s.rest level beyond); answered = λ i x u. h.answered i x (unanswered_after first e s.rest level i x u) }

      taken : (k : ℕ) → (k < level) ⊎ (level ≤ k) → k < level + 1 → IsTaken first k
      taken k (inl less) low = s.taken k less
      taken k (inr past) low = subst (IsTaken first) (let equal : level ≡ k = omega (arith, past, low) in equal) here

      own_least : IsLeastOf (map (cost n) pairs) least
      own_least = subst (λ (m : System). IsLeastOf (map (cost m) pairs) least) same s.least_is

      least_is : IsLeastOf (map (cost first.system) (pairs ++ fresh)) least'
      least_is = subst (λ (xs : List ℕ). IsLeastOf (map (cost first.system) (pairs ++ xs)) least') seen_is (subst (λ (m : System). IsLeastOf (map (cost m) (pairs ++ seen)) least') (sym same) (least_grown pairs own_least))

      all : IsSearching first e' (level + 1) (pairs ++ fresh) least'
      all = record {
        going = h.settled.going;
        rest = rest_kept first e e' s.rest kept;
        done = done_next e' level (raised_next e e' level s.done h.level_done) h.settled;
        listed = pairs_below first.system level pairs fresh s.listed (subst (λ (m : System). ArePairsOfSize m level fresh) s.rest.system found);
        least_is = least_is;
        taken = λ k low. taken k (cases_lt k level) low;
      }

-- the levels that are taken are no more than the rules and one
pub few_taken : (m n : System) (level : ℕ) → n ≡ m → ¬ IsPast n level → level ≤ length m.bridges
few_taken m n level same open_yet = not_less (length m.bridges) level (λ more. open_yet (inl (subst (λ (s : System). length s.bridges < level) (sym same) more)))

-- ---- marks of rules
marks_of_rules : (m : System) (pairs : List ℕ) → ((p : ℕ) → IsAmong p pairs → IsDiagnosis m p) → AllByRecursion (λ p. Within p (all_marks m)) pairs
marks_of_rules m pairs are = all_from_among (λ p. Within p (all_marks m)) pairs (λ p among. allowed_known m p (are p among).allowed)

-- the pairs of a level
pub fresh_marks : (n m : System) (level : ℕ) (fresh seen : List ℕ) → m ≡ n → seen ≡ fresh → ArePairsOfSize m level fresh → AllByRecursion (λ p. Within p (all_marks n)) seen
fresh_marks n m level fresh seen same seen_is l = subst (AllByRecursion (λ p. Within p (all_marks n))) (sym seen_is) (subst (λ (s : System). AllByRecursion (λ p. Within p (all_marks s)) fresh) same (marks_of_rules m fresh (λ p among. ((l.exactly p).0 among).0.one)))

-- the pairs of a search
pub found_pairs : (first e : EvaluatorState) (n : System) (level : ℕ) (pairs : List ℕ) (least : Option ℕ) → first.system ≡ n → IsSearching first e level pairs least → ArePairs n pairs
found_pairs first e n level pairs least same s = record {
  marks = marks_of_rules n pairs (λ p among. subst (λ (m : System). IsDiagnosis m p) same ((s.listed.exactly p).0 among).0.one);
  ascending = s.listed.ascending;
}

-- where no level was taken, all is as before
pub search_stays : {E : Type 0} → (stands : E → EvaluatorState) (first : EvaluatorState) (before after : Course E) (pairs : List ℕ) (least : Option ℕ) → after ≡ before → IsSearching first (stands before.evaluator) before.level pairs least → IsSearching first (stands after.evaluator) after.level pairs least
search_stays stands first before after pairs least still s = subst (λ (c : Course _). IsSearching first (stands c.evaluator) c.level pairs least) (sym still) s
