-- The cheapest pairs are shown, and all is told.
use Rattle.std.proofs.Common.{◌≡◌, ℕ, zero, suc, ◌+◌, ◌-◌, ◌<◌, ◌≤◌, max, false, List, [], ◌∷◌, ◌++◌, take, length, get_or, Option, Some, sym, ap, ◌∙◌, subst, arith}
use Rattle.std.proofs.lemmas.List.{map-append}
use Rattle.std.specs.List.{AllByRecursion}
use Rattle.mcs_sets.specs.Orders.{PairBefore}
use Rattle.mcs_sets.specs.Sets.{size}
use Rattle.mcs_base.specs.Listings.{IsAmong, IsListing}
use Rattle.mcs_base.proofs.Among.{among_get}
use Rattle.mcs_base.proofs.ListingLemmas.{IsListing-same}
use Rattle.mcs_base.proofs.Lists.{slice_get_read_as}
use Rattle.mcs_base.proofs.Written.{take_read}
use Rattle.mcs_system.specs.Levels.{IsCount}
use Rattle.mcs_system.specs.Plain.{System}
use Rattle.mcs_system.specs.Repairs.{IsDiagnosis}
use Rattle.mcs_states.specs.Evaluators.{EvaluatorState, KeepsRest, HasHalted, IsEvaluatorSettled, asked_of, raised}
use Rattle.mcs_states.specs.declared.halt.Halt.{Halt}
use Rattle.mcs_states.proofs.Causes.{cause_before, told}
use Rattle.mcs_diagnosis.specs.declared.diagnosis.Diagnosis as shown
use Rattle.mcs_diagnosis.specs.Diagnoses.{ShowsFirstState, pairs_of}
use Rattle.mcs_costs.specs.Costs.{cost, IsCheapest, IsStopLevel}
use Rattle.mcs_costs.proofs.StopLemmas.{cheapest_few, stop_is_one}
use Rattle.mcs_cheapest.specs.declared.cheapest.Cheapest as code
use Rattle.mcs_cheapest.specs.Found.{HasSearched, HasBrokenOff, IsLeastCost}
use Rattle.mcs_cheapest.specs.Searching.{CostsLeast, HasStopped, HasTakenEnough, IsDoneBefore}
use Rattle.mcs_cheapest.proofs.CountLemmas.{settled_count}
use Rattle.mcs_cheapest.proofs.EndLemmas.{cheapest_told, least_cost_told, some_taken, stops_last}

pub read_among : (xs ys : List ℕ) (i x p : ℕ) → ys ≡ xs → i < length ys → x ≡ get_or ys i x → p ≡ x → IsAmong p xs
read_among xs ys i x p same less is made = subst (λ (y : ℕ). IsAmong y xs) (sym made) (among_get x xs i (slice_get_read_as xs ys i x same less is))

-- ---- one more is shown
pub shown_more : (ds : List shown.Diagnosis) (xs : List ℕ) (i x : ℕ) (d : shown.Diagnosis) → i < length xs → x ≡ get_or xs i x → d.pair ≡ x → pairs_of ds ≡ take i xs → pairs_of (ds ++ d ∷ []) ≡ take (i + 1) xs
shown_more ds xs i x d less is same so_far =
    map-append (λ (d : shown.Diagnosis). d.pair) ds (d ∷ []) ∙ ap (λ ps. ps ++ d.pair ∷ []) so_far ∙ ap (λ p. take i xs ++ p ∷ []) same ∙ sym (take_read xs i x less is)

-- a level that is no greater than the one done leaves this as it is
pub done_still : (a b : EvaluatorState) (done level : ℕ) → a.done ≡ Some done → level ≤ done → b.done ≡ raised a.done level → b.done ≡ Some done
done_still a b done level is few up = up ∙ ap (λ (d : Option ℕ). raised d level) is ∙ ap (λ (n : ℕ). Some n) (let most : max done level ≡ done = omega (arith, few) in most)

-- ---- enough levels were taken, and these are the cheapest of their pairs
module _ (first e : EvaluatorState) (n : System) (same : first.system ≡ n) (level : ℕ) (pairs : List ℕ) (least : Option ℕ) (t : HasTakenEnough first e level pairs least) where
  -- the last level that was taken
  abbrev last : ℕ
  last = level - 1

  level_is : level ≡ last + 1
  level_is = omega (arith, some_taken first.system t.valid level pairs t.searching.listed least t.searching.least_is t.enough)

  last_taken : last < level
  last_taken = omega (arith, level_is)

  stop_reached : IsStopLevel first.system last
  stop_reached = stops_last first.system t.valid level pairs t.searching.listed least t.searching.least_is t.enough last level_is (t.searching.taken last last_taken).up_to_stop

  done_last : (e.done ≡ Some last) × IsEvaluatorSettled e
  done_last = at level t.searching.done level_is
    where
      at : (k : ℕ) → IsDoneBefore e k → k ≡ last + 1 → (e.done ≡ Some last) × IsEvaluatorSettled e
      at zero fresh is = absurd (omega (arith, is))
      at (suc k) done is = (done.0 ∙ ap (λ (j : ℕ). Some j) (let equal : k ≡ last = omega (arith, is) in equal), done.1)

  -- the search has stopped
  pub has_stopped : (cheapest : List ℕ) → IsListing (λ p. IsAmong p pairs × CostsLeast least (cost n p)) PairBefore cheapest → HasStopped first e cheapest
  has_stopped cheapest listed = record {
    valid = t.valid;
    listed = IsListing-same PairBefore _ (IsCheapest first.system) cheapest (cheapest_told first.system t.valid level pairs t.searching.listed least t.searching.least_is t.enough)
        (subst (λ (m : System). IsListing (λ p. IsAmong p pairs × CostsLeast least (cost m p)) PairBefore cheapest) (sym same) listed);
    stop = last;
    is_stop = stop_reached;
    level_done = done_last.0;
    settled = done_last.1;
    taken = λ k few. t.searching.taken k (omega (arith, few, last_taken));
  }

  pub cost_told : IsLeastCost first.system least
  cost_told = least_cost_told first.system t.valid level pairs t.searching.listed least t.searching.least_is t.enough

-- ---- these are shown, and all is told
module _ (first e : EvaluatorState) (pairs : List ℕ) (stopped : HasStopped first e pairs) where
  module _ (p : ℕ) (among : IsAmong p pairs) where
    is_cheapest : IsCheapest first.system p
    is_cheapest = (stopped.listed.exactly p).0 among

    pub has_few : size p ≤ stopped.stop
    has_few = cheapest_few first.system p stopped.stop stopped.valid is_cheapest stopped.is_stop

    pub is_diagnosis : (n : System) → first.system ≡ n → IsDiagnosis n p
    is_diagnosis n same = subst (λ (m : System). IsDiagnosis m p) same is_cheapest.one

    -- the call for it halted
    pub showing_broke_off : (a e' : EvaluatorState) (halt : Halt) → KeepsRest first a → HasHalted a e' (size p) halt → HasBrokenOff first e' halt
    showing_broke_off a e' halt kept h = record {
      level = size p;
      up_to_stop = λ stop is. (let few = has_few in omega (arith, few, stop_is_one first.system stop stopped.stop is stopped.is_stop));
      cause = cause_before first a kept (size p) halt h.cause;
      told = told a e' (size p) halt h;
      within = λ k less. (let few = has_few in stopped.taken k (omega (arith, less, few))).within;
      answered = λ k i x less. (let few = has_few in stopped.taken k (omega (arith, less, few))).answered i x;
    }

  -- all were shown
  pub search_told : (e' : EvaluatorState) (c : code.Cheapest) → KeepsRest first e' → IsEvaluatorSettled e' → e'.done ≡ Some stopped.stop → pairs_of c.found.items ≡ pairs → AllByRecursion (ShowsFirstState first.system) c.found.items
      → IsLeastCost first.system c.cost → (e'.halted ≡ false → c.need ≡ asked_of e') → HasSearched first e' c
  search_told e' c kept settled done paired shown cost_is need_is = record {
    found = record { listed = subst (IsListing (IsCheapest first.system) PairBefore) (sym paired) stopped.listed; shown = shown };
    cost = cost_is;
    stop = stopped.stop;
    is_stop = stopped.is_stop;
    need = subst (λ (m : System). IsCount m stopped.stop c.need) kept.system (subst (λ (k : ℕ). IsCount e'.system stopped.stop k) (sym (need_is settled.going)) (settled_count e' stopped.stop settled done));
    level_done = done;
    settled = settled;
    within = λ k few. (stopped.taken k few).within;
    answered = λ k i x few. (stopped.taken k few).answered i x;
  }
