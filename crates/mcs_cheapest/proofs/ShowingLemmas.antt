-- Pairs are shown one after the other, by calls of levels that were taken.
use Rattle.std.proofs.Common.{◌≡◌, ℕ, ◌+◌, ◌<◌, ◌≤◌, Bool, true, false, nat_eq, List, length, get_or, IfSome, refl, sym, ◌∙◌}
use Rattle.std.proofs.lemmas.Bool.{eqb-true}
use Rattle.std.specs.Bool.{then_some}
use Rattle.mcs_sets.specs.Sets.{size}
use Rattle.mcs_base.specs.Listings.{IsAmong}
use Rattle.mcs_base.proofs.Among.{among_get}
use Rattle.mcs_base.proofs.Each.{all_among}
use Rattle.mcs_base.proofs.Lists.{slice_get_read_as}
use Rattle.mcs_system.specs.Plain.{System}
use Rattle.mcs_system.specs.Repairs.{IsDiagnosis}
use Rattle.mcs_states.specs.Calls.{CanEvaluate}
use Rattle.mcs_states.specs.Evaluators.{EvaluatorState, HasDone, HasHalted, KeepsRest}
use Rattle.mcs_states.specs.declared.halt.Halt.{Halt}
use Rattle.mcs_diagnosis.specs.declared.diagnosis.Diagnosis as shown
use Rattle.mcs_costs.specs.Settling.{AreDiagnosesUpTo}
use Rattle.mcs_cheapest.specs.Found.{HasBrokenOff}
use Rattle.mcs_cheapest.specs.Least.{IsAsking}
use Rattle.mcs_cheapest.proofs.LeastLemmas.{asking_still, showing_breaks_off}

-- whatever levels were taken before are the ones that are taken now, where the pairs have few marks
abbrev pub StaysAsking : System → List ℕ → EvaluatorState → EvaluatorState → Type 0
StaysAsking m pairs old now = (first : EvaluatorState) (level : ℕ) → IsAsking first old (level + 1) → AreDiagnosesUpTo m level pairs → IsAsking first now (level + 1)

module _ (m : System) (pairs : List ℕ) (old a b : EvaluatorState) (p : ℕ) (among : IsAmong p pairs) (stays : StaysAsking m pairs old a) (kept : KeepsRest a b) where
  few_marks : (level : ℕ) → AreDiagnosesUpTo m level pairs → size p ≤ level
  few_marks level few = (all_among (λ q. IsDiagnosis m q × (size q ≤ level)) pairs p few among).1

  -- the call for this one was done
  pub stays_asking : HasDone a b (size p) → StaysAsking m pairs old b
  stays_asking h first level asking few = asking_still first a b level p (few_marks level few) (stays first level asking few) kept h

  pub can_still : HasDone a b (size p) → CanEvaluate m a → CanEvaluate m b
  can_still h can = record { same = kept.system ∙ can.same; going = h.settled.going }

  -- it halted
  pub call_breaks_off : (halt : Halt) → HasHalted a b (size p) halt → (first : EvaluatorState) (level : ℕ) → IsAsking first old (level + 1) → AreDiagnosesUpTo m level pairs → HasBrokenOff first b halt
  call_breaks_off halt h first level asking few = showing_breaks_off first a b level p (few_marks level few) (stays first level asking few) kept halt h

-- the one that stands at a place is taken, if it is of this pair
pub found_there : (ds : List shown.Diagnosis) (place : ℕ) (d : shown.Diagnosis) (pair : ℕ) (test : Bool) → place < length ds → d ≡ get_or ds place d → test ≡ nat_eq d.pair pair
    → IfSome (then_some test d) (λ shown. IsAmong shown ds × (shown.pair ≡ pair))
found_there ds place d pair true less is there = (among_get d ds place (slice_get_read_as ds ds place d refl less is), eqb-true d.pair pair (sym there))
found_there ds place d pair false less is there = tt
