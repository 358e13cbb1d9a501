-- An evaluator that found more questions than its budget, and the states that it tells of the empty pair.
use Rattle.std.proofs.Common.{◌≡◌, ℕ, ◌+◌, ◌≤◌, List, subst, arith}
use Rattle.mcs_sets.specs.Sets.{minus}
use Rattle.mcs_sets.specs.Orders.{StateBefore}
use Rattle.mcs_sets.proofs.Lattice.{minus-none}
use Rattle.mcs_base.specs.Listings.{IsListing}
use Rattle.mcs_base.specs.Pairs.{removed_of}
use Rattle.mcs_base.proofs.PairLemmas.{removed_of-none, forced_of-none}
use Rattle.mcs_system.specs.Plain.{System}
use Rattle.mcs_system.specs.Systems.{IsProjectedEquilibrium, all_rules}
use Rattle.mcs_system.specs.Levels.{HasQuestions}
use Rattle.mcs_states.specs.Evaluators.{EvaluatorState, ExceedsBudget, AreStates}
use Rattle.mcs_report.specs.Solutions.{AreEquilibria}

-- more questions than the budget were found
pub found_beyond : (e : EvaluatorState) (level drawn : ℕ) → e.budget + 1 ≤ drawn → HasQuestions e.system level drawn → ExceedsBudget e level
found_beyond e level drawn more h = record { lists = h.lists; one_each = h.one_each; some = h.some; many = omega (arith, h.many, more) }

-- the states that the empty pair leads to
pub unchanged : (m : System) (pair : ℕ) (states : List ℕ) → pair ≡ 0 → AreStates m pair states → AreEquilibria m states
unchanged m pair states none h =
    let empty : AreStates m 0 states = subst (λ (p : ℕ). AreStates m p states) none h in
    let unforced : IsListing (IsProjectedEquilibrium m (minus (all_rules m) (removed_of 0)) 0) StateBefore states = subst (λ (f : ℕ). IsListing (IsProjectedEquilibrium m (minus (all_rules m) (removed_of 0)) f) StateBefore states) forced_of-none empty in
    let whole : IsListing (IsProjectedEquilibrium m (minus (all_rules m) 0) 0) StateBefore states = subst (λ (r : ℕ). IsListing (IsProjectedEquilibrium m (minus (all_rules m) r) 0) StateBefore states) removed_of-none unforced in
    subst (λ (r : ℕ). IsListing (IsProjectedEquilibrium m r 0) StateBefore states) (minus-none (all_rules m)) whole
