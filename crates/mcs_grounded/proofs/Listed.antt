-- What the evaluator tells of the system that the empty pair changes, which is the system itself.
use Rattle.std.proofs.Common.{◌≡◌, ℕ, List, Result, subst}
use Rattle.mcs_sets.specs.Sets.{minus, size}
use Rattle.mcs_sets.specs.Orders.{StateBefore}
use Rattle.mcs_sets.proofs.Lattice.{minus-none, size-none}
use Rattle.mcs_base.specs.Listings.{IsListing}
use Rattle.mcs_base.specs.Pairs.{removed_of}
use Rattle.mcs_base.proofs.PairLemmas.{removed_of-none, forced_of-none}
use Rattle.mcs_system.specs.Plain.{System}
use Rattle.mcs_system.specs.Systems.{IsProjectedEquilibrium, all_rules}
use Rattle.mcs_states.specs.Evaluators.{EvaluatorState, AreStates}
use Rattle.mcs_states.specs.Calls.{Evaluates}
use Rattle.mcs_states.specs.declared.halt.Halt.{Halt}
use Rattle.mcs_reduct.specs.Grounded.{AreAllStates}

pub states_of_none : (m : System) (pair : ℕ) (states : List ℕ) → pair ≡ 0 → AreStates m pair states → AreAllStates m states
states_of_none m pair states none h =
    let empty : AreStates m 0 states = subst (λ (p : ℕ). AreStates m p states) none h in
    let unforced : IsListing (IsProjectedEquilibrium m (minus (all_rules m) (removed_of 0)) 0) StateBefore states = subst (λ (f : ℕ). IsListing (IsProjectedEquilibrium m (minus (all_rules m) (removed_of 0)) f) StateBefore states) forced_of-none empty in
    let whole : IsListing (IsProjectedEquilibrium m (minus (all_rules m) 0) 0) StateBefore states = subst (λ (r : ℕ). IsListing (IsProjectedEquilibrium m (minus (all_rules m) r) 0) StateBefore states) removed_of-none unforced in
    subst (λ (r : ℕ). IsListing (IsProjectedEquilibrium m r 0) StateBefore states) (minus-none (all_rules m)) whole

-- its level is 0
pub level_of_none : {T : Type 0} (before after : EvaluatorState) (pair : ℕ) (result : Result T Halt) → pair ≡ 0 → Evaluates (size pair) before after result → Evaluates 0 before after result
level_of_none before after pair result none h = subst (λ (level : ℕ). Evaluates level before after result) size-none (subst (λ (p : ℕ). Evaluates (size p) before after result) none h)
