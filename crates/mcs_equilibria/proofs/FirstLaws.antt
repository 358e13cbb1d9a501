-- The first state of a system that supports itself.
use Rattle.std.proofs.Common.{◌≡◌, ℕ, List, [], ◌∷◌, refl, sym, ap, ◌∙◌, subst, arith}
use Rattle.mcs_sets.specs.Orders.{StateBefore}
use Rattle.mcs_sets.specs.Sets.{minus}
use Rattle.mcs_sets.proofs.Lattice.{minus-none}
use Rattle.mcs_base.specs.Listings.{IsListing}
use Rattle.mcs_base.specs.Pairs.{removed_of}
use Rattle.mcs_base.proofs.PairLemmas.{removed_of-none, forced_of-none}
use Rattle.mcs_system.specs.Plain.{System}
use Rattle.mcs_system.specs.Systems.{all_rules, IsProjectedEquilibrium}
use Rattle.mcs_laws.specs.Examples.{self_support}
use Rattle.mcs_laws.proofs.Tiny.{self_support_has_two}
use Rattle.mcs_states.specs.Evaluators.{AreStates}
use Rattle.mcs_equilibria.specs.First.{SelfSupportComesFirst}
use Rattle.mcs_states.proofs.FirstLemmas.{first_there}

-- the empty pair changes nothing
unchanged : (m : System) (xs : List ℕ) → IsListing (IsProjectedEquilibrium m (all_rules m) 0) StateBefore xs → AreStates m 0 xs
unchanged m xs listing =
    let same : minus (all_rules m) (removed_of 0) ≡ all_rules m = ap (minus (all_rules m)) removed_of-none ∙ minus-none (all_rules m) in
    subst (λ r. IsListing (IsProjectedEquilibrium m (minus (all_rules m) (removed_of 0)) r) StateBefore xs) (sym forced_of-none)
    (subst (λ r. IsListing (IsProjectedEquilibrium m r 0) StateBefore xs) (sym same) listing)

pub self_support_first : SelfSupportComesFirst
self_support_first = first_there self_support 0 (1 ∷ 0 ∷ []) (1 ∷ 0 ∷ []) 1 refl (omega arith) refl (unchanged self_support (1 ∷ 0 ∷ []) self_support_has_two)
