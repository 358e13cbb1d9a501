-- A grounded belief state is an equilibrium; a reduct has one set of rules; and which contexts are plain.
use Rattle.std.proofs.Common.{ℕ, List, refl, subst}
use Rattle.mcs_sets.specs.Sets.{Within}
use Rattle.mcs_sets.proofs.Lattice.{within_antisymmetric}
use Rattle.mcs_system.specs.Plain.{System}
use Rattle.mcs_system.specs.Logic.{BeliefSet}
use Rattle.mcs_system.specs.Systems.{IsEquilibrium}
use Rattle.mcs_reduct.specs.Reducts.{reduced_system, AreUnblocked}
use Rattle.mcs_reduct.specs.Laws.{GroundedAreEquilibria, GroundedStatesAreStates, ReductsHaveOneRuleSet, BlockedRulesAreDropped, OneHeadIsPlain}
use Rattle.mcs_reduct.proofs.Beliefs.{are_unblocked, unblocked_rules}
use Rattle.mcs_reduct.proofs.Dropping.{rules_alone, rules_chosen}
use Rattle.mcs_reduct.proofs.Reduced.{equilibrium_of_reduct, rule_at}

pub grounded_equilibria : GroundedAreEquilibria
grounded_equilibria m s plain grounded = equilibrium_of_reduct m s grounded.balanced

pub grounded_states : GroundedStatesAreStates
grounded_states m σ plain g = record { state = g.state; balanced = equilibrium_of_reduct m g.state g.grounded.balanced; projection = g.projection }

unblocked_within : (m : System) (s : List BeliefSet) (x y : ℕ) → AreUnblocked m s x → AreUnblocked m s y → Within x y
unblocked_within m s x y of_x of_y k h = let (b, is) = rule_at m x k of_x.of_rules h in (of_y.exactly k b is).1 ((of_x.exactly k b is).0 h)

pub one_rule_set : ReductsHaveOneRuleSet
one_rule_set m s = (
  unblocked_rules m s,
  are_unblocked m s,
  λ others h.
      within_antisymmetric others (unblocked_rules m s) (unblocked_within m s others (unblocked_rules m s) h (are_unblocked m s)) (unblocked_within m s (unblocked_rules m s) others (are_unblocked m s) h),
)

pub blocked_are_dropped : BlockedRulesAreDropped
blocked_are_dropped m s t rules unblocked = (
  λ e. rules_alone t (reduced_system m s) rules (subst (λ (x : ℕ). IsEquilibrium (reduced_system m s) x 0 t)
      (within_antisymmetric e.rules rules (unblocked_within m s e.rules rules e.unblocked unblocked) (unblocked_within m s rules e.rules unblocked e.unblocked)) e.balanced),
  λ e. record { rules = rules; unblocked = unblocked; balanced = rules_chosen t (reduced_system m s) rules e },
)

pub one_head_is_plain : OneHeadIsPlain
one_head_is_plain = (refl, refl, refl, refl, refl)
