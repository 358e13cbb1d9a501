use Rattle.std.proofs.Common.{◌↔◌, ◌∙◌, ◌∷◌, [], ℕ, List, map, sym, ap, subst, arith}
use Rattle.std.specs.List.{flat_map}
use Rattle.mcs_base.specs.Listings.{IsAmong}
use Rattle.mcs_sets.specs.Sets.{common, union}
use Rattle.mcs_import.specs.States.{SomeJoins}
use Rattle.mcs_import.proofs.StateLemmas.{lists, supplies_step, supplies_end}
use Rattle.mcs_import.proofs.states.supplied_states.Goals as goal

pub loop-supply-init : goal.loop-supply-init
loop-supply-init c = λ ρ.
    subst (λ (xs : List ℕ). SomeJoins c.args.mask (lists c.args.supplies.now) xs ρ ↔ SomeJoins c.args.mask (lists c.args.supplies.now) (0 ∷ []) ρ)
    (sym (c.in_ok-states.ensures.items ∙ ap (λ (x : ℕ). x ∷ []) c.empty.ensures)) (λ h. h, λ h. h)

pub loop-supply-preserved : goal.loop-supply-preserved
loop-supply-preserved c =
    supplies_step c.args.mask c.args.supplies.now c.loop-supply.supply-index c.supply-item.result c.loop-supply-test.true c.supply-item.is c.loop-supply.states.items c.in_ok-parts.parts.items c.in_ok-states-2.states.items
    (λ ρ. subst (λ (xs : List ℕ). IsAmong ρ c.in_ok-parts.parts.items ↔ IsAmong ρ (map (λ s. common s c.args.mask) xs)) c.deref.ensures.value (c.in_ok-parts.ensures ρ))
    (c.in_ok-states-2.ensures ∙ ap (λ (ps : List ℕ). flat_map (λ s. map (union s) ps) c.deref-in-loop-supply.result.now) c.deref-in-loop-supply-2.ensures.value
    ∙ ap (flat_map (λ s. map (union s) c.in_ok-parts.parts.items)) c.deref-in-loop-supply.ensures.value)
    (λ ρ. SomeJoins c.args.mask (lists c.args.supplies.now) (0 ∷ []) ρ) c.loop-supply.invariant

pub returns : goal.returns
returns c = supplies_end c.args.mask c.args.supplies.now c.loop-supply.supply-index (omega arith) c.loop-supply.states.items (λ ρ. SomeJoins c.args.mask (lists c.args.supplies.now) (0 ∷ []) ρ) c.loop-supply.invariant
