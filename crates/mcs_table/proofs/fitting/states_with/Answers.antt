use Rattle.std.proofs.Common.{◌∙◌, sym, subst, true≢false, ℕ, List, ◌↔◌}
use Rattle.std.proofs.lemmas.List.{take_all}
use Rattle.mcs_sets.specs.Sets.{common}
use Rattle.mcs_base.specs.Listings.{IsAmong}
use Rattle.mcs_table.proofs.ProjectionLemmas.{projected_more, projected_less}
use Rattle.mcs_table.proofs.fitting.states_with.Goals.{then-is_projection+in_ok-push, else-is_projection}
use Rattle.mcs_table.proofs.fitting.states_with.Goals as goal

pub loop-state-init : goal.loop-state-init
loop-state-init c = rw c.new-kept.ensures.items (λ s. (λ h. absurd h, λ h. absurd h.0))

pub loop-state-preserved : goal.loop-state-preserved
loop-state-preserved c =
    elim c.if-is_projection.branch [
      | then-is_projection+in_ok-push w ↦ rw w.kept-is (rw w.in_ok-push.ensures.items (projected_more c.args.projections.now c.args.set c.args.states.now c.loop-state.state-index c.state-item.result c.loop-state-test.true c.state-item.is c.loop-state.kept.items c.loop-state.invariant (c.is_projection.ensures.0 w.if-is_projection.true)))
      | else-is_projection w ↦ rw w.kept-is (projected_less c.args.projections.now c.args.set c.args.states.now c.loop-state.state-index c.state-item.result c.loop-state-test.true c.state-item.is c.loop-state.kept.items c.loop-state.invariant (λ h. true≢false (sym (c.is_projection.ensures.1 h) ∙ w.if-is_projection.false)))
    ]

pub returns : goal.returns
returns c = subst (λ (xs : List ℕ). (s : ℕ) → IsAmong s c.loop-state.kept.items ↔ (IsAmong s xs × IsAmong (common s c.args.set) c.args.projections.now)) (take_all c.loop-state.state-index c.args.states.now c.loop-state-test.false) c.loop-state.invariant
