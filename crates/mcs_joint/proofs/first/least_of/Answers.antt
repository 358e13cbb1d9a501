use Rattle.std.proofs.Common.{◌+◌, ℕ, sym, subst, take, true≢false, ◌∙◌}
use Rattle.std.proofs.lemmas.List.{take_all}
use Rattle.mcs_base.specs.Listings.{IsAmong}
use Rattle.mcs_base.proofs.Among.{among_at, among_get}
use Rattle.mcs_joint.proofs.Settling.{IsNoLater, least_kept, least_taken}
use Rattle.mcs_joint.proofs.first.least_of.Goals.{then-state_before, else-state_before}
use Rattle.mcs_joint.proofs.first.least_of.Goals as goal

pub loop-state-init : goal.loop-state-init
loop-state-init c = (among_get _ c.args.states.now 0 (sym c.in_ok-least.ensures.value), λ τ none. absurd none)

pub loop-state-preserved : goal.loop-state-preserved
loop-state-preserved c =
    let xs = c.args.states.now in
    let i = c.loop-state.state-index in
    let least = c.loop-state.least in
    let x = c.state-item.result in
    let less = c.loop-state-test.true in
    let (among, so_far) = c.loop-state.invariant in
    let there : IsAmong x xs = subst (λ (n : ℕ). IsAmong n xs) (sym c.state-item.is) (among_at xs i x less) in
    elim c.if-state_before.branch [
      | then-state_before w ↦ subst (λ (n : ℕ). IsAmong n xs × IsNoLater n (take (i + 1) xs)) (sym w.least-is) (there, least_taken xs i least x less c.state-item.is so_far (c.state_before.ensures.0 w.if-state_before.true))
      | else-state_before w ↦ subst (λ (n : ℕ). IsAmong n xs × IsNoLater n (take (i + 1) xs)) (sym w.least-is) (among, least_kept xs i least x less c.state-item.is so_far (λ before. true≢false (sym (c.state_before.ensures.1 before) ∙ w.if-state_before.false)))
    ]

pub returns : goal.returns
returns c =
    let xs = c.args.states.now in
    let (among, no_later) = c.loop-state.invariant in
    record { one = among; first = subst (IsNoLater c.loop-state.least) (take_all c.loop-state.state-index xs c.loop-state-test.false) no_later }
