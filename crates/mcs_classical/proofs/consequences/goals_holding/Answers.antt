use Rattle.std.proofs.Common.{true, false, map, ap, sym, ◌∙◌}
use Rattle.mcs_sets.proofs.Lattice.{such_that_next}
use Rattle.mcs_sets.proofs.SetLemmas.{such_that-none}
use Rattle.mcs_base.proofs.Mapped.{slice_get-map_read}
use Rattle.mcs_system.specs.Logic.{true_names}
use Rattle.mcs_system.specs.Seen.{formula_of}
use Rattle.mcs_classical.specs.Consequences.{holds_there, holds_goal}
use Rattle.mcs_classical.proofs.consequences.goals_holding.Goals.{then-holds_at, else-holds_at}
use Rattle.mcs_classical.proofs.consequences.goals_holding.Goals as goal

pub loop-place-init : goal.loop-place-init
loop-place-init c = c.empty-places.ensures ∙ sym (such_that-none (holds_goal (true_names 0 c.args.asked.now.atoms.now c.args.values) (map (λ g. formula_of g.now) c.args.asked.now.beliefs.now)))

pub loop-place-preserved : goal.loop-place-preserved
loop-place-preserved c =
    let a = true_names 0 c.args.asked.now.atoms.now c.args.values in
    let gs = map (λ g. formula_of g.now) c.args.asked.now.beliefs.now in
    let i = c.loop-place.place in
    let at = ap (holds_there a) (slice_get-map_read (λ g. formula_of g.now) c.args.asked.now.beliefs.now i c.index-goals-place.result c.loop-place-test.true c.index-goals-place.is) in
    elim c.if-holds_at.branch [
      | then-holds_at w ↦ such_that_next (holds_goal a gs) i c.loop-place.places c.if-holds_at.places true (at ∙ sym c.holds_at.ensures ∙ w.if-holds_at.true) c.loop-place.invariant (w.places-is ∙ w.with-places.ensures)
      | else-holds_at w ↦ such_that_next (holds_goal a gs) i c.loop-place.places c.if-holds_at.places false (at ∙ sym c.holds_at.ensures ∙ w.if-holds_at.false) c.loop-place.invariant w.places-is
    ]
