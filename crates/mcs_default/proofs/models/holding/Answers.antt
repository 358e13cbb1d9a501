use Rattle.std.proofs.Common.{true, false, map, ap, sym, ◌∙◌}
use Rattle.mcs_sets.proofs.SetLemmas.{such_that-none}
use Rattle.mcs_base.proofs.Mapped.{slice_get-map_read}
use Rattle.mcs_system.specs.Logic.{true_names}
use Rattle.mcs_system.specs.Seen.{default_of}
use Rattle.mcs_default.specs.Assignments.{holds_part_of, holds_part_at}
use Rattle.mcs_sets.proofs.Lattice.{such_that_next}
use Rattle.mcs_default.proofs.models.holding.Goals.{then-holds, else-holds}
use Rattle.mcs_default.proofs.models.holding.Goals as goal

pub loop-index-init : goal.loop-index-init
loop-index-init c = c.empty-places.ensures ∙ sym (such_that-none (holds_part_at (true_names 0 c.args.theory.now.asked.now.atoms.now c.args.values) c.args.part (map (λ d. default_of d.now) c.args.theory.now.defaults.now)))

pub loop-index-preserved : goal.loop-index-preserved
loop-index-preserved c =
    let a = true_names 0 c.args.theory.now.asked.now.atoms.now c.args.values in
    let ds = map (λ d. default_of d.now) c.args.theory.now.defaults.now in
    let i = c.loop-index.index in
    let at = ap (holds_part_of a c.args.part) (slice_get-map_read (λ d. default_of d.now) c.args.theory.now.defaults.now i c.index-defaults-index.result c.loop-index-test.true c.index-defaults-index.is) in
    elim c.if-holds.branch [
      | then-holds w ↦ such_that_next (holds_part_at a c.args.part ds) i c.loop-index.places c.if-holds.places true (at ∙ sym c.holds.ensures ∙ w.if-holds.true) c.loop-index.invariant (w.places-is ∙ w.with-places.ensures)
      | else-holds w ↦ such_that_next (holds_part_at a c.args.part ds) i c.loop-index.places c.if-holds.places false (at ∙ sym c.holds.ensures ∙ w.if-holds.false) c.loop-index.invariant w.places-is
    ]
