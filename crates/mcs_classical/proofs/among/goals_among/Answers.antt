use Rattle.std.proofs.Common.{true, false, map, ap, sym, ◌∙◌}
use Rattle.mcs_sets.proofs.Lattice.{such_that_next}
use Rattle.mcs_sets.proofs.SetLemmas.{such_that-none}
use Rattle.mcs_base.proofs.Mapped.{slice_get-map_read}
use Rattle.mcs_system.specs.Seen.{formula_of}
use Rattle.mcs_classical.specs.Consequences.{is_one_of, stands_at}
use Rattle.mcs_classical.proofs.among.goals_among.Goals.{then-is_among, else-is_among}
use Rattle.mcs_classical.proofs.among.goals_among.Goals as goal

pub loop-place-init : goal.loop-place-init
loop-place-init c = c.empty-places.ensures ∙ sym (such_that-none (stands_at (map formula_of c.args.formulas.now) (map (λ g. formula_of g.now) c.args.asked.now.beliefs.now)))

pub loop-place-preserved : goal.loop-place-preserved
loop-place-preserved c =
    let fs = map formula_of c.args.formulas.now in
    let gs = map (λ g. formula_of g.now) c.args.asked.now.beliefs.now in
    let i = c.loop-place.place in
    let at = ap (is_one_of fs) (slice_get-map_read (λ g. formula_of g.now) c.args.asked.now.beliefs.now i c.index-goals-place.result c.loop-place-test.true c.index-goals-place.is) in
    elim c.if-is_among.branch [
      | then-is_among w ↦ such_that_next (stands_at fs gs) i c.loop-place.places c.if-is_among.places true (at ∙ sym c.is_among.ensures ∙ w.if-is_among.true) c.loop-place.invariant (w.places-is ∙ w.with-places.ensures)
      | else-is_among w ↦ such_that_next (stands_at fs gs) i c.loop-place.places c.if-is_among.places false (at ∙ sym c.is_among.ensures ∙ w.if-is_among.false) c.loop-place.invariant w.places-is
    ]
