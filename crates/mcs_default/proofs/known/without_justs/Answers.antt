use Rattle.std.proofs.Common.{List, true, false, map, length, ap, sym, ◌∙◌}
use Rattle.std.specs.Bool.{◌==◌}
use Rattle.mcs_sets.proofs.SetLemmas.{such_that-none}
use Rattle.mcs_sets.proofs.Lattice.{such_that_next}
use Rattle.mcs_base.proofs.Mapped.{slice_get-map_read}
use Rattle.mcs_system.specs.declared.formula.Formula as code
use Rattle.mcs_system.specs.Seen.{default_of, formula_of}
use Rattle.mcs_default.specs.Known.{lacks_justs, lacks_justs_at}
use Rattle.mcs_default.proofs.KnownLemmas.{none_of}
use Rattle.mcs_default.proofs.known.without_justs.Goals.{then-is_empty, else-is_empty}
use Rattle.mcs_default.proofs.known.without_justs.Goals as goal

pub loop-index-init : goal.loop-index-init
loop-index-init c = c.empty-places.ensures ∙ sym (such_that-none (lacks_justs_at (map (λ d. default_of d.now) c.args.theory.now.defaults.now)))

pub loop-index-preserved : goal.loop-index-preserved
loop-index-preserved c =
    let ds = map (λ d. default_of d.now) c.args.theory.now.defaults.now in
    let i = c.loop-index.index in
    let x = c.index-defaults-index.result in
    let at = ap lacks_justs (slice_get-map_read (λ d. default_of d.now) c.args.theory.now.defaults.now i x c.loop-index-test.true c.index-defaults-index.is) in
    let is = none_of formula_of x.now.justs.items c.is_empty.result (c.is_empty.ensures ∙ ap (λ (js : List code.Formula). length js == 0) c.as_slice.ensures.value) in
    elim c.if-is_empty.branch [
      | then-is_empty w ↦ such_that_next (lacks_justs_at ds) i c.loop-index.places c.if-is_empty.places true (at ∙ sym is ∙ w.if-is_empty.true) c.loop-index.invariant (w.places-is ∙ w.with-places.ensures)
      | else-is_empty w ↦ such_that_next (lacks_justs_at ds) i c.loop-index.places c.if-is_empty.places false (at ∙ sym is ∙ w.if-is_empty.false) c.loop-index.invariant w.places-is
    ]
