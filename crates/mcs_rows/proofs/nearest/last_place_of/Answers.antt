use Rattle.std.proofs.Common.{◌∙◌, ◌<◌, eqb, length, sym, ap, refl, arith}
use Rattle.std.proofs.lemmas.Bool.{eqb-true}
use Rattle.std.proofs.lemmas.Option.{slice_get_read}
use Rattle.mcs_rows.specs.declared.nearest.Supported.{Supported}
use Rattle.mcs_rows.proofs.nearest.last_place_of.Goals as goal

pub returns-then-eq : goal.returns-then-eq
returns-then-eq c =
    let one = c.index-all-place.result in
    let (some, last) = c.in_ok-place.ensures in
    let bound : c.in_ok-place.place < length c.args.all.now = omega (arith, some, last) in (
      one,
      slice_get_read c.args.all.now (length c.args.all.now) c.in_ok-place.place one refl bound c.index-all-place.is,
      eqb-true one.part c.args.part (ap (λ (s : Supported). eqb s.part c.args.part) c.index-all-place.is ∙ sym c.eq.ensures ∙ c.if-eq.true),
    )
