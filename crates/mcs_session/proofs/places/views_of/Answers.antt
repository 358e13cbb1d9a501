use Rattle.std.proofs.Common.{◌≡◌, ℕ, get_or, slice_get, Some, arith}
use Rattle.std.proofs.lemmas.Option.{slice_get-get_or}
use Rattle.mcs_base.proofs.Mapped.{mapped_in_place}
use Rattle.mcs_session.specs.Keys.{places_in}
use Rattle.mcs_session.proofs.places.views_of.Goals as goal

pub loop-part-preserved : goal.loop-part-preserved
loop-part-preserved c =
    let parts = c.loop-part.part-items in
    let k = c.loop-part.part-index in
    let d : ℕ = get_or parts k c.part-item.result in
    let at : slice_get parts k ≡ Some d = slice_get-get_or parts k c.part-item.result (let t = c.loop-part-test.true in let l = c.loop-part.auto.part-items in omega (arith, t, l)) in
    (mapped_in_place (places_in c.args.set) c.deref_mut-part-items.result.now parts k d c.places_in.result c.loop-part.invariant at c.places_in.ensures).0
