use Rattle.std.proofs.Common.{◌≡◌, false, get_or, slice_get, Some, refl, arith}
use Rattle.std.proofs.lemmas.Option.{slice_get-get_or}
use Rattle.mcs_base.proofs.Mapped.{mapped_in_place}
use Rattle.mcs_session.proofs.oracle.forget.Goals as goal

pub loop-flag-preserved : goal.loop-flag-preserved
loop-flag-preserved c =
    let flags = c.loop-flag.flags in
    let k = c.loop-flag.flag-index in
    let at : slice_get flags k ≡ Some (get_or flags k false) = slice_get-get_or flags k false (let t = c.loop-flag-test.true in let l = c.loop-flag.auto.flags in omega (arith, t, l)) in
    (mapped_in_place (λ _. false) c.args.flags.now flags k (get_or flags k false) false c.loop-flag.invariant at refl).0
