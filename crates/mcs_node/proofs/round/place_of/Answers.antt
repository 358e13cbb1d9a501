use Rattle.std.proofs.Common.{take, get_or, subst, inl, inr, arith}
use Rattle.std.proofs.lemmas.List.{take_more}
use Rattle.std.proofs.lemmas.Bool.Decides.{nat_tests}
use Rattle.mcs_base.specs.Listings.{IsAmong}
use Rattle.mcs_base.proofs.Among.{among_push}
use Rattle.mcs_node.proofs.round.place_of.Goals as goal

pub loop-place-preserved : goal.loop-place-preserved
loop-place-preserved c h =
    let xs = c.args.contexts.now in
    elim ((among_push c.args.context (take c.loop-place.place xs) (get_or xs c.loop-place.place 0)).0 (subst (λ zs. IsAmong c.args.context zs) (take_more xs c.loop-place.place 0 c.loop-place-test.true) h)) [
      | inl early ↦ c.loop-place.invariant early
      | inr e ↦ let f = c.if-contexts-place.false in absurd (grind (arith, nat_tests, e, f))
    ]
