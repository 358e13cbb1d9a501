use Rattle.std.proofs.Common.{[], ◌∷◌, ◌++◌, map, take, sym, ap, ◌∙◌}
use Rattle.std.proofs.lemmas.List.{map_more, take_all}
use Rattle.mcs_system.specs.Views.{at_places}
use Rattle.mcs_asking.proofs.asking.parts_at.Goals as goal

pub loop-view-preserved : goal.loop-view-preserved
loop-view-preserved c =
    let views = c.args.views.now in
    let i = c.loop-view.view-index in
    let one = at_places c.args.set in
    c.in_ok-push.ensures.items ∙ ap (λ xs. xs ++ c.at_places.result ∷ []) c.loop-view.invariant
    ∙ ap (λ x. map one (take i views) ++ x ∷ []) (c.at_places.ensures ∙ ap one c.view-item.is) ∙ sym (map_more one views i c.view-item.result c.loop-view-test.true)

pub returns : goal.returns
returns c = c.loop-view.invariant ∙ ap (map (at_places c.args.set)) (take_all c.loop-view.view-index c.args.views.now c.loop-view-test.false)
