use Rattle.std.proofs.Common.{[], ◌∷◌, ◌++◌, map, take, sym, ap, ◌∙◌, append_assoc}
use Rattle.std.proofs.lemmas.List.{map_more, take_all}
use Rattle.mcs_sets.specs.Sets.{union}
use Rattle.mcs_import.proofs.states.add_unions.Goals as goal

pub loop-other-preserved : goal.loop-other-preserved
loop-other-preserved c =
    let old = c.args.unions.now.items in
    let others = c.args.others.now in
    let i = c.loop-other.other-index in
    let one = union c.args.state in
    c.in_ok-push.ensures.items ∙ ap (λ xs. xs ++ c.union.result ∷ []) c.loop-other.invariant
    ∙ append_assoc old (map one (take i others)) (c.union.result ∷ [])
    ∙ ap (λ xs. old ++ xs) (ap (λ x. map one (take i others) ++ x ∷ []) (c.union.ensures ∙ ap one c.other-item.is) ∙ sym (map_more one others i c.other-item.result c.loop-other-test.true))

pub returns : goal.returns
returns c = c.loop-other.invariant ∙ ap (λ xs. c.args.unions.now.items ++ map (union c.args.state) xs) (take_all c.loop-other.other-index c.args.others.now c.loop-other-test.false)
