use Rattle.std.proofs.Common.{[], ◌∷◌, ◌++◌, map, take, ap, sym, ◌∙◌, append_assoc}
use Rattle.std.proofs.lemmas.List.{map_more}
use Rattle.mcs_sets.specs.Sets.{union}
use Rattle.mcs_table.specs.declared.row.Row.{Row}
use Rattle.mcs_table.proofs.joining.push_states.Goals as goal

pub loop-partner-preserved : goal.loop-partner-preserved
loop-partner-preserved c =
    let united = λ (r : Row). union c.args.state r.state.values in
    let before = c.args.states.now.items in
    let taken = map united (take c.loop-partner.partner-index c.args.partners.now) in
    c.in_ok-push.ensures.items ∙ ap (λ states. states ++ c.union.result ∷ []) c.loop-partner.invariant ∙ append_assoc before taken (c.union.result ∷ [])
    ∙ ap (λ states. before ++ states) (ap (λ s. taken ++ s ∷ []) (c.union.ensures ∙ (ap (union c.args.state) c.values.ensures.value ∙ ap united c.partner-item.is)) ∙ sym (map_more united c.args.partners.now c.loop-partner.partner-index c.partner-item.result c.loop-partner-test.true))
