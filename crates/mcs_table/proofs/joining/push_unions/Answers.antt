use Rattle.std.proofs.Common.{[], ◌∷◌, ◌++◌, map, take, ap, sym, ◌∙◌, append_assoc}
use Rattle.std.proofs.lemmas.List.{map_more}
use Rattle.mcs_table.specs.Tables.{united_row}
use Rattle.mcs_table.proofs.joining.push_unions.Goals as goal

pub loop-partner-preserved : goal.loop-partner-preserved
loop-partner-preserved c =
    let united = united_row c.args.row.now in
    let before = c.args.unions.now.items in
    let taken = map united (take c.loop-partner.partner-index c.args.partners.now) in
    c.in_ok-push.ensures.items ∙ ap (λ rows. rows ++ c.union.result ∷ []) c.loop-partner.invariant ∙ append_assoc before taken (c.union.result ∷ [])
    ∙ ap (λ rows. before ++ rows) (ap (λ r. taken ++ r ∷ []) (c.union.ensures ∙ ap united c.partner-item.is) ∙ sym (map_more united c.args.partners.now c.loop-partner.partner-index c.partner-item.result c.loop-partner-test.true))
