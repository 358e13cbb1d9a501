use Rattle.std.proofs.Common.{◌≡◌, ◌∙◌, ap, map}
use Rattle.mcs_sets.specs.Sets.{common}
use Rattle.mcs_table.specs.Tables.{restricted_row}
use Rattle.mcs_table.specs.declared.row.Row.{Row}
use Rattle.mcs_table.proofs.ForgetLemmas.{restricted_masks, forgetting_of_rows}
use Rattle.mcs_table.proofs.forgetting.forget.Goals as goal

pub minimal_table-requires : goal.minimal_table-requires
minimal_table-requires c = rw (c.common.ensures, c.scope.ensures.value, c.in_ok-rows.ensures, c.rows.ensures.value) (restricted_masks c.args.t.now c.rows.ensures.kept c.args.keep)

pub returns : goal.returns
returns c =
    let t = c.args.t.now in
    let keep = c.args.keep in
    let scopes : c.common.result ≡ common t.scope keep = c.common.ensures ∙ ap (λ v. common v keep) c.scope.ensures.value in
    let items : c.in_ok-rows.rows.items ≡ map (λ (x : Row). restricted_row x keep) t.rows = c.in_ok-rows.ensures ∙ ap (map (λ (x : Row). restricted_row x keep)) c.rows.ensures.value in
    let rows = rw items at c.minimal_table.ensures.rows in
    forgetting_of_rows t keep c.minimal_table.result (c.minimal_table.ensures.scope ∙ scopes) rows
