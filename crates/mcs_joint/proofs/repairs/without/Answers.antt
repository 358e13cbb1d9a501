use Rattle.std.proofs.Common.{◌≡◌, filter, rules}
use Rattle.std.proofs.lemmas.Fn.{filter_same}
use Rattle.mcs_joint.proofs.Keeping.{holds_none, answers_none, filtered_without, filtered_table}
use Rattle.mcs_joint.proofs.repairs.without.Goals as goal

pub in_order-requires : goal.in_order-requires
in_order-requires c =
    let sets = c.args.sets.now in
    let t = c.args.table in
    let kept : c.retain.new.self.items ≡ filter (holds_none sets) c.into_rows-rows.result.items = filter_same _ _ _ (λ x b f' k. search (rules, answers_none)) _ _ c.retain.ensures.filtered in
    rw (c.scope-scope.ensures.value, kept, c.into_rows-rows.ensures.value) (filtered_table sets t c.into_rows-rows.ensures.kept)

pub returns : goal.returns
returns c =
    let sets = c.args.sets.now in
    let t = c.args.table in
    let kept : c.retain.new.self.items ≡ filter (holds_none sets) c.into_rows-rows.result.items = filter_same _ _ _ (λ x b f' k. search (rules, answers_none)) _ _ c.retain.ensures.filtered in
    rw (c.in_order.ensures, c.scope-scope.ensures.value, kept, c.into_rows-rows.ensures.value) (filtered_without sets t c.into_rows-rows.ensures.kept)
