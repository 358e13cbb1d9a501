use Rattle.std.proofs.Common.{◌≡◌, List, refl, sym, subst, take}
use Rattle.std.specs.List.{AllZip}
use Rattle.mcs_base.specs.Listings.{IsAmong, IsListing}
use Rattle.mcs_base.specs.Partials.{PartialState, Fits}
use Rattle.mcs_base.proofs.Lists.{zip_push}
use Rattle.mcs_base.proofs.Written.{take_read}
use Rattle.mcs_table.specs.Tables.{TableData, IsTable}
use Rattle.mcs_table.proofs.SemiLemmas.{part_is_table}
use Rattle.mcs_joint.specs.First.{valued, IsNarrowed}
use Rattle.mcs_joint.proofs.first.narrowed.Goals as goal

pub in_order-requires : goal.in_order-requires
in_order-requires c = rw c.scope.ensures.value (part_is_table c.table-item.result (λ r. Fits r.state c.one_value-settled.result) c.in_ok-rows.rows.items c.scope.ensures.kept c.in_ok-rows.ensures)

pub loop-table-preserved : goal.loop-table-preserved
loop-table-preserved c =
    let ts = c.args.tables.now in
    let t = c.table-item.result in
    let s = valued c.args.variable c.args.value in
    let rows = subst (λ (p : PartialState). IsListing (λ r. IsAmong r t.rows × Fits r.state p) _ c.in_ok-rows.rows.items) c.one_value-settled.ensures c.in_ok-rows.ensures in
    let table : IsTable (record { scope = t.scope; rows = c.in_ok-rows.rows.items }) = part_is_table t (λ r. Fits r.state s) c.in_ok-rows.rows.items c.scope.ensures.kept rows in
    let made : c.in_order.result ≡ record { scope = t.scope; rows = c.in_ok-rows.rows.items } = rw c.scope.ensures.value at c.in_order.ensures in
    let one : IsNarrowed s t c.in_order.result = subst (IsNarrowed s t) (sym made) (record { scope = refl; table = table; rows = rows }) in
    let more = zip_push (IsNarrowed s) (take c.loop-table.table-index ts) c.loop-table.all.items t c.in_order.result c.loop-table.invariant one in
    subst (λ (xs : List TableData). AllZip (IsNarrowed s) xs c.push.new.self.items) (sym (take_read ts c.loop-table.table-index t c.loop-table-test.true c.table-item.is)) (rw c.in_ok-push.ensures.items more)
