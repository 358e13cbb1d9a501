use Rattle.std.proofs.Common.{◌<◌, ◌≤◌, ◌∙◌, sym, subst, arith, true≢false, List, ◌↔◌, length, take}
use Rattle.std.proofs.lemmas.List.{take_all}
use Rattle.mcs_base.specs.Listings.{IsAmong}
use Rattle.mcs_table.specs.Tables.{IsCovered}
use Rattle.mcs_table.specs.declared.row.Row.{Row}
use Rattle.mcs_table.proofs.TableLemmas.{table_as}
use Rattle.mcs_table.proofs.MinimalLemmas.{MinimalSoFar, kept_table, masks_in_place, earlier_in_place, same_in_place, push_in_place, minimal_end}
use Rattle.mcs_table.proofs.minimal.minimal_table.Goals.{then-not-is_covered, else-not-is_covered}
use Rattle.mcs_table.proofs.minimal.minimal_table.Goals as goal

pub is_covered-requires-clause-scope : goal.is_covered-requires-clause-scope
is_covered-requires-clause-scope c =
    let all = c.into_rows-rows.result.items in
    let table = table_as c.new.result c.args.scope all c.new.ensures.scope c.into_rows-rows.ensures.value c.new.ensures.kept in
    let h = c.loop-i.invariant in
    let len = h.0.len in
    rw c.deref.ensures.value (masks_in_place c.args.scope all c.loop-i.rows.items c.loop-i.i c.loop-i.kept table h.0 c.index.result.now (omega arith) c.index.ensures)

pub is_covered-requires-clause-after : goal.is_covered-requires-clause-after
is_covered-requires-clause-after c =
    let all = c.into_rows-rows.result.items in
    let table = table_as c.new.result c.args.scope all c.new.ensures.scope c.into_rows-rows.ensures.value c.new.ensures.kept in
    let h = c.loop-i.invariant in
    let len = h.0.len in
    rw c.deref.ensures.value (earlier_in_place c.args.scope all c.loop-i.rows.items c.loop-i.i c.loop-i.kept table h.0 c.index.result.now (omega arith) c.index.ensures)

pub loop-i-preserved : goal.loop-i-preserved
loop-i-preserved c =
    let all = c.into_rows-rows.result.items in
    let table = table_as c.new.result c.args.scope all c.new.ensures.scope c.into_rows-rows.ensures.value c.new.ensures.kept in
    let row = c.index.result.now in
    let rows = c.loop-i.rows.items in
    let h = c.loop-i.invariant in
    let len = h.0.len in
    let less : c.loop-i.i < length rows = omega arith in
    elim c.if-not-is_covered.branch [
      | then-not-is_covered w ↦ rw (w.rows-is, w.kept-is) (
        push_in_place c.args.scope all rows c.loop-i.i c.loop-i.kept table h.0 row less c.index.ensures
            (λ covered. true≢false (sym (c.is_covered.ensures.1 (subst (λ (xs : List Row). IsCovered (take c.loop-i.kept xs) row) (sym c.deref.ensures.value) covered)) ∙ w.if-not-is_covered.true)),
        h.1,
      )
      | else-not-is_covered w ↦ rw (w.rows-is, w.kept-is) (
        same_in_place c.args.scope all rows c.loop-i.i c.loop-i.kept table h.0 row less c.index.ensures
            (subst (λ (xs : List Row). IsCovered (take c.loop-i.kept xs) row) c.deref.ensures.value (c.is_covered.ensures.0 w.if-not-is_covered.false)),
        h.1,
      )
    ]

pub in_order-requires : goal.in_order-requires
in_order-requires c =
    let all = c.into_rows-rows.result.items in
    let table = table_as c.new.result c.args.scope all c.new.ensures.scope c.into_rows-rows.ensures.value c.new.ensures.kept in
    rw c.truncate.ensures.items (kept_table c.args.scope all (take c.loop-i.kept c.loop-i.rows.items) c.loop-i.i table c.loop-i.invariant.0.so_far)

pub returns-clause-rows : goal.returns-clause-rows
returns-clause-rows c =
    let all = c.into_rows-rows.result.items in
    let kept = take c.loop-i.kept c.loop-i.rows.items in
    let h = c.loop-i.invariant in
    let past : length all ≤ c.loop-i.i = omega arith in
    let whole : MinimalSoFar all kept = subst (λ (xs : List Row). MinimalSoFar xs kept) (take_all c.loop-i.i all past) h.0.so_far in
    let is : (r : Row) → IsAmong r all ↔ IsAmong r c.args.rows.items = λ r. subst (λ (xs : List Row). IsAmong r xs ↔ IsAmong r c.args.rows.items) (sym c.into_rows-rows.ensures.value) (c.new.ensures.rows.exactly r) in
    rw (c.in_order.ensures, c.truncate.ensures.items) (minimal_end (λ r. IsAmong r c.args.rows.items) all kept is whole)
