use Rattle.std.proofs.Common.{◌≡◌, ◌<◌, ◌≤◌, ◌∙◌, ap, subst, length, get_or, List, arith}
use Rattle.std.proofs.lemmas.List.{take_all}
use Rattle.mcs_sets.specs.Sets.{size}
use Rattle.mcs_base.specs.Listings.{IsAmong, IsListing}
use Rattle.mcs_base.proofs.ListingLemmas.{kept_more, left_out}
use Rattle.mcs_table.specs.declared.row.Row.{Row}
use Rattle.mcs_table.specs.RowOrder.{RowBefore}
use Rattle.mcs_table.specs.Tables.{IsTable}
use Rattle.mcs_table.proofs.SemiLemmas.{part_is_table}
use Rattle.mcs_joint.proofs.repairs.few_rows.Goals.{then-count-level+in_ok-push, else-count-level}
use Rattle.mcs_joint.proofs.repairs.few_rows.Goals as goal

pub loop-row-preserved : goal.loop-row-preserved
loop-row-preserved c =
    let t = c.args.table.now in
    let row = c.row-item.result in
    let i = c.loop-row.row-index in
    let Q = λ (r : Row). size r.marks ≤ c.args.level in
    let items = c.rows-row-items.ensures.value in
    let number = c.count.ensures.number in
    let less : i < length t.rows = subst (λ (xs : List Row). i < length xs) items c.loop-row-test.true in
    let here : row ≡ get_or t.rows i row = c.row-item.is ∙ ap (λ (xs : List Row). get_or xs i row) items in
    elim c.if-count-level.branch [
      | then-count-level+in_ok-push w ↦ rw w.rows-is (rw w.in_ok-push.ensures.items (kept_more RowBefore Q t.rows i row less here c.rows-row-items.ensures.kept.ascending _ (let few = w.if-count-level.true in omega arith) c.loop-row.invariant))
      | else-count-level w ↦ rw w.rows-is (left_out RowBefore Q t.rows i row less here _ (λ h. let many = w.if-count-level.false in omega arith) c.loop-row.invariant)
    ]

pub in_order-requires : goal.in_order-requires
in_order-requires c =
    let t = c.args.table.now in
    let past : length t.rows ≤ c.loop-row.row-index = subst (λ (xs : List Row). length xs ≤ c.loop-row.row-index) c.rows-row-items.ensures.value c.loop-row-test.false in
    let all = subst (λ (xs : List Row). IsListing (λ r. IsAmong r xs × (size r.marks ≤ c.args.level)) RowBefore c.loop-row.rows.items) (take_all c.loop-row.row-index t.rows past) c.loop-row.invariant in
    rw c.scope.ensures.value (part_is_table t (λ (r : Row). size r.marks ≤ c.args.level) c.loop-row.rows.items c.scope.ensures.kept all)

pub returns : goal.returns
returns c =
    let t = c.args.table.now in
    let past : length t.rows ≤ c.loop-row.row-index = subst (λ (xs : List Row). length xs ≤ c.loop-row.row-index) c.rows-row-items.ensures.value c.loop-row-test.false in
    let all = subst (λ (xs : List Row). IsListing (λ r. IsAmong r xs × (size r.marks ≤ c.args.level)) RowBefore c.loop-row.rows.items) (take_all c.loop-row.row-index t.rows past) c.loop-row.invariant in
    let table : IsTable (record { scope = c.scope.result; rows = c.loop-row.rows.items }) = rw c.scope.ensures.value (part_is_table t (λ (r : Row). size r.marks ≤ c.args.level) c.loop-row.rows.items c.scope.ensures.kept all) in
    rw c.in_order.ensures (record { table = table; rows = all })
