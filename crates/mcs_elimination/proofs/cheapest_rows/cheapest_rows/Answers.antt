use Rattle.std.proofs.Common.{◌≡◌, ◌<◌, ◌≤◌, ◌∙◌, refl, sym, ap, subst, length, get_or, List}
use Rattle.mcs_sets.specs.Sets.{Within}
use Rattle.mcs_base.specs.Listings.{IsAmong}
use Rattle.mcs_base.proofs.Among.{among_at}
use Rattle.mcs_base.proofs.Each.{all_among, all_from_among}
use Rattle.mcs_system.specs.Repairs.{all_marks}
use Rattle.mcs_costs.specs.Costs.{cost}
use Rattle.mcs_table.specs.declared.row.Row.{Row}
use Rattle.mcs_elimination.specs.CheapestRows.{IsBelow}
use Rattle.mcs_elimination.proofs.Pruning.{pruned_all, pruned_more, pruned_none, pruned_past}
use Rattle.mcs_table.proofs.JoinLemmas.{row_of}
use Rattle.mcs_elimination.proofs.cheapest_rows.cheapest_rows.Goals.{then-is_below+in_ok-run, else-is_below}
use Rattle.mcs_elimination.proofs.cheapest_rows.cheapest_rows.Goals as goal

pub loop-row-init : goal.loop-row-init
loop-row-init c = pruned_none (cost c.args.system.now) c.args.below c.args.table.now.rows c.new-kept.result.items (record { from = 0; price = 0 }) c.new-kept.ensures.items refl

pub cost-price-requires : goal.cost-price-requires
cost-price-requires c =
    let rows = c.args.table.now.rows in
    let items = c.rows-row-items.ensures.value in
    let less : c.loop-row.row-index < length rows = subst (λ (xs : List Row). c.loop-row.row-index < length xs) items c.loop-row-test.true in
    let here : c.row-item.result ≡ get_or rows c.loop-row.row-index c.row-item.result = c.row-item.is ∙ ap (λ (xs : List Row). get_or xs c.loop-row.row-index c.row-item.result) items in
    all_among (λ (r : Row). Within r.marks (all_marks c.args.system.now)) rows c.row-item.result c.requires
    (subst (λ (r : Row). IsAmong r rows) (sym here) (among_at rows c.loop-row.row-index c.row-item.result less))

pub loop-row-preserved : goal.loop-row-preserved
loop-row-preserved c =
    let price = cost c.args.system.now in
    let rows = c.args.table.now.rows in
    let row = c.row-item.result in
    let i = c.loop-row.row-index in
    let items = c.rows-row-items.ensures.value in
    let less : i < length rows = subst (λ (xs : List Row). i < length xs) items c.loop-row-test.true in
    let here : row ≡ get_or rows i row = c.row-item.is ∙ ap (λ (xs : List Row). get_or xs i row) items in
    let is : c.cost-price.result ≡ price row.marks = c.cost-price.ensures.value in
    elim c.if-is_below.branch [
      | then-is_below+in_ok-run w ↦ rw (w.kept-is, w.run-is) (pruned_more price c.args.below rows i c.loop-row.kept.items c.loop-row.run row less here c.loop-row.invariant _ _
          (subst (IsBelow c.args.below) is (c.is_below.ensures.yes w.if-is_below.true)) (w.in_ok-run.ensures price (sym is) c.loop-row.invariant.run_is))
      | else-is_below w ↦ rw (w.kept-is, w.run-is) (pruned_past price c.args.below rows i c.loop-row.kept.items c.loop-row.run row less here c.loop-row.invariant
          (λ h. c.is_below.ensures.no w.if-is_below.false (subst (IsBelow c.args.below) (sym is) h)))
    ]

pub new-requires : goal.new-requires
new-requires c = all_from_among (λ (r : Row). r.state.mask ≡ c.scope.result) c.loop-row.kept.items (λ r among.
    (row_of c.args.table.now c.scope.ensures.kept r (c.loop-row.invariant.from r among)).mask ∙ sym c.scope.ensures.value)

pub returns : goal.returns
returns c =
    let past : length c.args.table.now.rows ≤ c.loop-row.row-index = subst (λ (xs : List Row). length xs ≤ c.loop-row.row-index) c.rows-row-items.ensures.value c.loop-row-test.false in
    pruned_all (cost c.args.system.now) c.args.below c.args.table.now c.new.result c.loop-row.row-index c.loop-row.kept.items c.loop-row.run past c.loop-row.invariant
    (λ r among. (c.new.ensures.rows.exactly r).0 among) (λ r among. (c.new.ensures.rows.exactly r).1 among)
