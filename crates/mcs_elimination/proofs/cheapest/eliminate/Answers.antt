use Rattle.std.proofs.Common.{◌+◌, sym, subst}
use Rattle.std.proofs.lemmas.List.{take_rest}
use Rattle.mcs_sets.specs.Sets.{Within}
use Rattle.mcs_base.specs.Listings.{IsAmong}
use Rattle.mcs_base.proofs.Among.{among_at}
use Rattle.mcs_base.proofs.Each.{all_among}
use Rattle.mcs_system.specs.Repairs.{all_marks}
use Rattle.mcs_costs.specs.Costs.{cost}
use Rattle.mcs_table.specs.declared.row.Row.{Row}
use Rattle.mcs_table.specs.Tables.{TableData, IsTable}
use Rattle.mcs_joint.proofs.Eliminating.{later_apart}
use Rattle.mcs_elimination.specs.CheapestRows.{HasCheapest}
use Rattle.mcs_elimination.specs.Eliminating.{HaveMarks}
use Rattle.mcs_elimination.proofs.Leaving.{left_apart, left_begin, left_end, left_known, left_more}
use Rattle.mcs_elimination.proofs.Prices.{costs_are_prices, unit_marks}
use Rattle.mcs_elimination.proofs.cheapest.eliminate.Goals as goal

pub cheapest_rows-requires : goal.cheapest_rows-requires
cheapest_rows-requires c = subst (λ (t : TableData). HaveMarks c.args.system.now t.rows) (sym c.in_ok-unit.ensures) (unit_marks c.args.system.now)

pub loop-k-init : goal.loop-k-init
loop-k-init c = left_begin (cost c.args.system.now) (all_marks c.args.system.now) c.args.below c.args.level c.args.tables.now c.in_ok-left.left (subst (λ (t : TableData). HasCheapest (cost c.args.system.now) c.args.below t c.in_ok-left.left) c.in_ok-unit.ensures c.in_ok-left.ensures)

pub eliminate_next-requires : goal.eliminate_next-requires
eliminate_next-requires c =
    let m = c.args.system.now in
    let ts = c.args.tables.now in
    let a = c.index-tables-k.result in
    let prices = costs_are_prices m c.requires.valid c.args.level c.requires.room in
    let there = subst (λ (t : TableData). IsAmong t ts) (sym c.index-tables-k.is) (among_at ts c.loop-k.k a c.loop-k-test.true) in
    let is_a : IsTable a = all_among IsTable ts a c.requires.are there in
    record {
      apart = left_apart (cost m) (all_marks m) c.args.below c.args.level prices ts c.loop-k.k c.loop-k.left a c.loop-k-test.true c.index-tables-k.is is_a c.loop-k.invariant;
      first = left_known (cost m) (all_marks m) c.args.below c.args.level prices ts c.loop-k.k c.loop-k.left a c.loop-k-test.true c.index-tables-k.is is_a c.loop-k.invariant;
      second = c.requires.marks a there;
    }

pub loop-k-preserved : goal.loop-k-preserved
loop-k-preserved c =
    let m = c.args.system.now in
    let ts = c.args.tables.now in
    let a = c.index-tables-k.result in
    let prices = costs_are_prices m c.requires.valid c.args.level c.requires.room in
    let there = subst (λ (t : TableData). IsAmong t ts) (sym c.index-tables-k.is) (among_at ts c.loop-k.k a c.loop-k-test.true) in
    let is_a : IsTable a = all_among IsTable ts a c.requires.are there in
    let (joined, rest, join, rest_of, cheapest) = c.in_ok-left-2.ensures in
    let forget = rw (take_rest ts (c.loop-k.k + 1)) at rest_of in
    left_more (cost m) (all_marks m) c.args.below c.args.level prices ts c.loop-k.k c.loop-k.left a c.loop-k-test.true c.index-tables-k.is is_a c.loop-k.invariant
    (λ r among. all_among (λ (w : Row). Within w.marks (all_marks m)) a.rows r (c.requires.marks a there) among)
    (λ later among. later_apart ts c.loop-k.k a c.loop-k-test.true c.index-tables-k.is c.requires.apart later among)
    joined rest c.in_ok-left-2.left join forget cheapest

pub returns : goal.returns
returns c = left_end (cost c.args.system.now) (all_marks c.args.system.now) c.args.below c.args.level c.args.tables.now c.requires.are c.loop-k.k c.loop-k.left c.loop-k-test.false c.loop-k.invariant
