use Rattle.std.proofs.Common.{◌+◌, sym, subst}
use Rattle.std.proofs.lemmas.List.{take_rest}
use Rattle.mcs_base.specs.Listings.{IsAmong}
use Rattle.mcs_base.proofs.Among.{among_at}
use Rattle.mcs_base.proofs.Each.{all_among}
use Rattle.mcs_table.specs.Tables.{TableData, IsTable}
use Rattle.mcs_table.specs.Without.{IsWithout}
use Rattle.mcs_joint.proofs.Keeping.{without_begin, without_apart, without_more, without_end}
use Rattle.mcs_joint.proofs.repairs.eliminate_few.Goals as goal

pub loop-k-init : goal.loop-k-init
loop-k-init c = without_begin c.args.sets.now c.args.level c.args.tables.now c.without-left.result (subst (λ (t : TableData). IsWithout c.args.sets.now t c.without-left.result) c.in_ok-unit.ensures c.without-left.ensures)

pub eliminate_next-requires : goal.eliminate_next-requires
eliminate_next-requires c = without_apart c.args.sets.now c.args.level c.args.tables.now c.loop-k.k c.loop-k.left c.index-tables-k.result c.loop-k-test.true c.index-tables-k.is c.loop-k.invariant

pub loop-k-preserved : goal.loop-k-preserved
loop-k-preserved c =
    let ts = c.args.tables.now in
    let a = c.index-tables-k.result in
    let is_a : IsTable a = all_among IsTable ts a c.requires.tables (subst (λ (t : TableData). IsAmong t ts) (sym c.index-tables-k.is) (among_at ts c.loop-k.k a c.loop-k-test.true)) in
    let (joined, fewer, join, less, rest) = c.in_ok-left.ensures in
    let forget = rw (take_rest ts (c.loop-k.k + 1)) at rest in
    without_more c.args.sets.now c.args.level ts c.loop-k.k c.loop-k.left a c.loop-k-test.true c.index-tables-k.is c.loop-k.invariant is_a c.requires.apart joined fewer c.in_ok-left.left join less forget

pub returns : goal.returns
returns c = without_end c.args.sets.now c.args.level c.args.tables.now c.loop-k.k c.loop-k.left c.loop-k-test.false c.loop-k.invariant
