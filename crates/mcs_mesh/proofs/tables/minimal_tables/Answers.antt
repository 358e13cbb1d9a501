use Rattle.std.proofs.Common.{◌<◌, ◌∙◌, ap, get_or, map, length, sym, subst, List, [], ℕ, arith}
use Rattle.std.proofs.lemmas.List.{length-map, take_all}
use Rattle.mcs_table.specs.Tables.{TableData}
use Rattle.mcs_rows.specs.Local.{IsFittingTable}
use Rattle.mcs_rows.specs.Answers.{answered_of}
use Rattle.mcs_node.specs.Known.{Knowledge}
use Rattle.mcs_node.specs.Nodes.{NodeData}
use Rattle.mcs_mesh.specs.Players.{known_to}
use Rattle.mcs_mesh.proofs.SuppliedLemmas.{answered_at, told_all}
use Rattle.mcs_mesh.proofs.TableLemmas.{AreSomeFitting, fitting_begin, fitting_more, fitting_end, order_below}
use Rattle.mcs_mesh.proofs.tables.minimal_tables.Goals as goal

pub loop-i-init : goal.loop-i-init
loop-i-init g c = subst (AreSomeFitting c.args.plan.now c.args.level c.args.pairs.now []) (sym c.new-tables.ensures.items) (fitting_begin c.args.plan.now c.args.level c.args.pairs.now)

pub supplies_for-requires-clause-in_range : goal.supplies_for-requires-clause-in_range
supplies_for-requires-clause-in_range g c = order_below (length c.args.plan.now.contexts) c.in_ok-order.order.items c.deref-i-items.result.now c.in_ok-order.ensures c.deref-i-items.ensures.value c.loop-i.i-index c.loop-i-test.true

pub offset_bounds-nodes-i : goal.offset_bounds-nodes-i
offset_bounds-nodes-i g c = let e = c.requires.one_each in
    let low = order_below (length c.args.plan.now.contexts) c.in_ok-order.order.items c.deref-i-items.result.now c.in_ok-order.ensures c.deref-i-items.ensures.value c.loop-i.i-index c.loop-i-test.true in
    omega (arith, e, low)

pub bounds-nodes-i : goal.bounds-nodes-i
bounds-nodes-i g c = let e = c.requires.one_each in
    omega (arith, e, order_below (length c.args.plan.now.contexts) c.in_ok-order.order.items c.deref-i-items.result.now c.in_ok-order.ensures c.deref-i-items.ensures.value c.loop-i.i-index c.loop-i-test.true)

pub minimal_rows-requires-clause-in_range : goal.minimal_rows-requires-clause-in_range
minimal_rows-requires-clause-in_range g c = order_below (length c.args.plan.now.contexts) c.in_ok-order.order.items c.deref-i-items.result.now c.in_ok-order.ensures c.deref-i-items.ensures.value c.loop-i.i-index c.loop-i-test.true

pub minimal_rows-requires-clause-supplied : goal.minimal_rows-requires-clause-supplied
minimal_rows-requires-clause-supplied g c =
    told_all c.args.plan.now c.args.level (get_or c.deref-i-items.result.now c.loop-i.i-index 0) (known_to c.args.nodes.now) (length-map c.args.nodes.now (λ (d : NodeData). d.known) ∙ c.requires.one_each) c.requires.known
    (map (λ supply. supply.items) c.deref.result.now) (λ other also. ap (map (λ supply. supply.items)) c.deref.ensures.value ∙ c.in_ok-told.ensures other also)

pub minimal_rows-requires-clause-answered : goal.minimal_rows-requires-clause-answered
minimal_rows-requires-clause-answered g c =
    let i = get_or c.deref-i-items.result.now c.loop-i.i-index 0 in
    let low = order_below (length c.args.plan.now.contexts) c.in_ok-order.order.items c.deref-i-items.result.now c.in_ok-order.ensures c.deref-i-items.ensures.value c.loop-i.i-index c.loop-i-test.true in
    let less : i < length c.args.nodes.now = let e = c.requires.one_each in omega (arith, e, low) in
    answered_at c.args.plan.now c.args.level i c.args.nodes.now c.index-nodes-i.result c.requires.known less c.index-nodes-i.is (map answered_of c.deref-in-loop-i.result.now)
    (ap (map answered_of) c.deref-in-loop-i.ensures.value ∙ ap (λ (k : Knowledge). k.answers) c.known-known.ensures.known)

pub loop-i-preserved : goal.loop-i-preserved
loop-i-preserved g c =
    let i = get_or c.deref-i-items.result.now c.loop-i.i-index 0 in
    fitting_more c.args.plan.now c.args.level c.args.pairs.now c.deref-i-items.result.now c.loop-i.i-index c.loop-i.tables.items c.push.new.self.items c.in_ok-table.table c.loop-i-test.true c.loop-i.invariant
    (subst (λ (others : List TableData). IsFittingTable c.args.plan.now c.args.level i c.args.pairs.now others c.in_ok-table.table) c.deref-in-loop-i-2.ensures.value c.in_ok-table.ensures) c.in_ok-push.ensures.items

pub returns : goal.returns
returns g c =
    let whole = take_all c.loop-i.i-index c.deref-i-items.result.now c.loop-i-test.false ∙ c.deref-i-items.ensures.value in
    fitting_end c.args.plan.now c.args.level c.args.pairs.now c.in_ok-order.order.items c.loop-i.tables.items c.in_ok-order.ensures
    (subst (λ (js : List ℕ). AreSomeFitting c.args.plan.now c.args.level c.args.pairs.now js c.loop-i.tables.items) whole c.loop-i.invariant)
