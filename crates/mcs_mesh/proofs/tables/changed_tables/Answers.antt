use Rattle.std.proofs.Common.{◌≡◌, ◌<◌, ◌∙◌, ap, map, length, arith, sym, subst}
use Rattle.std.proofs.lemmas.List.{length-map}
use Rattle.mcs_system.specs.Plain.{System}
use Rattle.mcs_system.specs.Seen.{context_of}
use Rattle.mcs_rows.specs.Answers.{answered_of}
use Rattle.mcs_rows.proofs.MakingLemmas.{answered_in_order}
use Rattle.mcs_node.specs.Known.{Knowledge}
use Rattle.mcs_node.specs.Nodes.{NodeData}
use Rattle.mcs_mesh.specs.Players.{known_to}
use Rattle.mcs_mesh.proofs.SuppliedLemmas.{answered_at, told_all}
use Rattle.mcs_mesh.proofs.TableLemmas.{changed_more, changed_end, AreSomeChanged, changed_begin}
use Rattle.mcs_mesh.proofs.tables.changed_tables.Goals as goal

pub changed_rows-requires-clause-in_order : goal.changed_rows-requires-clause-in_order
changed_rows-requires-clause-in_order g c =
    let (k, few, known) = c.requires.known in
    let less : c.loop-i.i < length c.args.nodes.now =
    omega (arith, c.loop-i-test.true, c.requires.one_each, ap length c.contexts.ensures.value, length-map c.contexts.result.now context_of, ap (λ (m : System). length m.contexts) c.system.ensures) in
    let answered = answered_at c.args.plan.now k c.loop-i.i c.args.nodes.now c.index-nodes-i.result known less c.index-nodes-i.is (map answered_of c.deref-in-loop-i.result.now)
    (ap (map answered_of) c.deref-in-loop-i.ensures.value ∙ ap (λ (z : Knowledge). z.answers) c.known-known.ensures.known) in
    answered_in_order c.args.plan.now k c.loop-i.i c.deref-in-loop-i.result.now answered

pub loop-i-preserved : goal.loop-i-preserved
loop-i-preserved g c k few known =
    let less : c.loop-i.i < length c.args.nodes.now =
    omega (arith, c.loop-i-test.true, c.requires.one_each, ap length c.contexts.ensures.value, length-map c.contexts.result.now context_of, ap (λ (m : System). length m.contexts) c.system.ensures) in
    let told = told_all c.args.plan.now k c.loop-i.i (known_to c.args.nodes.now) (length-map c.args.nodes.now (λ (d : NodeData). d.known) ∙ c.requires.one_each) known
    (map (λ supply. supply.items) c.deref.result.now) (λ other also. ap (map (λ supply. supply.items)) c.deref.ensures.value ∙ c.in_ok-told.ensures other also) in
    let answered = answered_at c.args.plan.now k c.loop-i.i c.args.nodes.now c.index-nodes-i.result known less c.index-nodes-i.is (map answered_of c.deref-in-loop-i.result.now)
    (ap (map answered_of) c.deref-in-loop-i.ensures.value ∙ ap (λ (z : Knowledge). z.answers) c.known-known.ensures.known) in
    changed_more c.args.plan.now k c.args.pair c.loop-i.i c.loop-i.tables.items c.push.new.self.items c.in_ok-table.table (c.loop-i.invariant k few known) (c.in_ok-table.ensures k few told answered) c.in_ok-push.ensures.items

pub returns : goal.returns
returns g c =
    let (k, few, known) = c.requires.known in
    let last : c.loop-i.i ≡ length c.args.plan.now.contexts =
    omega (arith, c.loop-i-test.false, c.loop-i.auto.i-end, ap length c.contexts.ensures.value, length-map c.contexts.result.now context_of, ap (λ (m : System). length m.contexts) c.system.ensures) in
    (k, few, changed_end c.args.plan.now k c.args.pair c.loop-i.i c.loop-i.tables.items last (c.loop-i.invariant k few known))

pub overflow_cast-i-end : goal.overflow_cast-i-end
overflow_cast-i-end g c = omega (arith, c.contexts.ensures.few)

pub loop-i-init : goal.loop-i-init
loop-i-init g c = λ k few known. subst (AreSomeChanged c.args.plan.now k c.args.pair 0) (sym c.new-tables.ensures.items) (changed_begin c.args.plan.now k c.args.pair)

pub supplies_for-requires-clause-in_range : goal.supplies_for-requires-clause-in_range
supplies_for-requires-clause-in_range g c = omega (arith, c.loop-i-test.true, c.requires.one_each, ap length c.contexts.ensures.value, length-map c.contexts.result.now context_of, ap (λ (m : System). length m.contexts) c.system.ensures)

pub supplies_for-requires-clause-one_each : goal.supplies_for-requires-clause-one_each
supplies_for-requires-clause-one_each g c = c.requires.one_each

pub offset_bounds-nodes-i : goal.offset_bounds-nodes-i
offset_bounds-nodes-i g c = omega (arith, c.loop-i-test.true, c.requires.one_each, ap length c.contexts.ensures.value, length-map c.contexts.result.now context_of, ap (λ (m : System). length m.contexts) c.system.ensures)

pub bounds-nodes-i : goal.bounds-nodes-i
bounds-nodes-i g c = omega (arith, c.loop-i-test.true, c.requires.one_each, ap length c.contexts.ensures.value, length-map c.contexts.result.now context_of, ap (λ (m : System). length m.contexts) c.system.ensures)

pub changed_rows-requires-clause-in_range : goal.changed_rows-requires-clause-in_range
changed_rows-requires-clause-in_range g c = omega (arith, c.loop-i-test.true, c.requires.one_each, ap length c.contexts.ensures.value, length-map c.contexts.result.now context_of, ap (λ (m : System). length m.contexts) c.system.ensures)

pub changed_rows-requires-clause-allowed : goal.changed_rows-requires-clause-allowed
changed_rows-requires-clause-allowed g c = c.requires.allowed
