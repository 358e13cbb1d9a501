use Rattle.std.proofs.Common.{◌≡◌, ◌<◌, ◌∙◌, ap, sym, subst, map, length, Some, slice_get, refl, arith}
use Rattle.std.proofs.lemmas.Iterator.Adapters.{YieldsList-from_vec}
use Rattle.std.proofs.lemmas.Iterator.Consumers.{YieldsList-turn, YieldsList-end}
use Rattle.std.proofs.lemmas.List.{length-map, map-id, map_push}
use Rattle.std.proofs.lemmas.Option.{slice_get_read}
use Rattle.std.specs.Arc.{arc_value}
use Rattle.mcs_base.proofs.Lists.{slice_get-map_some}
use Rattle.mcs_system.specs.Plain.{System}
use Rattle.mcs_system.specs.Seen.{context_of}
use Rattle.mcs_states.specs.Oracles.{OracleState}
use Rattle.mcs_node.specs.Nodes.{IsFreshOracle, IsNewNode, NodeData}
use Rattle.mcs_mesh.proofs.MakingLemmas.{as_many, new_more, none_new, oracles_more, new_end}
use Rattle.mcs_mesh.proofs.making.nodes_of.Given.{Over}
use Rattle.mcs_mesh.proofs.making.nodes_of.Goals as goal

pub overflow_cast-context : goal.overflow_cast-context
overflow_cast-context g c =
    let gives = c.into_iter-oracle-iterator.ensures.into_iter_gives in
    let road = YieldsList-from_vec {s = c.into_iter-oracle-iterator.result} c.args.oracles.items gives.0 (gives.1 ∙ c.args.oracles.ok.0) in
    let less = (YieldsList-turn road c.loop-oracle.yielded c.loop-oracle.oracle-iterator c.loop-oracle.yielded_by c.next.result c.next.new.self c.in-Some.oracle c.in-Some.is c.next.ensures.steps).0 in
    let many : length c.contexts.result.now ≡ length (arc_value c.args.plan.now).contexts =
    sym (length-map c.contexts.result.now context_of) ∙ ap length c.contexts.ensures.value ∙ ap (λ (m : System). length m.contexts) (c.system.ensures ∙ c.deref.ensures) in
    let number = as_many c.loop-oracle.nodes.items g.O.Oracle.stands c.loop-oracle.yielded c.loop-oracle.invariant.oracles in
    let count : c.len-context.result ≡ length c.loop-oracle.nodes.items = c.len-context.ensures ∙ c.loop-oracle.nodes.ok.0 in
    let few = c.contexts.ensures.few in
    let each = c.requires.one_each in
    let bound : c.len-context.result < 64 = omega (arith, less, each, many, few, number, count) in
    omega (arith, bound)

-- the oracle of the next context
there : (g : Over) (c : goal.After-nodes-in-loop-oracle-2-1 g) → (length c.loop-oracle.yielded < length c.args.oracles.items) × (slice_get c.args.oracles.items (length c.loop-oracle.yielded) ≡ Some c.in-Some.oracle)
there g c =
    let all = c.args.oracles.items in
    let gives = c.into_iter-oracle-iterator.ensures.into_iter_gives in
    let road = YieldsList-from_vec {s = c.into_iter-oracle-iterator.result} all gives.0 (gives.1 ∙ c.args.oracles.ok.0) in
    let turn = YieldsList-turn road c.loop-oracle.yielded c.loop-oracle.oracle-iterator c.loop-oracle.yielded_by c.next.result c.next.new.self c.in-Some.oracle c.in-Some.is c.next.ensures.steps in
    (turn.0, slice_get_read all (length all) (length c.loop-oracle.yielded) c.in-Some.oracle refl turn.0 turn.1)

number : (g : Over) (c : goal.After-nodes-in-loop-oracle-2-1 g) → c.len-context.result ≡ length c.loop-oracle.yielded
number g c = c.len-context.ensures ∙ (c.loop-oracle.nodes.ok.0 ∙ as_many c.loop-oracle.nodes.items g.O.Oracle.stands c.loop-oracle.yielded c.loop-oracle.invariant.oracles)

pub new-requires-clause-in_range : goal.new-requires-clause-in_range
new-requires-clause-in_range g c = subst (λ (m : System). c.len-context.result < length m.contexts) (sym c.in_ok-plan.ensures) (let less = (there g c).0 in let many = c.requires.one_each in omega (arith, less, many, number g c))

pub new-requires-clause-own : goal.new-requires-clause-own
new-requires-clause-own g c =
    subst (λ (m : System). IsFreshOracle m c.len-context.result (g.O.Oracle.stands c.in-Some.oracle)) (sym c.in_ok-plan.ensures)
    (c.requires.own c.len-context.result (g.O.Oracle.stands c.in-Some.oracle)
    (ap (slice_get (map g.O.Oracle.stands c.args.oracles.items)) (number g c) ∙ slice_get-map_some g.O.Oracle.stands c.args.oracles.items (length c.loop-oracle.yielded) c.in-Some.oracle (there g c).1))

pub loop-oracle-init : goal.loop-oracle-init
loop-oracle-init g c = record { oracles = ap (map (λ (d : NodeData). d.oracle)) c.in_ok-nodes.ensures.items; new = none_new (arc_value c.args.plan.now) c.args.budget c.in_ok-nodes.nodes.items c.in_ok-nodes.ensures.items }

pub loop-oracle-preserved : goal.loop-oracle-preserved
loop-oracle-preserved g c =
    let m : System = arc_value c.args.plan.now in
    let o : OracleState = g.O.Oracle.stands c.in-Some.oracle in
    let old = c.loop-oracle.nodes.items in
    let now = c.push.new.self.items in
    let here : IsNewNode m c.len-context.result c.args.budget o c.in_ok-new.field-0 = subst (λ (n : System). IsNewNode n c.len-context.result c.args.budget o c.in_ok-new.field-0) c.in_ok-plan.ensures c.in_ok-new.ensures in
    record {
      oracles =
          oracles_more m c.args.budget c.len-context.result old now o c.in_ok-new.field-0 here c.in_ok-push.ensures.items (map g.O.Oracle.stands c.loop-oracle.yielded) c.loop-oracle.invariant.oracles
          ∙ sym (map_push g.O.Oracle.stands c.loop-oracle.yielded c.in-Some.oracle);
      new = new_more m c.args.budget c.len-context.result old now o c.in_ok-new.field-0 here c.in_ok-push.ensures.items (c.len-context.ensures ∙ c.loop-oracle.nodes.ok.0) c.loop-oracle.invariant.new;
    }

pub returns : goal.returns
returns g c =
    let all = c.args.oracles.items in
    let gives = c.into_iter-oracle-iterator.ensures.into_iter_gives in
    let road = YieldsList-from_vec {s = c.into_iter-oracle-iterator.result} all gives.0 (gives.1 ∙ c.args.oracles.ok.0) in
    let end = YieldsList-end road c.loop-oracle.yielded c.loop-oracle.oracle-iterator c.loop-oracle.yielded_by c.next.result c.next.new.self c.in-None.is c.next.ensures.steps in
    let same = sym (map-id c.loop-oracle.yielded) ∙ end.0 in
    new_end (arc_value c.args.plan.now) c.args.budget (map g.O.Oracle.stands all) c.loop-oracle.nodes.items (length-map all g.O.Oracle.stands ∙ c.requires.one_each)
    (c.loop-oracle.invariant.oracles ∙ ap (map g.O.Oracle.stands) same) c.loop-oracle.invariant.new
