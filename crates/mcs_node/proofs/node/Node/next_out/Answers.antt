use Rattle.std.proofs.Common.{◌≡◌, [], Some, MatchOption, is_some, subst}
use Rattle.std.specs.Arc.{arc_value}
use Rattle.mcs_node.specs.Known.{knowledge_of}
use Rattle.mcs_node.specs.Nodes.{HandsOut, NodeData}
use Rattle.mcs_node.specs.Keeping.{oracle_in}
use Rattle.mcs_node.proofs.BeginLemmas.{node_in}
use Rattle.mcs_node.proofs.SendingLemmas.{may_next, node_next, seen_next}
use Rattle.mcs_node.proofs.node.Node.next_out.Goals as goal

pub next_letter-requires : goal.next_letter-requires
next_letter-requires g c =
    let n = c.self.inside in
    let m = arc_value n.plan in
    let o = oracle_in g.O.Oracle.stands n.oracle in
    let k = knowledge_of n.known in
    (m, k.supplies, may_next m n.context n.budget o (is_some n.oracle) n.receivers.items k n.before n.round c.self.invariant c.in_ok-round.round.now c.in_ok-round.ensures.value c.deref.result.now c.deref.ensures.value)

pub invariant_of-self-2 : goal.invariant_of-self-2
invariant_of-self-2 g c =
    let n = c.self.inside in
    let m = arc_value n.plan in
    let o = oracle_in g.O.Oracle.stands n.oracle in
    let k = knowledge_of n.known in
    let r = c.in_ok-round.round.now in
    let may = may_next m n.context n.budget o (is_some n.oracle) n.receivers.items k n.before n.round c.self.invariant r c.in_ok-round.ensures.value c.deref.result.now c.deref.ensures.value in
    node_next m n.context n.budget o (is_some n.oracle) n.receivers.items k n.before n.round c.self.invariant r c.in_ok-round.ensures.value c.deref.result.now c.deref.ensures.value
    c.next_letter.new.round c.next_letter.result (c.next_letter.ensures m k.supplies may)

pub returns : goal.returns
returns g c =
    let n = c.self.inside in
    let m = arc_value n.plan in
    let o = oracle_in g.O.Oracle.stands n.oracle in
    let k = knowledge_of n.known in
    let r = c.in_ok-round.round.now in
    let may = may_next m n.context n.budget o (is_some n.oracle) n.receivers.items k n.before n.round c.self.invariant r c.in_ok-round.ensures.value c.deref.result.now c.deref.ensures.value in
    let now = node_in m n.context n.budget o n.receivers.items k n.before (Some c.next_letter.new.round) in
    subst (λ (d : NodeData). MatchOption c.next_letter.result ((d.outbox ≡ []) × (now ≡ d)) (HandsOut d now)) c.self.view_is
    (seen_next m n.context n.budget o (is_some n.oracle) n.receivers.items k n.before n.round c.self.invariant r c.in_ok-round.ensures.value c.deref.result.now c.deref.ensures.value
    c.next_letter.new.round c.next_letter.result (c.next_letter.ensures m k.supplies may))
