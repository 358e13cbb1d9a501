use Rattle.std.proofs.Common.{◌≡◌, ◌∙◌, Option, true, ap, refl, sym, subst}
use Rattle.std.specs.Arc.{arc_value}
use Rattle.mcs_system.specs.Plain.{System}
use Rattle.mcs_rows.specs.Local.{IsLocalTable}
use Rattle.mcs_node.specs.Known.{knowledge_of}
use Rattle.mcs_node.specs.Nodes.{IsLocalOf, NodeData}
use Rattle.mcs_node.specs.Keeping.{IsPlaying, done_in, oracle_in}
use Rattle.mcs_node.specs.declared.round.InRound as code
use Rattle.mcs_node.proofs.BeginLemmas.{node_in}
use Rattle.mcs_node.proofs.LocalRowLemmas.{answered_done, told_done}
use Rattle.mcs_node.proofs.node.Node.local.Goals as goal

pub local_rows-requires-clause-supplied : goal.local_rows-requires-clause-supplied
local_rows-requires-clause-supplied g c =
    let n = c.self.inside in
    let r = c.in-Some.round in
    let done : done_in r.stage ≡ true = sym c.is_done.ensures ∙ c.if-not-is_done.false in
    let playing = subst (λ (z : Option code.InRound). IsPlaying (arc_value n.plan) n.context n.budget (oracle_in g.O.Oracle.stands n.oracle) n.receivers.items (knowledge_of n.known) n.before z) c.in-Some.is c.self.invariant.playing in
    rw (c.deref-2.ensures, c.deref-3.ensures.value, c.in_ok-told.ensures, c.deref.ensures.value) (told_done (arc_value n.plan) n.context n.budget (oracle_in g.O.Oracle.stands n.oracle) n.receivers.items (knowledge_of n.known) n.before r c.self.invariant.in_range playing done)

pub local_rows-requires-clause-answered : goal.local_rows-requires-clause-answered
local_rows-requires-clause-answered g c =
    let n = c.self.inside in
    let r = c.in-Some.round in
    let done : done_in r.stage ≡ true = sym c.is_done.ensures ∙ c.if-not-is_done.false in
    let playing = subst (λ (z : Option code.InRound). IsPlaying (arc_value n.plan) n.context n.budget (oracle_in g.O.Oracle.stands n.oracle) n.receivers.items (knowledge_of n.known) n.before z) c.in-Some.is c.self.invariant.playing in
    rw (c.deref-2.ensures, c.deref-4.ensures.value) (answered_done (arc_value n.plan) n.context n.budget (oracle_in g.O.Oracle.stands n.oracle) n.receivers.items (knowledge_of n.known) n.before r c.self.invariant.in_range playing done)

pub returns : goal.returns
returns g c =
    let n = c.self.inside in
    let r = c.in-Some.round in
    let t = c.in_ok-table.table in
    let done : done_in r.stage ≡ true = sym c.is_done.ensures ∙ c.if-not-is_done.false in
    let seen = ap (λ (z : Option code.InRound). node_in (arc_value n.plan) n.context n.budget (oracle_in g.O.Oracle.stands n.oracle) n.receivers.items (knowledge_of n.known) n.before z) (sym c.in-Some.is) ∙ c.self.view_is in
    subst (λ (d : NodeData). IsLocalOf d t) seen (record {
      done = done;
      level = r.level;
      of_round = refl;
      rows = subst (λ (m : System). IsLocalTable m r.level n.context t) c.deref-2.ensures c.in_ok-table.ensures;
    })
