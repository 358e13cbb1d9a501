use Rattle.std.proofs.Common.{◌-◌, refl, sym, subst, true≢false, arith}
use Rattle.std.proofs.lemmas.List.{length-map}
use Rattle.std.specs.Arc.{arc_value}
use Rattle.mcs_rows.specs.Answers.{answered_of}
use Rattle.mcs_node.specs.Known.{knowledge_of}
use Rattle.mcs_node.specs.Nodes.{IsNeed, WaitsForGrant}
use Rattle.mcs_node.specs.Keeping.{IsPlaying, oracle_in}
use Rattle.mcs_node.proofs.BeginLemmas.{node_in}
use Rattle.mcs_node.proofs.GrantLemmas.{need_ready, no_fewer, waits_ready}
use Rattle.mcs_node.proofs.node.Node.needs.Goals as goal

pub returns-then-not-is_ready : goal.returns-then-not-is_ready
returns-then-not-is_ready g c waits =
    let n = c.self.inside in
    let o = oracle_in g.O.Oracle.stands n.oracle in
    let k = knowledge_of n.known in
    let playing = subst (λ z. IsPlaying (arc_value n.plan) n.context n.budget o n.receivers.items k n.before z) (sym c.in_ok-round.ensures.value) c.self.invariant.playing in
    let here = subst (λ z. WaitsForGrant (node_in (arc_value n.plan) n.context n.budget o n.receivers.items k n.before z)) (sym c.in_ok-round.ensures.value) (subst WaitsForGrant (sym c.self.view_is) waits) in
    true≢false (sym (c.if-not-is_ready.ensures.1 (waits_ready (arc_value n.plan) n.context n.budget o n.receivers.items k n.before c.in_ok-round.round.now c.self.invariant.in_range playing here)))

pub overflow_sub-result : goal.overflow_sub-result
overflow_sub-result g c =
    let n = c.self.inside in
    let o = oracle_in g.O.Oracle.stands n.oracle in
    let k = knowledge_of n.known in
    let r = c.in_ok-round.round.now in
    let playing = subst (λ z. IsPlaying (arc_value n.plan) n.context n.budget o n.receivers.items k n.before z) (sym c.in_ok-round.ensures.value) c.self.invariant.playing in
    let most = no_fewer (arc_value n.plan) n.context n.budget o n.receivers.items k n.before r c.self.invariant.in_range playing (c.if-not-is_ready.ensures.0 refl) in
    omega (arith, most, c.len.ensures, c.len-2.ensures, r.questions.ok.0, n.known.answers.ok.0, length-map n.known.answers.items answered_of)

pub returns : goal.returns
returns g c =
    let n = c.self.inside in
    let o = oracle_in g.O.Oracle.stands n.oracle in
    let k = knowledge_of n.known in
    let r = c.in_ok-round.round.now in
    let playing = subst (λ z. IsPlaying (arc_value n.plan) n.context n.budget o n.receivers.items k n.before z) (sym c.in_ok-round.ensures.value) c.self.invariant.playing in
    let count = c.len.result - c.len-2.result in
    subst (λ d. IsNeed d count) c.self.view_is (subst (λ z. IsNeed (node_in (arc_value n.plan) n.context n.budget o n.receivers.items k n.before z) count) c.in_ok-round.ensures.value
    (need_ready (arc_value n.plan) n.context n.budget o n.receivers.items k n.before r c.self.invariant.in_range playing count (c.if-not-is_ready.ensures.0 refl)
    (omega (arith, c.len.ensures, c.len-2.ensures, r.questions.ok.0, n.known.answers.ok.0, length-map n.known.answers.items answered_of))))
