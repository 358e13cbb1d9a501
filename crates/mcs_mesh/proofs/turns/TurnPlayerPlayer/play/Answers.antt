use Rattle.std.proofs.Common.{◌≡◌, List, length, subst, sym, arith}
use Rattle.std.specs.Arc.{arc_value}
use Rattle.mcs_base.proofs.Written.{written_back}
use Rattle.mcs_system.specs.Plain.{System}
use Rattle.mcs_node.specs.Nodes.{NodeData}
use Rattle.mcs_mesh.specs.Players.{IsPlayed, IsReadyRound}
use Rattle.mcs_mesh.specs.Rounds.{IsSoundRound}
use Rattle.mcs_mesh.proofs.NodeLemmas.{same_length}
use Rattle.mcs_mesh.proofs.turns.TurnPlayerPlayer.play.Goals as goal

pub returns-clause-played : goal.returns-clause-played
returns-clause-played g c =
    let r = c.args.round in
    let m : System = arc_value c.args.round.plan in
    let before : List NodeData = c.args.round.nodes.list.items in
    let after : List NodeData = c.play_in_turn-total.new.nodes in
    let total = c.play_in_turn-total.result in
    let ready : IsReadyRound c.deref.result.now r.level r.budget r.asked c.deref_mut.result.now =
    subst (λ (n : System). IsReadyRound n r.level r.budget r.asked c.deref_mut.result.now) (sym c.deref.ensures)
    (subst (λ (ns : List NodeData). IsReadyRound m r.level r.budget r.asked ns) (sym c.deref_mut.ensures.value) c.requires.ready) in
    let played : IsPlayed m r.level r.budget before after total =
    subst (λ (n : System). IsPlayed n r.level r.budget before after total) c.deref.ensures
    (subst (λ (ns : List NodeData). IsPlayed c.deref.result.now r.level r.budget ns after total) c.deref_mut.ensures.value (c.play_in_turn-total.ensures.played r.budget ready)) in
    let long : length after ≡ length before = same_length after before played.same in
    let fits : c.args.round.nodes.list.len ≡ length before = (let k = c.args.round.nodes.list.ok.0 in omega (arith, k)) in
    subst (λ (ns : List NodeData). IsPlayed m r.level r.budget before ns total) (sym (written_back before after c.args.round.nodes.list.len long fits)) played

pub returns-clause-left : goal.returns-clause-left
returns-clause-left g c =
    let r = c.args.round in
    let m : System = arc_value c.args.round.plan in
    let before : List NodeData = c.args.round.nodes.list.items in
    let after : List NodeData = c.play_in_turn-total.new.nodes in
    let total = c.play_in_turn-total.result in
    let ready : IsReadyRound c.deref.result.now r.level r.budget r.asked c.deref_mut.result.now =
    subst (λ (n : System). IsReadyRound n r.level r.budget r.asked c.deref_mut.result.now) (sym c.deref.ensures)
    (subst (λ (ns : List NodeData). IsReadyRound m r.level r.budget r.asked ns) (sym c.deref_mut.ensures.value) c.requires.ready) in
    let played : IsPlayed m r.level r.budget before after total =
    subst (λ (n : System). IsPlayed n r.level r.budget before after total) c.deref.ensures
    (subst (λ (ns : List NodeData). IsPlayed c.deref.result.now r.level r.budget ns after total) c.deref_mut.ensures.value (c.play_in_turn-total.ensures.played r.budget ready)) in
    let left : IsSoundRound m r.level r.budget after =
    subst (λ (n : System). IsSoundRound n r.level r.budget after) c.deref.ensures (c.play_in_turn-total.ensures.left r.budget ready) in
    let long : length after ≡ length before = same_length after before played.same in
    let fits : c.args.round.nodes.list.len ≡ length before = (let k = c.args.round.nodes.list.ok.0 in omega (arith, k)) in
    subst (λ (ns : List NodeData). IsSoundRound m r.level r.budget ns) (sym (written_back before after c.args.round.nodes.list.len long fits)) left
