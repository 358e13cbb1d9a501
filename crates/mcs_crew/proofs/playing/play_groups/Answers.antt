use Rattle.std.proofs.Common.{◌≡◌, ◌≤◌, ℕ, List, length, replicate, vec_capacity, [], sym, subst, arith}
use Rattle.std.proofs.lemmas.Result.{IfOk-weaker}
use Rattle.std.specs.Arc.{arc_value}
use Rattle.std.specs.List.{AllByRecursion}
use Rattle.mcs_node.specs.Nodes.{NodeData}
use Rattle.mcs_mesh.specs.Players.{CanBegin}
use Rattle.mcs_mesh.proofs.PlayLemmas.{can_begin}
use Rattle.mcs_crew.specs.Calls.{nodes_in}
use Rattle.mcs_crew.specs.declared.load.Load.{Load}
use Rattle.mcs_crew.proofs.Counting.{few_asked}
use Rattle.mcs_crew.proofs.PlayLemmas.{equipment_empty, round_can_end, round_given, round_played, round_same, round_shape, round_some}
use Rattle.mcs_crew.proofs.playing.play_groups.Goals as goal

-- ---- the round goes out
pub begin_all-requires : goal.begin_all-requires
begin_all-requires g c =
    let (budget, ready) = c.requires.ready in
    subst (λ (ns : List NodeData). AllByRecursion (CanBegin c.args.level) ns) (sym c.deref_mut.ensures.value) (can_begin (arc_value c.args.plan.now) c.args.level budget c.args.asked c.args.nodes.now.items ready)

pub equipment_of-requires-clause-few : goal.equipment_of-requires-clause-few
equipment_of-requires-clause-few g c = let (budget, ready) = c.requires.ready in few_asked (arc_value c.args.plan.now) c.requires.valid ready.before c.args.asked ready.reached.count

pub deal-requires-clause-empty : goal.deal-requires-clause-empty
deal-requires-clause-empty g c =
    let equipment = c.in_ok-equipment.equipment in
    subst (λ (ls : List (Load g.row.O.Denot)). nodes_in ls ≡ replicate (length ls) []) (sym c.deref_mut-2.ensures.value)
    (equipment_empty (arc_value c.args.plan.now) c.args.groups c.args.asked equipment.draw equipment.hub.addresses.items equipment.hub.seat equipment.loads.items c.in_ok-equipment.ensures.equipped)

pub deal-requires-clause-room : goal.deal-requires-clause-room
deal-requires-clause-room g c =
    let (budget, ready) = c.requires.ready in
    let all : length (arc_value c.args.plan.now).contexts ≡ c.args.nodes.now.len = (let k = c.args.nodes.now.ok.0 in let each = ready.own.one_each in omega (arith, k, each)) in
    subst (λ (n : ℕ). AllByRecursion (λ (l : Load g.row.O.Denot). n ≤ vec_capacity l.team.nodes) c.deref_mut-2.result.now) all
    (subst (λ (ls : List (Load g.row.O.Denot)). AllByRecursion (λ (l : Load g.row.O.Denot). length (arc_value c.args.plan.now).contexts ≤ vec_capacity l.team.nodes) ls) (sym c.deref_mut-2.ensures.value) c.in_ok-equipment.ensures.room)

pub work_all-loads-requires-clause-given : goal.work_all-loads-requires-clause-given
work_all-loads-requires-clause-given g c lifetimes within =
    let (budget, ready) = c.requires.ready in
    round_given (arc_value c.args.plan.now) c.args.level budget c.args.asked c.args.groups c.args.nodes.now.items c.deref_mut.result.now c.begin_all.new.nodes c.args.nodes.now.len
    c.in_ok-equipment.equipment.draw c.in_ok-equipment.equipment.hub.addresses.items c.in_ok-equipment.equipment.hub.seat c.in_ok-equipment.equipment.loads.items c.deref_mut-2.result.now c.deal.new.loads c.in_ok-equipment.equipment.loads.len
    ready c.requires.valid c.requires.groups c.deref_mut.ensures.value c.in_ok-begin_all.ensures.begun c.args.nodes.now.ok.0
    c.in_ok-equipment.ensures.equipped c.deref_mut-2.ensures.value c.deal.ensures.dealt c.deal.ensures.rest c.in_ok-equipment.equipment.loads.ok.0

-- ---- it comes back
pub collect-requires-clause-some_load : goal.collect-requires-clause-some_load
collect-requires-clause-some_load g c =
    let (budget, ready) = c.requires.ready in
    round_some (arc_value c.args.plan.now) c.args.level budget c.args.asked c.args.groups c.args.nodes.now.items c.deref_mut.result.now c.begin_all.new.nodes c.args.nodes.now.len
    c.in_ok-equipment.equipment.draw c.in_ok-equipment.equipment.hub.addresses.items c.in_ok-equipment.equipment.hub.seat c.in_ok-equipment.equipment.loads.items c.deref_mut-2.result.now c.deal.new.loads c.in_ok-equipment.equipment.loads.len
    ready c.requires.valid c.requires.groups c.deref_mut.ensures.value c.in_ok-begin_all.ensures.begun c.args.nodes.now.ok.0
    c.in_ok-equipment.ensures.equipped c.deref_mut-2.ensures.value c.deal.ensures.dealt c.deal.ensures.rest c.in_ok-equipment.equipment.loads.ok.0
    c.work_all-loads.result.items c.deref_mut-3.result.now c.work_all-loads.ensures c.deref_mut-3.ensures.value

pub collect-requires-clause-shape : goal.collect-requires-clause-shape
collect-requires-clause-shape g c =
    let (budget, ready) = c.requires.ready in
    round_shape (arc_value c.args.plan.now) c.args.level budget c.args.asked c.args.groups c.args.nodes.now.items c.deref_mut.result.now c.begin_all.new.nodes c.args.nodes.now.len
    c.in_ok-equipment.equipment.draw c.in_ok-equipment.equipment.hub.addresses.items c.in_ok-equipment.equipment.hub.seat c.in_ok-equipment.equipment.loads.items c.deref_mut-2.result.now c.deal.new.loads c.in_ok-equipment.equipment.loads.len
    ready c.requires.valid c.requires.groups c.deref_mut.ensures.value c.in_ok-begin_all.ensures.begun c.args.nodes.now.ok.0
    c.in_ok-equipment.ensures.equipped c.deref_mut-2.ensures.value c.deal.ensures.dealt c.deal.ensures.rest c.in_ok-equipment.equipment.loads.ok.0
    c.work_all-loads.result.items c.deref_mut-3.result.now c.work_all-loads.ensures c.deref_mut-3.ensures.value c.len-contexts.result c.len-contexts.ensures

pub end-requires : goal.end-requires
end-requires g c =
    let (budget, ready) = c.requires.ready in (
      c.args.asked,
      round_can_end (arc_value c.args.plan.now) c.args.level budget c.args.asked c.args.groups c.args.nodes.now.items c.deref_mut.result.now c.begin_all.new.nodes c.args.nodes.now.len
          c.in_ok-equipment.equipment.draw c.in_ok-equipment.equipment.hub.addresses.items c.in_ok-equipment.equipment.hub.seat c.in_ok-equipment.equipment.loads.items c.deref_mut-2.result.now c.deal.new.loads c.in_ok-equipment.equipment.loads.len
          ready c.requires.valid c.requires.groups c.deref_mut.ensures.value c.in_ok-begin_all.ensures.begun c.args.nodes.now.ok.0
          c.in_ok-equipment.ensures.equipped c.deref_mut-2.ensures.value c.deal.ensures.dealt c.deal.ensures.rest c.in_ok-equipment.equipment.loads.ok.0
          c.work_all-loads.result.items c.deref_mut-3.result.now c.work_all-loads.ensures c.deref_mut-3.ensures.value c.collect.new.loads c.collect.ensures.rest c.work_all-loads.result.len c.work_all-loads.result.ok.0,
    )

pub returns-clause-same : goal.returns-clause-same
returns-clause-same g c =
    let (budget, ready) = c.requires.ready in
    round_same (arc_value c.args.plan.now) c.args.level budget c.args.asked c.args.groups c.args.nodes.now.items c.deref_mut.result.now c.begin_all.new.nodes c.args.nodes.now.len
    c.in_ok-equipment.equipment.draw c.in_ok-equipment.equipment.hub.addresses.items c.in_ok-equipment.equipment.hub.seat c.in_ok-equipment.equipment.loads.items c.deref_mut-2.result.now c.deal.new.loads c.in_ok-equipment.equipment.loads.len
    ready c.requires.valid c.requires.groups c.deref_mut.ensures.value c.in_ok-begin_all.ensures.begun c.args.nodes.now.ok.0
    c.in_ok-equipment.ensures.equipped c.deref_mut-2.ensures.value c.deal.ensures.dealt c.deal.ensures.rest c.in_ok-equipment.equipment.loads.ok.0
    c.work_all-loads.result.items c.deref_mut-3.result.now c.work_all-loads.ensures c.deref_mut-3.ensures.value c.collect.new.loads c.collect.ensures.rest c.work_all-loads.result.len c.work_all-loads.result.ok.0
    c.collect.new.nodes.items c.collect.ensures.dealt c.len-contexts.result c.len-contexts.ensures c.collect.ensures.all

pub returns-clause-played : goal.returns-clause-played
returns-clause-played g c = IfOk-weaker c.end.result _ _ (λ ended ends budget ready.
    round_played (arc_value c.args.plan.now) c.args.level budget c.args.asked c.args.groups c.args.nodes.now.items c.deref_mut.result.now c.begin_all.new.nodes c.args.nodes.now.len
    c.in_ok-equipment.equipment.draw c.in_ok-equipment.equipment.hub.addresses.items c.in_ok-equipment.equipment.hub.seat c.in_ok-equipment.equipment.loads.items c.deref_mut-2.result.now c.deal.new.loads c.in_ok-equipment.equipment.loads.len
    ready c.requires.valid c.requires.groups c.deref_mut.ensures.value c.in_ok-begin_all.ensures.begun c.args.nodes.now.ok.0
    c.in_ok-equipment.ensures.equipped c.deref_mut-2.ensures.value c.deal.ensures.dealt c.deal.ensures.rest c.in_ok-equipment.equipment.loads.ok.0
    c.work_all-loads.result.items c.deref_mut-3.result.now c.work_all-loads.ensures c.deref_mut-3.ensures.value c.collect.new.loads c.collect.ensures.rest c.work_all-loads.result.len c.work_all-loads.result.ok.0
    c.collect.new.nodes.items c.collect.ensures.dealt c.len-contexts.result c.len-contexts.ensures c.collect.ensures.all ended.wires.items ended.word ends) c.end.ensures
