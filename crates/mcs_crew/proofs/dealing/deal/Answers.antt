use Rattle.std.proofs.Common.{◌≡◌, ◌≤◌, ◌%◌, ◌∙◌, ap, length, get_or, slice_get, Some, vec_len, vec_capacity, refl, arith}
use Rattle.std.proofs.lemmas.Option.{slice_get-get_or}
use Rattle.mcs_base.proofs.Each.{all_get}
use Rattle.mcs_base.proofs.Written.{image_kept}
use Rattle.mcs_crew.specs.Calls.{without_nodes}
use Rattle.mcs_crew.specs.declared.load.Load.{Load}
use Rattle.mcs_crew.proofs.PlayLemmas.{all_set, dealt_on, dealt_room}
use Rattle.mcs_crew.proofs.dealing.deal.Goals as goal

pub push_reserved-requires : goal.push_reserved-requires
push_reserved-requires g c =
    let loads = c.loop-node.loads in
    let long = c.loop-node.auto.loads in
    let some = c.requires.some_load in
    let k = c.len.result in
    let group = k % length loads in
    let d : Load g.row.O.Denot = get_or loads group c.index-loads-group.result in
    let at : slice_get loads group ≡ Some d = slice_get-get_or loads group c.index-loads-group.result (omega (arith, long, some)) in
    let room = all_get (λ (l : Load g.row.O.Denot). vec_len c.args.nodes.now ≤ vec_capacity l.team.nodes) loads group d c.loop-node.invariant.room at in
    let fewer = dealt_room (length c.args.loads.now) k group c.in-Some.node c.args.nodes.now.items c.loop-node.nodes.items c.pop.new.self.items loads d d at (ap (λ n. k % n) long) c.in-Some.ensures.items (c.len.ensures ∙ c.pop.new.self.ok.0) c.loop-node.invariant.part in
    let its = d.team.nodes.ok.0 in
    let all = c.args.nodes.now.ok.0 in
    omega (arith, room, fewer, its, all)

pub loop-node-preserved : goal.loop-node-preserved
loop-node-preserved g c =
    let loads = c.loop-node.loads in
    let long = c.loop-node.auto.loads in
    let some = c.requires.some_load in
    let k = c.len.result in
    let group = k % length loads in
    let d : Load g.row.O.Denot = get_or loads group c.index-loads-group.result in
    let e : Load g.row.O.Denot = record d { team = record d.team { nodes = c.push_reserved.new.self } } in
    let at : slice_get loads group ≡ Some d = slice_get-get_or loads group c.index-loads-group.result (omega (arith, long, some)) in
    let room = all_get (λ (l : Load g.row.O.Denot). vec_len c.args.nodes.now ≤ vec_capacity l.team.nodes) loads group d c.loop-node.invariant.room at in record {
      part = dealt_on (length c.args.loads.now) k group c.in-Some.node c.args.nodes.now.items c.loop-node.nodes.items c.pop.new.self.items loads d e at (ap (λ n. k % n) long) c.in-Some.ensures.items (c.len.ensures ∙ c.pop.new.self.ok.0) c.loop-node.invariant.part c.push_reserved.ensures.items;
      rest = image_kept without_nodes loads group d e at refl ∙ c.loop-node.invariant.rest;
      room = all_set (λ (l : Load g.row.O.Denot). vec_len c.args.nodes.now ≤ vec_capacity l.team.nodes) loads group e c.loop-node.invariant.room (rw c.push_reserved.ensures.capacity room);
      capacity = c.in-Some.ensures.capacity ∙ c.loop-node.invariant.capacity;
    }
