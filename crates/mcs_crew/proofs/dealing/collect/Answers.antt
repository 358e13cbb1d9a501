use Rattle.std.proofs.Common.{◌≡◌, ◌%◌, ◌∙◌, ap, length, get_or, slice_get, Some, refl, arith}
use Rattle.std.proofs.lemmas.Option.{slice_get-get_or}
use Rattle.mcs_crew.specs.Calls.{without_nodes}
use Rattle.mcs_crew.specs.declared.load.Load.{Load}
use Rattle.mcs_crew.proofs.PlayLemmas.{collected_all, collected_on, collected_some}
use Rattle.mcs_crew.proofs.dealing.collect.Goals as goal
use Rattle.mcs_base.proofs.Written.{image_kept}

pub unreachable-requires : goal.unreachable-requires
unreachable-requires g c =
    let loads = c.loop-i.loads in
    let long = c.loop-i.auto.loads in
    let some = c.requires.some_load in
    let i = c.loop-i.i in
    let group = i % length loads in
    let d : Load g.row.O.Denot = get_or loads group c.index-loads-group.result in
    let at : slice_get loads group ≡ Some d = slice_get-get_or loads group c.index-loads-group.result (omega (arith, long, some)) in
    let (was, all, shape) = c.requires.shape in
    let more = collected_some (length c.args.loads.now) c.args.contexts group some c.args.loads.now loads c.loop-i.nodes.items i d d at (ap (λ n. i % n) long) c.loop-i-test.true c.loop-i.invariant.collecting was all shape in
    let none = c.in-None.ensures.cases.0 in
    let its = d.team.nodes.ok.0 in
    omega (arith, more, none, its)

pub loop-i-preserved : goal.loop-i-preserved
loop-i-preserved g c =
    let loads = c.loop-i.loads in
    let long = c.loop-i.auto.loads in
    let some = c.requires.some_load in
    let i = c.loop-i.i in
    let group = i % length loads in
    let d : Load g.row.O.Denot = get_or loads group c.index-loads-group.result in
    let e : Load g.row.O.Denot = record d { team = record d.team { nodes = c.pop.new.self } } in
    let at : slice_get loads group ≡ Some d = slice_get-get_or loads group c.index-loads-group.result (omega (arith, long, some)) in record {
      collecting = rw c.push_reserved.ensures.items (collected_on (length c.args.loads.now) c.args.contexts group some c.args.loads.now loads c.loop-i.nodes.items i d e at (ap (λ n. i % n) long) c.loop-i-test.true c.loop-i.invariant.collecting c.in-Some.node c.in-Some.ensures.items);
      rest = image_kept without_nodes loads group d e at refl ∙ c.loop-i.invariant.rest;
      room = rw c.push_reserved.ensures.capacity c.loop-i.invariant.room;
    }

pub returns-clause-dealt : goal.returns-clause-dealt
returns-clause-dealt g c =
    let (was, all, shape) = c.requires.shape in
    collected_all (length c.args.loads.now) c.args.contexts c.requires.some_load c.args.loads.now c.loop-i.loads c.loop-i.nodes.items c.loop-i.i (let end = c.loop-i-test.false in omega (arith, end)) c.loop-i.invariant.collecting was all shape
