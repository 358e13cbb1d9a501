use Rattle.std.proofs.Common.{◌∙◌, Global, List, Vec, ap, length, sym, subst, arith}
use Rattle.std.proofs.lemmas.List.{length-map}
use Rattle.std.specs.Arc.{arc_value}
use Rattle.mcs_system.specs.Plain.{Context, System}
use Rattle.mcs_system.specs.Seen.{context_of}
use Rattle.mcs_node.specs.Nodes.{NodeData}
use Rattle.mcs_crew.specs.Rounds.{IsTold}
use Rattle.mcs_crew.specs.Trails.{group_count, trail_of}
use Rattle.mcs_crew.proofs.PlayLemmas.{told_trail}
use Rattle.mcs_crew.proofs.playing.play_in_threads.Goals as goal

pub returns-in-Ok-clause-played : goal.returns-in-Ok-clause-played
returns-in-Ok-clause-played g c =
    let r = c.args.round in
    let m : System = arc_value r.plan in
    let first : List NodeData = r.nodes.list.items in
    let groups = c.group_count-groups.result in
    let same = ap (λ (v : Vec NodeData Global). v.items) c.told.ensures.nodes in
    let told : IsTold m r.level r.budget groups first c.told.result.nodes.list.items c.told.result.total (trail_of c.told.result.trail)
    = subst (λ (ns : List NodeData). IsTold m r.level r.budget groups first ns c.told.result.total (trail_of c.told.result.trail)) (sym same)
    (c.told.ensures.told m r.level r.budget r.asked groups first c.requires.ready c.play_groups.ensures.same (c.in-Ok.ensures.played r.budget c.requires.ready)) in
    told.played

pub returns-in-Ok-clause-told : goal.returns-in-Ok-clause-told
returns-in-Ok-clause-told g c some =
    let r = c.args.round in
    let m : System = arc_value r.plan in
    let first : List NodeData = r.nodes.list.items in
    let groups = c.group_count-groups.result in
    let same = ap (λ (v : Vec NodeData Global). v.items) c.told.ensures.nodes in
    let told : IsTold m r.level r.budget groups first c.told.result.nodes.list.items c.told.result.total (trail_of c.told.result.trail)
    = subst (λ (ns : List NodeData). IsTold m r.level r.budget groups first ns c.told.result.total (trail_of c.told.result.trail)) (sym same)
    (c.told.ensures.told m r.level r.budget r.asked groups first c.requires.ready c.play_groups.ensures.same (c.in-Ok.ensures.played r.budget c.requires.ready)) in
    told.halt

pub returns-in-Ok-clause-trail : goal.returns-in-Ok-clause-trail
returns-in-Ok-clause-trail g c =
    let r = c.args.round in
    let m : System = arc_value r.plan in
    let first : List NodeData = r.nodes.list.items in
    let groups = c.group_count-groups.result in
    let same = ap (λ (v : Vec NodeData Global). v.items) c.told.ensures.nodes in
    let told : IsTold m r.level r.budget groups first c.told.result.nodes.list.items c.told.result.total (trail_of c.told.result.trail)
    = subst (λ (ns : List NodeData). IsTold m r.level r.budget groups first ns c.told.result.total (trail_of c.told.result.trail)) (sym same)
    (c.told.ensures.told m r.level r.budget r.asked groups first c.requires.ready c.play_groups.ensures.same (c.in-Ok.ensures.played r.budget c.requires.ready)) in
    let long = sym (length-map c.contexts.result.now context_of) ∙ ap (λ (cs : List Context). length cs) c.contexts.ensures.value ∙ ap (λ (n : System). length n.contexts) (c.system.ensures ∙ c.deref.ensures) in
    told_trail m r.level r.budget r.asked c.args.workers groups first c.told.result.nodes.list.items c.told.result.total (trail_of c.told.result.trail) c.requires.ready
    (c.group_count-groups.ensures ∙ ap (group_count c.args.workers) long) (let more = c.if-groups-lt2.false in omega (arith, more)) told
