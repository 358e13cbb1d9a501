use Rattle.mcs_mesh.specs.Rounds.{supplies_at}
use Rattle.std.proofs.lemmas.List.{take_all}
use Rattle.std.proofs.Common.{◌<◌, ◌∙◌, ap, get_or, length, refl, arith, map, ℕ, Vec, Global}
use Rattle.std.proofs.lemmas.Option.{slice_get_read}
use Rattle.mcs_base.proofs.Lists.{slice_get-map_some}
use Rattle.mcs_node.specs.Known.{Knowledge}
use Rattle.mcs_node.specs.Nodes.{NodeData}
use Rattle.mcs_mesh.specs.Players.{known_to}
use Rattle.mcs_mesh.proofs.SuppliedLemmas.{supplies_more}
use Rattle.mcs_mesh.proofs.supplies.supplies_for.Goals as goal

pub loop-j-preserved : goal.loop-j-preserved
loop-j-preserved g c =
    let nodes = c.args.nodes.now in
    let j = get_or c.supplied-j-items.result.now c.loop-j.j-index 0 in
    let low = c.supplied-j-items.ensures.in_range c.loop-j.j-index 0 c.loop-j-test.true in
    let less : j < length nodes = let e = c.requires.one_each in omega (arith, e, low) in
    supplies_more (known_to nodes) c.supplied-j-items.result.now c.loop-j.j-index j c.index-nodes-j.result.known c.loop-j.told.items c.push.new.self.items c.in_ok-copied.field-0 c.loop-j-test.true refl
    (slice_get-map_some (λ (d : NodeData). d.known) nodes j c.index-nodes-j.result (slice_get_read nodes (length nodes) j c.index-nodes-j.result refl less c.index-nodes-j.is))
    (c.in_ok-copied.ensures ∙ c.deref.ensures.value ∙ ap (λ (k : Knowledge). k.supplies) c.known-known.ensures.known) c.in_ok-push.ensures.items c.loop-j.invariant

pub loop-j-init : goal.loop-j-init
loop-j-init g c = ap (map (λ (supply : Vec ℕ Global). supply.items)) c.new-told.ensures.items

pub supplied-j-items-requires : goal.supplied-j-items-requires
supplied-j-items-requires g c = c.requires.in_range

pub offset_bounds-nodes-j : goal.offset_bounds-nodes-j
offset_bounds-nodes-j g c =
    let low = c.supplied-j-items.ensures.in_range c.loop-j.j-index 0 c.loop-j-test.true in
    let e = c.requires.one_each in omega (arith, e, low)

pub bounds-nodes-j : goal.bounds-nodes-j
bounds-nodes-j g c =
    let low = c.supplied-j-items.ensures.in_range c.loop-j.j-index 0 c.loop-j-test.true in
    let e = c.requires.one_each in omega (arith, e, low)

pub returns : goal.returns
returns g c order is =
    let js = c.supplied-j-items.result.now in
    c.loop-j.invariant ∙ ap (supplies_at (known_to c.args.nodes.now)) (take_all c.loop-j.j-index js c.loop-j-test.false ∙ c.supplied-j-items.ensures.supplied order is)
