use Rattle.std.proofs.Common.{◌≡◌, ◌<◌, ℕ, List, length, get_or, subst, sym, Some, None, ◌∙◌, ap, rules, slice_get, slice_set, map}
use Rattle.std.proofs.lemmas.Option.{get_or_from_slice_get, slice_get_within}
use Rattle.mcs_states.specs.declared.halt.Halt.{Halt}
use Rattle.mcs_states.specs.declared.halt.Halt.TheVariants.{Memory}
use Rattle.mcs_node.specs.Letters.{LetterData}
use Rattle.mcs_node.specs.Nodes.{HasTaken, IsAwaited, NodeData, with_had}
use Rattle.mcs_mesh.specs.Players.{IsDelivered, IsExpected, IsTakenIn, as_new}
use Rattle.mcs_mesh.proofs.TurnLemmas.{had_it, taken_same, want_of_memory}
use Rattle.mcs_mesh.proofs.letters.deliver.Goals as goal
use Rattle.mcs_base.proofs.Written.{image_kept}

to_below : (l : LetterData) (nodes : List NodeData) (to : ℕ) → IsExpected l nodes → to ≡ l.to → to < length nodes
to_below l nodes to x is = subst (λ n. n < length nodes) (sym is) (slice_get_within nodes l.to x.node x.is_its)

pub bounds-nodes-to : goal.bounds-nodes-to
bounds-nodes-to g c = to_below c.args.letter c.args.nodes.now c.to-to.result c.requires c.to-to.ensures

pub offset_bounds-nodes-to : goal.offset_bounds-nodes-to
offset_bounds-nodes-to g c =
    let less : c.to-to.result < length c.args.nodes.now = to_below c.args.letter c.args.nodes.now c.to-to.result c.requires c.to-to.ensures in
    search rules

-- ---- the letter is one of the plan of the node that was read
pub receive-requires : goal.receive-requires
receive-requires g c =
    let x = c.requires in
    let at = subst (λ n. slice_get c.args.nodes.now n ≡ Some x.node) (sym c.to-to.ensures) x.is_its in
    record { same = subst (λ (n : NodeData). c.args.letter.plan ≡ n.plan) (sym (get_or_from_slice_get c.args.nodes.now c.to-to.result x.node c.index-nodes-to.result at)) x.awaited.plan }

-- ---- the node that was read takes the letter
module _ (l : LetterData) (nodes : List NodeData) (x : IsExpected l nodes) (to : ℕ) (is : to ≡ l.to) (d e : NodeData) (takes : IsAwaited l (get_or nodes to d) → HasTaken l (get_or nodes to d) e) where
  node_is : get_or nodes to d ≡ x.node
  node_is = get_or_from_slice_get nodes to x.node d (subst (λ n. slice_get nodes n ≡ Some x.node) (sym is) x.is_its)

  taken : HasTaken l x.node e
  taken = subst (λ (n : NodeData). HasTaken l n e) node_is (takes (subst (λ (n : NodeData). IsAwaited l n) (sym node_is) x.awaited))

  same_nodes : map as_new (slice_set nodes to e) ≡ map as_new nodes
  same_nodes = subst (λ n. map as_new (slice_set nodes n e) ≡ map as_new nodes) (sym is) (image_kept as_new nodes l.to x.node e x.is_its (taken_same l x.node e x.supply x.going taken))

  taken_in : IsTakenIn l nodes (slice_set nodes to e)
  taken_in = record { node = x.node; is_its = x.is_its; now = e; taken = taken; after_is = ap (λ n. slice_set nodes n e) is }

  cause : (halt : Halt) → e.state.halt ≡ Some halt → halt ≡ Memory
  cause halt told = want_of_memory l x.node e x.supply x.going taken halt told

  delivered : e.state.halt ≡ None → IsDelivered l nodes (slice_set nodes to e)
  delivered none = record {
    node = x.node;
    is_its = x.is_its;
    after_is = subst (λ n. slice_set nodes n e ≡ slice_set nodes l.to (with_had l x.node)) (sym is) (ap (λ (z : NodeData). slice_set nodes l.to z) (had_it l x.node e x.supply x.going taken none));
  }

pub returns-in-Some-clause-cause : goal.returns-in-Some-clause-cause
returns-in-Some-clause-cause g c = cause c.args.letter c.args.nodes.now c.requires c.to-to.result c.to-to.ensures c.index-nodes-to.result c.receive.new.self
    (λ awaited. c.receive.ensures.taken (c.receive.ensures.took.1 awaited)) c.in-Some.halt (sym c.stopped.ensures ∙ c.in-Some.is)

pub returns-in-Some-clause-same : goal.returns-in-Some-clause-same
returns-in-Some-clause-same g c = same_nodes c.args.letter c.args.nodes.now c.requires c.to-to.result c.to-to.ensures c.index-nodes-to.result c.receive.new.self
    (λ awaited. c.receive.ensures.taken (c.receive.ensures.took.1 awaited))

pub returns-in-Some-clause-taken : goal.returns-in-Some-clause-taken
returns-in-Some-clause-taken g c = taken_in c.args.letter c.args.nodes.now c.requires c.to-to.result c.to-to.ensures c.index-nodes-to.result c.receive.new.self
    (λ awaited. c.receive.ensures.taken (c.receive.ensures.took.1 awaited))

pub returns-in-None-clause-taken : goal.returns-in-None-clause-taken
returns-in-None-clause-taken g c = taken_in c.args.letter c.args.nodes.now c.requires c.to-to.result c.to-to.ensures c.index-nodes-to.result c.receive.new.self
    (λ awaited. c.receive.ensures.taken (c.receive.ensures.took.1 awaited))

pub returns-in-None-clause-delivered : goal.returns-in-None-clause-delivered
returns-in-None-clause-delivered g c = delivered c.args.letter c.args.nodes.now c.requires c.to-to.result c.to-to.ensures c.index-nodes-to.result c.receive.new.self
    (λ awaited. c.receive.ensures.taken (c.receive.ensures.took.1 awaited)) (sym c.stopped.ensures ∙ c.in-None.is)

pub returns-in-None-clause-same : goal.returns-in-None-clause-same
returns-in-None-clause-same g c = same_nodes c.args.letter c.args.nodes.now c.requires c.to-to.result c.to-to.ensures c.index-nodes-to.result c.receive.new.self
    (λ awaited. c.receive.ensures.taken (c.receive.ensures.took.1 awaited))
