use Rattle.std.proofs.Common.{◌≡◌, Some, length, slice_get, refl, subst, inl, inr, arith}
use Rattle.std.proofs.lemmas.Bool.{cases_lt}
use Rattle.std.proofs.lemmas.Option.{slice_get_read, slice_get_within}
use Rattle.mcs_node.specs.Nodes.{IsNodeData, NodeData}
use Rattle.mcs_mesh.proofs.answering.look_at_each.Goals as goal
use Rattle.mcs_base.proofs.Results.{some_same}

pub loop-node-preserved : goal.loop-node-preserved
loop-node-preserved g c = λ i d less at.
    let k = c.loop-node.node-index in
    let nodes = c.args.nodes.now in
    elim (cases_lt i k) [
      | inl before ↦ c.loop-node.invariant i d before at
      | inr no_less ↦
          let here : i ≡ k = omega (arith, less, no_less) in
          let read = slice_get_read nodes (length nodes) k c.node-item.result refl c.loop-node-test.true c.node-item.is in
          subst (λ (z : NodeData). IsNodeData z) (some_same (slice_get nodes k) c.node-item.result d read (subst (λ n. slice_get nodes n ≡ Some d) here at)) c.known.ensures.node
    ]

pub returns : goal.returns
returns g c = λ i d at. c.loop-node.invariant i d (let b = slice_get_within c.args.nodes.now i d at in let t = c.loop-node-test.false in omega (arith, b, t)) at
