use Rattle.std.proofs.Common.{sym, subst, refl, ap, ◌∙◌, length}
use Rattle.std.specs.Arc.{arc_value}
use Rattle.mcs_node.specs.Nodes.{IsFreshOracle}
use Rattle.mcs_mesh.specs.Rounds.{AreFresh}
use Rattle.mcs_node_tests.proofs.MeshLemmas.{none_fresh, fresh_more, length_more}
use Rattle.mcs_node_tests.proofs.meshes.oracles_of.Goals as goal

pub loop-context-init : goal.loop-context-init
loop-context-init c = rw c.new-oracles.ensures.items (refl, none_fresh _)

pub loop-context-preserved : goal.loop-context-preserved
loop-context-preserved c =
    let m = arc_value c.args.system.now in
    let os = c.loop-context.oracles.items in
    let own = subst (λ i. IsFreshOracle m i c.in_ok-oracle.oracle) (sym c.loop-context.invariant.0) c.in_ok-oracle.ensures in (
      ap length c.in_ok-push.ensures.items ∙ length_more os c.in_ok-oracle.oracle _ c.loop-context.invariant.0,
      subst (AreFresh m) (sym c.in_ok-push.ensures.items) (fresh_more m os c.in_ok-oracle.oracle c.loop-context.invariant.1 own),
    )
