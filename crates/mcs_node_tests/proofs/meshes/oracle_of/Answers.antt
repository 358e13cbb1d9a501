use Rattle.std.proofs.Common.{subst, sym, ◌∙◌, ap, [], false}
use Rattle.mcs_node.specs.Nodes.{IsFreshOracle}
use Rattle.mcs_solver.specs.Solvers.{solver_of}
use Rattle.std.specs.Arc.{arc_value}
use Rattle.mcs_node_tests.specs.Halting.{held_by}
use Rattle.mcs_node_tests.proofs.MeshLemmas.{held_fresh}
use Rattle.mcs_node_tests.proofs.meshes.oracle_of.Goals as goal

pub returns : goal.returns
returns c =
    let m = arc_value c.args.system.now in
    subst (λ o. IsFreshOracle m c.args.context o) (sym (c.new.ensures ∙ ap (held_by c.halting_of.result) (c.new-solver.ensures ∙ ap (λ n. solver_of n c.args.context []) c.in_ok-clone.ensures.cases)))
    (held_fresh c.halting_of.result m c.args.context)
