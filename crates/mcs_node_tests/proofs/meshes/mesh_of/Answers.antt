use Rattle.std.proofs.Common.{◌∙◌, ap, sym, subst, length}
use Rattle.mcs_system.specs.Plain.{System}
use Rattle.mcs_mesh.specs.Rounds.{AreFresh}
use Rattle.mcs_node_tests.proofs.MeshLemmas.{fresh_seen, new_mesh}
use Rattle.mcs_node_tests.proofs.meshes.mesh_of.Goals as goal

pub new-requires-2-clause-one_each : goal.new-requires-2-clause-one_each
new-requires-2-clause-one_each c = c.in_ok-oracles.ensures.one_each ∙ sym (ap (λ (m : System). length m.contexts) (c.in_ok-plan.ensures.ok ∙ (c.in_ok-of.ensures ∙ c.in_ok-clone.ensures.cases)))

pub new-requires-2-clause-own : goal.new-requires-2-clause-own
new-requires-2-clause-own c = fresh_seen _ c.in_ok-oracles.oracles.items (subst (λ (m : System). AreFresh m c.in_ok-oracles.oracles.items) (sym (c.in_ok-plan.ensures.ok ∙ (c.in_ok-of.ensures ∙ c.in_ok-clone.ensures.cases))) c.in_ok-oracles.ensures.fresh)

pub returns : goal.returns
returns c = new_mesh _ _ _ _ c.new-2.ensures.state c.new-2.ensures.none
