use Rattle.std.proofs.Common.{is_some, subst}
use Rattle.std.specs.Arc.{arc_value}
use Rattle.mcs_node.specs.Known.{knowledge_of}
use Rattle.mcs_node.specs.Nodes.{IsNodeData}
use Rattle.mcs_node.specs.Keeping.{oracle_in}
use Rattle.mcs_node.proofs.KeptRuleLemmas.{node_data}
use Rattle.mcs_node.proofs.node.Node.known.Goals as goal

pub returns-clause-node : goal.returns-clause-node
returns-clause-node g c = let n = c.self.inside in subst IsNodeData c.self.view_is
    (node_data (arc_value n.plan) n.context n.budget (oracle_in g.O.Oracle.stands n.oracle) n.receivers.items (knowledge_of n.known) n.before (is_some n.oracle) n.round c.self.invariant)
