use Rattle.mcs_mesh.proofs.nodes.NodesNodeList.changed_tables.Goals as goal

pub changed_tables-requires-clause-known : goal.changed_tables-requires-clause-known
changed_tables-requires-clause-known g c = rw c.deref.ensures.value c.requires.known
