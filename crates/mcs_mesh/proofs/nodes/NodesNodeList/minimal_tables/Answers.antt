use Rattle.mcs_mesh.proofs.nodes.NodesNodeList.minimal_tables.Goals as goal

pub minimal_tables-requires-clause-known : goal.minimal_tables-requires-clause-known
minimal_tables-requires-clause-known g c = rw c.deref.ensures.value c.requires.known
