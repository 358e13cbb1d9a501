use Rattle.mcs_mesh.proofs.AnsweringLemmas.{all_known_done}
use Rattle.mcs_mesh.proofs.answering.states_of.Goals as goal

pub changed_tables-requires-clause-known : goal.changed_tables-requires-clause-known
changed_tables-requires-clause-known g c = (c.requires.done.level, c.requires.done.no_less, all_known_done c.args.plan.now _ c.args.nodes.now c.requires.done c.look_at_each.ensures)
