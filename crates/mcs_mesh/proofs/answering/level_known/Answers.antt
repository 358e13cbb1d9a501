use Rattle.mcs_mesh.proofs.AnsweringLemmas.{level_told}
use Rattle.mcs_mesh.proofs.answering.level_known.Goals as goal

pub returns-in-len1-up : goal.returns-in-len1-up
returns-in-len1-up g c = λ m done. rw c.unwrap_or.ensures (level_told m c.args.least c.args.nodes.now done c.look_at_each.ensures c.first-item.result c.in-len1-up.len_at_least c.first-item.is c.level.result c.level.ensures)
