use Rattle.mcs_script.proofs.WorkedEdits.{edits-made, edits-written, edits-refused}
use Rattle.mcs_script.proofs.laws.worked_edits.Goals as goal

pub returns : goal.returns
returns c = record { made = edits-made; written = edits-written; refused = edits-refused }
