use Rattle.mcs_editing.proofs.WorkedKeys.{worked_keys}
use Rattle.mcs_editing.proofs.WorkedSession.{systems_listed, lines_spelled, session_printed}
use Rattle.mcs_editing.proofs.laws.worked_session.Goals as goal

pub returns-clause-systems : goal.returns-clause-systems
returns-clause-systems c = systems_listed

pub returns-clause-keys : goal.returns-clause-keys
returns-clause-keys c = worked_keys

pub returns-clause-lines : goal.returns-clause-lines
returns-clause-lines c = lines_spelled

pub returns-clause-text : goal.returns-clause-text
returns-clause-text c = session_printed
