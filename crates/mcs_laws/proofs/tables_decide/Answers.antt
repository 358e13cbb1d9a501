use Rattle.mcs_system.proofs.Tables.{table_decides}
use Rattle.mcs_laws.proofs.tables_decide.Goals as goal

pub returns : goal.returns
returns c names fs p covers = (λ follows row less h. follows _ h, table_decides names fs p covers)
