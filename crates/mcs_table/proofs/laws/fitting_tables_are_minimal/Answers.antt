use Rattle.mcs_table.proofs.FittingLaw.{fitting_tables_are_minimal}
use Rattle.mcs_table.proofs.laws.fitting_tables_are_minimal.Goals as goal

pub returns : goal.returns
returns c = fitting_tables_are_minimal
