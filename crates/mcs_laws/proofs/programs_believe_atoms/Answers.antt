use Rattle.mcs_laws.proofs.Worked.{programs_believe_atoms}
use Rattle.mcs_laws.proofs.programs_believe_atoms.Goals as goal

pub returns : goal.returns
returns c = programs_believe_atoms
