use Rattle.mcs_evidence.proofs.Extensions.{extensions_are_generated}
use Rattle.mcs_evidence.proofs.laws.extensions_are_generated.Goals as goal

pub returns : goal.returns
returns c = extensions_are_generated
