use Rattle.mcs_generator.proofs.FaultLemmas.{generated_valid}
use Rattle.mcs_generator.proofs.laws.generated_systems_are_valid.Goals as goal

pub returns : goal.returns
returns c = generated_valid
