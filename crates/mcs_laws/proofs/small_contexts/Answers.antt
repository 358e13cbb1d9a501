use Rattle.mcs_laws.proofs.Small.{one_projection, disjunction_chooses, bird_flies}
use Rattle.mcs_laws.proofs.small_contexts.Goals as goal

pub returns : goal.returns
returns c = record { projection = one_projection; disjunction = disjunction_chooses; bird = bird_flies }
