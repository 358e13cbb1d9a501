use Rattle.mcs_laws.proofs.Transversals.{explanations, minimal_explanations, nothing_explains}
use Rattle.mcs_laws.proofs.explanations_are_transversals.Goals as goal

pub returns : goal.returns
returns c = record { all = explanations; minimal = λ m ds p listing. minimal_explanations m ds listing p; without = nothing_explains }
