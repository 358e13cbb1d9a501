use Rattle.mcs_reduct.proofs.Pairs.{mutual_support_is_not_grounded, mutual_attack_is_grounded}
use Rattle.mcs_reduct.proofs.Alone.{minimal_is_not_grounded}
use Rattle.mcs_reduct.proofs.Choices.{choices_are_grounded}
use Rattle.mcs_reduct.proofs.laws.worked_systems.Goals as goal

pub returns : goal.returns
returns c = record { support = mutual_support_is_not_grounded; attack = mutual_attack_is_grounded; minimal = minimal_is_not_grounded; choices = choices_are_grounded }
