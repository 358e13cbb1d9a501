use Rattle.mcs_laws.proofs.Tiny.{self_support_has_two, against_itself_has_none}
use Rattle.mcs_laws.proofs.tiny_systems.Goals as goal

pub returns : goal.returns
returns c = record { two = self_support_has_two; none = against_itself_has_none }
