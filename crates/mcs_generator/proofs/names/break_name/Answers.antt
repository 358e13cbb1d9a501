use Rattle.std.proofs.Common.{refl}
use Rattle.mcs_generator.proofs.NameLemmas.{letter_is_name}
use Rattle.mcs_generator.proofs.names.break_name.Goals as goal

pub name-requires : goal.name-requires
name-requires c = letter_is_name 98 refl
