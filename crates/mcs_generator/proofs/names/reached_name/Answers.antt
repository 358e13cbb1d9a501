use Rattle.std.proofs.Common.{refl, arith}
use Rattle.mcs_generator.proofs.NameLemmas.{numbered_is_name}
use Rattle.mcs_generator.proofs.names.reached_name.Goals as goal

pub numbered-requires : goal.numbered-requires
numbered-requires c = numbered_is_name 115 c.args.context refl (omega arith)
