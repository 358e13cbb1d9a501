use Rattle.std.proofs.Common.{refl, arith}
use Rattle.mcs_generator.proofs.NameLemmas.{numbered_is_name}
use Rattle.mcs_generator.proofs.names.link_name.Goals as goal

pub numbered-requires : goal.numbered-requires
numbered-requires c = numbered_is_name 97 c.args.link refl (omega arith)
