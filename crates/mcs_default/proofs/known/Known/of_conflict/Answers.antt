use Rattle.std.proofs.Common.{refl}
use Rattle.mcs_default.proofs.KnownLemmas.{known_conflict}
use Rattle.mcs_default.proofs.known.Known.of_conflict.Goals as goal

pub returns-clause-right : goal.returns-clause-right
returns-clause-right c items is_free conflict = known_conflict items _ c.numbered-all.result c.args.free c.empty.ensures refl c.minus.ensures is_free conflict
