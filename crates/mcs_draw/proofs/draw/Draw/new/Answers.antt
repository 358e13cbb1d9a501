use Rattle.mcs_draw.proofs.Steps.{table_begins}
use Rattle.mcs_draw.proofs.draw.Draw.new.Goals as goal

pub of_words-requires : goal.of_words-requires
of_words-requires c = table_begins c.args.base c.args.room c.requires
