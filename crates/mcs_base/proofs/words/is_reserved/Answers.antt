use Rattle.mcs_base.specs.Words.{reserved_words}
use Rattle.mcs_base.proofs.words.is_reserved.Goals as goal

pub returns : goal.returns
unfolding reserved_words
returns c = c.is_one_of.ensures
