use Rattle.std.proofs.Common.{sym}
use Rattle.mcs_steps.proofs.WordLemmas.{ends_at_space, ends_last}
use Rattle.mcs_steps.proofs.words.word_end.Goals as goal

pub returns-in-Some : goal.returns-in-Some
returns-in-Some c = ends_at_space c.args.bytes.now c.in-Some.end (sym c.in-Some.ensures.value)

pub returns-in-None : goal.returns-in-None
returns-in-None c = ends_last c.args.bytes.now (sym c.in-None.ensures.value)
