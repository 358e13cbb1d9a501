use Rattle.std.proofs.Common.{sym, ◌∙◌, true≢false}
use Rattle.mcs_words.specs.Reading.{command_of, texts_of}
use Rattle.mcs_words.proofs.JobLemmas.{told, not_whole, none_read, whole_reading}
use Rattle.mcs_words.proofs.reading.read_words.Goals as goal

pub returns-in-None : goal.returns-in-None
returns-in-None c fault request = none_read (texts_of c.args.words.now) request (sym c.in-None.is ∙ c.tally.ensures)

pub returns-then-not-is_whole : goal.returns-then-not-is_whole
returns-then-not-is_whole c fault request =
    not_whole (texts_of c.args.words.now) c.in-Some.tally request (sym c.in-Some.is ∙ c.tally.ensures) (λ whole. true≢false (sym (c.is_whole.ensures.1 whole) ∙ c.if-not-is_whole.true))

pub given_by-requires : goal.given_by-requires
given_by-requires c = whole_reading (texts_of c.args.words.now) c.in-Some.tally (sym c.in-Some.is ∙ c.tally.ensures) (c.is_whole.ensures.0 c.if-not-is_whole.false)

pub returns-in-Ok : goal.returns-in-Ok
returns-in-Ok c = told (texts_of c.args.words.now) (command_of c.in-Ok.given) c.job.result c.in-Ok.ensures c.job.ensures
