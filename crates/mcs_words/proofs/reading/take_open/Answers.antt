use Rattle.std.proofs.Common.{arith}
use Rattle.std.proofs.lemmas.Grind.{common_steps}
use Rattle.mcs_words.specs.Reading.{kind}
use Rattle.mcs_words.proofs.ReadingLemmas.{joined_step, flag_step, plain_step, total_plain, total_value, total_proof}
use Rattle.mcs_words.proofs.reading.take_open.Goals as goal

pub returns-in-Joined : goal.returns-in-Joined
returns-in-Joined c = record {
  read = λ rest. joined_step c.args.tally c.with_value.result c.args.word.now rest (kind c.args.word.now) c.in-Joined.setting c.in-Joined.ensures.0 c.in-Joined.ensures.1 c.with_value.ensures;
  few = total_value c.in-Joined.setting c.args.tally c.with_value.result c.with_value.ensures;
}

pub returns-in-Flag : goal.returns-in-Flag
returns-in-Flag c = record {
  read = λ rest. flag_step c.args.tally c.with_proof.result c.args.word.now rest (kind c.args.word.now) c.in-Flag.ensures c.with_proof.ensures;
  few = total_proof c.args.tally c.with_proof.result c.with_proof.ensures;
}

pub returns-in-Plain : goal.returns-in-Plain
returns-in-Plain c = record {
  read = λ rest. plain_step c.args.tally c.with_plain.result c.args.word.now rest (kind c.args.word.now) c.in-Plain.ensures c.with_plain.ensures;
  few = total_plain c.args.tally c.with_plain.result c.with_plain.ensures;
}

pub returns-in-Dashes-clause-read : goal.returns-in-Dashes-clause-read
returns-in-Dashes-clause-read c = λ rest. grind (arith, common_steps)

pub returns-in-Unknown-clause-read : goal.returns-in-Unknown-clause-read
returns-in-Unknown-clause-read c = λ rest. grind (arith, common_steps)
