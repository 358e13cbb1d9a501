use Rattle.std.proofs.Common.{sym, ◌∙◌, arith}
use Rattle.std.proofs.lemmas.Grind.{common_steps}
use Rattle.mcs_words.proofs.ReadingLemmas.{value_step, closed_step, total_plain, total_value}
use Rattle.mcs_words.proofs.reading.take.Goals as goal

pub returns-else-begins_with_dash : goal.returns-else-begins_with_dash
returns-else-begins_with_dash c = record {
  read = λ rest. value_step c.args.tally c.with_value.result c.args.word.now rest c.args.place c.in-Value.setting c.in-Value.is c.with_value.ensures (sym c.begins_with_dash.ensures ∙ c.if-begins_with_dash.false);
  few = total_value c.in-Value.setting c.args.tally c.with_value.result c.with_value.ensures;
}

pub returns-in-Closed : goal.returns-in-Closed
returns-in-Closed c = record {
  read = λ rest. closed_step c.args.tally c.with_plain.result c.args.word.now rest c.args.place c.in-Closed.is c.with_plain.ensures;
  few = total_plain c.args.tally c.with_plain.result c.with_plain.ensures;
}

pub returns-then-begins_with_dash : goal.returns-then-begins_with_dash
returns-then-begins_with_dash c = record { read = λ rest. grind (arith, common_steps); few = tt }
