use Rattle.std.proofs.Common.{true≢false, length, refl, sym, ◌∙◌}
use Rattle.std.proofs.lemmas.Option.{slice_get_read}
use Rattle.mcs_check.proofs.judging.first_wrong.Goals as goal

pub returns-then-not-answer : goal.returns-then-not-answer
returns-then-not-answer c = record {
  number = c.loop-answer.answer-index;
  answer = c.answer-item.result;
  is_it = slice_get_read c.args.answers.now (length c.args.answers.now) c.loop-answer.answer-index c.answer-item.result refl c.loop-answer-test.true c.answer-item.is;
  begins = refl;
  wrong = λ right. true≢false (sym right ∙ c.if-not-answer.true);
  before = c.loop-answer.invariant;
}
