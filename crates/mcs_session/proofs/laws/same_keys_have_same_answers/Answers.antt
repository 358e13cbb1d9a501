use Rattle.mcs_session.proofs.SameAnswers.{same_answers, views_give_answers, answers_give_views}
use Rattle.mcs_session.proofs.laws.same_keys_have_same_answers.Goals as goal

pub returns : goal.returns
returns c = record { same = same_answers; answers = views_give_answers; views = answers_give_views }
