use Rattle.std.proofs.Common.{◌∙◌, sym, map}
use Rattle.mcs_base.proofs.Mapped.{slice_get-map_read}
use Rattle.mcs_rows.specs.Answers.{answered_of}
use Rattle.mcs_rows.specs.Local.{Answered}
use Rattle.mcs_node.proofs.AnswerLemmas.{first_there}
use Rattle.mcs_node.proofs.answers.is_answered.Goals as goal

pub returns-in-Some : goal.returns-in-Some
returns-in-Some c = c.eq.ensures ∙ sym (first_there (λ (a : Answered). a.question) (map answered_of c.args.before.now) c.args.at c.args.question (answered_of c.in-Some.answer.now) (slice_get-map_read answered_of c.args.before.now c.args.at c.in-Some.answer.now c.in-Some.ensures.lookup.3.0 c.in-Some.ensures.lookup.1))
