use Rattle.std.proofs.lemmas.List.{take_all}
use Rattle.mcs_base.proofs.Each.{all_read}
use Rattle.mcs_states.specs.Oracles.{OracleState, with_journal}
use Rattle.mcs_system.specs.Plain.{System}
use Rattle.mcs_system.specs.Imports.{rules_into}
use Rattle.mcs_sets.specs.Sets.{Within}
use Rattle.mcs_node.specs.Known.{HasAskedAll}
use Rattle.std.proofs.Common.{map, ap, sym, subst, ◌∙◌, List, [], ℕ}
use Rattle.std.proofs.lemmas.Result.{err_from_is_err_and}
use Rattle.mcs_base.proofs.Mapped.{map_push_as}
use Rattle.mcs_rows.specs.Answers.{answered_of}
use Rattle.mcs_node.proofs.AskingLemmas.{asked_more, cause_of_one}
use Rattle.mcs_node.proofs.asking.ask_each.Goals as goal

pub returns-in_err-answer-clause-cause : goal.returns-in_err-answer-clause-cause
returns-in_err-answer-clause-cause g c = let p = err_from_is_err_and c.from_residual.result c.from_residual.ensures.1 in rw (p.1, p.2)
    (cause_of_one c.args.context c.question-item.result c.loop-question.question-index c.question-item.result (g.O.Oracle.stands c.args.oracle.now) (g.O.Oracle.stands c.loop-question.oracle) c.args.questions.now (map answered_of c.loop-question.answers.items) _ c.loop-question.invariant c.loop-question-test.true c.question-item.is c.in_err-answer.ensures.cause)

pub loop-question-preserved : goal.loop-question-preserved
loop-question-preserved g c = asked_more (g.O.Oracle.stands c.args.oracle.now) (g.O.Oracle.stands c.loop-question.oracle) (g.O.Oracle.stands c.ask_one.new.oracle) c.args.questions.now c.loop-question.question-index c.question-item.result c.question-item.result (map answered_of c.loop-question.answers.items) _ (answered_of c.in_ok-answer.answer)
    c.loop-question.invariant c.in_ok-answer.ensures.answer c.loop-question-test.true c.question-item.is (map_push_as answered_of c.loop-question.answers.items c.push.new.self.items c.in_ok-answer.answer c.in_ok-push.ensures.items)

pub ask_one-requires-clause-context : goal.ask_one-requires-clause-context
ask_one-requires-clause-context g c = ap (λ (s : OracleState). s.context) c.loop-question.invariant.journal ∙ c.requires.context

pub ask_one-requires-clause-rules : goal.ask_one-requires-clause-rules
ask_one-requires-clause-rules g c =
    let among = all_read (λ x. Within x (rules_into (g.O.Oracle.stands c.args.oracle.now).system c.args.context)) c.args.questions.now c.loop-question.question-index c.question-item.result c.loop-question-test.true c.question-item.is c.requires.rules in
    subst (λ (m : System). Within c.question-item.result (rules_into m c.args.context)) (sym (ap (λ (s : OracleState). s.system) c.loop-question.invariant.journal)) among

pub returns-in_err-answer-clause-rest : goal.returns-in_err-answer-clause-rest
returns-in_err-answer-clause-rest g c = c.ask_one.ensures.rest ∙ ap (with_journal []) c.loop-question.invariant.journal

pub returns-in_err-push-clause-rest : goal.returns-in_err-push-clause-rest
returns-in_err-push-clause-rest g c = c.ask_one.ensures.rest ∙ ap (with_journal []) c.loop-question.invariant.journal

pub returns-clause-answers : goal.returns-clause-answers
returns-clause-answers g c =
    subst (λ (xs : List ℕ). HasAskedAll (g.O.Oracle.stands c.args.oracle.now) (g.O.Oracle.stands c.loop-question.oracle) xs (map answered_of c.loop-question.answers.items))
    (take_all c.loop-question.question-index c.args.questions.now c.loop-question-test.false) c.loop-question.invariant

pub returns-clause-rest : goal.returns-clause-rest
returns-clause-rest g c = ap (with_journal []) c.loop-question.invariant.journal
