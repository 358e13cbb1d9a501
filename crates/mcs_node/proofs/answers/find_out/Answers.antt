use Rattle.std.proofs.Common.{◌≡◌, ◌∙◌, ℕ, ap, map, subst}
use Rattle.std.proofs.lemmas.Result.{IfOk-weaker}
use Rattle.mcs_base.proofs.Each.{all_among, all_from_among}
use Rattle.mcs_base.proofs.Results.{IfOk-both}
use Rattle.mcs_sets.specs.Sets.{Within}
use Rattle.mcs_system.specs.Imports.{rules_into}
use Rattle.mcs_rows.specs.Answers.{answered_of}
use Rattle.mcs_node.specs.Known.{AreRight, HasAskedAll, new_of, questions_in}
use Rattle.mcs_node.proofs.AnswerLemmas.{asked_all, new_is_new, ok_has}
use Rattle.mcs_node.proofs.answers.find_out.Goals as goal

pub ask_all-oracle-requires-clause-rules : goal.ask_all-oracle-requires-clause-rules
ask_all-oracle-requires-clause-rules g c =
    let old = questions_in (map answered_of c.args.known.answers.items) in
    let is : c.deref-2.result.now ≡ new_of old c.args.asked.now = c.deref-2.ensures.value ∙ c.in-Ok.ensures ∙ ap (λ xs. new_of (questions_in (map answered_of xs)) c.args.asked.now) c.deref.ensures.value in
    let OfRules : ℕ → Type 0 = λ x. Within x (rules_into (g.A.Of.Oracle.stands c.args.oracle).system c.args.context) in
    all_from_among OfRules c.deref-2.result.now (λ x h. all_among OfRules c.args.asked.now x c.requires.rules (((new_is_new c.args.asked.now old c.requires.among).exactly x).0 (subst (λ xs. Rattle.mcs_base.specs.Listings.IsAmong x xs) is h)).0)

pub returns-clause-known : goal.returns-clause-known
returns-clause-known g c = IfOk-weaker c.known_with.result _ _ (λ all h level listed. h (g.A.Of.Oracle.stands c.args.oracle).system level c.args.context c.requires.right
    (IfOk-weaker c.ask_all-oracle.result.answers _ _ (λ news a. subst (λ i. AreRight (g.A.Of.Oracle.stands c.args.oracle).system i (map answered_of news.items)) c.requires.context a.right) c.ask_all-oracle.ensures.answers) listed) c.known_with.ensures.known

pub returns-clause-now : goal.returns-clause-now
returns-clause-now g c =
    let old = questions_in (map answered_of c.args.known.answers.items) in
    let is : c.deref-2.result.now ≡ new_of old c.args.asked.now = c.deref-2.ensures.value ∙ c.in-Ok.ensures ∙ ap (λ xs. new_of (questions_in (map answered_of xs)) c.args.asked.now) c.deref.ensures.value in
    IfOk-both _ _ _ (λ all questions ok.
    let (news, new) = ok_has _ c.ask_all-oracle.result.answers ok c.ask_all-oracle.ensures.answers in
    asked_all (g.A.Of.Oracle.stands c.args.oracle).system c.args.context (g.A.Of.Oracle.stands c.args.oracle) (g.A.Of.Oracle.stands c.ask_all-oracle.result.oracle) (map answered_of c.args.known.answers.items) (map answered_of news.items) (map answered_of all.answers.items) c.args.asked.now
    c.requires.before c.requires.among (subst (λ xs. HasAskedAll (g.A.Of.Oracle.stands c.args.oracle) (g.A.Of.Oracle.stands c.ask_all-oracle.result.oracle) xs (map answered_of news.items)) is new) questions) c.known_with.result c.known_with.ensures.questions c.known_with.ensures.asked
