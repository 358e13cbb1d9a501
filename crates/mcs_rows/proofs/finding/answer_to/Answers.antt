use Rattle.std.proofs.Common.{◌∙◌, not, sym, ap, true≢false}
use Rattle.std.proofs.lemmas.Bool.{eq-eqb, eqb-true, not-false}
use Rattle.mcs_rows.specs.declared.answer.Answer.{Answer}
use Rattle.mcs_rows.proofs.FindingLemmas.{none_past, none_other, answer_at}
use Rattle.mcs_rows.proofs.finding.answer_to.Goals as goal

pub returns-then-place-answers : goal.returns-then-place-answers
returns-then-place-answers c = none_past c.args.answers.now c.requires c.args.question c.place_of-place.result c.place_of-place.ensures.point c.if-place-answers.true

pub returns-then-ne : goal.returns-then-ne
returns-then-ne c =
    none_other c.args.answers.now c.requires c.args.question c.place_of-place.result c.place_of-place.ensures.point c.index-answers-place.result
    (λ e. true≢false (sym c.if-ne.true ∙ c.ne.ensures ∙ ap not (eq-eqb c.index-answers-place.result.active c.args.question (ap (λ (a : Answer). a.active) c.index-answers-place.is ∙ e))))

pub returns : goal.returns
returns c =
    answer_at c.args.answers.now c.requires c.args.question c.place_of-place.result c.place_of-place.ensures.point c.index-answers-place.result c.if-place-answers.false c.index-answers-place.is
    (eqb-true c.index-answers-place.result.active c.args.question (not-false _ (sym c.ne.ensures ∙ c.if-ne.false)))
