use Rattle.std.proofs.Common.{◌∙◌, not, refl, sym, ap, true≢false}
use Rattle.std.proofs.lemmas.Bool.{eq-eqb, eqb-true, not-false}
use Rattle.mcs_base.proofs.Lists.{slice_get_read_as}
use Rattle.mcs_check.proofs.CertifiedLemmas.{none_past, none_other}
use Rattle.mcs_check.proofs.certified.answer_for.Goals as goal

pub returns-then-place-answers : goal.returns-then-place-answers
returns-then-place-answers c = none_past c.args.answers.now c.requires c.args.active c.place_of-place.result c.place_of-place.ensures.point c.if-place-answers.true

pub returns-then-ne : goal.returns-then-ne
returns-then-ne c =
    none_other c.args.answers.now c.requires c.args.active c.place_of-place.result c.place_of-place.ensures.point c.index-answers-place.result
    (λ e. true≢false (sym c.if-ne.true ∙ c.ne.ensures ∙ ap not (eq-eqb c.index-answers-place.result.0 c.args.active (ap (λ a. a.0) c.index-answers-place.is ∙ e))))

pub returns : goal.returns
returns c = (
  c.place_of-place.result,
  c.index-answers-place.result,
  slice_get_read_as c.args.answers.now c.args.answers.now c.place_of-place.result c.index-answers-place.result refl c.if-place-answers.false c.index-answers-place.is,
  eqb-true c.index-answers-place.result.0 c.args.active (not-false _ (sym c.ne.ensures ∙ c.if-ne.false)),
  sym c.as_slice.ensures.value,
)
