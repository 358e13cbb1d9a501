use Rattle.std.proofs.Common.{◌∙◌, arith, sym, ap, not}
use Rattle.std.proofs.lemmas.Bool.{eq-eqb}
use Rattle.std.proofs.lemmas.List.{get_or_default}
use Rattle.std.specs.Prelude.{nat_eq}
use Rattle.mcs_program.proofs.ViewLemmas.{past_all, at_place}
use Rattle.mcs_program.proofs.view.is_new.Goals as goal

pub returns-then-place-views : goal.returns-then-place-views
returns-then-place-views c =
    eq-eqb _ _ c.if-place-views.true ∙ sym (past_all c.args.views.now c.args.view c.place_of-place.result c.requires c.place_of-place.ensures.before (omega arith))

pub returns-else-place-views : goal.returns-else-place-views
returns-else-place-views c =
    c.ne.ensures
    ∙ ap (λ v. not (nat_eq v c.args.view)) (c.index-views-place.is ∙ get_or_default c.args.views.now c.place_of-place.result c.index-views-place.result 0 (omega arith))
    ∙ at_place c.args.views.now c.args.view c.place_of-place.result c.requires c.place_of-place.ensures.before (omega arith) c.place_of-place.ensures.after
