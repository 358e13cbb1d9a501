use Rattle.std.proofs.Common.{sym, subst}
use Rattle.mcs_cheapest.specs.Least.{HasReached, IsMostMarks}
use Rattle.mcs_cheapest.proofs.LeastLemmas.{has_reached, most_up_to}
use Rattle.mcs_cheapest.proofs.SearchLemmas.{searches_cut}
use Rattle.mcs_cheapest.proofs.least.least_pairs.Goals as goal

pub take_rest-requires : goal.take_rest-requires
take_rest-requires g c = c.in_ok-pairs.ensures.found.0.asking.going

pub returns-in_err-take_rest : goal.returns-in_err-take_rest
returns-in_err-take_rest g c =
    let first = g.E.Evaluator.stands c.args.evaluator.now in
    let told = c.in_ok-pairs.field-0 in
    let most = subst (λ ps. IsMostMarks ps c.most_marks-most.result) c.deref.ensures.value c.most_marks-most.ensures in
    let taken = c.in_err-take_rest.ensures first c.in_ok-pairs.ensures.found.0.asking (most_up_to first _ told.level told.pairs.items c.in_ok-pairs.ensures.found.0 c.most_marks-most.result most) in
    searches_cut _ _ _ _ _ c.from_residual-in_err-take_rest.ensures.1 taken.stop taken.rest

pub returns : goal.returns
returns g c =
    let first = g.E.Evaluator.stands c.args.evaluator.now in
    let told = c.in_ok-pairs.field-0 in
    let most = subst (λ ps. IsMostMarks ps c.most_marks-most.result) c.deref.ensures.value c.most_marks-most.ensures in
    let taken = c.in_ok-take_rest.ensures first c.in_ok-pairs.ensures.found.0.asking (most_up_to first _ told.level told.pairs.items c.in_ok-pairs.ensures.found.0 c.most_marks-most.result most) in
    record {
      found = (subst (λ level. HasReached first (g.E.Evaluator.stands c.take_rest.new.evaluator) level told.pairs.items) (sym c.max.ensures) (has_reached first _ told.level told.pairs.items c.in_ok-pairs.ensures.found.0 c.most_marks-most.result most _ taken.found), c.in_ok-pairs.ensures.found.1);
      stop = tt;
      rest = taken.rest;
    }
