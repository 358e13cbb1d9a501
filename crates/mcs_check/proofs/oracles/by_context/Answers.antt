use Rattle.std.proofs.Common.{◌≡◌, ◌<◌, sym, ◌∙◌, subst, arith}
use Rattle.std.specs.List.{AllByRecursion}
use Rattle.std.proofs.lemmas.List.{map-id}
use Rattle.std.proofs.lemmas.Iterator.Adapters.{YieldsList-from_vec}
use Rattle.std.proofs.lemmas.Iterator.Consumers.{YieldsList-end}
use Rattle.mcs_check.specs.Judging.{AreSorted}
use Rattle.mcs_check.proofs.SortedAnswers.{none_sorted}
use Rattle.mcs_check.proofs.oracles.by_context.Goals as goal

pub loop-answer-init : goal.loop-answer-init
loop-answer-init c = record {
  sorted = none_sorted c.args.contexts c.in_ok-lists.lists.items c.in_ok-lists.ensures.many c.in_ok-lists.ensures.empty;
  within = subst (AllByRecursion (λ a. a.context < c.args.contexts)) (sym c.into_iter-answer-iterator.ensures.into_iter_gives.0) c.requires;
}

pub put-requires : goal.put-requires
put-requires c =
    let first = (subst (AllByRecursion (λ a. a.context < c.args.contexts)) c.in-Some.ensures.steps.0 c.loop-answer.invariant.within).0 in
    let many = c.loop-answer.invariant.sorted.many in
    omega (arith, first, many)

pub loop-answer-preserved : goal.loop-answer-preserved
loop-answer-preserved c = record {
  sorted = c.in_ok-put.ensures c.args.contexts c.loop-answer.yielded c.loop-answer.invariant.sorted;
  within = (subst (AllByRecursion (λ a. a.context < c.args.contexts)) c.in-Some.ensures.steps.0 c.loop-answer.invariant.within).1;
}

pub returns : goal.returns
returns c =
    let gives = c.into_iter-answer-iterator.ensures.into_iter_gives in
    let road = YieldsList-from_vec {s = c.into_iter-answer-iterator.result} c.args.answers.items gives.0 (gives.1 ∙ c.args.answers.ok.0) in
    let end = YieldsList-end road c.loop-answer.yielded c.loop-answer.answer-iterator c.loop-answer.yielded_by c.next.result c.next.new.self c.in-None.is c.next.ensures.steps in
    let all : c.loop-answer.yielded ≡ c.args.answers.items = sym (map-id c.loop-answer.yielded) ∙ end.0 in
    subst (λ as'. AreSorted c.args.contexts as' c.loop-answer.lists.items) all c.loop-answer.invariant.sorted
