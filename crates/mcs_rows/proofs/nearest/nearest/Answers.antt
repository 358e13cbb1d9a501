use Rattle.std.proofs.Common.{◌++◌, ◌∷◌, [], ◌∙◌, ℕ, List, ap, sym, subst}
use Rattle.mcs_base.specs.Listings.{IsAmong}
use Rattle.mcs_base.proofs.Among.{among_at}
use Rattle.mcs_base.proofs.Each.{all_among}
use Rattle.mcs_sets.specs.Sets.{Within}
use Rattle.mcs_system.specs.Imports.{rules_into}
use Rattle.mcs_rows.proofs.FindingLemmas.{found_question}
use Rattle.mcs_rows.proofs.NearestLemmas.{only_none, nearest_more}
use Rattle.mcs_rows.specs.declared.nearest.Near.{Near}
use Rattle.mcs_rows.proofs.nearest.nearest.Goals as goal

pub returns-then-is_ok : goal.returns-then-is_ok
returns-then-is_ok c m i state at of_rules =
    let n : Near = record { changes = c.empty.result; marks = c.empty-then-is_ok.result } in
    only_none m i state c.args.reach.now c.args.applying at.applies c.requires.new n c.empty.ensures c.empty-then-is_ok.ensures c.args.questions.now
    (found_question c.args.questions.now c.args.applying c.binary_search.result c.binary_search.ensures.bound c.binary_search.ensures.position c.is_ok.result c.is_ok.ensures.value c.if-is_ok.true)
    c.push.new.self.items (c.in_ok-push.ensures.items ∙ ap (λ (xs : List Near). xs ++ n ∷ []) c.new-found.ensures.items)

pub loop-question-preserved : goal.loop-question-preserved
loop-question-preserved c m i state at of_rules =
    let x = c.question-item.result in
    let among : IsAmong x c.args.questions.now = subst (λ (z : ℕ). IsAmong z c.args.questions.now) (sym c.question-item.is) (among_at c.args.questions.now c.loop-question.question-index x c.loop-question-test.true) in
    nearest_more m i state c.args.reach.now c.args.applying c.args.questions.now c.loop-question.question-index x c.loop-question.found.items c.add_near.new.found.items c.loop-question-test.true c.question-item.is
    (c.loop-question.invariant m i state at of_rules)
    (c.in_ok-add_near.ensures m i state at (all_among (λ (y : ℕ). Within y (rules_into m i)) c.args.questions.now x of_rules among))
