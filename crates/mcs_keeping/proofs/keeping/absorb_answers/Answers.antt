use Rattle.std.proofs.Common.{◌≡◌, ◌+◌, ◌∙◌, ◌∷◌, ◌++◌, [], ℕ, List, take, sym, ap, subst, append-nil, append_assoc, arith}
use Rattle.std.proofs.lemmas.List.{take_more, take_all}
use Rattle.mcs_base.specs.Listings.{IsAmong}
use Rattle.mcs_base.proofs.Among.{among_at}
use Rattle.mcs_keeping.specs.Keeping.{AreAnswersKept, AreAnswersLeft}
use Rattle.mcs_keeping.proofs.KeepingLemmas.{all_left, moved_more, still_kept}
use Rattle.mcs_keeping.proofs.keeping.absorb_answers.Goals as goal

pub loop-question-init : goal.loop-question-init
loop-question-init c = record {
  journal = sym (append-nil c.args.journal.now.items);
  kept = λ m i keep own other. (own, all_left m i keep c.args.journal.now.items c.args.asked.now c.args.others other);
}

pub loop-question-preserved : goal.loop-question-preserved
loop-question-preserved c =
    let asked = c.args.asked.now in
    let k = c.loop-question.question-index in
    let x = c.question-item.result in
    let more : take (k + 1) asked ≡ take k asked ++ x ∷ [] = take_more asked k x c.loop-question-test.true ∙ ap (λ y. take k asked ++ y ∷ []) (sym c.question-item.is) in
    let pushed : c.push.new.self.items ≡ c.loop-question.journal.items ++ x ∷ [] = c.in_ok-push.ensures.items ∙ ap (λ (xs : List ℕ). xs ++ x ∷ []) c.in_ok-reserve.ensures.items in
    let among : IsAmong x asked = subst (λ (y : ℕ). IsAmong y asked) (sym c.question-item.is) (among_at asked k x c.loop-question-test.true) in
    record {
      journal = pushed ∙ ap (λ (xs : List ℕ). xs ++ x ∷ []) c.loop-question.invariant.journal ∙ append_assoc c.args.journal.now.items (take k asked) (x ∷ []) ∙ ap (λ (xs : List ℕ). c.args.journal.now.items ++ xs) (sym more);
      kept = λ m i keep own other. subst (λ (xs : List ℕ). AreAnswersKept m i keep xs c.move_answer.new.kept × AreAnswersLeft m i keep xs asked c.move_answer.new.others) (sym pushed)
          (moved_more m i keep c.loop-question.journal.items asked x c.loop-question.kept c.loop-question.others c.move_answer.new.kept c.move_answer.new.others among c.in_ok-move_answer.ensures.ok
          (c.loop-question.invariant.kept m i keep own other));
    }

pub returns-clause-journal : goal.returns-clause-journal
returns-clause-journal c = c.loop-question.invariant.journal ∙ ap (λ (xs : List ℕ). c.args.journal.now.items ++ xs) (take_all c.loop-question.question-index c.args.asked.now c.loop-question-test.false)

pub returns-clause-kept : goal.returns-clause-kept
returns-clause-kept c m i keep own other = (c.loop-question.invariant.kept m i keep own other).0

pub returns-in_err-reserve-clause-kept : goal.returns-in_err-reserve-clause-kept
returns-in_err-reserve-clause-kept c m i keep own other =
    subst (λ (xs : List ℕ). AreAnswersKept m i keep xs c.loop-question.kept) (sym c.in_err-reserve.ensures.items) (c.loop-question.invariant.kept m i keep own other).0

pub returns-in_err-move_answer-clause-kept : goal.returns-in_err-move_answer-clause-kept
returns-in_err-move_answer-clause-kept c m i keep own other =
    subst (λ (xs : List ℕ). AreAnswersKept m i keep xs c.move_answer.new.kept) (sym c.in_ok-reserve.ensures.items)
    (still_kept m i keep c.loop-question.journal.items c.loop-question.kept c.move_answer.new.kept c.in_err-move_answer.ensures.err (c.loop-question.invariant.kept m i keep own other).0)

pub returns-in_err-push-clause-kept : goal.returns-in_err-push-clause-kept
returns-in_err-push-clause-kept c m i keep own other = absurd (omega (arith, c.in_ok-reserve.ensures.ok, c.in_err-push.ensures.full))
