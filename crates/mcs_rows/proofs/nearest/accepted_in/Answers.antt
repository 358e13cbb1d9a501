use Rattle.std.proofs.Common.{◌↔◌, List, subst}
use Rattle.std.proofs.lemmas.List.{take_all}
use Rattle.mcs_base.specs.Listings.{IsAmong}
use Rattle.mcs_base.proofs.Among.{among_permutation}
use Rattle.mcs_rows.specs.Nearest.{IsAnswered}
use Rattle.mcs_rows.specs.declared.answer.Answer.{Answer}
use Rattle.mcs_rows.proofs.NearestLemmas.{accepted_more}
use Rattle.mcs_rows.proofs.nearest.accepted_in.Goals as goal

pub loop-answer-preserved : goal.loop-answer-preserved
loop-answer-preserved c = accepted_more c.args.answers.now c.loop-answer.answer-index c.answer-item.result c.loop-answer.all.items c.add_parts_of.new.all.items c.loop-answer-test.true c.answer-item.is c.loop-answer.invariant c.in_ok-add_parts_of.ensures

pub returns : goal.returns
returns c a =
    let whole = subst (λ (answers : List Answer). IsAmong a c.loop-answer.all.items ↔ IsAnswered answers a.part a.question) (take_all c.loop-answer.answer-index c.args.answers.now c.loop-answer-test.false) (c.loop-answer.invariant a) in
    let moved = among_permutation c.loop-answer.all.items _ c.sort_unstable_by_key.ensures.permutation a in
    (λ h. whole.0 (moved.0 h), λ h. moved.1 (whole.1 h))
