use Rattle.std.proofs.Common.{◌≡◌, ◌+◌, ◌^◌, ◌∙◌, length, refl, ap, arith}
use Rattle.mcs_base.proofs.NumberCases.{power_less_one}
use Rattle.mcs_evidence.specs.Defaults.{defaults_of}
use Rattle.mcs_proof_lines.specs.Verdicts.{terms_of}
use Rattle.mcs_asked.specs.Questions.{theory_names, theory_beliefs, theory_items}
use Rattle.mcs_proof_lines.proofs.Justs.{counted}
use Rattle.mcs_judging.proofs.VerdictLemmas.{sets_begin, sets_on, sets_fail, sets_refused, sets_accepted}
use Rattle.mcs_judging.proofs.verdicts.judge_sets.Goals as goal

pub places-requires : goal.places-requires
places-requires c = c.args.reading.now.few_justs

pub loop-left-init : goal.loop-left-init
loop-left-init c =
    let n = length c.args.reading.now.terms.now.justs.now in
    let is : c.number-left.result + 1 ≡ 2 ^ n = ap (λ k. k + 1) (c.number-left.ensures ∙ c.places.ensures) ∙ power_less_one n in
    record {
      kept = refl;
      all = (let e = is in omega (arith, e));
      judged = sets_begin (theory_names c.args.reading.now.theory.now) (theory_items c.args.reading.now.theory.now) (theory_beliefs c.args.reading.now.theory.now) (terms_of c.args.reading.now.terms.now) c.args.lines.now (c.number-left.result + 1) _ c.new-views.result.items is refl c.new-views.ensures.items;
    }

pub judge_set-requires-clause-made : goal.judge_set-requires-clause-made
judge_set-requires-clause-made c = c.loop-left.invariant.kept ∙ c.requires.made

pub judge_set-requires-clause-inside : goal.judge_set-requires-clause-inside
judge_set-requires-clause-inside c = (let all = c.loop-left.invariant.all in let some = c.loop-left-test.true in let is = c.numbered.ensures in omega (arith, all, some, is))

pub loop-left-preserved : goal.loop-left-preserved
loop-left-preserved c = record {
  kept = c.in-Ok.ensures.kept ∙ c.loop-left.invariant.kept;
  all = (let all = c.loop-left.invariant.all in let some = c.loop-left-test.true in omega (arith, all, some));
  judged = sets_on (theory_names c.args.reading.now.theory.now) (theory_items c.args.reading.now.theory.now) (theory_beliefs c.args.reading.now.theory.now) (terms_of c.args.reading.now.terms.now) c.args.lines.now c.loop-left.lines c.loop-left.set c.loop-left.left c.loop-left.are_right c.loop-left.views.items c.loop-left.invariant.judged
      c.judge_set.new.lines c.in-Ok.judged c.in_ok-are_right-in-Ok.are_right c.note.new.views.items c.loop-left-test.true (rw c.numbered.ensures at c.in-Ok.ensures.exact) c.in_ok-are_right-in-Ok.ensures;
}

pub returns-in-Err : goal.returns-in-Err
returns-in-Err c =
    sets_fail (theory_names c.args.reading.now.theory.now) (theory_items c.args.reading.now.theory.now) (theory_beliefs c.args.reading.now.theory.now) (terms_of c.args.reading.now.terms.now) c.args.lines.now c.loop-left.lines c.loop-left.set c.loop-left.left c.loop-left.are_right c.loop-left.views.items c.loop-left.invariant.judged
    c.in-Err.fault c.loop-left-test.true (rw c.numbered.ensures at c.in-Err.ensures.exact)

pub returns-then-not-are_right : goal.returns-then-not-are_right
returns-then-not-are_right c =
    let none : c.loop-left.left ≡ 0 = (let past = c.loop-left-test.false in omega (arith, past)) in
    sets_refused (theory_names c.args.reading.now.theory.now) (theory_items c.args.reading.now.theory.now) (theory_beliefs c.args.reading.now.theory.now) (terms_of c.args.reading.now.terms.now) c.args.lines.now c.loop-left.lines c.loop-left.set c.loop-left.left c.loop-left.are_right c.loop-left.views.items c.loop-left.invariant.judged
    none c.if-not-are_right.true

pub returns : goal.returns
returns c =
    let none : c.loop-left.left ≡ 0 = (let past = c.loop-left-test.false in omega (arith, past)) in
    let long = counted (defaults_of (theory_items c.args.reading.now.theory.now)) c.args.reading.now.terms.now.justs.now c.args.reading.now.justs in
    let all : c.loop-left.set ≡ 2 ^ length (defaults_of (theory_items c.args.reading.now.theory.now)) = (let whole = c.loop-left.invariant.all in let same : c.loop-left.set ≡ 2 ^ length c.args.reading.now.terms.now.justs.now = omega (arith, whole, none) in same ∙ ap (λ n. 2 ^ n) long) in
    sets_accepted (theory_names c.args.reading.now.theory.now) (theory_items c.args.reading.now.theory.now) (theory_beliefs c.args.reading.now.theory.now) (terms_of c.args.reading.now.terms.now) c.args.lines.now c.loop-left.lines c.loop-left.set c.loop-left.left c.loop-left.are_right c.loop-left.views.items c.loop-left.invariant.judged
    none c.list_states.new.states c.if-not-are_right.false all c.list_states.ensures
