use Rattle.std.proofs.Common.{refl}
use Rattle.std.proofs.lemmas.Bool.{iff_false}
use Rattle.mcs_cnf.proofs.GrowingLemmas.{cut_fewer, cut_within, cut_back}
use Rattle.mcs_evidence.specs.Defaults.{facts_of, AreGrounded}
use Rattle.mcs_extensions.specs.Checks.{AreNumbersOf}
use Rattle.mcs_steps.proofs.Judged.{judged_err, passed_wrong}
use Rattle.mcs_asked.specs.Questions.{theory_names, theory_items}
use Rattle.mcs_judging.specs.Theories.{numbers_in}
use Rattle.mcs_judging.proofs.Orders.{with_numbers}
use Rattle.mcs_judging.proofs.Places.{numbers_within}
use Rattle.mcs_judging.proofs.order.judge_grounded.Goals as goal

pub returns-in_err-pass_all_yes-clause-exact : goal.returns-in_err-pass_all_yes-clause-exact
returns-in_err-pass_all_yes-clause-exact c = judged_err _ _ _ _ _ c.from_residual.ensures.1 c.in_err-pass_all_yes.ensures

pub returns-then-not-are_numbers_of-clause-exact : goal.returns-then-not-are_numbers_of-clause-exact
returns-then-not-are_numbers_of-clause-exact c = passed_wrong _ _ _ c.in_ok-pass_all_yes.ensures (λ pres h. iff_false c.are_numbers_of.ensures c.if-not-are_numbers_of.true h.0)

pub judge_order-requires-clause-within : goal.judge_order-requires-clause-within
judge_order-requires-clause-within c = numbers_within c.args.set c.args.reading.now.terms.now.justs.now (numbers_in c.args.numbers.now) c.requires.inside (c.are_numbers_of.ensures.0 c.if-not-are_numbers_of.false)

pub returns-in_err-grounded-clause-exact : goal.returns-in_err-grounded-clause-exact
returns-in_err-grounded-clause-exact c = judged_err _ _ _ _ _ c.from_residual-in_err-grounded.ensures.1 c.in_err-grounded.ensures.exact

pub cut-requires-clause-fewer : goal.cut-requires-clause-fewer
cut-requires-clause-fewer c =
    cut_fewer (theory_names c.args.reading.now.theory.now) c.args.known.now c.judge_order.new.known c.in_ok-grounded.ensures.grown c.judge_order.new.known c.vars-vars.result c.vars-vars.ensures.value refl

pub cut-requires-clause-within : goal.cut-requires-clause-within
cut-requires-clause-within c =
    cut_within (theory_names c.args.reading.now.theory.now) c.args.known.now c.judge_order.new.known c.in_ok-grounded.ensures.grown c.judge_order.new.known c.vars-vars.result c.clauses-count.result.now c.vars-vars.ensures.value c.clauses-count.ensures.value c.vars-vars.ensures.kept refl

pub returns-clause-kept : goal.returns-clause-kept
returns-clause-kept c =
    cut_back (theory_names c.args.reading.now.theory.now) c.args.known.now c.judge_order.new.known c.in_ok-grounded.ensures.grown c.judge_order.new.known c.cut.new.self c.vars-vars.result c.clauses-count.result.now c.vars-vars.ensures.value c.clauses-count.ensures.value refl c.cut.ensures

pub returns-clause-exact : goal.returns-clause-exact
returns-clause-exact c =
    with_numbers (AreNumbersOf c.args.set (numbers_in c.args.numbers.now)) (AreGrounded (theory_names c.args.reading.now.theory.now) (theory_items c.args.reading.now.theory.now) (facts_of (theory_items c.args.reading.now.theory.now)) (numbers_in c.args.numbers.now)) c.in_ok-grounded.grounded _ _
    (c.are_numbers_of.ensures.0 c.if-not-are_numbers_of.false) c.in_ok-grounded.ensures.exact
