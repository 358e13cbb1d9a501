use Rattle.mcs_proof_lines.specs.Verdicts.{terms_of}
use Rattle.mcs_asked.specs.Questions.{theory_names, theory_beliefs, theory_items}
use Rattle.mcs_judging.specs.Theories.{numbers_in, TellsVerdict}
use Rattle.mcs_judging.proofs.VerdictLemmas.{by_applied, by_ungrounded, by_extension, by_failing, told_same}
use Rattle.mcs_judging.proofs.verdicts.judge_verdict.Goals as goal

pub returns-in-Some-clause-exact : goal.returns-in-Some-clause-exact
returns-in-Some-clause-exact c =
    told_same (TellsVerdict (theory_names c.args.reading.now.theory.now) (theory_items c.args.reading.now.theory.now) (theory_beliefs c.args.reading.now.theory.now) c.args.set) c.judge_applied.result c.judge_applied.new.lines _ _
    (by_applied (terms_of c.args.reading.now.terms.now) (theory_names c.args.reading.now.theory.now) (theory_items c.args.reading.now.theory.now) (theory_beliefs c.args.reading.now.theory.now) c.args.set c.args.lines.now c.in-Some.number c.in-Some.ensures.value) (rw c.advance.ensures at c.judge_applied.ensures.exact)

pub returns-in-Some-next_defaults-clause-exact : goal.returns-in-Some-next_defaults-clause-exact
returns-in-Some-next_defaults-clause-exact c =
    told_same (TellsVerdict (theory_names c.args.reading.now.theory.now) (theory_items c.args.reading.now.theory.now) (theory_beliefs c.args.reading.now.theory.now) c.args.set) c.judge_ungrounded.result c.judge_ungrounded.new.lines _ _
    (by_ungrounded (terms_of c.args.reading.now.terms.now) (theory_names c.args.reading.now.theory.now) (theory_items c.args.reading.now.theory.now) (theory_beliefs c.args.reading.now.theory.now) c.args.set c.args.lines.now c.in_default.ensures.value c.in-Some-next_defaults.part c.in-Some-next_defaults.ensures.value) (rw c.advance-in-Some-next_defaults.ensures at c.judge_ungrounded.ensures)

pub returns-in-Some-next_order-clause-exact : goal.returns-in-Some-next_order-clause-exact
returns-in-Some-next_order-clause-exact c =
    told_same (TellsVerdict (theory_names c.args.reading.now.theory.now) (theory_items c.args.reading.now.theory.now) (theory_beliefs c.args.reading.now.theory.now) c.args.set) c.judge_extension.result c.judge_extension.new.lines _ _
    (by_extension (terms_of c.args.reading.now.terms.now) (theory_names c.args.reading.now.theory.now) (theory_items c.args.reading.now.theory.now) (theory_beliefs c.args.reading.now.theory.now) c.args.set c.args.lines.now c.in_default.ensures.value c.in_default-next_defaults.ensures.value (numbers_in c.in-Some-next_order.numbers.now) c.in-Some-next_order.ensures.0) (rw c.advance-in-Some-next_order.ensures at c.judge_extension.ensures.exact)

pub returns-clause-exact : goal.returns-clause-exact
returns-clause-exact c =
    told_same (TellsVerdict (theory_names c.args.reading.now.theory.now) (theory_items c.args.reading.now.theory.now) (theory_beliefs c.args.reading.now.theory.now) c.args.set) c.judge_fails.result c.judge_fails.new.lines _ _
    (by_failing (terms_of c.args.reading.now.terms.now) (theory_names c.args.reading.now.theory.now) (theory_items c.args.reading.now.theory.now) (theory_beliefs c.args.reading.now.theory.now) c.args.set c.args.lines.now c.in_default.ensures.value c.in_default-next_defaults.ensures.value c.in_default-next_order.ensures) (c.judge_fails.ensures.exact)
