use Rattle.std.proofs.Common.{sym, ◌∙◌}
use Rattle.mcs_proof_lines.specs.Verdicts.{terms_of}
use Rattle.mcs_asked.specs.Questions.{theory_names, theory_beliefs, theory_items}
use Rattle.mcs_judging.specs.Theories.{TellsVerdict}
use Rattle.mcs_judging.proofs.VerdictLemmas.{set_named, set_missing, told_same}
use Rattle.mcs_judging.proofs.verdicts.judge_set.Goals as goal

pub returns-then-not-names_set-clause-exact : goal.returns-then-not-names_set-clause-exact
returns-then-not-names_set-clause-exact c =
    rw c.out_of_place.ensures (set_missing (terms_of c.args.reading.now.terms.now) (theory_names c.args.reading.now.theory.now) (theory_items c.args.reading.now.theory.now) (theory_beliefs c.args.reading.now.theory.now) c.args.set c.args.lines.now (sym c.names_set.ensures ∙ c.if-not-names_set.true))

pub returns-clause-exact : goal.returns-clause-exact
returns-clause-exact c =
    told_same (TellsVerdict (theory_names c.args.reading.now.theory.now) (theory_items c.args.reading.now.theory.now) (theory_beliefs c.args.reading.now.theory.now) c.args.set) c.judge_verdict.result c.judge_verdict.new.lines _ _
    (set_named (terms_of c.args.reading.now.terms.now) (theory_names c.args.reading.now.theory.now) (theory_items c.args.reading.now.theory.now) (theory_beliefs c.args.reading.now.theory.now) c.args.set c.args.lines.now (sym c.names_set.ensures ∙ c.if-not-names_set.false)) (rw c.advance.ensures at c.judge_verdict.ensures.exact)
