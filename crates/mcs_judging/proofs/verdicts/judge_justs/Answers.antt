use Rattle.std.proofs.Common.{◌∙◌, map, length, ap, refl}
use Rattle.mcs_system.specs.Seen.{default_of, formula_of}
use Rattle.mcs_evidence.specs.Defaults.{negated_justs}
use Rattle.mcs_proof_lines.specs.Walks.{no_at}
use Rattle.mcs_judging.proofs.VerdictLemmas.{goals_as}
use Rattle.mcs_asked.specs.Questions.{theory_names}
use Rattle.mcs_judging.proofs.verdicts.judge_justs.Goals as goal

pub returns : goal.returns
returns c =
    goals_as formula_of c.deref.result.now (negated_justs (map (λ d. default_of d.now) c.args.defaults.now)) (length (negated_justs (map (λ d. default_of d.now) c.args.defaults.now))) (ap (map formula_of) c.deref.ensures.value ∙ c.in_ok-goals.ensures) refl
    (no_at c.args.reading.now.terms.now.atoms.now) (theory_names c.args.reading.now.theory.now) (map (λ f. formula_of f.now) c.args.premises.now) c.judge_denials-denied.result c.judge_denials-denied.new.lines c.args.lines.now c.judge_denials-denied.ensures
