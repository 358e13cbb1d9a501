use Rattle.std.proofs.Common.{◌∙◌, map, length, ap}
use Rattle.std.proofs.lemmas.List.{length-map}
use Rattle.mcs_system.specs.Seen.{formula_of}
use Rattle.mcs_proof_lines.specs.Walks.{no_at}
use Rattle.mcs_judging.proofs.VerdictLemmas.{goals_as}
use Rattle.mcs_asked.specs.Questions.{theory_names}
use Rattle.mcs_judging.proofs.verdicts.judge_denials.Goals as goal

pub returns : goal.returns
returns c =
    goals_as (λ f. formula_of f.now) c.deref.result.now (map formula_of c.args.goals.now) (length c.args.goals.now) (ap (map (λ f. formula_of f.now)) c.deref.ensures.value ∙ c.in_ok-lent.ensures) (length-map c.args.goals.now formula_of)
    (no_at c.args.reading.now.terms.now.atoms.now) (theory_names c.args.reading.now.theory.now) (map (λ f. formula_of f.now) c.args.premises.now) c.judge_all_no.result c.judge_all_no.new.lines c.args.lines.now c.judge_all_no.ensures
