use Rattle.std.proofs.Common.{◌∙◌, ◌≤◌, ◌++◌, List, length, map, ap, refl, subst, arith}
use Rattle.mcs_system.specs.Plain.{Item, Kb, Fact}
use Rattle.mcs_system.specs.Seen.{formula_of, item_of}
use Rattle.mcs_evidence.specs.Defaults.{IsAcceptedDefault}
use Rattle.mcs_asking.specs.Kinds.{part_count, IsOverKb}
use Rattle.mcs_asking.proofs.KindLemmas.{defaults_counted}
use Rattle.mcs_proof_lines.specs.Verdicts.{Terms, verdicts_at}
use Rattle.mcs_judging.specs.Judging.{Tells, AreViewsOf}
use Rattle.mcs_check.proofs.JudgedAnswers.{same_terms}
use Rattle.mcs_check.proofs.judging.judge_extensions.Goals as goal

pub judge_verdicts-requires-clause-few_texts : goal.judge_verdicts-requires-clause-few_texts
judge_verdicts-requires-clause-few_texts c = omega (arith, c.args.question.now.asked.now.few, ap length c.requires.names)

pub judge_verdicts-requires-clause-few_numbers : goal.judge_verdicts-requires-clause-few_numbers
judge_verdicts-requires-clause-few_numbers c = c.requires.numbers

pub judge_verdicts-requires-clause-few_defaults : goal.judge_verdicts-requires-clause-few_defaults
judge_verdicts-requires-clause-few_defaults c =
    let few = subst (λ (k : Kb). part_count k ≤ 10) c.requires.items c.args.question.now.few_parts in
    omega (arith, few, defaults_counted (map item_of c.args.items.now))

pub judge_verdicts-requires-clause-justs : goal.judge_verdicts-requires-clause-justs
judge_verdicts-requires-clause-justs c = c.deref.ensures.value ∙ c.in_ok-justs.ensures

pub judge_verdicts-requires-clause-told_beliefs : goal.judge_verdicts-requires-clause-told_beliefs
judge_verdicts-requires-clause-told_beliefs c = refl

pub judge_verdicts-requires-clause-items : goal.judge_verdicts-requires-clause-items
judge_verdicts-requires-clause-items c =
    let q = c.args.question.now in
    subst (IsOverKb q.asked.now.atoms.now) c.requires.items q.own

pub judge_verdicts-requires-clause-heads : goal.judge_verdicts-requires-clause-heads
judge_verdicts-requires-clause-heads c = c.args.question.now.told

pub returns : goal.returns
returns c =
    let q = c.args.question.now in
    let items : List Item = map item_of c.args.items.now in
    let terms : Terms = record { atoms = c.args.names.now; numbers = c.args.numbers.now; justs = c.deref.result.now; beliefs = length q.asked.now.beliefs.now } in
    let same = same_terms terms q.asked.now.atoms.now items (length q.asked.now.beliefs.now) c.requires.names (c.deref.ensures.value ∙ c.in_ok-justs.ensures) refl in
    subst (λ (t : Terms). Tells (AreViewsOf (IsAcceptedDefault q.asked.now.atoms.now (items ++ map Fact (map (λ f. formula_of f.now) q.heads.now)) (map (λ b. formula_of b.now) q.asked.now.beliefs.now))) c.judge_verdicts.result c.judge_verdicts.new.lines (verdicts_at t c.args.lines.now)) same c.judge_verdicts.ensures
