use Rattle.std.proofs.Common.{List, map, sym, subst}
use Rattle.std.proofs.lemmas.Result.{IfOk-weaker}
use Rattle.mcs_system.specs.Plain.{Default}
use Rattle.mcs_system.specs.Seen.{default_of, formula_of}
use Rattle.mcs_cnf.specs.Entailments.{entailment_of}
use Rattle.mcs_evidence.specs.Defaults.{facts_of}
use Rattle.mcs_grounding.specs.Theories.{AreParts}
use Rattle.mcs_grounding.specs.Told.{IsToldOfOrder}
use Rattle.mcs_default.proofs.JudgeLemmas.{ungrounded_verdict}
use Rattle.mcs_default.proofs.verdict.judge_allowed.Goals as goal

pub returns-in-Ok-Stuck-clause-judged : goal.returns-in-Ok-Stuck-clause-judged
returns-in-Ok-Stuck-clause-judged c items parts allowed =
    let names = c.args.theory.now.asked.now.atoms.now in
    let ds : List Default = map (λ d. default_of d.now) c.args.theory.now.defaults.now in
    let told = subst (IsToldOfOrder names (facts_of items) ds c.args.set) c.in-Ok-Stuck.field-0-is (c.in-Ok-Stuck.ensures.told (facts_of items) parts.1) in
    ungrounded_verdict names items (map (λ b. formula_of b.now) c.args.theory.now.asked.now.beliefs.now) c.args.set ds c.in-Ok-Stuck.closed (map entailment_of c.in-Ok-Stuck.pres.items) parts.0 told.0 told.1 told.2

pub returns-in-Ok-Grounded-clause-judged : goal.returns-in-Ok-Grounded-clause-judged
returns-in-Ok-Grounded-clause-judged c =
    let names = c.args.theory.now.asked.now.atoms.now in
    let ds : List Default = map (λ d. default_of d.now) c.args.theory.now.defaults.now in
    IfOk-weaker c.judge_grounded.result _ _ (λ judged h items parts allowed.
    (let told = subst (IsToldOfOrder names (facts_of items) ds c.args.set) c.in-Ok-Grounded.field-0-is (c.in-Ok-Grounded.ensures.told (facts_of items) parts.1) in
    h items (subst (AreParts names items ds) (sym c.in-Ok-Grounded.ensures.kept) parts) allowed (told.0, told.1 items parts.0))) c.judge_grounded.ensures.judged
