use Rattle.std.proofs.Common.{◌++◌, List, map, subst}
use Rattle.mcs_system.specs.Plain.{Formula, Default}
use Rattle.mcs_system.specs.Seen.{default_of, formula_of}
use Rattle.mcs_cnf.specs.Entailments.{entailment_of}
use Rattle.mcs_evidence.specs.Defaults.{facts_of, absence_of}
use Rattle.mcs_grounding.specs.Theories.{consequents}
use Rattle.mcs_default.specs.Told.{IsToldOfRest}
use Rattle.mcs_default.proofs.JudgeLemmas.{applied_verdict, extension_verdict}
use Rattle.mcs_default.proofs.verdict.judge_grounded.Goals as goal

pub returns-in-Ok-Applied-clause-judged : goal.returns-in-Ok-Applied-clause-judged
returns-in-Ok-Applied-clause-judged c items parts allowed order =
    let names = c.args.theory.now.asked.now.atoms.now in
    let ds : List Default = map (λ d. default_of d.now) c.args.theory.now.defaults.now in
    let beliefs : List Formula = map (λ b. formula_of b.now) c.args.theory.now.asked.now.beliefs.now in
    let told = subst (IsToldOfRest names (facts_of items ++ consequents ds c.args.set) ds beliefs c.args.set) c.in-Ok-Applied.field-0-is (c.in-Ok-Applied.ensures.told (facts_of items) parts.1) in
    applied_verdict names items beliefs c.args.set ds c.in-Ok-Applied.number c.in-Ok-Applied.pre c.in-Ok-Applied.justs.items parts.0 told

pub returns-in-Ok-Complete-clause-judged : goal.returns-in-Ok-Complete-clause-judged
returns-in-Ok-Complete-clause-judged c items parts allowed order =
    let names = c.args.theory.now.asked.now.atoms.now in
    let ds : List Default = map (λ d. default_of d.now) c.args.theory.now.defaults.now in
    let beliefs : List Formula = map (λ b. formula_of b.now) c.args.theory.now.asked.now.beliefs.now in
    let told = subst (IsToldOfRest names (facts_of items ++ consequents ds c.args.set) ds beliefs c.args.set) c.in-Ok-Complete.field-0-is (c.in-Ok-Complete.ensures.told (facts_of items) parts.1) in
    extension_verdict names items beliefs c.args.set ds c.args.parts.order.items (map entailment_of c.args.parts.pres.items) (map entailment_of c.args.parts.justs.items) (map absence_of c.in-Ok-Complete.outside.items) (map entailment_of c.in-Ok-Complete.outputs.items) c.in-Ok-Complete.view
    parts.0 order.0 order.1 allowed told.0 told.1
