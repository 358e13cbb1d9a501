use Rattle.std.proofs.Common.{◌++◌, List, map, sym, subst}
use Rattle.std.proofs.lemmas.Result.{IfOk-weaker}
use Rattle.mcs_system.specs.Plain.{Default}
use Rattle.mcs_system.specs.Seen.{default_of, formula_of}
use Rattle.mcs_cnf.specs.Entailments.{entailment_of}
use Rattle.mcs_evidence.specs.Defaults.{facts_of, absence_of}
use Rattle.mcs_grounding.specs.Theories.{AreParts, consequents}
use Rattle.mcs_default.specs.Told.{IsToldInside}
use Rattle.mcs_default.proofs.JudgeLemmas.{fails_verdict, allowed_in}
use Rattle.mcs_default.proofs.verdict.judge.Goals as goal

pub returns-in-Fails-clause-judged : goal.returns-in-Fails-clause-judged
returns-in-Fails-clause-judged c items parts =
    let names = c.args.theory.now.asked.now.atoms.now in
    let ds : List Default = map (λ d. default_of d.now) c.args.theory.now.defaults.now in
    let told = subst (IsToldInside names (facts_of items ++ consequents ds c.args.set) ds c.args.set) c.in-Fails.is (c.in_ok-absence.ensures.told (facts_of items) parts.1) in
    fails_verdict names items (map (λ b. formula_of b.now) c.args.theory.now.asked.now.beliefs.now) c.args.set ds (absence_of c.in-Fails.absence) parts.0 told

pub returns-in-Allowed-clause-judged : goal.returns-in-Allowed-clause-judged
returns-in-Allowed-clause-judged c =
    let names = c.args.theory.now.asked.now.atoms.now in
    let ds : List Default = map (λ d. default_of d.now) c.args.theory.now.defaults.now in
    IfOk-weaker c.judge_allowed.result _ _ (λ judged h items parts.
    (let told = subst (IsToldInside names (facts_of items ++ consequents ds c.args.set) ds c.args.set) c.in-Allowed.is (c.in_ok-absence.ensures.told (facts_of items) parts.1) in
    h items (subst (AreParts names items ds) (sym c.in_ok-absence.ensures.kept) parts) (allowed_in names items c.args.set ds (map entailment_of c.in-Allowed.justs.items) parts.0 told))) c.judge_allowed.ensures.judged
