use Rattle.std.proofs.Common.{map}
use Rattle.std.proofs.lemmas.Bool.{iff_false}
use Rattle.mcs_base.proofs.Booleans.{false_tells, true_tells}
use Rattle.mcs_system.specs.Seen.{formula_of}
use Rattle.mcs_cnf.specs.Entailments.{entailment_of}
use Rattle.mcs_cnf.proofs.ModelLemmas.{model-kept}
use Rattle.mcs_steps.proofs.Judged.{judged_err}
use Rattle.mcs_judging.proofs.entailments.judge_no.Goals as goal

pub returns-in_err-entail-clause-exact : goal.returns-in_err-entail-clause-exact
returns-in_err-entail-clause-exact c = judged_err _ _ _ _ _ c.from_residual.ensures.1 c.in_err-entail.ensures

pub returns-then-not-denies-clause-exact : goal.returns-then-not-denies-clause-exact
returns-then-not-denies-clause-exact c = record {
  value = entailment_of c.in_ok-entail.entail;
  is = c.in_ok-entail.ensures;
  right = false_tells (iff_false c.denies.ensures c.if-not-denies.true);
}

pub returns-clause-known : goal.returns-clause-known
returns-clause-known c =
    let denied = c.denies.ensures.0 c.if-not-denies.false in
    rw c.model_shown-next.ensures (model-kept c.args.named.now.asked.now.atoms.now (map (λ f. formula_of f.now) c.args.premises.now) _ c.args.model.now _ c.requires.known denied.0)

pub returns-clause-exact : goal.returns-clause-exact
returns-clause-exact c = record {
  value = entailment_of c.in_ok-entail.entail;
  is = c.in_ok-entail.ensures;
  right = true_tells (c.denies.ensures.0 c.if-not-denies.false);
}
