use Rattle.std.proofs.Common.{rules, ◌∙◌, ap, subst, IsTrue, ◌↔◌}
use Rattle.std.proofs.lemmas.Result.{IfOk-weaker}
use Rattle.mcs_system.specs.Plain.{Formula, Not}
use Rattle.mcs_system.specs.Logic.{Entails}
use Rattle.mcs_system.specs.Seen.{formula_of}
use Rattle.mcs_evidence.specs.Defaults.{generated}
use Rattle.mcs_default.proofs.questions.refutes.Goals as goal

pub returns : goal.returns
returns c = record {
  kept = search rules;
  exact = (IfOk-weaker c.follows-is_refuted.result _ _ (λ b h items parts.
      (subst (λ (f : Formula). IsTrue b ↔ Entails (generated items c.args.set) (Not f)) (ap formula_of c.in_ok-new.ensures.ok ∙ c.in_ok-copy.ensures) (h items parts))) c.follows-is_refuted.ensures.exact);
}
