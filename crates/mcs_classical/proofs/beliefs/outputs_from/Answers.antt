use Rattle.std.proofs.Common.{rules, ◌∙◌}
use Rattle.std.proofs.lemmas.Result.{IfOk-weaker}
use Rattle.mcs_classical.proofs.beliefs.outputs_from.Goals as goal

pub returns : goal.returns
returns c = record {
  kept = search rules;
  exact = IfOk-weaker c.outputs_in-shown.result _ _ (λ r exact fs is over. exact fs (c.in_ok-base.ensures ∙ is) over) c.outputs_in-shown.ensures.exact;
  accepted = IfOk-weaker c.outputs_in-shown.result _ _ (λ r accepted fs is over. accepted fs (c.in_ok-base.ensures ∙ is) over) c.outputs_in-shown.ensures.accepted;
}
