use Rattle.std.proofs.Common.{IfOk, subst}
use Rattle.mcs_states.specs.Evaluators.{EvaluatorState}
use Rattle.mcs_costs.specs.Settling.{IsSettling}
use Rattle.mcs_recall.proofs.recalling.RecallingCheapestEvaluator.cheapest.Goals as goal

pub returns-clause-told : goal.returns-clause-told
returns-clause-told g c = subst (λ (e : EvaluatorState). IfOk c.cheapest.result (IsSettling e.system c.args.level)) c.self.view_is c.cheapest.ensures.told
