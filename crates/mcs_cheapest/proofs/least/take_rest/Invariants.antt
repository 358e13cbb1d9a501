use Rattle.std.proofs.Common.{◌≡◌, ◌≤◌, ◌+◌, max, false}
use Rattle.mcs_states.specs.Evaluators.{EvaluatorState}
use Rattle.mcs_costs.specs.Costs.{IsUpToStop}
use Rattle.mcs_cheapest.specs.Least.{IsAsking}
use Rattle.mcs_cheapest.proofs.least.take_rest.Given as goal

abbrev pub invariant-loop-before : goal.invariant-loop-before
invariant-loop-before g l = record {
  above : l.fn.level ≤ l.before;
  within : l.before ≤ max l.fn.level l.fn.last;
  going : (g.E.Evaluator.stands l.evaluator).halted ≡ false;
  asking : (first : EvaluatorState) → IsAsking first (g.E.Evaluator.stands l.fn.evaluator) (l.fn.level + 1) → IsUpToStop first.system l.fn.last → IsAsking first (g.E.Evaluator.stands l.evaluator) (l.before + 1);
}
