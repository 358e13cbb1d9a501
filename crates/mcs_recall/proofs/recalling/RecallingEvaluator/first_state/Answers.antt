use Rattle.std.proofs.Common.{◌∙◌, ℕ, sym, Option, MatchOption, subst}
use Rattle.mcs_states.specs.Evaluators.{EvaluatorState, IsStateOf}
use Rattle.mcs_states.specs.First.{IsFirstState}
use Rattle.mcs_recall.proofs.recalling.RecallingEvaluator.first_state.Goals as goal
use Rattle.mcs_recall.proofs.recalling.RecallingEvaluator.first_state.Goals.{in-Some-first, in_default-first}

pub returns-clause-first : goal.returns-clause-first
returns-clause-first g c =
    let told : MatchOption c.in_ok-first.first ((σ : ℕ) → ¬ IsStateOf c.args.self.now.system c.args.pair σ) (IsFirstState c.args.self.now.system c.args.pair) =
    subst (λ (e : EvaluatorState). MatchOption c.in_ok-first.first ((σ : ℕ) → ¬ IsStateOf e.system c.args.pair σ) (IsFirstState e.system c.args.pair)) c.self.view_is c.in_ok-first.ensures.first in
    elim c.match-first.branch [
      | in-Some-first w ↦ subst (λ (o : Option ℕ). MatchOption o ((σ : ℕ) → ¬ IsStateOf c.args.self.now.system c.args.pair σ) (IsFirstState c.args.self.now.system c.args.pair)) (w.in-Some-first.is ∙ sym w.first-is) told
      | in_default-first w ↦ rw w.first-is told
    ]
