use Rattle.std.proofs.Common.{◌≡◌, ◌∙◌, ℕ, true, sym, subst, true≢false}
use Rattle.mcs_sets.specs.Sets.{has, Within}
use Rattle.mcs_sets.proofs.SetLemmas.{has-empty}
use Rattle.mcs_system.specs.Systems.{variables_of, all_variables}
use Rattle.mcs_system.proofs.ContextSets.{states_known, variables_of-lt}
use Rattle.mcs_evaluation_tests.proofs.answers.is_written.Goals as goal

pub answer_lines-done-requires-clause-outputs : goal.answer_lines-done-requires-clause-outputs
answer_lines-done-requires-clause-outputs c =
    let m = c.args.system.now in
    let own : Within c.vars_of.result (all_variables m) = subst (λ (s : ℕ). Within s (all_variables m)) (sym c.vars_of.ensures) (states_known m (variables_of m 0) (variables_of-lt m 0)) in
    (own, ((λ k member. absurd (true≢false (sym (subst (λ (s : ℕ). has s k ≡ true) c.empty.ensures member) ∙ has-empty k))), tt))
