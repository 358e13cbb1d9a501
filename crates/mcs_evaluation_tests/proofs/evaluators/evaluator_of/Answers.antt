use Rattle.std.proofs.Common.{◌∙◌, ap, sym, length, false}
use Rattle.mcs_states.specs.Oracles.{OracleState}
use Rattle.mcs_system.specs.Plain.{System}
use Rattle.mcs_solver.proofs.SystemSolvers.{solvers_each, solver_seen}
use Rattle.mcs_evaluation_tests.proofs.SolverLemmas.{new_mesh}
use Rattle.mcs_evaluation_tests.proofs.evaluators.evaluator_of.Goals as goal

pub new-requires-2-clause-one_each : goal.new-requires-2-clause-one_each
new-requires-2-clause-one_each c = solvers_each false _ _ c.in_ok-solvers.ensures ∙ sym (ap (λ (m : System). length m.contexts) (c.in_ok-plan.ensures.ok ∙ (c.in_ok-of.ensures ∙ c.in_ok-clone.ensures.cases)))

pub new-requires-2-clause-own : goal.new-requires-2-clause-own
new-requires-2-clause-own c i o is =
    let same = solver_seen false _ _ c.in_ok-solvers.ensures i o is in
    (ap (λ (s : OracleState). s.system) same ∙ sym (c.in_ok-plan.ensures.ok ∙ (c.in_ok-of.ensures ∙ c.in_ok-clone.ensures.cases)), ap (λ (s : OracleState). s.context) same, ap (λ (s : OracleState). s.journal) same)

pub returns : goal.returns
returns c = new_mesh _ _ _ _ _ (c.in_ok-plan.ensures.ok ∙ (c.in_ok-of.ensures ∙ c.in_ok-clone.ensures.cases)) c.new-2.ensures.state
