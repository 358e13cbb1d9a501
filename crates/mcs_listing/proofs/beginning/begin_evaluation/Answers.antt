use Rattle.std.proofs.Common.{ap}
use Rattle.std.proofs.lemmas.Result.{IfOk-weaker}
use Rattle.std.specs.Arc.{arc_value}
use Rattle.mcs_states.specs.Oracles.{OracleState}
use Rattle.mcs_solver.proofs.SystemSolvers.{solvers_each, solver_seen}
use Rattle.mcs_listing.proofs.WorkedLemmas.{nodes_keep, nodes_sure}
use Rattle.mcs_listing.proofs.beginning.begin_evaluation.Goals as goal

pub begin_with-requires-clause-one_each : goal.begin_with-requires-clause-one_each
begin_with-requires-clause-one_each c = solvers_each c.args.keep _ _ c.in_ok-solvers.ensures

pub begin_with-requires-clause-own : goal.begin_with-requires-clause-own
begin_with-requires-clause-own c i o is =
    let same = solver_seen c.args.keep _ _ c.in_ok-solvers.ensures i o is in
    (ap (λ (s : OracleState). s.system) same, ap (λ (s : OracleState). s.context) same, ap (λ (s : OracleState). s.journal) same)

pub returns-clause-sure : goal.returns-clause-sure
returns-clause-sure c = IfOk-weaker c.begin_with.result _ _ (λ b is. nodes_sure c.args.keep (arc_value c.args.system.now) c.in_ok-solvers.solvers.items c.in_ok-solvers.ensures b.nodes.list.items is) c.begin_with.ensures.same

pub returns-clause-keeps : goal.returns-clause-keeps
returns-clause-keeps c = IfOk-weaker c.begin_with.result _ _ (λ b is. nodes_keep c.args.keep (arc_value c.args.system.now) c.in_ok-solvers.solvers.items c.in_ok-solvers.ensures b.nodes.list.items is) c.begin_with.ensures.same
