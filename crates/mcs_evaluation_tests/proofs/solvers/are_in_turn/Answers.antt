use Rattle.mcs_evaluation_tests.proofs.solvers.are_in_turn.Goals as goal
