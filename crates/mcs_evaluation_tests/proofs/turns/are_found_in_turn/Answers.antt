use Rattle.mcs_evaluation_tests.proofs.turns.are_found_in_turn.Goals as goal

pub loop-number-init : goal.loop-number-init
loop-number-init c = c.in_ok-base.ensures c.args.assumptions.now
