use Rattle.mcs_reasoning_tests.proofs.solver.learn.Goals as goal

pub learn-number-requires-clause-step : goal.learn-number-requires-clause-step
learn-number-requires-clause-step c = rw (c.analyse.ensures.same) (c.in_ok-step.ensures.step)
