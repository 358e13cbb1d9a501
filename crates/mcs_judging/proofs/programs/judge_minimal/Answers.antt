use Rattle.mcs_steps.proofs.Judged.{judges_same}
use Rattle.mcs_judging.specs.Programs.{Refutes}
use Rattle.mcs_judging.proofs.programs.judge_minimal.Goals as goal

pub returns : goal.returns
returns c = judges_same (Refutes c.in_ok-clauses.clauses) _ c.judge_refutation-judged.result _ _ c.in_ok-clauses.ensures c.judge_refutation-judged.ensures
