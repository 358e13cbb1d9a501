use Rattle.mcs_steps.proofs.Judged.{judges_same}
use Rattle.mcs_judging.proofs.ProgramLemmas.{refutes_some, refutes_none}
use Rattle.mcs_judging.proofs.programs.judge_refutation.Goals as goal

pub returns-in-Some : goal.returns-in-Some
returns-in-Some c = judges_same _ _ c.judge_trace.result _ _ (refutes_some c.args.clauses.now c.in-Some.known c.in-Some.is) c.judge_trace.ensures

pub returns-in-Ok : goal.returns-in-Ok
returns-in-Ok c = refutes_none c.args.clauses.now c.in-None.is c.pass_trace.new.lines _ c.in-Ok.ensures
