use Rattle.std.proofs.Common.{subst}
use Rattle.mcs_system.specs.Plain.{System}
use Rattle.mcs_check.specs.Judging.{IsJudgedReport}
use Rattle.mcs_check.proofs.checking.checked_in.Goals as goal

pub checked_by-requires-clause-judged : goal.checked_by-requires-clause-judged
checked_by-requires-clause-judged c = (c.args.bytes.now, subst (λ (m : System). IsJudgedReport m c.args.bytes.now c.in-Ok.report) c.deref.ensures c.in-Ok.ensures.read)

pub returns-in-Ok : goal.returns-in-Ok
returns-in-Ok c = c.checked_by.ensures c.args.bytes.now (subst (λ (m : System). IsJudgedReport m c.args.bytes.now c.in-Ok.report) c.deref.ensures c.in-Ok.ensures.read)
