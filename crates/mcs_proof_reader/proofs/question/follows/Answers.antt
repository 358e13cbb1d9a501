use Rattle.std.proofs.Common.{sym, ap, ◌∙◌}
use Rattle.mcs_proof_reader.specs.Questions.{state_after}
use Rattle.mcs_proof_reader.proofs.StateTests.{tested}
use Rattle.mcs_proof_reader.proofs.question.follows.Goals as goal

pub returns-in-Some : goal.returns-in-Some
returns-in-Some c = tested c.in-Some.before c.args.state c.state_before.result c.state_before.ensures ∙ sym (ap (λ o. state_after o c.args.state) c.in-Some.is)
