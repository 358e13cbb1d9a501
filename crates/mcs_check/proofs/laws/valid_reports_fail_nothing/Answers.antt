use Rattle.mcs_check.proofs.OneFinding.{valid_fails_nothing}
use Rattle.mcs_check.proofs.laws.valid_reports_fail_nothing.Goals as goal

pub returns : goal.returns
returns c = valid_fails_nothing
