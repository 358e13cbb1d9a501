use Rattle.std.proofs.Common.{rules}
use Rattle.mcs_check.proofs.finding.finding_line.Goals as goal

pub returns-in_err-push_number-in-Fails-clause-err : goal.returns-in_err-push_number-in-Fails-clause-err
returns-in_err-push_number-in-Fails-clause-err c = search rules

pub returns-in_err-push-in-Fails-2-clause-err : goal.returns-in_err-push-in-Fails-2-clause-err
returns-in_err-push-in-Fails-2-clause-err c = search rules

pub returns-in_err-push-in-Fails-3-clause-err : goal.returns-in_err-push-in-Fails-3-clause-err
returns-in_err-push-in-Fails-3-clause-err c = search rules

pub returns-in_err-push-in-Fails-4-clause-err : goal.returns-in_err-push-in-Fails-4-clause-err
returns-in_err-push-in-Fails-4-clause-err c = search rules

pub returns-in_ok-push-in-Fails-4-clause-err : goal.returns-in_ok-push-in-Fails-4-clause-err
returns-in_ok-push-in-Fails-4-clause-err c = search rules
