use Rattle.std.proofs.Common.{◌≡◌, take}
use Rattle.mcs_account.specs.Account.{account_in}
use Rattle.mcs_account.specs.Images.{account_of, names_of}
use Rattle.mcs_account.proofs.account.Account.of_contexts.Given as goal

abbrev pub invariant-loop-context : goal.invariant-loop-context
invariant-loop-context l = account_of l.account ≡ account_in (names_of (take l.context-index l.contexts))
