use Rattle.std.proofs.Common.{◌≡◌, ◌+◌, drop}
use Rattle.std.specs.Prelude.{min}
use Rattle.std.specs.List.{position_or_len}
use Rattle.mcs_system.specs.Logic.{same_name}
use Rattle.mcs_account.specs.Account.{greatest_number}
use Rattle.mcs_account.proofs.AccountLemmas.{names_of_code}
use Rattle.mcs_account.proofs.account.Account.number_of.Given as goal

abbrev pub invariant-loop-context : goal.invariant-loop-context
invariant-loop-context l = record {
  counted : l.number ≡ min l.context-index greatest_number;
  same : position_or_len (same_name l.name) (names_of_code l.context-items) ≡ l.context-index + position_or_len (same_name l.name) (drop l.context-index (names_of_code l.context-items));
}
