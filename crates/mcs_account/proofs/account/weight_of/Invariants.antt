use Rattle.std.proofs.Common.{◌≡◌, ◌≤◌, drop}
use Rattle.std.specs.Prelude.{min}
use Rattle.mcs_base.proofs.NumberLemmas.{value_after}
use Rattle.mcs_account.specs.Account.{greatest_number, weight_of}
use Rattle.mcs_account.proofs.account.weight_of.Given as goal

-- the digits that are left make the whole weight of what is read
abbrev pub invariant-loop-digit : goal.invariant-loop-digit
invariant-loop-digit l = record {
  fits : l.weight ≤ greatest_number;
  whole : min (value_after l.weight (drop l.digit-index l.digits)) greatest_number ≡ weight_of l.digits;
}
