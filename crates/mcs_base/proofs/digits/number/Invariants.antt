use Rattle.std.proofs.Common.{◌≡◌, drop}
use Rattle.std.specs.List.{AllByRecursion}
use Rattle.mcs_base.specs.Numbers.{IsDigit, value_of_digits}
use Rattle.mcs_base.proofs.NumberLemmas.{value_after}
use Rattle.mcs_base.proofs.digits.number.Given as goal

-- the digits that are left make the whole number of what is read, and are digits where all are
abbrev pub invariant-loop-byte : goal.invariant-loop-byte
invariant-loop-byte l = record {
  value : value_after l.n (drop l.byte-index l.bytes) ≡ value_of_digits l.bytes;
  all : AllByRecursion IsDigit (drop l.byte-index l.bytes) → AllByRecursion IsDigit l.bytes;
  left : AllByRecursion IsDigit l.bytes → AllByRecursion IsDigit (drop l.byte-index l.bytes);
}
