use Rattle.std.proofs.Common.{◌≡◌, [], drop}
use Rattle.mcs_spelling.specs.Words.{numbers_from}
use Rattle.mcs_spelling.proofs.digits.read_numbers.Given as goal

abbrev pub invariant-loop-byte : goal.invariant-loop-byte
invariant-loop-byte l = numbers_from l.numbers.items l.number (drop l.byte-index l.bytes) ≡ numbers_from [] 0 l.bytes
