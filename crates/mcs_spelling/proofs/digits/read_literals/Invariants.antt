use Rattle.std.proofs.Common.{◌≡◌, ◌<◌, ◌^◌, [], false, drop}
use Rattle.mcs_spelling.specs.Words.{literals_before}
use Rattle.mcs_spelling.proofs.digits.read_literals.Given as goal

abbrev pub invariant-loop-byte : goal.invariant-loop-byte
invariant-loop-byte l = record {
  rest : literals_before l.literals.items l.size l.is_negative (drop l.byte-index l.bytes) ≡ literals_before [] 0 false l.bytes;
  fits : l.size < 2 ^ 63;
}
