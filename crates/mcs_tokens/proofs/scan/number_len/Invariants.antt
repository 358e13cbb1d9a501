use Rattle.std.proofs.Common.{IsTrue, take}
use Rattle.std.specs.Char.{is_ascii_digit}
use Rattle.std.specs.List.{list_all}
use Rattle.mcs_tokens.proofs.scan.number_len.Given as goal

abbrev pub invariant-loop-k : goal.invariant-loop-k
invariant-loop-k l = IsTrue (list_all is_ascii_digit (take l.k l.text))
