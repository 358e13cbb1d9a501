use Rattle.std.proofs.Common.{IsTrue, take}
use Rattle.std.specs.List.{list_all}
use Rattle.mcs_base.specs.Words.{is_word_byte}
use Rattle.mcs_tokens.proofs.scan.word_len.Given as goal

abbrev pub invariant-loop-k : goal.invariant-loop-k
invariant-loop-k l = IsTrue (list_all is_word_byte (take l.k l.text))
