use Rattle.std.proofs.Common.{◌≡◌, ◌∷◌, ◌++◌, drop}
use Rattle.mcs_session.specs.Tables.{head_numbers}
use Rattle.mcs_session.proofs.words.Words.numbers.Given as goal

-- with those of the heads that are still to come the numbers are all
abbrev pub invariant-loop-head : goal.invariant-loop-head
invariant-loop-head l = l.numbers.items ++ head_numbers l.active (drop l.head-index l.head-items) ≡ l.self.beliefs ∷ head_numbers l.active l.self.heads.items
