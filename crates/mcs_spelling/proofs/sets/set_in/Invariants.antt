use Rattle.std.proofs.Common.{◌≡◌, drop}
use Rattle.mcs_spelling.specs.Words.{set_from}
use Rattle.mcs_spelling.proofs.sets.set_in.Given as goal

abbrev pub invariant-loop-number : goal.invariant-loop-number
invariant-loop-number l = set_from l.allowed l.number (drop l.number l.texts) l.set l.rest ≡ set_from l.allowed 0 l.texts 0 l.initial.rest
