use Rattle.std.proofs.Common.{◌≡◌, map, take}
use Rattle.mcs_search.specs.Numbering.{number_now}
use Rattle.mcs_search.proofs.trace.renumbered.Given as goal

abbrev pub invariant-loop-number : goal.invariant-loop-number
invariant-loop-number l = l.renumbered.items ≡ map (number_now l.numbers) (take l.number-index l.chain)
