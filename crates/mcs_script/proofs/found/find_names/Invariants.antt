use Rattle.std.proofs.Common.{drop}
use Rattle.mcs_script.proofs.FoundLemmas.{Goes}
use Rattle.mcs_script.proofs.found.find_names.Given as goal

abbrev pub invariant-loop-name : goal.invariant-loop-name
invariant-loop-name l = Goes l.fn.found.items l.names l.found.items (drop l.name-index l.names)
