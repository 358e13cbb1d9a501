use Rattle.std.proofs.Common.{map, drop}
use Rattle.mcs_system.specs.Seen.{read_of}
use Rattle.mcs_script.proofs.FoundLemmas.{Goes}
use Rattle.mcs_script.proofs.found.find_reads.Given as goal

abbrev pub invariant-loop-read : goal.invariant-loop-read
invariant-loop-read l = Goes (map read_of l.fn.found.items) (map read_of l.reads) (map read_of l.found.items) (map read_of (drop l.read-index l.reads))
