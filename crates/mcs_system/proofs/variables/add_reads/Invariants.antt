use Rattle.std.proofs.Common.{map, drop}
use Rattle.mcs_system.specs.declared.limit.Limit.TheVariants.{Variables}
use Rattle.mcs_system.specs.Gathered.{reads_in}
use Rattle.mcs_system.specs.Seen.{read_of}
use Rattle.mcs_system.specs.Systems.{same_read}
use Rattle.mcs_system.proofs.GatherLemmas.{Goes}
use Rattle.mcs_system.proofs.variables.add_reads.Given as goal

abbrev pub invariant-loop-read : goal.invariant-loop-read
invariant-loop-read l = Goes Variables same_read (map read_of l.fn.found.items) (reads_in l.context (map read_of l.reads)) (map read_of l.found.items) (reads_in l.context (map read_of (drop l.read-index l.reads)))
