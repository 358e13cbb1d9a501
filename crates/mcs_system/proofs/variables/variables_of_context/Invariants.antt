use Rattle.std.proofs.Common.{map, drop, []}
use Rattle.mcs_system.specs.declared.limit.Limit.TheVariants.{Variables}
use Rattle.mcs_system.specs.Gathered.{reads_in}
use Rattle.mcs_system.specs.Seen.{read_of, system_of}
use Rattle.mcs_system.specs.Systems.{same_read, occurrences}
use Rattle.mcs_system.proofs.GatherLemmas.{Goes}
use Rattle.mcs_system.proofs.variables.variables_of_context.Given as goal

abbrev pub invariant-loop-bridge : goal.invariant-loop-bridge
invariant-loop-bridge l =
    Goes Variables same_read [] (reads_in l.context (occurrences (system_of [] l.bridges))) (map read_of l.found.items) (reads_in l.context (occurrences (system_of [] (drop l.bridge-index l.bridges))))
