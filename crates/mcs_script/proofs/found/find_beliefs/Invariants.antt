use Rattle.std.proofs.Common.{map, drop}
use Rattle.std.specs.List.{flat_map}
use Rattle.mcs_system.specs.Gathered.{belief_atoms}
use Rattle.mcs_system.specs.Seen.{read_of}
use Rattle.mcs_script.proofs.FoundLemmas.{Goes}
use Rattle.mcs_script.proofs.found.find_beliefs.Given as goal

abbrev pub invariant-loop-read : goal.invariant-loop-read
invariant-loop-read l = Goes l.fn.found.items (flat_map (belief_atoms l.context) (map read_of l.reads)) l.found.items (flat_map (belief_atoms l.context) (map read_of (drop l.read-index l.reads)))
