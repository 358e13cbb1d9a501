use Rattle.std.proofs.Common.{◌≡◌, ◌≤◌, ◌++◌, map, length}
use Rattle.mcs_system.specs.Seen.{read_of}
use Rattle.mcs_system.proofs.VariableLemmas.{variables_from}
use Rattle.mcs_system.proofs.variables.variables_of.Given as goal

abbrev pub invariant-loop-context : goal.invariant-loop-context
invariant-loop-context l =
    record {
      found : map read_of l.variables.items ++ variables_from l.contexts l.bridges l.context ≡ variables_from l.contexts l.bridges 0;
      few : length l.variables.items ≤ 64;
    }
