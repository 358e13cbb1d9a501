use Rattle.std.proofs.Common.{take}
use Rattle.std.specs.List.{AllByRecursion}
use Rattle.mcs_program.proofs.TightLemmas.{RestsOn}
use Rattle.mcs_program.proofs.tight.based_on.Given as goal

abbrev pub invariant-loop-rule : goal.invariant-loop-rule
invariant-loop-rule l = AllByRecursion (RestsOn l.set l.based) (take l.rule-index l.rules)
