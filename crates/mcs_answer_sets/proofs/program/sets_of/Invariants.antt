use Rattle.std.proofs.Common.{◌≡◌, take}
use Rattle.std.specs.List.{AllByRecursion}
use Rattle.mcs_evidence.specs.Programs.{IsInRange}
use Rattle.mcs_answer_sets.proofs.program.sets_of.Given as goal

abbrev pub invariant-loop-number : goal.invariant-loop-number
invariant-loop-number l = record {
  same : l.sets.items ≡ take l.number-index l.numbers;
  in_range : AllByRecursion (IsInRange l.atoms) (take l.number-index l.numbers);
}
