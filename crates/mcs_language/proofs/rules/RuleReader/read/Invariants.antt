use Rattle.std.proofs.Common.{◌≤◌, ◌-◌, length}
use Rattle.mcs_language.specs.Rules.{IsReadFrom}
use Rattle.mcs_language.proofs.rules.RuleReader.read.Given as goal

abbrev pub invariant-loop-alloc : goal.invariant-loop-alloc
invariant-loop-alloc l = record {
  inside : l.at ≤ length l.bytes;
  read : IsReadFrom l.fn.self l.bytes l.fn.at l.reader l.at;
}

abbrev pub decreases-loop-alloc : goal.decreases-loop-alloc
decreases-loop-alloc l = length l.bytes - l.at
