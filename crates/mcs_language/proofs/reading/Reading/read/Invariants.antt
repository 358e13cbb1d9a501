use Rattle.std.proofs.Common.{◌≤◌, ◌-◌, length}
use Rattle.mcs_language.proofs.SpanLemmas.{AreReadBefore}
use Rattle.mcs_language.proofs.reading.Reading.read.Given as goal

abbrev pub invariant-loop-alloc : goal.invariant-loop-alloc
invariant-loop-alloc l = record {
  inside : l.at ≤ length l.bytes;
  before : AreReadBefore l.bytes l.self l.at;
}

abbrev pub decreases-loop-alloc : goal.decreases-loop-alloc
decreases-loop-alloc l = length l.bytes - l.at
