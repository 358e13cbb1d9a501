use Rattle.std.proofs.Common.{◌≡◌, ◌-◌, [], length}
use Rattle.mcs_search.specs.Parts.{IsPartState}
use Rattle.mcs_engine.specs.Stores.{IsLater}
use Rattle.mcs_search.proofs.part.adopt.Given as goal

abbrev pub invariant-loop-alloc : goal.invariant-loop-alloc
invariant-loop-alloc l = record {
  later : IsLater l.fn.state l.state;
  base : l.state.levels.items ≡ [];
  part : IsPartState l.state l.part l.numbers.items;
}

abbrev pub decreases-loop-alloc : goal.decreases-loop-alloc
decreases-loop-alloc l = length l.part.clauses - length l.numbers.items
