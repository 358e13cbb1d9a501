use Rattle.mcs_sets.specs.Sets.{Within}
use Rattle.mcs_program.specs.Asked.{StaysModel}
use Rattle.mcs_program.proofs.small.made_small.Given as goal

abbrev pub invariant-loop-place : goal.invariant-loop-place
invariant-loop-place l =
    record {
      stays : StaysModel l.placed.program.now l.search l.fn.model l.small;
      within : Within l.small l.fn.model;
    }
