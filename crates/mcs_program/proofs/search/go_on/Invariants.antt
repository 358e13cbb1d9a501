use Rattle.mcs_program.specs.Asked.{search_left, IsSearchFor}
use Rattle.mcs_program.proofs.search.go_on.Given as goal

abbrev pub invariant-loop-search : goal.invariant-loop-search
invariant-loop-search l = IsSearchFor l.placed.program.now l.search

abbrev pub decreases-loop-search : goal.decreases-loop-search
decreases-loop-search l = search_left l.placed.program.now l.search
