use Rattle.mcs_base.specs.Listings.{IsListing}
use Rattle.mcs_trace.specs.Clauses.{LiteralBefore}
use Rattle.mcs_engine.specs.Marking.{IsOfMarks}
use Rattle.mcs_engine.proofs.marks.clause_of.Given as goal

abbrev pub invariant-loop-place : goal.invariant-loop-place
invariant-loop-place l = IsListing (IsOfMarks l.trail.entries.items l.marks l.place) LiteralBefore l.clause
