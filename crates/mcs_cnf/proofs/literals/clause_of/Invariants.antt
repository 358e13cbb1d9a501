use Rattle.std.proofs.Common.{take}
use Rattle.mcs_base.specs.Listings.{IsAmong, IsListing}
use Rattle.mcs_trace.specs.Clauses.{LiteralBefore}
use Rattle.mcs_cnf.proofs.literals.clause_of.Given as goal

abbrev pub invariant-loop-literal : goal.invariant-loop-literal
invariant-loop-literal l = IsListing (λ k. IsAmong k (take l.literal-index l.lits)) LiteralBefore l.clause
