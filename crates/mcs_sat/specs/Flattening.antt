-- A clause that is resolved from others.
use Rattle.std.specs.Prelude.{List, ℤ}
use Rattle.mcs_trace.specs.Clauses.{IsClause}
use Rattle.mcs_trace.specs.Traces.{IsChainResolvent}
use Rattle.mcs_sat.specs.declared.flatten.Flat.{Flat}

-- the literals are a clause, and the chain gives it
pub record IsFlat (known : List (List ℤ)) (f : Flat) : Type 0 where
  pub clause : IsClause f.literals.items
  pub right : IsChainResolvent known f.chain.items f.literals.items
