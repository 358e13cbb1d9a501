-- The pairs of literals that clauses watch.
use Rattle.std.specs.Prelude.{ℕ, zero, suc, List, [], ◌∷◌, pos}
use Rattle.mcs_engine.specs.declared.watches.Pair.{Pair}

-- what stands where a clause watches nothing
abbrev pub no_pair : Pair
no_pair = record { first = pos 0; second = pos 0 }

-- so many of them
abbrev pub no_pairs : ℕ → List Pair
no_pairs zero = []
no_pairs (suc n) = no_pair ∷ no_pairs n
