-- Transversals of a hypergraph (Berge 1989): its edges are sets of marks, and so are its transversals.
use Rattle.std.specs.Prelude.{◌≡◌, ℕ, List}
use Rattle.std.specs.List.{AllByRecursion}
use Rattle.mcs_sets.specs.Sets.{single, common, Meets}

-- the set meets each edge
abbrev pub IsTransversalOf : List ℕ → ℕ → Type 0
IsTransversalOf edges t = AllByRecursion (λ e. Meets t e) edges

-- what the edge and the set have in common is this mark alone
abbrev pub MeetAloneAt : ℕ → ℕ → ℕ → Type 0
MeetAloneAt e t k = common e t ≡ single k
