-- Lists of sets of which none lies within another.
use Rattle.std.specs.Prelude.{ℕ, List, [], ◌∷◌, Bool, not, nat_eq, filter}
use Rattle.std.specs.List.{AllByRecursion}
use Rattle.mcs_sets.specs.Sets.{common, Within}
use Rattle.mcs_base.specs.Listings.{IsAmong}

-- no set of the list lies within another one of it
abbrev pub IsAntichain : List ℕ → Type 0
IsAntichain [] = Unit {0}
IsAntichain (x ∷ xs) = AllByRecursion (λ y. (¬ Within x y) × (¬ Within y x)) xs × IsAntichain xs

-- some set of the list lies within the set
pub record HasOneWithin (xs : List ℕ) (m : ℕ) : Type 0 where
  pub inner : ℕ
  pub among : IsAmong inner xs
  pub within : Within inner m

-- whether each member of a is in b, as a test: what they have in common is a
abbrev pub lies_within : ℕ → ℕ → Bool
lies_within a b = nat_eq (common a b) a

-- the sets of the list that do not contain m, in their order
abbrev pub not_containing : ℕ → List ℕ → List ℕ
not_containing m xs = filter (λ x. not (lies_within m x)) xs

-- what an antichain of sets stands for: its members in their order, and how many more there is room for
pub record SpareAntichain : Type 0 where
  pub members : List ℕ
  pub spare : ℕ
