-- States that are put together of what others supply, and what is asked for them.
use Rattle.std.specs.Prelude.{◌≡◌, ℕ, ◌≤◌, List, [], ◌∷◌, ◌⊎◌}
use Rattle.mcs_sets.specs.Sets.{common, union, single, size, Within}
use Rattle.mcs_base.specs.Listings.{IsAmong}
use Rattle.mcs_system.specs.Plain.{System}
use Rattle.mcs_system.specs.Imports.{rules_into, marks_at}
use Rattle.mcs_system.specs.Repairs.{allowed_marks}
use Rattle.mcs_system.specs.Rows.{inputs_of}

-- from a, with one of each list as far as it is within the mask, comes the state ρ
abbrev pub Joins : ℕ → List (List ℕ) → ℕ → ℕ → Type 0
Joins mask [] a ρ = a ≡ ρ
Joins mask (xs ∷ xss) a ρ = (τ : ℕ) × IsAmong τ xs × Joins mask xss (union a (common τ mask)) ρ

-- from a, with some of the numbers, comes the set s
abbrev pub GrowsByGuess : List ℕ → ℕ → ℕ → Type 0
GrowsByGuess [] a s = a ≡ s
GrowsByGuess (v ∷ vs) a s = GrowsByGuess vs a s ⊎ GrowsByGuess vs (union a (single v)) s

-- from one of the list
abbrev pub SomeJoins : ℕ → List (List ℕ) → List ℕ → ℕ → Type 0
SomeJoins mask xss starts ρ = (a : ℕ) × IsAmong a starts × Joins mask xss a ρ

abbrev pub SomeGrows : List ℕ → List ℕ → ℕ → Type 0
SomeGrows vs starts s = (a : ℕ) × IsAmong a starts × GrowsByGuess vs a s

-- x is a set of the rules into i that few changes, each of them allowed, make of those that apply in a state, which is joined of the lists and grown by some of the guesses
pub record IsAskedInState (m : System) (i : ℕ) (xss : List (List ℕ)) (guesses level x : ℕ) : Type 0 where
  pub of_rules : Within x (rules_into m i)
  pub joined : ℕ
  pub is_joined : Joins (inputs_of m i) xss 0 joined
  pub guess : ℕ
  pub of_guesses : Within guess guesses
  pub allowed : Within (marks_at m i (union joined guess) x) (allowed_marks m)
  pub near : size (marks_at m i (union joined guess) x) ≤ level
