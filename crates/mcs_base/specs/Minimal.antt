-- What a minimal set of a kind is.
use Rattle.std.specs.Prelude.{◌≡◌, ℕ}
use Rattle.mcs_sets.specs.Sets.{Within}

-- no other one lies within it
pub record IsMinimal (P : ℕ → Type 0) (s : ℕ) : Type 0 where
  pub one : P s
  pub least : (t : ℕ) → P t → Within t s → t ≡ s
