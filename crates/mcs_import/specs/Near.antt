-- Sets of rules that come of others by changes that are allowed: a rule that may be removed goes, or one that may be forced comes.
use Rattle.std.specs.Prelude.{◌≡◌, ℕ, ◌+◌, ◌≤◌, IsTrue, List, ◌⊎◌}
use Rattle.mcs_sets.specs.Sets.{has, common, union, minus, single, size, Within}
use Rattle.mcs_base.specs.Listings.{IsAmong}

-- x is a set of the rules: what it lacks of one of the list may all be removed, what it has beside that may all be forced, and both together are at most so many
pub record IsNear (rules removable forcible : ℕ) (sets : List ℕ) (level x : ℕ) : Type 0 where
  pub of_rules : Within x rules
  pub set : ℕ
  pub listed : IsAmong set sets
  pub removed : Within (minus set x) removable
  pub forced : Within (minus x set) forcible
  pub near : size (minus set x) + size (minus x set) ≤ level

-- x is what the change makes with one of the rules
abbrev pub IsMadeBy : (ℕ → ℕ) → ℕ → ℕ → Type 0
IsMadeBy change rules x = (r : ℕ) × IsTrue (has rules r) × (x ≡ change r)

-- x comes of s by one change
abbrev pub IsChanged : ℕ → ℕ → ℕ → ℕ → Type 0
IsChanged removable forcible s x = IsMadeBy (λ r. minus s (single r)) (common s removable) x ⊎ IsMadeBy (λ r. union s (single r)) (minus forcible s) x

-- x comes of one of the sets by one change, and was not reached
abbrev pub IsNextNear : ℕ → ℕ → List ℕ → List ℕ → ℕ → Type 0
IsNextNear removable forcible sets reached x = (s : ℕ) × IsAmong s sets × IsChanged removable forcible s x × (¬ IsAmong x reached)
