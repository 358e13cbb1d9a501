-- First states that were told.
use Rattle.std.specs.Prelude.{◌≡◌, ◌⊎◌, ℕ, List, [], ◌∷◌, ◌++◌, Some, slice_get}
use Rattle.std.specs.List.{AllByRecursion}
use Rattle.mcs_system.specs.Plain.{System}
use Rattle.mcs_states.specs.First.{IsFirstState}
use Rattle.mcs_recall.specs.declared.shown.Shown as code

-- each is the first state of the system that its pair changes
abbrev pub AreShown : System → List code.Shown → Type 0
AreShown m shown = AllByRecursion (λ s. IsFirstState m s.pair s.state) shown

-- the list has a state of this pair there
pub record IsShownAt (shown : List code.Shown) (pair place : ℕ) : Type 0 where
  pub one : code.Shown
  pub is_there : slice_get shown place ≡ Some one
  pub same : one.pair ≡ pair

-- the state was added to the list, or this stayed as it was
abbrev pub IsKept : code.Shown → List code.Shown → List code.Shown → Type 0
IsKept one before after = (after ≡ before ++ one ∷ []) ⊎ (after ≡ before)
