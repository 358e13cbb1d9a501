-- What a knowledge base accepts, seen through a list of beliefs; and the same through the variables of a context.
use Rattle.std.specs.Prelude.{◌≡◌, ℕ, ◌+◌, cond, IsTrue, ◌↔◌, List, [], ◌∷◌, map, Option, Some, None, slice_get}
use Rattle.mcs_sets.specs.Sets.{has, single, union, members}
use Rattle.mcs_system.specs.Plain.{Formula, Truth, Kb, Read, System}
use Rattle.mcs_system.specs.Logic.{BeliefSet, Believes, Accepts}
use Rattle.mcs_system.specs.Systems.{variables}

-- these are the places, from 0, of the beliefs that the belief set has
abbrev pub Shows : BeliefSet → List Formula → ℕ → Type 0
Shows b beliefs places = (k : ℕ) → IsTrue (has places k) ↔ ((p : Formula) × (slice_get beliefs k ≡ Some p) × Believes b p)

-- the knowledge base accepts a belief set that shows these places of the beliefs
pub record IsAcceptedView (kb : Kb) (beliefs : List Formula) (places : ℕ) : Type 0 where
  pub belief_set : BeliefSet
  pub accepted : Accepts kb belief_set
  pub shown : Shows belief_set beliefs places

-- ---- through variables
abbrev pub belief_of : Option Read → Formula
belief_of None = Truth
belief_of (Some r) = r.belief

-- the belief of the variable of this number
abbrev pub belief_at : System → ℕ → Formula
belief_at m v = belief_of (slice_get (variables m) v)

-- the beliefs of the variables of a set, ascending
abbrev pub beliefs_at : System → ℕ → List Formula
beliefs_at m set = map (belief_at m) (members set)

-- those of the numbers whose places, the first one being k, are in the set
abbrev pub at_places_from : ℕ → List ℕ → ℕ → ℕ
at_places_from k [] places = 0
at_places_from k (v ∷ vs) places = cond (has places k) (union (single v) (at_places_from (k + 1) vs places)) (at_places_from (k + 1) vs places)

-- the members of the set that stand at these places, counted from 0
abbrev pub at_places : ℕ → ℕ → ℕ
at_places set places = at_places_from 0 (members set) places
