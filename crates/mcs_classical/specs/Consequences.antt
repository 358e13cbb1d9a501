-- What was found to follow from formulas with assumptions, of a list of goals. Goals are told by their places, from 0.
use Rattle.std.specs.Prelude.{◌≡◌, ℕ, ◌<◌, ◌⊎◌, Bool, false, IsTrue, List, ◌++◌, Option, Some, None, slice_get}
use Rattle.std.specs.List.{AllByRecursion, list_any}
use Rattle.mcs_sets.specs.Sets.{has}
use Rattle.mcs_system.specs.Plain.{Name, Formula}
use Rattle.mcs_system.specs.Logic.{holds, Entails}
use Rattle.mcs_system.specs.Systems.{same_formula}
use Rattle.mcs_classical.specs.Assumptions.{assumed}
use Rattle.mcs_classical.specs.declared.assumptions.Assumption as declared
use Rattle.mcs_classical.specs.declared.bounds.Lower as lower
use Rattle.mcs_classical.specs.declared.bounds.Upper as upper
use Rattle.mcs_classical.specs.declared.consequences.Told as told
use Rattle.mcs_classical.specs.declared.consequences.Consequences as consequences

-- the formulas with the assumptions of the set
abbrev pub with_assumed : List Formula → List declared.Assumption → ℕ → List Formula
with_assumed fs assumptions set = fs ++ assumed set assumptions

-- there is a goal at the place, and it follows from the formulas
abbrev pub FollowsAt : List Formula → List Formula → ℕ → Type 0
FollowsAt fs goals k = (p : Formula) × (slice_get goals k ≡ Some p) × Entails fs p

-- the goals at these places follow
abbrev pub DoFollow : List Formula → List Formula → ℕ → Type 0
DoFollow fs goals places = (k : ℕ) → IsTrue (has places k) → FollowsAt fs goals k

-- no other goals follow than those at these places
abbrev pub NoOthersFollow : List Formula → List Formula → ℕ → Type 0
NoOthersFollow fs goals places = (k : ℕ) → FollowsAt fs goals k → IsTrue (has places k)

-- ---- what is kept
abbrev pub IsLowerConsequence : List Formula → List declared.Assumption → List Formula → lower.Lower → Type 0
IsLowerConsequence fs assumptions goals l = DoFollow (with_assumed fs assumptions l.assumed) goals l.entailed

abbrev pub IsUpperConsequence : List Formula → List declared.Assumption → List Formula → upper.Upper → Type 0
IsUpperConsequence fs assumptions goals u = NoOthersFollow (with_assumed fs assumptions u.assumed) goals u.possible

-- all that is kept is right of these formulas, assumptions and goals
pub record AreConsequences (fs : List Formula) (assumptions : List declared.Assumption) (goals : List Formula) (c : consequences.Consequences) : Type 0 where
  pub lower : AllByRecursion (IsLowerConsequence fs assumptions goals) c.lower.items
  pub upper : AllByRecursion (IsUpperConsequence fs assumptions goals) c.upper.items

-- ---- while goals are asked
-- the goals that are told follow, others follow only where they are left, and of the first ones none is left
pub record AreGoalsTold (fs goals : List Formula) (first : ℕ) (t : told.Told) : Type 0 where
  pub follow : DoFollow fs goals t.entailed
  pub others : (k : ℕ) → FollowsAt fs goals k → IsTrue (has t.entailed k) ⊎ IsTrue (has t.left k)
  pub asked : (k : ℕ) → k < first → has t.left k ≡ false

-- the goal at the place follows; or it does not, and no others than those at these places do
abbrev pub IsGoalAnswer : List Formula → List Formula → ℕ → Option ℕ → Type 0
IsGoalAnswer fs goals k None = FollowsAt fs goals k
IsGoalAnswer fs goals k (Some places) = NoOthersFollow fs goals places × (has places k ≡ false)

-- ---- models
-- whether there is a goal, and it holds
abbrev pub holds_there : List Name → Option Formula → Bool
holds_there a None = false
holds_there a (Some p) = holds a p

abbrev pub holds_goal : List Name → List Formula → ℕ → Bool
holds_goal a goals k = holds_there a (slice_get goals k)

-- ---- goals that stand among formulas
-- whether there is a formula, and it is one of these
abbrev pub is_one_of : List Formula → Option Formula → Bool
is_one_of fs None = false
is_one_of fs (Some p) = list_any (same_formula p) fs

abbrev pub stands_at : List Formula → List Formula → ℕ → Bool
stands_at fs goals k = is_one_of fs (slice_get goals k)
