-- The questions to which a part is accepted, and what has to be changed least to come to one of them.
use Rattle.std.specs.Prelude.{◌≡◌, ℕ, ◌↔◌, ◌⊎◌, true, List}
use Rattle.std.specs.List.{AllByRecursion}
use Rattle.mcs_sets.specs.Sets.{common, minus, union, Within}
use Rattle.mcs_base.specs.Listings.{IsAmong}
use Rattle.mcs_system.specs.Plain.{System}
use Rattle.mcs_system.specs.Imports.{marks_at, rules_into}
use Rattle.mcs_system.specs.Systems.{applicable}
use Rattle.mcs_table.specs.declared.row.Row.{Row}
use Rattle.mcs_rows.specs.Making.{agrees, row_with, is_in_reach}
use Rattle.mcs_rows.specs.Reach.{IsReach}
use Rattle.mcs_rows.specs.declared.answer.Answer as code
use Rattle.mcs_rows.specs.declared.local.Reach as reach
use Rattle.mcs_rows.specs.declared.nearest.Supported as supported
use Rattle.mcs_rows.specs.declared.nearest.Near as near

-- ---- parts with their questions
-- one of the answers says that the part is accepted to the question
pub record IsAnswered (answers : List code.Answer) (τ x : ℕ) : Type 0 where
  pub answer : code.Answer
  pub among : IsAmong answer answers
  pub active : answer.active ≡ x
  pub part : IsAmong τ answer.parts.items

-- so one of these says
pub record IsSupported (all : List supported.Supported) (τ x : ℕ) : Type 0 where
  pub one : supported.Supported
  pub among : IsAmong one all
  pub part : one.part ≡ τ
  pub question : IsAmong x one.questions.items

-- they say the same
abbrev pub AreSupported : List code.Answer → List supported.Supported → Type 0
AreSupported answers all = (τ x : ℕ) → IsSupported all τ x ↔ IsAnswered answers τ x

-- its questions are sets of rules into context i
abbrev pub AreOfRules : System → ℕ → supported.Supported → Type 0
AreOfRules m i one = AllByRecursion (λ x. Within x (rules_into m i)) one.questions.items

-- ---- changes
-- the rules that have to be changed where those of a apply, so that those of x act
abbrev pub changed : ℕ → ℕ → ℕ
changed a x = union (minus a x) (minus x a)

-- these rules into context i apply in the state, and this is what is in reach
pub record AppliesAt (m : System) (i state applying : ℕ) (r : reach.Reach) : Type 0 where
  pub applies : applying ≡ common (applicable m state) (rules_into m i)
  pub reach : IsReach m r

-- the question x can be come to in the state
abbrev pub CanReach : System → ℕ → ℕ → reach.Reach → ℕ → Type 0
CanReach m i state r x = is_in_reach m i r.level r.known.now state x ≡ true

-- the changes and marks that it takes
pub record IsNear (m : System) (i state : ℕ) (r : reach.Reach) (applying x : ℕ) (n : near.Near) : Type 0 where
  pub can : CanReach m i state r x
  pub changes : n.changes ≡ changed applying x
  pub marks : n.marks ≡ marks_at m i state x

-- the changes of one of these lie within the rules
pub record HasNearWithin (found : List near.Near) (rules : ℕ) : Type 0 where
  pub one : near.Near
  pub among : IsAmong one found
  pub within : Within one.changes rules

-- what it takes to come to x is added if x is in reach; for what goes something smaller is there
pub record AddsNear (m : System) (i state : ℕ) (r : reach.Reach) (applying x : ℕ) (old new : List near.Near) : Type 0 where
  pub from : (n : near.Near) → IsAmong n new → IsAmong n old ⊎ IsNear m i state r applying x n
  pub kept : (n : near.Near) → IsAmong n old → HasNearWithin new n.changes
  pub below : CanReach m i state r x → HasNearWithin new (changed applying x)

-- what is found is what it takes to come to some of the questions, and what it takes to come to any that is in reach has something of it within
pub record AreNearest (m : System) (i state : ℕ) (r : reach.Reach) (applying : ℕ) (questions : List ℕ) (found : List near.Near) : Type 0 where
  pub from : (n : near.Near) → IsAmong n found → (x : ℕ) × IsAmong x questions × IsNear m i state r applying x n
  pub below : (x : ℕ) → IsAmong x questions → CanReach m i state r x → HasNearWithin found (changed applying x)

-- ---- rows
-- the row of the state with the part and what it takes to come to one of its questions, which is in reach
pub record IsRowWith (m : System) (i level : ℕ) (known : List ℕ) (state : ℕ) (one : supported.Supported) (r : Row) : Type 0 where
  pub agree : agrees m i state one.part ≡ true
  pub question : ℕ
  pub among : IsAmong question one.questions.items
  pub can : is_in_reach m i level known state question ≡ true
  pub is : r ≡ row_with m i state (marks_at m i state question) one.part

-- so it is with one of them
pub record IsRowOfOne (m : System) (i level : ℕ) (known : List ℕ) (state : ℕ) (all : List supported.Supported) (r : Row) : Type 0 where
  pub one : supported.Supported
  pub among : IsAmong one all
  pub row : IsRowWith m i level known state one r

-- and in one of the states
pub record IsRowIn (m : System) (i level : ℕ) (known states : List ℕ) (all : List supported.Supported) (r : Row) : Type 0 where
  pub state : ℕ
  pub among : IsAmong state states
  pub row : IsRowOfOne m i level known state all r
