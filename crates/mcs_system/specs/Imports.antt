-- Which context imports which, in what order they are asked, and what they are asked.
use Rattle.std.specs.Prelude.{◌≡◌, ℕ, ◌<◌, ◌≤◌, nat_eq, cond, Bool, false, ◌&&◌, IsTrue, List, [], ◌∷◌, ◌++◌, filter, length, reverse, ◌⊎◌, slice_get, Some, None, Option}
use Rattle.std.specs.List.{list_any}
use Rattle.mcs_sets.specs.Sets.{common, minus, such_that, size, Within}
use Rattle.mcs_system.specs.Plain.{Read, Bridge, System}
use Rattle.mcs_system.specs.Systems.{variables_of, all_variables, IsAcceptedPart, applicable}
use Rattle.mcs_system.specs.Repairs.{marks_of, allowed_marks}
use Rattle.mcs_base.specs.Listings.{IsAmong}

-- some rule into i reads a belief of j
abbrev pub imports : System → ℕ → ℕ → Bool
imports m i j = list_any (λ (b : Bridge). nat_eq b.target i && list_any (λ (r : Read). nat_eq r.context j) (b.pos ++ b.neg)) m.bridges

-- through imports
pub data Reaches (m : System) : ℕ → ℕ → Type 0 where
  directly : (i j : ℕ) → IsTrue (imports m i j) → Reaches m i j
  through : (i j l : ℕ) → IsTrue (imports m i j) → Reaches m j l → Reaches m i l

-- an untaken context such that each untaken context that it reaches reaches it too
pub record IsReadyContext (m : System) (taken : List ℕ) (i : ℕ) : Type 0 where
  pub in_range : i < length m.contexts
  pub untaken : ¬ IsAmong i taken
  pub back : (j : ℕ) → j < length m.contexts → ¬ IsAmong j taken → Reaches m i j → Reaches m j i

-- the lowest-numbered such one
pub record IsNextInOrder (m : System) (taken : List ℕ) (i : ℕ) : Type 0 where
  pub ready : IsReadyContext m taken i
  pub lowest : (j : ℕ) → IsReadyContext m taken j → i ≤ j

-- the contexts in the order in which they are taken, after those that were taken before
abbrev pub FollowsOrder : System → List ℕ → List ℕ → Type 0
FollowsOrder m taken [] = (i : ℕ) → i < length m.contexts → IsAmong i taken
FollowsOrder m taken (i ∷ rest) = IsNextInOrder m taken i × FollowsOrder m (taken ++ i ∷ []) rest

abbrev pub IsImportOrder : System → List ℕ → Type 0
IsImportOrder m order = FollowsOrder m [] order

-- what stands before i in the list
abbrev pub before_in : List ℕ → ℕ → List ℕ
before_in [] i = []
before_in (j ∷ js) i = cond (nat_eq j i) [] (j ∷ before_in js i)

-- the imported contexts of i that stand before i, in the order
abbrev pub supplied : System → List ℕ → ℕ → List ℕ
supplied m order i = filter (imports m i) (before_in order i)

abbrev pub goes_into : ℕ → Option Bridge → Bool
goes_into i None = false
goes_into i (Some b) = nat_eq b.target i

-- the rules into i
unfoldable pub rules_into : System → ℕ → ℕ
rules_into m i = such_that (length m.bridges) (λ k. goes_into i (slice_get m.bridges k))

-- the marks at i of the rules x into i in σ: those that apply and are not in x, and those of x that do not apply
abbrev pub marks_at : System → ℕ → ℕ → ℕ → ℕ
marks_at m i σ x = marks_of m (minus (common (applicable m σ) (rules_into m i)) x) (minus x (common (applicable m σ) (rules_into m i)))

-- x is a question to i, where `earlier` are the contexts that stand before i, and poss j holds of what j may supply
pub record IsQuestionAfter (m : System) (level : ℕ) (earlier : List ℕ) (poss : ℕ → ℕ → Type 0) (i x : ℕ) : Type 0 where
  pub of_rules : Within x (rules_into m i)
  pub state : ℕ
  pub of_variables : Within state (all_variables m)
  pub supplies : (j : ℕ) → IsAmong j earlier → IsTrue (imports m i j) → poss j (common state (variables_of m j))
  pub allowed : Within (marks_at m i state x) (allowed_marks m)
  pub near : size (marks_at m i state x) ≤ level

-- what j may supply, where the list has j and the contexts before it, the last one first
abbrev pub IsPossibleFrom : System → ℕ → List ℕ → ℕ → ℕ → Type 0
IsPossibleFrom m level [] j τ = ⊥
IsPossibleFrom m level (c ∷ cs) j τ =
    ((c ≡ j) × ((x : ℕ) × IsQuestionAfter m level cs (IsPossibleFrom m level cs) j x × IsAcceptedPart m j x τ))
    ⊎ ((¬ (c ≡ j)) × IsPossibleFrom m level cs j τ)

-- the set x of rules is a question of the level to context i
abbrev pub IsQuestion : System → List ℕ → ℕ → ℕ → ℕ → Type 0
IsQuestion m order level i x = IsQuestionAfter m level (reverse (before_in order i)) (IsPossibleFrom m level (reverse (before_in order i))) i x

-- τ may be supplied by context j at the level
abbrev pub IsPossible : System → List ℕ → ℕ → ℕ → ℕ → Type 0
IsPossible m order level j τ = (x : ℕ) × IsQuestion m order level j x × IsAcceptedPart m j x τ
