-- Rules of which each one is there once.
use Rattle.std.specs.Prelude.{◌≡◌, List}
use Rattle.std.specs.List.{AllByRecursion}
use Rattle.mcs_base.specs.Listings.{IsAmong}
use Rattle.mcs_system.specs.Plain.{Name, ProgramRule}
use Rattle.mcs_system.specs.Logic.{is_in}

-- the two lists have the same names
abbrev pub AreAlike : List Name → List Name → Type 0
AreAlike these those = (n : Name) → is_in n these ≡ is_in n those

-- the two rules have the same atoms in their heads, and in their positive and negative bodies
pub record AreTwins (r s : ProgramRule) : Type 0 where
  pub head : AreAlike r.head s.head
  pub positive : AreAlike r.pos s.pos
  pub negative : AreAlike r.neg s.neg

abbrev pub HasTwin : List ProgramRule → ProgramRule → Type 0
HasTwin once r = (s : ProgramRule) × IsAmong s once × AreTwins r s

-- they are of the rules, and each of the rules has a twin among them
pub record IsOnce (rules once : List ProgramRule) : Type 0 where
  pub within : AllByRecursion (λ r. IsAmong r rules) once
  pub twins : AllByRecursion (HasTwin once) rules
