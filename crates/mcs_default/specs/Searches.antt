-- What is known of a default theory while its extensions are searched, and what a search answers.
use Rattle.std.specs.Prelude.{◌≡◌, ℕ, ◌≤◌, true, false, IsTrue, List, [], length, Option, Some, None}
use Rattle.std.specs.List.{AllByRecursion}
use Rattle.mcs_sets.specs.Sets.{has, Within}
use Rattle.mcs_system.specs.Plain.{Name, Formula, Falsity, Not, Default, Item}
use Rattle.mcs_system.specs.Logic.{Theory, Entails, holds_all, true_names}
use Rattle.mcs_system.specs.Views.{Shows}
use Rattle.mcs_trace.specs.Clauses.{ClauseList}
use Rattle.mcs_evidence.specs.Defaults.{facts_of, defaults_of, generated}
use Rattle.mcs_grounding.specs.Theories.{AreParts}
use Rattle.mcs_default.specs.Assignments.{with_part}
use Rattle.mcs_default.specs.declared.models.Part.TheVariants as parts
use Rattle.mcs_evidence.specs.Theories.{IsDefaultAt, NoneSupported, Generates}
use Rattle.mcs_default.specs.declared.findings.Lower as lower
use Rattle.mcs_default.specs.declared.findings.Upper as upper
use Rattle.mcs_default.specs.declared.findings.Findings as findings

-- ---- of one set and one default
-- no negation of a justification follows
abbrev pub IsAllowedBy : List Formula → Default → Type 0
IsAllowedBy fs d = AllByRecursion (λ j. ¬ Entails fs (Not j)) d.justs

-- the default at the place is supported by what the set generates
abbrev pub IsSupportedAt : List Item → ℕ → ℕ → Type 0
IsSupportedAt items set k = (d : Default) → IsDefaultAt items k d → Entails (generated items set) d.pre

abbrev pub IsUnsupportedAt : List Item → ℕ → ℕ → Type 0
IsUnsupportedAt items set k = (d : Default) → IsDefaultAt items k d → ¬ Entails (generated items set) d.pre

abbrev pub IsAllowedAt : List Item → ℕ → ℕ → Type 0
IsAllowedAt items set k = (d : Default) → IsDefaultAt items k d → IsAllowedBy (generated items set) d

abbrev pub IsBlockedAt : List Item → ℕ → ℕ → Type 0
IsBlockedAt items set k = (d : Default) → IsDefaultAt items k d → ¬ IsAllowedBy (generated items set) d

-- everything follows
abbrev pub IsConflict : List Item → ℕ → Type 0
IsConflict items set = Entails (generated items set) Falsity

-- ---- what was found
-- these are the clauses of the facts, and nothing is found yet
pub record HasFoundNothing (known : ClauseList) (f : findings.Findings) : Type 0 where
  pub facts : f.facts ≡ known
  pub lower : f.lower.items ≡ []
  pub upper : f.upper.items ≡ []
  pub conflicts : f.conflicts.items ≡ []

-- by the set these defaults are supported, and these are blocked
pub record IsLower (items : List Item) (e : lower.Lower) : Type 0 where
  pub supported : (k : ℕ) → has e.supported k ≡ true → IsSupportedAt items e.set k
  pub blocked : (k : ℕ) → has e.blocked k ≡ true → IsBlockedAt items e.set k

-- the facts hold under the assignment, and so do the consequents of exactly the defaults of the set, the prerequisites of exactly these, and of exactly those all justifications
pub record IsUpper (names : List Name) (items : List Item) (e : upper.Upper) : Type 0 where
  pub model : IsTrue (holds_all (true_names 0 names e.values) (facts_of items))
  pub set : e.set ≡ with_part (true_names 0 names e.values) parts.Consequent (defaults_of items)
  pub supported : e.supported ≡ with_part (true_names 0 names e.values) parts.Prerequisite (defaults_of items)
  pub allowed : e.allowed ≡ with_part (true_names 0 names e.values) parts.Justifications (defaults_of items)

abbrev pub AreRightFindings : List Name → List Item → findings.Findings → Type 0
AreRightFindings names items f = AllByRecursion (IsLower items) f.lower.items × AllByRecursion (IsUpper names items) f.upper.items × AllByRecursion (IsConflict items) f.conflicts.items

-- the defaults can be asked about by what was found
pub record CanBeAsked (names : List Name) (ds : List Default) (f : findings.Findings) : Type 0 where
  pub room : length names ≤ f.facts.vars
  pub right : (items : List Item) → AreParts names items ds f.facts → AreRightFindings names items f

-- ---- the nodes of a search
-- the set has all that is taken, and nothing that is not in all
abbrev pub IsBelow : ℕ → ℕ → ℕ → Type 0
IsBelow taken all set = Within taken set × Within set all

-- Of the default at the place nothing tells that no set below generates an extension: where it is taken, it is not blocked
-- by what is taken, and it is supported by all; where it is out, it is not told of all sets below that it applies.
pub record IsOpenAt (items : List Item) (taken all k : ℕ) : Type 0 where
  pub inside : has taken k ≡ true → (d : Default) → IsDefaultAt items k d → Entails (generated items all) d.pre × IsAllowedBy (generated items taken) d
  pub outside : has all k ≡ false → (d : Default) → IsDefaultAt items k d → ¬ (Entails (generated items taken) d.pre × IsAllowedBy (generated items all) d)

-- a default that is left and is supported by the set, if there is one
abbrev pub IsNextOf : List Item → ℕ → ℕ → Option ℕ → Type 0
IsNextOf items set left (Some k) = IsSupportedAt items set k
IsNextOf items set left None = (k : ℕ) → has left k ≡ true → IsUnsupportedAt items set k

-- the prerequisites of the defaults of the set follow one after the other
abbrev pub IsGroundedSet : List Item → ℕ → Type 0
IsGroundedSet items set = (part : ℕ) → Within part set → ¬ (part ≡ set) → ¬ NoneSupported items set part

-- a set below generates an extension of which these are the beliefs
abbrev pub IsViewBelow : List Item → List Formula → ℕ → ℕ → ℕ → Type 0
IsViewBelow items beliefs taken all places = (set : ℕ) × IsBelow taken all set × Generates items set × Shows (Theory (generated items set)) beliefs places
