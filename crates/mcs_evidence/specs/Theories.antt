-- The defaults of a theory, as a list, and which sets of them generate an extension (Reiter 1980).
use Rattle.std.specs.Prelude.{◌≡◌, ℕ, ◌^◌, ◌<◌, ◌↔◌, true, false, List, length, Some, slice_get}
use Rattle.std.specs.List.{AllByRecursion}
use Rattle.mcs_sets.specs.Sets.{has, such_that, Within}
use Rattle.mcs_system.specs.Plain.{Name, Formula, Not, Default, Item}
use Rattle.mcs_system.specs.Logic.{Entails, IsExtension}
use Rattle.mcs_cnf.specs.ClauseLists.{IsOver, AreOver}
use Rattle.mcs_evidence.specs.Defaults.{defaults_of, generated}

-- each atom of the default is one of the names
abbrev pub IsOverDefault : List Name → Default → Type 0
IsOverDefault names d = IsOver names d.pre × AreOver names d.justs × IsOver names d.conclusion

abbrev pub AreOverDefaults : List Name → List Default → Type 0
AreOverDefaults names ds = AllByRecursion (IsOverDefault names) ds

-- all of the defaults, as a set
abbrev pub all_of : List Default → ℕ
all_of ds = such_that (length ds) (λ k. true)

-- ---- the sets of defaults that generate an extension
-- the default at this place, the first one being at 0
abbrev pub IsDefaultAt : List Item → ℕ → Default → Type 0
IsDefaultAt items k d = slice_get (defaults_of items) k ≡ Some d

-- the formulas have the prerequisite and no negated justification
pub record IsApplicable (fs : List Formula) (d : Default) : Type 0 where
  pub supported : Entails fs d.pre
  pub allowed : AllByRecursion (λ j. ¬ Entails fs (Not j)) d.justs

-- by the defaults of a part of the set none of the others is supported
abbrev pub NoneSupported : List Item → ℕ → ℕ → Type 0
NoneSupported items set part = (k : ℕ) (d : Default) → IsDefaultAt items k d → has set k ≡ true → has part k ≡ false → ¬ Entails (generated items part) d.pre

-- each default of the set is applicable to what it generates
abbrev pub AllApply : List Item → ℕ → Type 0
AllApply items set = (k : ℕ) (d : Default) → IsDefaultAt items k d → has set k ≡ true → IsApplicable (generated items set) d

-- and no other one is
abbrev pub NoOtherApplies : List Item → ℕ → Type 0
NoOtherApplies items set = (k : ℕ) (d : Default) → IsDefaultAt items k d → has set k ≡ false → ¬ IsApplicable (generated items set) d

-- of the defaults exactly those of the set are applicable to what it generates, and they can be applied one after the other
pub record Generates (items : List Item) (set : ℕ) : Type 0 where
  pub inside : set < 2 ^ length (defaults_of items)
  pub applied : AllApply items set
  pub complete : NoOtherApplies items set
  pub grounded : (part : ℕ) → Within part set → ¬ (part ≡ set) → ¬ NoneSupported items set part

-- ---- laws
-- what such a set generates is an extension, and each extension has the consequences of what such a set generates
abbrev pub ExtensionsAreGenerated : Type 0
ExtensionsAreGenerated = (items : List Item)
    → ((set : ℕ) → Generates items set → IsExtension items (generated items set))
    × ((e : List Formula) → IsExtension items e → (set : ℕ) × Generates items set × ((p : Formula) → Entails e p ↔ Entails (generated items set) p))
