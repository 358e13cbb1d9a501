-- What is said of the items of each kind of knowledge base: a line for each kind. All else is said of all kinds at once.
use Rattle.std.specs.Prelude.{◌≡◌, ℕ, Bool, List, refl}
use Rattle.std.specs.Coded.{Coded}
use Rattle.mcs_system.specs.Plain.{Name, Kind, ClassicalKind, DefaultKind, ProgramKind, ItemOf}
use Rattle.mcs_system.specs.Logic.{atoms}
use Rattle.mcs_system.specs.ItemCodes.{differ, coded_formula, coded_item, coded_rule}
use Rattle.mcs_system.specs.Items.{item_atoms, rule_atoms, is_large, has_large_formula, is_large_rule, IsNamedFormula, IsNamedItem, IsNamedRule}

abbrev pub atoms_in : (k : Kind) → ItemOf k → List Name
atoms_in ClassicalKind = atoms
atoms_in DefaultKind = item_atoms
atoms_in ProgramKind = rule_atoms

abbrev pub is_large_in : (k : Kind) → ItemOf k → Bool
is_large_in ClassicalKind = is_large
is_large_in DefaultKind = has_large_formula
is_large_in ProgramKind = is_large_rule

abbrev pub IsNamedIn : (k : Kind) → ItemOf k → Type 0
IsNamedIn ClassicalKind = IsNamedFormula
IsNamedIn DefaultKind = IsNamedItem
IsNamedIn ProgramKind = IsNamedRule

-- ---- by what kinds and their items are told apart
abbrev pub kind_number : Kind → ℕ
kind_number ClassicalKind = 0
kind_number DefaultKind = 1
kind_number ProgramKind = 2

pub kinds_apart : (k l : Kind) → kind_number k ≡ kind_number l → k ≡ l
kinds_apart ClassicalKind ClassicalKind e = refl
kinds_apart DefaultKind DefaultKind e = refl
kinds_apart ProgramKind ProgramKind e = refl
kinds_apart k l e = absurd (differ (kind_number k) (kind_number l) refl e)

abbrev pub coded_in : (k : Kind) → Coded (ItemOf k)
coded_in ClassicalKind = coded_formula
coded_in DefaultKind = coded_item
coded_in ProgramKind = coded_rule
