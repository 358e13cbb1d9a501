-- What a context is supplied with and what it guesses, and what a plan keeps of a system.
use Rattle.std.specs.Prelude.{◌≡◌, ℕ, List, [], ◌∷◌, length, map}
use Rattle.std.specs.List.{range_with_len}
use Rattle.mcs_sets.specs.Sets.{union, minus}
use Rattle.mcs_sets.specs.Orders.{StateBefore}
use Rattle.mcs_base.specs.Listings.{IsListing}
use Rattle.mcs_system.specs.Plain.{System}
use Rattle.mcs_system.specs.Systems.{variables_of}
use Rattle.mcs_system.specs.Rows.{inputs_of}
use Rattle.mcs_system.specs.Imports.{IsImportOrder, supplied}
use Rattle.mcs_system.specs.Levels.{MaySupply}
use Rattle.mcs_import.specs.declared.share.Share as code_share

-- the variables of these contexts
abbrev pub variables_of_all : System → List ℕ → ℕ
variables_of_all m [] = 0
variables_of_all m (j ∷ js) = union (variables_of m j) (variables_of_all m js)

-- the inputs of i that are of no context that supplies i: those of later contexts, and its own
abbrev pub guessed : System → List ℕ → ℕ → ℕ
guessed m order i = minus (inputs_of m i) (variables_of_all m (supplied m order i))

-- what the contexts js may supply at the level: one listing for each, in the order of states
abbrev pub AreSupplies : System → ℕ → List ℕ → List (List ℕ) → Type 0
AreSupplies m level [] [] = Unit {0}
AreSupplies m level (j ∷ js) (xs ∷ xss) = IsListing (MaySupply m level j) StateBefore xs × AreSupplies m level js xss
AreSupplies m level js xss = ⊥

-- ---- what a plan keeps
pub record Part : Type 0 where
  pub supplied : List ℕ
  pub guessed : ℕ

abbrev pub part : System → List ℕ → ℕ → Part
part m order i = record { supplied = supplied m order i; guessed = guessed m order i }

abbrev pub part_of : code_share.Share → Part
part_of s = record { supplied = s.supplied.items; guessed = s.guessed }

pub record IsPlan (m : System) (order : List ℕ) (shares : List code_share.Share) : Type 0 where
  pub in_order : IsImportOrder m order
  pub shares_are : map part_of shares ≡ map (part m order) (range_with_len 0 (length m.contexts))
