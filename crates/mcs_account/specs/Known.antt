-- What is known after tokens that have no fault.
use Rattle.std.specs.Prelude.{◌≡◌, ◌≤◌, ◌⊎◌, Bool, true, false, List, [], ◌∷◌, map, Some, slice_get}
use Rattle.std.specs.List.{flat_map, AllByRecursion}
use Rattle.mcs_system.specs.Plain.{Name}
use Rattle.mcs_system.specs.Plain as plain
use Rattle.mcs_system.specs.Logic.{atoms}
use Rattle.mcs_system.specs.Limits.{most}
use Rattle.mcs_system.specs.declared.limit.Limit.TheVariants.{OpenParentheses}
use Rattle.mcs_grammar.specs.Entries.{Token, Use, NamesContext, BeginsItem, BeginsBelief, uses_of}
use Rattle.mcs_account.specs.declared.place.Place as code_place
use Rattle.mcs_account.specs.declared.reader.TextReader.{TextReader}
use Rattle.mcs_account.specs.Mark.{events_of}
use Rattle.mcs_account.specs.Marks.{Marked}
use Rattle.mcs_account.specs.Account.{Account, Place, no_account, accounted, first_course, followed, entries_in}
use Rattle.mcs_account.specs.Images.{WasNamed, AreShort}
use Rattle.mcs_account.specs.Turns.{first_turn, passed}
use Rattle.mcs_account.specs.Taken.{IsReaderAt}

-- ---- the contexts
-- what the next token may speak of
pub record IsKnown (before : List Use) (named : Bool) (p : Place) : Type 0 where
  pub contexts : named ≡ true → WasNamed before p.context × WasNamed before p.target
  pub begins : (p.begins ≡ []) ⊎ ((named ≡ true) × ((p.begins ≡ BeginsItem p.context ∷ []) ⊎ (p.begins ≡ BeginsBelief p.context ∷ [])))

-- the names of those that were named
abbrev pub context_named : Use → List Name
context_named (NamesContext c) = c ∷ []
context_named u = []

abbrev pub contexts_named : List Use → List Name
contexts_named before = flat_map context_named before

abbrev pub names_in : Account → List Name
names_in a = map (λ (c : plain.Context). c.name) a.contexts

-- the numbers that the place has are those of its contexts
pub record AreNumbers (names : List Name) (named : Bool) (p : Place) (n : code_place.Place) : Type 0 where
  pub context : named ≡ true → slice_get names n.context ≡ Some p.context
  pub target : named ≡ true → slice_get names n.target ≡ Some p.target
  pub none : named ≡ false → (names ≡ []) × (n.context ≡ 0) × (n.target ≡ 0)

-- ---- the formulas that wait
abbrev pub AllShort : List plain.Formula → Type 0
AllShort fs = AllByRecursion (λ (f : plain.Formula). AreShort (atoms f)) fs

-- ---- all of it
abbrev pub is_named : Marked → Bool
is_named ms = (passed first_turn (events_of ms)).named

pub record IsUpTo (r : TextReader) (ts : List Token) (ms : Marked) : Type 0 where
  pub reader : IsReaderAt r ts ms
  pub opened : (followed first_course ms).place.opened ≤ most OpenParentheses
  pub known : IsKnown (uses_of (entries_in ms)) (is_named ms) (followed first_course ms).place
  pub names : names_in (accounted no_account ms) ≡ contexts_named (uses_of (entries_in ms))
  pub numbers : AreNumbers (names_in (accounted no_account ms)) (is_named ms) (followed first_course ms).place r.place
  pub short : AllShort (accounted no_account ms).operands
