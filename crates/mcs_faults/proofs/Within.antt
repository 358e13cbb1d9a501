-- What a text's uses and entries are within: the counts of its parts, and that no token has a fault other than the grammar's.
use Rattle.std.proofs.Common.{◌≡◌, ℕ, ◌≤◌, List, take, length, Some}
use Rattle.std.specs.Prelude.{slice_get, count_by}
use Rattle.mcs_base.specs.Listings.{IsAmong}
use Rattle.mcs_system.specs.Plain.{Name}
use Rattle.mcs_grammar.specs.Entries.{Use, Entry, uses_of}
use Rattle.mcs_grammar.specs.Faults.{begins_context, begins_bridge, names_target, begins_default_of, begins_item_of, AreDifferent, NamedRead, WasReadInto, WasRead, WasAtom, TextFault, Has}
use Rattle.mcs_account.specs.Known.{contexts_named}
use Rattle.mcs_faults.specs.Watching.{bridges_named}

pub record IsWithin (uses : List Use) : Type 0 where
  pub contexts : count_by begins_context uses ≤ 64
  pub bridges : count_by begins_bridge uses ≤ 64
  pub rules : (c : Name) → count_by (names_target c) uses ≤ 12
  pub variables : (rs : List NamedRead) → AreDifferent rs → ((r : NamedRead) → IsAmong r rs → WasRead uses r) → length rs ≤ 64
  pub inputs : (t : Name) (rs : List NamedRead) → AreDifferent rs → ((r : NamedRead) → IsAmong r rs → WasReadInto uses t r) → length rs ≤ 16
  pub atoms : (c : Name) (as' : List Name) → AreDifferent as' → ((a : Name) → IsAmong a as' → WasAtom uses c a) → length as' ≤ 64
  pub defaults : (c : Name) → count_by (begins_default_of c) uses ≤ 10
  pub items : (c : Name) → count_by (begins_item_of c) uses ≤ 4096
  pub different_contexts : AreDifferent (contexts_named uses)
  pub different_bridges : AreDifferent (bridges_named uses)

-- no token has a fault after those before it
abbrev pub NoFaults : List Entry → Type 0
NoFaults entries = (k : ℕ) (m : Entry) (f : TextFault) → slice_get entries k ≡ Some m → ¬ Has f (uses_of (take k entries)) m
