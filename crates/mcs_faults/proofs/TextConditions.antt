-- What a text that says a valid system needs besides to have no faults.
use Rattle.std.proofs.Common.{◌≡◌, ◌≤◌, length}
use Rattle.mcs_base.specs.Listings.{IsAmong}
use Rattle.mcs_base.specs.Words.{most_name_bytes}
use Rattle.mcs_system.specs.Plain.{Name}
use Rattle.mcs_system.specs.Plain as plain
use Rattle.mcs_grammar.specs.Written.{Named, WrittenPlace, WrittenText, IsNameWord}
use Rattle.mcs_grammar.specs.Entries.{Entry, formula_in, text_entries}
use Rattle.mcs_faults.proofs.UsesLemmas.{IsPlaceOf}

-- names are no longer than names may be
abbrev pub HasShortNames : WrittenText → Type 0
HasShortNames t = (m : Entry) → IsAmong m (text_entries t) → IsNameWord m.token → length m.token ≤ most_name_bytes

-- heads and beliefs that are atoms stand without parentheses
abbrev pub HasBareAtoms : WrittenText → Type 0
HasBareAtoms t = (p : WrittenPlace) (a : Name) → IsPlaceOf t p → formula_in p.belief ≡ plain.Atom a → p.belief ≡ Named a
