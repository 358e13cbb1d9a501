-- Which bytes spell a script of edits of a system, and which fault it has.
use Rattle.std.specs.Prelude.{◌≡◌, ℕ, ◌<◌, ◌⊎◌, List, [], ◌∷◌, length, Option, Some, None}
use Rattle.mcs_base.specs.Listings.{IsAmong}
use Rattle.mcs_system.specs.Plain.{Name, System}
use Rattle.mcs_system.specs.Faults.{fault, fault_of, IsValid}
use Rattle.mcs_system.specs.declared.limit.Limit.{Limit}
use Rattle.mcs_tokens.specs.Tokens.{IsNextToken}
use Rattle.mcs_grammar.specs.Alone.{SpellsOne, HasFirstFault}
use Rattle.mcs_script.specs.Edits.{Edit, Dropped, context_names, rule_names, edited, system_after, IsThere, WrittenEdit, IsWrittenEdit, edit_entries, SaysEdit}

-- a token is left at or after `at`, and the first one begins at the offset
abbrev pub BeginsAt : List ℕ → ℕ → ℕ → Type 0
BeginsAt bytes at offset = (to : ℕ) × IsNextToken bytes at offset to × (offset < length bytes)

-- ---- one edit of the system
-- the tokens from `at` on begin with it, and none of them has a fault that is told of it alone
pub record ReadsEdit (m : System) (bytes : List ℕ) (at : ℕ) (e : Edit) (end : ℕ) : Type 0 where
  pub written : WrittenEdit
  pub spelled : SpellsOne IsWrittenEdit edit_entries (context_names m) bytes at written end
  pub says : SaysEdit (context_names m) written e

-- and it makes a system of the system
pub record SpellsEdit (m : System) (bytes : List ℕ) (at : ℕ) (e : Edit) (end : ℕ) : Type 0 where
  pub read : ReadsEdit m bytes at e end
  pub there : IsThere m e
  pub valid : IsValid (edited m e)

-- the first token that has a fault which is told of the edit alone
abbrev pub IsMisspelled : System → List ℕ → ℕ → ℕ → Option Limit → ℕ → Type 0
IsMisspelled m bytes at number limit offset = HasFirstFault IsWrittenEdit edit_entries (context_names m) bytes at number limit offset

-- there is no rule of the name that is dropped; told at the first token
pub record DropsNone (m : System) (bytes : List ℕ) (at number : ℕ) (limit : Option Limit) (offset : ℕ) : Type 0 where
  pub rule : Name
  pub end : ℕ
  pub read : ReadsEdit m bytes at (Dropped rule) end
  pub missing : ¬ IsAmong rule (rule_names m)
  pub number_is : number ≡ 6
  pub limit_is : limit ≡ None
  pub begins : BeginsAt bytes at offset

-- it makes no system; told at the first token, with the fault of what it makes
pub record MakesNoSystem (m : System) (bytes : List ℕ) (at number : ℕ) (limit : Option Limit) (offset : ℕ) : Type 0 where
  pub edit : Edit
  pub end : ℕ
  pub read : ReadsEdit m bytes at edit end
  pub there : IsThere m edit
  pub fault_is : fault_of (edited m edit) ≡ Some (fault number limit)
  pub begins : BeginsAt bytes at offset

abbrev pub EditHasFault : System → List ℕ → ℕ → ℕ → Option Limit → ℕ → Type 0
EditHasFault m bytes at number limit offset = IsMisspelled m bytes at number limit offset ⊎ (DropsNone m bytes at number limit offset ⊎ MakesNoSystem m bytes at number limit offset)

-- ---- a script, each edit of the system after those before it
abbrev pub SpellsEdits : System → List ℕ → ℕ → List Edit → ℕ → Type 0
SpellsEdits m bytes at [] end = end ≡ at
SpellsEdits m bytes at (e ∷ es) end = (next : ℕ) × SpellsEdit m bytes at e next × SpellsEdits (edited m e) bytes next es end

-- no token is left after the edits
pub record SpellsScript (m : System) (bytes : List ℕ) (edits : List Edit) : Type 0 where
  pub end : ℕ
  pub spelled : SpellsEdits m bytes 0 edits end
  pub ended : IsNextToken bytes end (length bytes) (length bytes)

-- the first edit that has a fault
pub record ScriptHasFault (m : System) (bytes : List ℕ) (number : ℕ) (limit : Option Limit) (offset : ℕ) : Type 0 where
  pub edits : List Edit
  pub end : ℕ
  pub spelled : SpellsEdits m bytes 0 edits end
  pub first : ℕ
  pub more : BeginsAt bytes end first
  pub fault_is : EditHasFault (system_after m edits) bytes end number limit offset
