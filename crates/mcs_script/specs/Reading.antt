-- An edit that was read by itself.
use Rattle.std.specs.Prelude.{◌≡◌, ◌≢◌, ℕ, ◌<◌, IsTrue, List, codes, length, Option, Some, None, slice_range, Result, IfOk, IfErr}
use Rattle.mcs_base.specs.Words.{is_name, most_name_bytes}
use Rattle.mcs_system.specs.Plain.{Name}
use Rattle.mcs_system.specs.declared.limit.Limit.TheVariants.{NameBytes}
use Rattle.mcs_tokens.specs.Tokens.{IsNextToken}
use Rattle.mcs_grammar.specs.Written.{IsNameWord}
use Rattle.mcs_grammar.specs.Entries.{Token}
use Rattle.mcs_grammar.specs.Alone.{IsNextAt, SpellsOne, HasFirstFault}
use Rattle.mcs_faults.specs.declared.fault.Fault as code_fault
use Rattle.mcs_faults.specs.declared.fault.Fault.TheVariants as faults
use Rattle.mcs_faults.specs.declared.fault.TextFault as code_text
use Rattle.mcs_faults.specs.declared.fault.TextFault.TheVariants as texts
use Rattle.mcs_script.specs.declared.reading.ReadEdit.{ReadEdit}
use Rattle.mcs_script.specs.Edits.{Dropped, WrittenEdit, IsWrittenEdit, edit_entries, SaysEdit}
use Rattle.mcs_script.specs.Seen.{edit_of}

-- the next token is this one, which ends there
abbrev pub IsTokenTo : Token → List ℕ → ℕ → ℕ → Type 0
IsTokenTo t bytes at end = (from : ℕ) × IsNextToken bytes at from end × (from < length bytes) × (slice_range bytes from end ≡ t)

-- the next token is another, or there is none; it stands at the offset
abbrev pub IsOtherAt : List ℕ → ℕ → ℕ → Type 0
IsOtherAt bytes at offset = (next : Option Token) × IsNextAt bytes at next offset × (next ≢ Some (codes "."))

-- what a token has against being a name
abbrev pub IsNameFault : Option code_fault.Fault → Token → Type 0
IsNameFault None t = IsTrue (is_name t)
IsNameFault (Some faults.NoGrammar) t = ¬ IsNameWord t
IsNameFault (Some (faults.Exceeds NameBytes)) t = IsNameWord t × (most_name_bytes < length t)
IsNameFault (Some f) t = ⊥

-- the edit, where it ends, and a reader for the rules of further ones
pub record IsEditOf (names : List Name) (bytes : List ℕ) (at : ℕ) (r : ReadEdit) : Type 0 where
  pub rules : r.rules ≡ names
  pub written : WrittenEdit
  pub spelled : SpellsOne IsWrittenEdit edit_entries names bytes at written r.end
  pub says : SaysEdit names written (edit_of r.edit)

-- it drops the rule of this name
pub record IsDrop (names : List Name) (name : Name) (end : ℕ) (r : ReadEdit) : Type 0 where
  pub rules : r.rules ≡ names
  pub edit : edit_of r.edit ≡ Dropped name
  pub end_is : r.end ≡ end

-- the fault that is told of the edit by itself, unless memory ran out
abbrev pub IsToldOfEdit : List Name → List ℕ → ℕ → code_text.TextFault → Type 0
IsToldOfEdit names bytes at texts.Memory = Unit {0}
IsToldOfEdit names bytes at (texts.Fault number offset limit) = HasFirstFault IsWrittenEdit edit_entries names bytes at number limit offset

-- the edit that begins with the first token from `at` on, or its fault
abbrev pub IsReadOrTold : List Name → List ℕ → ℕ → Result ReadEdit code_text.TextFault → Type 0
IsReadOrTold names bytes at result = IfOk result (IsEditOf names bytes at) × IfErr result (IsToldOfEdit names bytes at)
