-- What is told of a script, and how far one was read.
use Rattle.std.specs.Prelude.{◌≡◌, ℕ, ◌<◌, ◌≤◌, ◌⊎◌, List, map, length, Some, None, Result, IfOk, IfErr}
use Rattle.mcs_system.specs.Plain.{System}
use Rattle.mcs_system.specs.Faults.{fault, fault_of, IsValid}
use Rattle.mcs_faults.specs.declared.fault.TextFault as code_text
use Rattle.mcs_faults.specs.declared.fault.TextFault.TheVariants as texts
use Rattle.mcs_tokens.specs.Tokens.{IsNextToken}
use Rattle.mcs_script.specs.declared.edit.Edit as code_edit
use Rattle.mcs_script.specs.declared.reading.ReadEdit.{ReadEdit}
use Rattle.mcs_script.specs.declared.script.Script.{Script}
use Rattle.mcs_script.specs.Reading.{IsEditOf}
use Rattle.mcs_script.specs.Edits.{Edit, context_names, edited, system_after, IsThere}
use Rattle.mcs_script.specs.Scripts.{SpellsEdits, ScriptHasFault}
use Rattle.mcs_script.specs.Seen.{edit_of}

-- the script has the fault, unless memory ran out
abbrev pub IsToldOfScript : System → List ℕ → code_text.TextFault → Type 0
IsToldOfScript m bytes texts.Memory = Unit {0}
IsToldOfScript m bytes (texts.Fault number offset limit) = ScriptHasFault m bytes number limit offset

-- the edit, which begins at the offset, has the fault as an edit of the system, unless memory ran out
abbrev pub IsRefusedAt : System → Edit → ℕ → code_text.TextFault → Type 0
IsRefusedAt m e from texts.Memory = Unit {0}
IsRefusedAt m e from (texts.Fault number offset limit) = (offset ≡ from) × (((¬ IsThere m e) × (number ≡ 6) × (limit ≡ None)) ⊎ (IsThere m e × (fault_of (edited m e) ≡ Some (fault number limit))))

-- the next system, after an edit that is allowed
pub record IsAllowed (m : System) (e : Edit) (next : System) : Type 0 where
  pub there : IsThere m e
  pub valid : IsValid next
  pub next_is : next ≡ edited m e

-- the script is read up to a place
pub record IsReadUpTo (m : System) (bytes : List ℕ) (s : Script) : Type 0 where
  pub rules : s.rules ≡ context_names m
  pub draft : s.draft ≡ system_after m (map edit_of s.edits.items)
  pub spelled : SpellsEdits m bytes 0 (map edit_of s.edits.items) s.end
  pub inside : s.end ≤ length bytes

-- the next edit was read by itself
pub record IsEditNext (m : System) (bytes : List ℕ) (at from : ℕ) (draft : System) (edits : List code_edit.Edit) (r : ReadEdit) : Type 0 where
  pub draft_is : draft ≡ system_after m (map edit_of edits)
  pub spelled : SpellsEdits m bytes 0 (map edit_of edits) at
  pub inside : at ≤ length bytes
  pub to : ℕ
  pub first : IsNextToken bytes at from to
  pub some : from < length bytes
  pub read : IsEditOf (context_names m) bytes at r

-- and on from there; or its fault is told
abbrev pub IsNextUpTo : System → List ℕ → ℕ → Result Script code_text.TextFault → Type 0
IsNextUpTo m bytes at result = IfOk result (λ s. IsReadUpTo m bytes s × (at < s.end)) × IfErr result (IsToldOfScript m bytes)
