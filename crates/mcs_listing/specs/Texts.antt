-- The texts that are systems, the scripts of edits, and why others are refused.
use Rattle.std.specs.Prelude.{◌≡◌, ◌⊎◌, ℕ, ◌≤◌, List, [], ◌∷◌, length, Option, None, IfSome}
use Rattle.mcs_system.specs.Plain.{Name, System}
use Rattle.mcs_grammar.specs.Texts.{Spells, HasFault}
use Rattle.mcs_reduct.specs.Plain.{IsPlain, IsLowestNotPlain}
use Rattle.mcs_work.specs.declared.task.Task.{Task}
use Rattle.mcs_work.specs.declared.task.Task.TheVariants.{Equilibria, Grounded, Solve, Cheapest, Make}
use Rattle.mcs_proof_text.specs.Reports.{most_report_bytes}
use Rattle.mcs_script.specs.Edits.{Edit}
use Rattle.mcs_script.specs.Scripts.{SpellsScript, ScriptHasFault}
use Rattle.mcs_listing.specs.Jobs.{File, OfOneFile}
use Rattle.mcs_listing.specs.declared.ending.Refusal.{Refusal}
use Rattle.mcs_listing.specs.declared.ending.Refusal.TheVariants as refusals
use Rattle.mcs_listing.specs.declared.ending.Stop.{Stop}
use Rattle.mcs_listing.specs.declared.ending.Stop.TheVariants as stops

-- the most bytes of a system text
abbrev pub most_text_bytes : ℕ
most_text_bytes = 1048576

-- the bytes are the text of this system
pub record IsTextOf (m : System) (bytes : List ℕ) : Type 0 where
  pub fits : length bytes ≤ most_text_bytes
  pub spelled : Spells bytes m

-- the reason for which a text is refused
abbrev pub IsRefusedFor : Refusal → List ℕ → Type 0
IsRefusedFor refusals.TooLong bytes = ¬ (length bytes ≤ most_text_bytes)
IsRefusedFor refusals.ReportTooLong bytes = ⊥
IsRefusedFor refusals.ScriptTooLong bytes = ⊥
IsRefusedFor (refusals.Text number offset limit) bytes = (length bytes ≤ most_text_bytes) × HasFault bytes number limit offset
IsRefusedFor (refusals.Script number offset limit) bytes = ⊥
IsRefusedFor (refusals.NotPlain name) bytes = ⊥

-- the context with this name is not plain, and each one before it is
pub record IsNotPlainAt (name : Name) (m : System) : Type 0 where
  pub place : ℕ
  pub lowest : IsLowestNotPlain m place
  pub name_is : lowest.context.name ≡ name

-- the reason for which a text is refused that has to be that of a plain system
abbrev pub IsRefusedPlain : Refusal → List ℕ → Type 0
IsRefusedPlain refusals.TooLong bytes = IsRefusedFor refusals.TooLong bytes
IsRefusedPlain refusals.ReportTooLong bytes = ⊥
IsRefusedPlain refusals.ScriptTooLong bytes = ⊥
IsRefusedPlain (refusals.Text number offset limit) bytes = IsRefusedFor (refusals.Text number offset limit) bytes
IsRefusedPlain (refusals.Script number offset limit) bytes = ⊥
IsRefusedPlain (refusals.NotPlain name) bytes = (m : System) × IsTextOf m bytes × IsNotPlainAt name m

-- ---- scripts of edits of a system
-- the most bytes of a script
abbrev pub most_script_bytes : ℕ
most_script_bytes = 1048576

-- the bytes are the script of these edits of the system
pub record IsScriptOf (m : System) (edits : List Edit) (bytes : List ℕ) : Type 0 where
  pub fits : length bytes ≤ most_script_bytes
  pub spelled : SpellsScript m bytes edits

-- the edits are those of a script of the system, and a shelf that tells of its file tells these bytes
pub record IsScriptIn (m : System) (files : Option (List File)) (edits : List Edit) : Type 0 where
  pub bytes : List ℕ
  pub script : IsScriptOf m edits bytes
  pub told : IfSome files (OfOneFile (λ held. held ≡ bytes))

-- the reason for which a script is refused
abbrev pub IsRefusedScript : System → Refusal → List ℕ → Type 0
IsRefusedScript m refusals.TooLong bytes = ⊥
IsRefusedScript m refusals.ReportTooLong bytes = ⊥
IsRefusedScript m refusals.ScriptTooLong bytes = ¬ (length bytes ≤ most_script_bytes)
IsRefusedScript m (refusals.Text number offset limit) bytes = ⊥
IsRefusedScript m (refusals.Script number offset limit) bytes = (length bytes ≤ most_script_bytes) × ScriptHasFault m bytes number limit offset
IsRefusedScript m (refusals.NotPlain name) bytes = ⊥

-- ---- the texts that are taken for a task
-- the bytes are the text of this system, which is plain
pub record IsPlainTextOf (m : System) (bytes : List ℕ) : Type 0 where
  pub text : IsTextOf m bytes
  pub plain : IsPlain m

-- they are the text of this system, for which the task is defined
abbrev pub IsTextFor : Task → System → List ℕ → Type 0
IsTextFor Equilibria = IsTextOf
IsTextFor Grounded = IsPlainTextOf
IsTextFor Solve = IsTextOf
IsTextFor Cheapest = IsTextOf
IsTextFor Make = IsTextOf

-- the reason for which a text is refused for the task
abbrev pub IsRefusedTask : Task → Refusal → List ℕ → Type 0
IsRefusedTask Equilibria = IsRefusedFor
IsRefusedTask Grounded = IsRefusedPlain
IsRefusedTask Solve = IsRefusedFor
IsRefusedTask Cheapest = IsRefusedFor
IsRefusedTask Make = IsRefusedFor

-- ---- why no system and no script is had
-- of a text that is there and that is refused for these reasons
abbrev pub StopsText : (Refusal → List ℕ → Type 0) → Stop → List ℕ → Type 0
StopsText Refuses (stops.Refused why) bytes = Refuses why bytes
StopsText Refuses stops.Memory bytes = Unit {0}
StopsText Refuses stops.Usage bytes = ⊥
StopsText Refuses (stops.Unfinished level budget) bytes = ⊥
StopsText Refuses stops.ReadFault bytes = ⊥
StopsText Refuses stops.WriteFault bytes = ⊥

-- of a file that is refused for these reasons, by what a shelf tells of it: it can't be read where it is not there, or a
-- call on it failed
abbrev pub StopsReading : (Refusal → List ℕ → Type 0) → Stop → Type 0 → Type 0 → Option (List File) → Type 0
StopsReading Refuses (stops.Refused why) rose failed files = IfSome files (OfOneFile (Refuses why))
StopsReading Refuses stops.ReadFault rose failed files = rose × IfSome files (λ fs. (fs ≡ None ∷ []) ⊎ failed)
StopsReading Refuses stops.Memory rose failed files = Unit {0}
StopsReading Refuses stops.Usage rose failed files = ⊥
StopsReading Refuses (stops.Unfinished level budget) rose failed files = ⊥
StopsReading Refuses stops.WriteFault rose failed files = ⊥

-- why no report is had of a file, by what a shelf tells of it
abbrev pub StopsReport : Stop → Type 0 → Type 0 → Option (List File) → Type 0
StopsReport (stops.Refused refusals.ReportTooLong) rose failed files = IfSome files (OfOneFile (λ bytes. ¬ (length bytes ≤ most_report_bytes)))
StopsReport (stops.Refused refusals.TooLong) rose failed files = ⊥
StopsReport (stops.Refused refusals.ScriptTooLong) rose failed files = ⊥
StopsReport (stops.Refused (refusals.Text number offset limit)) rose failed files = ⊥
StopsReport (stops.Refused (refusals.Script number offset limit)) rose failed files = ⊥
StopsReport (stops.Refused (refusals.NotPlain name)) rose failed files = ⊥
StopsReport stops.ReadFault rose failed files = rose × IfSome files (λ fs. (fs ≡ None ∷ []) ⊎ failed)
StopsReport stops.Memory rose failed files = Unit {0}
StopsReport stops.Usage rose failed files = ⊥
StopsReport (stops.Unfinished level budget) rose failed files = ⊥
StopsReport stops.WriteFault rose failed files = ⊥
