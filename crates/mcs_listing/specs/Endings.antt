-- How a run ends: its status and the line that it notes.
use Rattle.std.specs.Prelude.{◌≡◌, ◌⊎◌, ℕ, List, [], ◌++◌, codes, Option, Some, None}
use Rattle.std.specs.Fmt.{decimal}
use Rattle.mcs_ports.specs.Pieces.{Device, noted}
use Rattle.mcs_work.specs.declared.task.WorkStop.{WorkStop}
use Rattle.mcs_work.specs.declared.task.WorkStop.TheVariants as works
use Rattle.mcs_text.specs.declared.unwritten.Unwritten.{Unwritten}
use Rattle.mcs_text.specs.declared.unwritten.Unwritten.TheVariants as unwritten
use Rattle.mcs_system.specs.declared.limit.Limit.{Limit}
use Rattle.mcs_system.specs.Plain.{Name}
use Rattle.mcs_system.specs.Limits.{limit_words}
use Rattle.mcs_faults.specs.declared.fault.TextFault.{TextFault}
use Rattle.mcs_faults.specs.declared.fault.TextFault.TheVariants as texts
use Rattle.mcs_words.specs.declared.job.WordsFault.{WordsFault}
use Rattle.mcs_words.specs.declared.job.WordsFault.TheVariants as words
use Rattle.mcs_listing.specs.declared.ending.Refusal.{Refusal}
use Rattle.mcs_listing.specs.declared.ending.Refusal.TheVariants as refusals
use Rattle.mcs_listing.specs.declared.ending.Stop.{Stop}
use Rattle.mcs_listing.specs.declared.ending.Stop.TheVariants as stops
use Rattle.mcs_listing.specs.declared.status.Status.{Status}
use Rattle.mcs_listing.specs.declared.status.Status.TheVariants as statuses

-- the number that a program with this status ends with
abbrev pub status_number : Status → ℕ
status_number statuses.Done = 0
status_number statuses.NotValid = 1
status_number statuses.Usage = 2
status_number statuses.Refused = 3
status_number statuses.Unfinished = 4
status_number statuses.ReadFault = 5
status_number statuses.WriteFault = 6
status_number statuses.OutOfMemory = 7

-- a colon and the limit, where there is one
abbrev pub told_limit : Option Limit → List ℕ
told_limit None = []
told_limit (Some limit) = codes ": " ++ limit_words limit

-- FRONT N at OFFSET: LIMIT NUMBER
unfoldable pub fault_line : List ℕ → ℕ → ℕ → Option Limit → List ℕ
fault_line front number offset limit = front ++ (decimal number ++ (codes " at " ++ (decimal offset ++ (told_limit limit ++ codes "\n"))))

-- mcs: refused: not plain: NAME
unfoldable pub not_plain_line : Name → List ℕ
not_plain_line name = codes "mcs: refused: not plain: " ++ (name ++ codes "\n")

-- the line that is noted for a refusal, with its line feed
abbrev pub refusal_line : Refusal → List ℕ
refusal_line refusals.TooLong = codes "mcs: refused: file longer than 1048576\n"
refusal_line refusals.ReportTooLong = codes "mcs: refused: report longer than 268435456\n"
refusal_line refusals.ScriptTooLong = codes "mcs: refused: script longer than 1048576\n"
refusal_line (refusals.Text number offset limit) = fault_line (codes "mcs: refused: F") number offset limit
refusal_line (refusals.Script number offset limit) = fault_line (codes "mcs: refused: script F") number offset limit
refusal_line (refusals.NotPlain name) = not_plain_line name

-- mcs: unfinished at level K, budget N
unfoldable pub unfinished_line : ℕ → ℕ → List ℕ
unfinished_line level budget = codes "mcs: unfinished at level " ++ (decimal level ++ (codes ", budget " ++ (decimal budget ++ codes "\n")))

-- the line that is noted where a run stops
abbrev pub line_of : Stop → List ℕ
line_of stops.Usage = codes "mcs: usage: mcs JOB FILE [REPORT] [--budget N] [--workers N] [--proof]\n"
line_of (stops.Refused why) = refusal_line why
line_of (stops.Unfinished level budget) = unfinished_line level budget
line_of stops.ReadFault = codes "mcs: read fault\n"
line_of stops.WriteFault = codes "mcs: write fault\n"
line_of stops.Memory = codes "mcs: out of memory\n"

abbrev pub status_of : Stop → Status
status_of stops.Usage = statuses.Usage
status_of (stops.Refused why) = statuses.Refused
status_of (stops.Unfinished level budget) = statuses.Unfinished
status_of stops.ReadFault = statuses.ReadFault
status_of stops.WriteFault = statuses.WriteFault
status_of stops.Memory = statuses.OutOfMemory

-- ---- what stops a run, by what stopped a part of it
abbrev pub stop_for_words : WordsFault → Stop
stop_for_words words.Usage = stops.Usage
stop_for_words words.Memory = stops.Memory

abbrev pub stop_for_text : TextFault → Stop
stop_for_text (texts.Fault number offset limit) = stops.Refused (refusals.Text number offset limit)
stop_for_text texts.Memory = stops.Memory

-- by what is told of a script
abbrev pub stop_for_script : TextFault → Stop
stop_for_script (texts.Fault number offset limit) = stops.Refused (refusals.Script number offset limit)
stop_for_script texts.Memory = stops.Memory

-- by why a line was not written
abbrev pub stop_for_unwritten : Unwritten → Stop
stop_for_unwritten unwritten.Fault = stops.WriteFault
stop_for_unwritten unwritten.Memory = stops.Memory

-- by what stopped the work within a budget; no oracle of a run can miss
abbrev pub stop_for_work : ℕ → WorkStop → Stop
stop_for_work budget works.Write = stops.WriteFault
stop_for_work budget (works.Spent level) = stops.Unfinished level budget
stop_for_work budget (works.Missing context active) = stops.Memory
stop_for_work budget works.Memory = stops.Memory

-- the stop is told by its own status and line
pub record IsToldAs (stop : Stop) (status : Status) (before now : Device) : Type 0 where
  pub status_is : status ≡ status_of stop
  pub notes : now.notes ≡ noted before.notes (line_of stop)

-- it is, or as want of memory where there is none for the line
abbrev pub IsEndingTold : Stop → Status → Device → Device → Type 0
IsEndingTold stop status before now = IsToldAs stop status before now ⊎ IsToldAs stops.Memory status before now
