-- The lines of an answer's certificate as data, and how each is spelled, without its line feed.
use Rattle.std.specs.Prelude.{ℕ, List, ◌++◌, map, codes, slice_get}
use Rattle.std.specs.List.{flat_map}
use Rattle.std.specs.Fmt.{decimal}
use Rattle.mcs_system.specs.Plain.{Name, System}
use Rattle.mcs_system.specs.Texts.{name_of_context}
use Rattle.mcs_report.specs.Members.{state_text, rules_text}
use Rattle.mcs_trace.specs.Traces.{Inference}
use Rattle.mcs_spelling.specs.Parts.{atoms_text, defaults_text, spaced, step_text}

-- ---- the lines of a certificate
pub data Line : Type 0 where
  YesLine : Line
  NoLine : (atoms : ℕ) → Line
  StepLine : (step : Inference) → Line
  SetLine : (defaults : ℕ) → Line
  UnsupportedLine : (number : ℕ) → Line
  BlockedLine : (number just : ℕ) → Line
  AppliedLine : (number : ℕ) → Line
  UngroundedLine : (defaults : ℕ) → Line
  ExtensionLine : (order : List ℕ) → Line
  ModelLine : (atoms : ℕ) → Line
  SmallerLine : (atoms : ℕ) → Line
  NoneLine : Line

-- where the atoms have these names
unfoldable pub line_text : List Name → Line → List ℕ
line_text names YesLine = codes "yes"
line_text names (NoLine atoms) = codes "no " ++ atoms_text names atoms
line_text names (StepLine step) = step_text step
line_text names (SetLine defaults) = codes "set " ++ defaults_text defaults
line_text names (UnsupportedLine number) = codes "unsupported " ++ decimal number
line_text names (BlockedLine number just) = codes "blocked " ++ (decimal number ++ (codes " " ++ decimal just))
line_text names (AppliedLine number) = codes "applied " ++ decimal number
line_text names (UngroundedLine defaults) = codes "ungrounded " ++ defaults_text defaults
line_text names (ExtensionLine order) = codes "extension" ++ spaced (map decimal order)
line_text names (ModelLine atoms) = codes "model " ++ atoms_text names atoms
line_text names (SmallerLine atoms) = codes "smaller " ++ atoms_text names atoms
line_text names NoneLine = codes "none"

-- ---- the lines around it
-- a question: a context, and rules into it
unfoldable pub question_text : System → ℕ → ℕ → List ℕ
question_text m i x = codes "answer " ++ (name_of_context (slice_get m.contexts i) ++ (codes " " ++ rules_text m x))

-- a state that is put out
unfoldable pub output_text : System → ℕ → List ℕ
output_text m σ = codes "state " ++ state_text m σ

-- ---- lines as bytes
-- each with its line feed
abbrev pub with_feed : List ℕ → List ℕ
with_feed line = line ++ codes "\n"

abbrev pub text_of_lines : List (List ℕ) → List ℕ
text_of_lines lines = flat_map with_feed lines

-- those of a certificate
abbrev pub line_with_feed : List Name → Line → List ℕ
line_with_feed names line = with_feed (line_text names line)

abbrev pub written_lines : List Name → List Line → List ℕ
written_lines names lines = flat_map (line_with_feed names) lines
