-- The reading of the words as a function, by which the code is told.
use Rattle.std.specs.Prelude.{◌≡◌, ◌+◌, ◌≤◌, length, ℕ, Bool, not, nat_eq, cond, ◌&&◌, List, [], ◌∷◌, map, codes, Option, Some, None, option_map, IfSome, String, string_bytes}
use Rattle.std.specs.Borrow.{Bor}
use Rattle.std.specs.Str.{bytes_eq}
use Rattle.std.specs.Option.{option_map_or}
use Rattle.std.specs.declared.alloc.Global.{Global}
use Rattle.mcs_base.specs.Numbers.{IsNumber}
use Rattle.mcs_words.specs.Commands.{Word, Command, Request, equilibria, solve, check, make, grounded, cheapest, session, report_word, nothing, with_plain, with_value, with_proof, begins_with_dash, IsFile, most_made}
use Rattle.mcs_words.specs.declared.given.Given.{Given}
use Rattle.mcs_words.specs.declared.job.Job.{Job}
use Rattle.mcs_words.specs.declared.job.Job.TheVariants.{Equilibria, Solve, Check, Make, Grounded, Cheapest, Session}
use Rattle.mcs_words.specs.declared.kind.Kind.{Kind}
use Rattle.mcs_words.specs.declared.kind.Kind.TheVariants as code
use Rattle.mcs_words.specs.declared.reading.Place.{Place}
use Rattle.mcs_words.specs.declared.reading.Place.TheVariants.{Open, Value, Closed}
use Rattle.mcs_words.specs.declared.tally.Tally.{Tally}
use Rattle.mcs_words.specs.declared.setting.Setting.{Setting}
use Rattle.mcs_words.specs.declared.setting.Setting.TheVariants.{Budget, Workers}
use Rattle.mcs_words.specs.declared.task.Task.{Task}
use Rattle.mcs_words.specs.declared.task.Task.TheVariants as task

-- ---- from the code's types to the definitions

abbrev pub texts_of : List (String Global) → List Word
texts_of words = map string_bytes words

abbrev pub request_of : Job → Request
request_of (Equilibria file budget workers) = equilibria (string_bytes file) budget workers
request_of (Solve file budget workers proof) = solve (string_bytes file) budget workers proof
request_of (Check file report) = check (string_bytes file) (string_bytes report)
request_of (Make number budget workers) = make number budget workers
request_of (Grounded file budget workers) = grounded (string_bytes file) budget workers
request_of (Cheapest file report budget workers) = cheapest (string_bytes file) (option_map string_bytes report) budget workers
request_of (Session file script budget) = session (string_bytes file) (string_bytes script) budget

-- the first plain word of a job
abbrev pub task_name : Task → Word
task_name task.Equilibria = codes "equilibria"
task_name task.Solve = codes "solve"
task_name task.Check = codes "check"
task_name task.Make = codes "make"
task_name task.Grounded = codes "grounded"
task_name task.Cheapest = codes "cheapest"
task_name task.Session = codes "session"

-- what its other plain words are
abbrev pub IsOneFile : List Word → Type 0
IsOneFile words = (file : Word) × (words ≡ file ∷ []) × IsFile file

abbrev pub AreTwoFiles : List Word → Type 0
AreTwoFiles words = (file : Word) × (report : Word) × (words ≡ file ∷ report ∷ []) × IsFile file × IsFile report

abbrev pub AreOneOrTwoFiles : List Word → Type 0
AreOneOrTwoFiles words = (file : Word) × (report : Option Word) × (words ≡ file ∷ report_word report) × IsFile file × IfSome report IsFile

abbrev pub IsOneNumber : List Word → Type 0
IsOneNumber words = (digits : Word) × (number : ℕ) × (words ≡ digits ∷ []) × IsNumber 0 most_made digits number

-- no value, or one
abbrev pub value_list : Option (Bor Word) → List Word
value_list None = []
value_list (Some value) = value.now ∷ []

-- how often a flag stands that stands once at most
abbrev pub times : Bool → ℕ
times stands = cond stands 1 0

-- the plain words after the name of the job
abbrev pub targets_of : Given → List Word
targets_of g = g.file.now ∷ value_list g.report

abbrev pub command_of : Given → Command
command_of g = record { plain = g.job.now ∷ targets_of g; budgets = value_list g.budget; workers = value_list g.workers; proofs = times g.proof }

-- ---- how many words of each sort
abbrev pub total_of : Tally → ℕ
total_of t = t.plain + t.budgets + t.workers + t.proofs

abbrev pub no_tally : Tally
no_tally = record { plain = 0; budgets = 0; workers = 0; proofs = 0 }

abbrev pub more_plain : Tally → Tally
more_plain t = record t { plain = t.plain + 1 }

abbrev pub more_values : Setting → Tally → Tally
more_values Budget t = record t { budgets = t.budgets + 1 }
more_values Workers t = record t { workers = t.workers + 1 }

abbrev pub more_proofs : Tally → Tally
more_proofs t = record t { proofs = t.proofs + 1 }

abbrev pub tally_of : Command → Tally
tally_of c = record { plain = length c.plain; budgets = length c.budgets; workers = length c.workers; proofs = c.proofs }

-- a command after what is counted
abbrev pub counted_command : Tally → Command → Tally
counted_command t c = record {
  plain = t.plain + length c.plain;
  budgets = t.budgets + length c.budgets;
  workers = t.workers + length c.workers;
  proofs = t.proofs + c.proofs;
}

-- a job, a file and no report or one; each option and the flag once at most
pub record IsWholeTally (t : Tally) : Type 0 where
  pub least : 2 ≤ t.plain
  pub most : t.plain ≤ 3
  pub budgets : t.budgets ≤ 1
  pub workers : t.workers ≤ 1
  pub proofs : t.proofs ≤ 1

-- ---- what a word is

pub data WordKind : Type 0 where
  dashes : WordKind
  name : Setting → WordKind
  joined : Setting → Word → WordKind
  flag : WordKind
  plain : WordKind
  unknown : WordKind

-- what the code tells of it
abbrev pub IsKindSeen : Kind → WordKind → Type 0
IsKindSeen code.Dashes k = k ≡ dashes
IsKindSeen (code.Name s) k = k ≡ name s
IsKindSeen (code.Joined s) k = (value : Word) × (k ≡ joined s value)
IsKindSeen code.Flag k = k ≡ flag
IsKindSeen code.Plain k = k ≡ plain
IsKindSeen code.Unknown k = k ≡ unknown

-- what follows the front in the word
abbrev pub rest_after : Word → Word → Option Word
rest_after [] word = Some word
rest_after (f ∷ front) [] = None
rest_after (f ∷ front) (b ∷ word) = cond (nat_eq b f) (rest_after front word) None

abbrev pub other_kind : Word → WordKind
other_kind word = cond (begins_with_dash word && not (bytes_eq word (codes "-"))) unknown plain

abbrev pub joined_kind : Word → WordKind
joined_kind word = option_map_or (joined Budget) (rest_after (codes "--budget=") word)
    (option_map_or (joined Workers) (rest_after (codes "--workers=") word) (other_kind word))

unfoldable pub kind : Word → WordKind
kind word = cond (bytes_eq word (codes "--")) dashes
    (cond (bytes_eq word (codes "--budget")) (name Budget)
    (cond (bytes_eq word (codes "--workers")) (name Workers)
    (cond (bytes_eq word (codes "--proof")) flag (joined_kind word))))

-- ---- the reading

-- a word and those after it, where they are read by `rest`
abbrev pub open_step : WordKind → Word → (Place → Option Command) → Option Command
open_step dashes word rest = rest Closed
open_step (name s) word rest = rest (Value s)
open_step (joined s value) word rest = option_map (with_value s value) (rest Open)
open_step flag word rest = option_map with_proof (rest Open)
open_step plain word rest = option_map (with_plain word) (rest Open)
open_step unknown word rest = None

abbrev pub step : Place → Word → (Place → Option Command) → Option Command
step Open word rest = open_step (kind word) word rest
step (Value s) word rest = cond (begins_with_dash word) None (option_map (with_value s word) (rest Open))
step Closed word rest = option_map (with_plain word) (rest Closed)

abbrev pub at_end : Place → Option Command
at_end Open = Some nothing
at_end (Value s) = None
at_end Closed = Some nothing

-- what the words give at a place; none where they are at fault
unfoldable pub read : List Word → Place → Option Command
read [] place = at_end place
read (word ∷ words) place = step place word (read words)

-- the words are at no fault, and their plain words, options and flag are as many as they may be
abbrev pub IsWholeReading : List Word → Type 0
IsWholeReading words = (c : Command) × (read words Open ≡ Some c) × IsWholeTally (tally_of c)
