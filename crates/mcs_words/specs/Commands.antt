-- The words of a command line, and the job that they ask for.
use Rattle.std.specs.Prelude.{◌≡◌, ◌+◌, ◌≤◌, ℕ, Bool, false, nat_eq, IsTrue, List, [], ◌∷◌, ◌++◌, codes, Option, Some, None, IfSome}
use Rattle.mcs_base.specs.Numbers.{IsNumber}
use Rattle.mcs_words.specs.declared.setting.Setting.{Setting}
use Rattle.mcs_words.specs.declared.setting.Setting.TheVariants.{Budget, Workers}

-- a word, as its bytes
abbrev pub Word : Type 0
Word = List ℕ

-- ---- the options: their names, and the numbers that they may have
abbrev pub name_of : Setting → Word
name_of Budget = codes "--budget"
name_of Workers = codes "--workers"

abbrev pub least_of : Setting → ℕ
least_of s = 1

abbrev pub most_of : Setting → ℕ
most_of Budget = 4294967295
most_of Workers = 64

-- the number of an option that is not there
abbrev pub default_number : Setting → ℕ
default_number Budget = 100000
default_number Workers = 1

-- ---- what words give

-- the plain words, the values of each option, and how often `--proof` stands
pub record Command : Type 0 where
  pub plain : List Word
  pub budgets : List Word
  pub workers : List Word
  pub proofs : ℕ

abbrev pub only_plain : List Word → Command
only_plain words = record { plain = words; budgets = []; workers = []; proofs = 0 }

abbrev pub nothing : Command
nothing = only_plain []

-- the command with a word before its others
abbrev pub with_plain : Word → Command → Command
with_plain word c = record c { plain = word ∷ c.plain }

abbrev pub with_value : Setting → Word → Command → Command
with_value Budget value c = record c { budgets = value ∷ c.budgets }
with_value Workers value c = record c { workers = value ∷ c.workers }

abbrev pub with_proof : Command → Command
with_proof c = record c { proofs = c.proofs + 1 }

abbrev pub begins_with_dash : Word → Bool
begins_with_dash [] = false
begins_with_dash (b ∷ bs) = nat_eq b 45

-- before `--`, a plain word that begins with `-` is `-` alone
abbrev pub IsPlain : Word → Type 0
IsPlain word = IsTrue (begins_with_dash word) → word ≡ codes "-"

-- what the words give, from left to right
pub data ReadsCommand : List Word → Command → Type 0 where
  -- no words give nothing
  ends : ReadsCommand [] nothing
  -- after `--` each word is plain
  dashes : (words : List Word) → ReadsCommand (codes "--" ∷ words) (only_plain words)
  -- a plain word
  plain_word : (word : Word) (words : List Word) (c : Command) → IsPlain word → ReadsCommand words c → ReadsCommand (word ∷ words) (with_plain word c)
  -- an option with its value in one word, as `--budget=5`
  joined : (s : Setting) (value : Word) (words : List Word) (c : Command) → ReadsCommand words c → ReadsCommand ((name_of s ++ 61 ∷ value) ∷ words) (with_value s value c)
  -- an option, whose value is the next word and does not begin with `-`
  apart : (s : Setting) (value : Word) (words : List Word) (c : Command) → ¬ IsTrue (begins_with_dash value) → ReadsCommand words c
      → ReadsCommand (name_of s ∷ value ∷ words) (with_value s value c)
  -- the flag
  flag : (words : List Word) (c : Command) → ReadsCommand words c → ReadsCommand (codes "--proof" ∷ words) (with_proof c)

-- ---- numbers

-- the number of an option with these values: it may stand once, and has its default where it does not stand
abbrev pub IsChosen : Setting → List Word → ℕ → Type 0
IsChosen s [] n = n ≡ default_number s
IsChosen s (value ∷ []) n = IsNumber (least_of s) (most_of s) value n
IsChosen s (value ∷ (second ∷ values)) n = ⊥

-- the flag stands once at most, and this says whether it does
abbrev pub IsFlagGiven : ℕ → Bool → Type 0
IsFlagGiven times stands = (times ≤ 1) × (stands ≡ nat_eq times 1)

-- a command's budget, its number of workers, and whether its flag stands
pub record HasSettings (c : Command) (budget workers : ℕ) (proof : Bool) : Type 0 where
  pub budget_is : IsChosen Budget c.budgets budget
  pub workers_are : IsChosen Workers c.workers workers
  pub proof_is : IsFlagGiven c.proofs proof

-- ---- jobs

pub data Request : Type 0 where
  -- to list the equilibria of the system that a file has: the file, a budget of questions, a number of workers
  equilibria : Word → ℕ → ℕ → Request
  -- to list its equilibria, minimal diagnoses and minimal explanations, and to add their proof or not
  solve : Word → ℕ → ℕ → Bool → Request
  -- to judge a report on the system that a file has: the file, and the file of the report
  check : Word → Word → Request
  -- to solve the system that is generated for a number: the number, a budget of questions, a number of workers
  make : ℕ → ℕ → ℕ → Request
  -- to list the grounded equilibria of the system that a file has: the file, a budget of questions, a number of workers
  grounded : Word → ℕ → ℕ → Request
  -- to list the diagnoses of least cost of the system that a file has, by a report or by asking: the file, the file of the
  -- report if there is one, a budget of questions, a number of workers
  cheapest : Word → Option Word → ℕ → ℕ → Request
  -- to list the system that a file has where a script of edits asks for it: the file, the file of the script, a budget of
  -- questions of each listing
  session : Word → Word → ℕ → Request

-- the name of a file: not empty, and not `-`
abbrev pub IsFile : Word → Type 0
IsFile word = ¬ (word ≡ []) × ¬ (word ≡ codes "-")

-- the greatest number that a generated system has
abbrev pub most_made : ℕ
most_made = 4294967295

-- the word of a report, if there is one
abbrev pub report_word : Option Word → List Word
report_word None = []
report_word (Some report) = report ∷ []

-- what a command asks for: its plain words are the job, its file or number, and a second file, which must be there for `check`
-- and `session` and may be there for `cheapest`. Options and flag are what they may be also where they have no effect
abbrev pub AsksFor : Command → Request → Type 0
AsksFor c (equilibria file budget workers) =
    (proof : Bool) × (c.plain ≡ codes "equilibria" ∷ file ∷ []) × IsFile file × HasSettings c budget workers proof
AsksFor c (solve file budget workers proof) =
    (c.plain ≡ codes "solve" ∷ file ∷ []) × IsFile file × HasSettings c budget workers proof
AsksFor c (check file report) =
    (budget : ℕ) × (workers : ℕ) × (proof : Bool)
    × (c.plain ≡ codes "check" ∷ file ∷ report ∷ []) × IsFile file × IsFile report × HasSettings c budget workers proof
AsksFor c (make number budget workers) =
    (proof : Bool) × (digits : Word) × (c.plain ≡ codes "make" ∷ digits ∷ []) × IsNumber 0 most_made digits number × HasSettings c budget workers proof
AsksFor c (grounded file budget workers) =
    (proof : Bool) × (c.plain ≡ codes "grounded" ∷ file ∷ []) × IsFile file × HasSettings c budget workers proof
AsksFor c (cheapest file report budget workers) =
    (proof : Bool) × (c.plain ≡ codes "cheapest" ∷ file ∷ report_word report) × IsFile file × IfSome report IsFile × HasSettings c budget workers proof
AsksFor c (session file script budget) =
    (workers : ℕ) × (proof : Bool) × (c.plain ≡ codes "session" ∷ file ∷ script ∷ []) × IsFile file × IsFile script × HasSettings c budget workers proof

-- the words ask for the job
abbrev pub IsJobOf : List Word → Request → Type 0
IsJobOf words request = (c : Command) × ReadsCommand words c × AsksFor c request
