-- The questions that solvers were asked, and the answers that they keep, as plain data.
use Rattle.std.specs.Prelude.{◌≡◌, ℕ, ◌<◌, List, [], ◌∷◌, ◌++◌, map, length, Some, slice_get, ◌⊎◌}
use Rattle.std.specs.List.{AllByRecursion}
use Rattle.mcs_sets.specs.Sets.{Within}
use Rattle.mcs_base.specs.Listings.{IsAmong, IsListing}
use Rattle.mcs_system.specs.Plain.{System}
use Rattle.mcs_system.specs.Systems.{all_rules, all_variables}
use Rattle.mcs_states.specs.Oracles.{OracleState}
use Rattle.mcs_asking.specs.Certificates.{plain_of}
use Rattle.mcs_proof_text.specs.Answers.{Answer}
use Rattle.mcs_proof_text.specs.Proofs.{HasAcceptedCertificate}
use Rattle.mcs_proof_writer.specs.declared.asking.Question.{Question}
use Rattle.mcs_proof_writer.specs.declared.gathering.Shown.{Shown}

-- ---- questions
abbrev pub question_with : ℕ → ℕ → Question
question_with i x = record { context = i; active = x }

-- by context, and then by set of rules
abbrev pub QuestionBefore : Question → Question → Type 0
QuestionBefore a b = (a.context < b.context) ⊎ ((a.context ≡ b.context) × (a.active < b.active))

-- its context is one of the first k, and the oracle of the context was asked this
abbrev pub IsAskedBelow : List OracleState → ℕ → Question → Type 0
IsAskedBelow os k q = (q.context < k) × ((o : OracleState) × (slice_get os q.context ≡ Some o) × IsAmong q.active o.journal)

-- exactly what the first k oracles were asked, in order
abbrev pub AreOfFirst : List OracleState → ℕ → List Question → Type 0
AreOfFirst os k questions = IsListing (IsAskedBelow os k) QuestionBefore questions

-- what the oracle of context i was asked comes after the others, ascending
pub record AddsAsked (i : ℕ) (o : OracleState) (old new : List Question) : Type 0 where
  pub sets : List ℕ
  pub asked : IsListing (λ x. IsAmong x o.journal) (λ a b. a < b) sets
  pub after : new ≡ old ++ map (question_with i) sets

-- ---- answers
abbrev pub answer_of_shown : Shown → Answer
answer_of_shown s = record { context = s.question.now.context; active = s.question.now.active; outputs = s.outputs.now; cert = plain_of s.cert.now }

abbrev pub answers_of : List Shown → List Answer
answers_of shown = map answer_of_shown shown

-- the oracle keeps an answer to the question, which is one to its context
pub record IsKeptIn (o : OracleState) (q : Question) : Type 0 where
  pub context : o.context ≡ q.context
  pub keep : o.origin ≡ [] ∷ []
  pub asked : IsAmong q.active o.journal

-- the oracle of its context does
abbrev pub KeepsCertificate : List OracleState → Question → Type 0
KeepsCertificate os q = (o : OracleState) × (slice_get os q.context ≡ Some o) × IsKeptIn o q

-- a right answer to the question
pub record IsAnswerIn (m : System) (q : Question) (a : Answer) : Type 0 where
  pub context_is : a.context ≡ q.context
  pub active_is : a.active ≡ q.active
  pub right : HasAcceptedCertificate m a

-- one of the oracle of its context
abbrev pub IsAnswerOf : List OracleState → Question → Answer → Type 0
IsAnswerOf os q a = (o : OracleState) × (slice_get os q.context ≡ Some o) × IsAnswerIn o.system q a

-- its lines can be written: its context is one of the system, and its sets are sets of rules and of variables of it
pub record IsWritable (m : System) (a : Answer) : Type 0 where
  pub context : a.context < length m.contexts
  pub rules : Within a.active (all_rules m)
  pub outputs : AllByRecursion (λ σ. Within σ (all_variables m)) a.outputs
