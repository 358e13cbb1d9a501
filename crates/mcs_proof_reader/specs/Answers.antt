-- How the answers of a report are read, as functions by which the code is told.
use Rattle.std.specs.Prelude.{ℕ, zero, suc, List, [], ◌∷◌, length, codes, cond, Option, Some, None, Ok, slice_get}
use Rattle.mcs_sets.specs.Sets.{size}
use Rattle.mcs_system.specs.Plain.{ClassicalKind, Kb, OfKind, Context, System}
use Rattle.mcs_system.specs.Atoms.{atoms_of}
use Rattle.mcs_system.specs.Systems.{variables_of}
use Rattle.mcs_asking.specs.Certificates.{Certificate}
use Rattle.mcs_proof_text.specs.Answers.{Answer}
use Rattle.mcs_proof_text.specs.Kinds.{certificate_at}
use Rattle.mcs_proof_lines.specs.Walks.{At, Reading, ◌>>=◌, fault_at, line_at, taken_at, expect_at, is_next, mapped_reading}
use Rattle.mcs_proof_reader.specs.Questions.{ten, next_question, state_in_words, states_at}

-- ---- what a context is said to put out, and why
abbrev pub Shown : Type 0
Shown = List ℕ × Certificate

-- ---- the states: one of a classical context
abbrev pub states_there : System → ℕ → At → (List ℕ × At)
states_there m i at = states_at m (variables_of m i) None at

abbrev pub state_at : System → ℕ → At → Reading ℕ
state_at m i at = taken_at at (line_at (state_in_words m (variables_of m i) None) at)

abbrev pub outputs_at : System → ℕ → Kb → At → Reading (List ℕ)
outputs_at m i (OfKind ClassicalKind formulas) at = mapped_reading (λ state. state ∷ []) (state_at m i at)
outputs_at m i kb at = Ok (states_there m i at)

-- ---- the certificate of a context of the system
abbrev pub certificate_of : System → ℕ → Kb → ℕ → At → Reading Certificate
certificate_of m i kb count at = certificate_at (atoms_of m i) ten (size (variables_of m i)) kb count at

abbrev pub with_certificate : System → ℕ → Kb → List ℕ × At → Reading Shown
with_certificate m i kb outputs = mapped_reading {B = Shown} (λ (cert : Certificate). (outputs.0, cert)) (certificate_of m i kb (length outputs.0) outputs.1)

-- first the states, and then the certificate
abbrev pub shown_at : System → ℕ → Kb → At → Reading Shown
shown_at m i kb at = outputs_at m i kb at >>= with_certificate m i kb

abbrev pub shown_of : System → ℕ → Option Context → At → Reading Shown
shown_of m i None at = fault_at at
shown_of m i (Some c) at = shown_at m i c.kb at

-- ---- an answer to a question after the last one
unfoldable pub answer_at : System → Option (ℕ × ℕ) → At → Reading Answer
answer_at m last at = do
  question ← taken_at at (line_at (next_question m last) at)
  shown ← shown_of m question.0.0 (slice_get m.contexts question.0.0) question.1
  next ← expect_at (codes "done") shown.1
  Ok (record { context = question.0.0; active = question.0.1; outputs = shown.0.0; cert = shown.0.1 }, next)

abbrev pub question_in : Answer → ℕ × ℕ
question_in a = (a.context, a.active)

-- answers, at most so many, up to the line that ends them
abbrev pub answers_at : System → ℕ → Option (ℕ × ℕ) → At → Reading (List Answer)
answers_at m zero last at = cond (is_next (codes "end of proof") at) (Ok ([], at)) (fault_at at)
answers_at m (suc n) last at = cond (is_next (codes "end of proof") at) (Ok ([], at))
    (answer_at m last at >>= λ first. answers_at m n (Some (question_in first.0)) first.1 >>= λ others. Ok (first.0 ∷ others.0, others.1))
