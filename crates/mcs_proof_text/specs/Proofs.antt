-- The proof part of a report: right answers to exactly the questions of a level.
use Rattle.std.specs.Prelude.{◌≡◌, ℕ, ◌<◌, ◌≤◌, ◌^◌, ◌↔◌, List, [], ◌∷◌, ◌++◌, length, codes}
use Rattle.std.specs.List.{AllByRecursion, flat_map}
use Rattle.mcs_base.specs.Listings.{IsAmong, IsAscending}
use Rattle.mcs_sets.specs.Sets.{Within}
use Rattle.mcs_system.specs.Plain.{System}
use Rattle.mcs_system.specs.Faults.{IsValid}
use Rattle.mcs_system.specs.Imports.{rules_into}
use Rattle.mcs_system.specs.Justifications.{SystemIsJustifiedUpTo}
use Rattle.mcs_system.specs.Levels.{IsQuestionAt}
use Rattle.mcs_asking.specs.Certificates.{IsAccepted}
use Rattle.mcs_proof_text.specs.Answers.{Answer, answer_lines}
use Rattle.mcs_proof_text.specs.Reports.{AnswerBefore, most_report_bytes}
use Rattle.mcs_proof_text.specs.Answers.{IsInShape}

-- the certificate of the answer is accepted
abbrev pub HasAcceptedCertificate : System → Answer → Type 0
HasAcceptedCertificate m a = IsAccepted m a.context a.active a.outputs a.cert

-- one of the answers is to this question
abbrev pub IsAnswered : List Answer → ℕ → ℕ → Type 0
IsAnswered answers i x = (a : Answer) × IsAmong a answers × (a.context ≡ i) × (a.active ≡ x)

-- answers that are right, to exactly the questions of the level, in order
pub record AreProof (m : System) (level : ℕ) (answers : List Answer) : Type 0 where
  pub ascending : IsAscending AnswerBefore answers
  pub right : AllByRecursion (HasAcceptedCertificate m) answers
  pub questions : (i x : ℕ) → IsAnswered answers i x ↔ ((i < length m.contexts) × IsQuestionAt m level i x)

-- their lines, after and before those that mark them off
abbrev pub proof_lines : System → List Answer → List (List ℕ)
proof_lines m answers = codes "proof" ∷ (flat_map (answer_lines m) answers ++ codes "end of proof" ∷ [])

-- ---- laws
-- a right answer to a question is in shape, where it has no more lines than a report may have bytes, and certificates have numbers for the justifications
abbrev pub RightAnswersAreInShape : Type 0
RightAnswersAreInShape = (m : System) (n : ℕ) (a : Answer) → IsValid m → n < 2 ^ 32 → SystemIsJustifiedUpTo n m → Within a.active (rules_into m a.context)
    → length (answer_lines m a) ≤ most_report_bytes → HasAcceptedCertificate m a → IsInShape m a
