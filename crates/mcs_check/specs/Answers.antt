-- The answers of a report, one by one and by their contexts, and oracles that hold them.
use Rattle.std.specs.Prelude.{ℕ, nat_eq, Bool, List, [], map, filter, length, Vec}
use Rattle.std.specs.List.{AllByRecursion, range_with_len}
use Rattle.std.specs.declared.alloc.Global.{Global}
use Rattle.mcs_system.specs.Plain.{System}
use Rattle.mcs_states.specs.Oracles.{OracleState}
use Rattle.mcs_check.specs.Certified.{certified_of}
use Rattle.mcs_proof_text.specs.Answers.{Answer}
use Rattle.mcs_proof_text.specs.Proofs.{HasAcceptedCertificate}
use Rattle.mcs_check.specs.Validity.{AreComplete}

-- each of the answers is right, and each question that is needed has one
pub record AreEnough (m : System) (answers : List Answer) : Type 0 where
  pub right : AllByRecursion (HasAcceptedCertificate m) answers
  pub complete : AreComplete m answers

-- ---- the answers of one context
-- a rule set, and the states that are put out
pub record CheckedAnswer : Type 0 where
  pub active : ℕ
  pub outputs : List ℕ

abbrev pub answered : ℕ × Vec ℕ Global → CheckedAnswer
answered a = record { active = a.0; outputs = a.1.items }

abbrev pub answered_by : Answer → CheckedAnswer
answered_by a = record { active = a.active; outputs = a.outputs }

abbrev pub is_of : ℕ → Answer → Bool
is_of i a = nat_eq a.context i

abbrev pub answers_to : ℕ → List Answer → List CheckedAnswer
answers_to i answers = map answered_by (filter (is_of i) answers)

-- the rule sets of its questions that are answered
abbrev pub sets_to : ℕ → List Answer → List ℕ
sets_to i answers = map (λ (a : CheckedAnswer). a.active) (answers_to i answers)

-- ---- an oracle for each context
abbrev pub oracle_for : System → List Answer → ℕ → OracleState
oracle_for m answers i = certified_of m i (sets_to i answers) []

abbrev pub oracles_for : System → List Answer → List OracleState
oracles_for m answers = map (oracle_for m answers) (range_with_len 0 (length m.contexts))
