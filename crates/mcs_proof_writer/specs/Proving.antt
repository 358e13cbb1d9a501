-- Solvers that keep what shows their answers, and what it is to write the proof that these make up.
use Rattle.std.specs.Prelude.{◌≡◌, ◌⊎◌, ℕ, ◌≤◌, List, [], ◌∷◌, length, Some, slice_get, Option, Result, OnOk, OnErr, IfErr}
use Rattle.mcs_base.specs.Listings.{IsInventory}
use Rattle.mcs_ports.specs.Pieces.{Device, appended}
use Rattle.mcs_text.specs.Writes.{WritesFront, IsWriteFaultDue}
use Rattle.mcs_text.specs.declared.unwritten.Unwritten.{Unwritten}
use Rattle.mcs_system.specs.Plain.{System}
use Rattle.mcs_system.specs.Levels.{IsQuestionAt}
use Rattle.mcs_states.specs.Oracles.{OracleState}
use Rattle.mcs_proof_text.specs.Lines.{text_of_lines}
use Rattle.mcs_proof_text.specs.Answers.{Answer}
use Rattle.mcs_proof_text.specs.Proofs.{AreProof, proof_lines}

-- one solver for each context of the system, in order, each of which keeps its certificates and was asked exactly the questions of the level
pub record AreAsked (m : System) (level : ℕ) (solvers : List OracleState) : Type 0 where
  pub one_each : length solvers ≡ length m.contexts
  pub own : (i : ℕ) (o : OracleState) → slice_get solvers i ≡ Some o → (o.system ≡ m) × (o.context ≡ i)
  pub keep : (i : ℕ) (o : OracleState) → slice_get solvers i ≡ Some o → o.origin ≡ [] ∷ []
  pub asked : (i : ℕ) (o : OracleState) → slice_get solvers i ≡ Some o → IsInventory (IsQuestionAt m level i) o.journal

-- a proof part of the level was written
pub record HasProved (m : System) (level : ℕ) (before now : Option (List ℕ)) : Type 0 where
  pub answers : List Answer
  pub proof : AreProof m level answers
  pub written : now ≡ appended before (text_of_lines (proof_lines m answers))

-- a front of one was
pub record HasBegunProof (m : System) (level : ℕ) (before now : Option (List ℕ)) : Type 0 where
  pub answers : List Answer
  pub proof : AreProof m level answers
  pub front : WritesFront (text_of_lines (proof_lines m answers)) before now

-- the proof part was written and no write failed, or it stopped for a reason, with nothing or a front of it written; nothing
-- else was changed
pub record Proves {T : Type 0} (m : System) (level : ℕ) (before now : Device) (result : Result T Unwritten) : Type 0 where
  pub later : before.faults ≤ now.faults
  pub notes : now.notes ≡ before.notes
  pub quiet : OnOk result (now.faults ≡ before.faults)
  pub whole : OnOk result (HasProved m level before.written now.written)
  pub front : OnErr result ((now.written ≡ before.written) ⊎ HasBegunProof m level before.written now.written)
  pub due : IfErr result (λ e. IsWriteFaultDue e before.faults now.faults)
