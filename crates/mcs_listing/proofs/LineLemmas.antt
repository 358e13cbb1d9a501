-- What was written where a line, or the proof of a listing, was not written whole.
use Rattle.std.proofs.Common.{◌≡◌, ℕ, List, map, map-id, Result, Ok, Err, sym, ap, ◌∙◌, subst}
use Rattle.std.specs.Result.{IsErrAnd}
use Rattle.mcs_ports.specs.Causes.{Rose}
use Rattle.mcs_ports.specs.Pieces.{Device}
use Rattle.mcs_text.specs.Writes.{IsWriteFaultDue}
use Rattle.mcs_text.specs.declared.unwritten.Unwritten.{Unwritten}
use Rattle.mcs_text.specs.declared.unwritten.Unwritten.TheVariants as unwritten
use Rattle.mcs_system.specs.Plain.{System}
use Rattle.mcs_states.specs.Oracles.{OracleState}
use Rattle.mcs_proof_writer.specs.Proving.{AreAsked, Proves}
use Rattle.mcs_listing.specs.Endings.{stop_for_unwritten}
use Rattle.mcs_listing.specs.Listings.{StopsAnswers}
use Rattle.mcs_listing.specs.declared.ending.Stop.{Stop}
use Rattle.mcs_listing.specs.declared.ending.Stop.TheVariants as stops

-- a line that was not written whole
pub line_unfailed : {T : Type 0} (why : Unwritten) (before now : ℕ) (r : Result T Stop) → IsErrAnd r (λ s. s ≡ stop_for_unwritten why) → IsWriteFaultDue why before now → ¬ (r ≡ Err stops.WriteFault) → now ≡ before
line_unfailed unwritten.Fault before now (Ok x) is due other = absurd is
line_unfailed unwritten.Fault before now (Err s) is due other = absurd (other (ap (λ (e : Stop). Err e) is))
line_unfailed unwritten.Memory before now r is due other = due

-- ---- the proof itself
-- the oracles that are handed back are those that were asked
pub asked_also : (m : System) (level : ℕ) (solvers oracles : List OracleState) → map (λ (o : OracleState). o) solvers ≡ oracles → AreAsked m level oracles → AreAsked m level solvers
asked_also m level solvers oracles same asked = subst (λ (os : List OracleState). AreAsked m level os) (sym same ∙ map-id solvers) asked

pub answers_stopped : (m : System) (level : ℕ) (before now : Device) (why : Unwritten) → Proves {T = Unit {0}} m level before now (Err why) → StopsAnswers (stop_for_unwritten why) m level (Rose before.faults now.faults) before.written now.written
answers_stopped m level before now unwritten.Fault p = (p.due, p.front)
answers_stopped m level before now unwritten.Memory p = p.front
