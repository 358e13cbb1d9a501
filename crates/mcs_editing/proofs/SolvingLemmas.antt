-- The whole listing of a system by oracles that come back.
use Rattle.std.proofs.Common.{◌≡◌, ℕ, List, [], length, Some, None, slice_get, Option, Result, Ok, Err, refl, sym, ap, ◌∙◌, subst}
use Rattle.std.proofs.lemmas.List.{append-nil}
use Rattle.mcs_base.specs.Listings.{IsInventory}
use Rattle.mcs_ports.specs.Causes.{Rose}
use Rattle.mcs_ports.specs.Pieces.{Device}
use Rattle.mcs_system.specs.Plain.{System}
use Rattle.mcs_states.specs.Oracles.{OracleState}
use Rattle.mcs_states.specs.Evaluators.{EvaluatorState, IsJournalQuestion, unasked}
use Rattle.mcs_mesh.specs.Rounds.{evaluator_state_of}
use Rattle.mcs_report.specs.Solutions.{whole}
use Rattle.mcs_work.specs.Tasks.{IsTaskStage}
use Rattle.mcs_work.specs.Work.{IsDone}
use Rattle.mcs_work.specs.declared.task.Task.TheVariants.{Solve}
use Rattle.mcs_work.specs.declared.task.WorkStop.{WorkStop}
use Rattle.mcs_listing.specs.Endings.{stop_for_work}
use Rattle.mcs_listing.specs.Listings.{AreSure, IsNewEvaluator, IsListingText, Prints, PrintsFront, StopsWork, UsesSink}
use Rattle.mcs_listing.specs.Working.{IsWorked}
use Rattle.mcs_listing.specs.declared.ending.Stop.{Stop}
use Rattle.mcs_listing.proofs.WorkLemmas.{listed_done, work_stopped, work_unfailed}
use Rattle.mcs_editing.specs.Course.{AreAskedWhole, HasPrinted}

-- nothing but a whole listing was printed, and then memory ran out
pub listing_left : (budget : ℕ) (m : System) (before now : Option (List ℕ)) → Prints (λ text. IsListingText Solve budget text m) before now → PrintsFront (IsTaskStage Solve m) before now
listing_left budget m before now p = record { text = p.text; holds = whole p.holds.1; front = record { front = p.text; rest = []; parts = append-nil p.text; written = p.written } }

module _ (m : System) (budget : ℕ) (first oracles : List OracleState) (sure : AreSure first) (before now : Device) where
  abbrev evaluator : EvaluatorState
  evaluator = evaluator_state_of 1 m budget None None first

  new_one : IsNewEvaluator m budget evaluator
  new_one = record { system = refl; budget_is = refl; fresh = refl; going = refl; sure = sure }

  module _ (r : Result (Unit {0}) WorkStop) (w : IsWorked 1 Solve m budget first oracles before now r) where
    were_asked : IsDone Solve [] evaluator w.state before.written now.written → AreAskedWhole m first oracles
    were_asked d = record {
      one_each = ap length (sym w.oracles_are) ∙ d.settled.one_each ∙ ap (λ (n : System). length n.contexts) w.works.rest.system;
      own = λ i o is. (let own = d.settled.own i o (there i o is) in (own.0 ∙ w.works.rest.system, own.1));
      rest = ap unasked (sym w.oracles_are) ∙ w.works.rest.oracles;
      level = d.level;
      last = d.last;
      asked = λ i o is. subst (λ (done : Option ℕ). IsInventory (IsJournalQuestion m done i) o.journal) d.level_done
          (subst (λ (n : System). IsInventory (IsJournalQuestion n w.state.done i) o.journal) w.works.rest.system (d.settled.asked i o (there i o is)));
    }
      where
        there : (i : ℕ) (o : OracleState) → slice_get oracles i ≡ Some o → slice_get w.state.oracles i ≡ Some o
        there i o is = ap (λ (os : List OracleState). slice_get os i) w.oracles_are ∙ is

  pub printed_whole : (x : Unit {0}) → IsWorked 1 Solve m budget first oracles before now (Ok x) → HasPrinted budget m first oracles before.written now.written
  printed_whole x w = record { text = listed_done Solve m budget evaluator w.state new_one before.written now.written w.works.done; asked = were_asked (Ok x) w w.works.done }

  pub stopped_in : (stop : WorkStop) → IsWorked 1 Solve m budget first oracles before now (Err stop) → StopsWork (stop_for_work budget stop) Solve budget m (Rose before.faults now.faults) before.written now.written
  stopped_in stop w = work_stopped Solve m budget evaluator w.state new_one before now stop w.works.stop

  pub worked_ok : {T : Type 0} (x : Unit {0}) (r : Result T Stop) → IsWorked 1 Solve m budget first oracles before now (Ok x) → UsesSink before now r
  worked_ok x r w = record { later = w.works.later; unfailed = λ other. w.works.quiet; notes = w.works.notes }

  pub worked_err : {T : Type 0} (stop : WorkStop) (told : Stop) → told ≡ stop_for_work budget stop → IsWorked 1 Solve m budget first oracles before now (Err stop) → UsesSink {T = T} before now (Err told)
  worked_err stop told is w = record {
    later = w.works.later;
    unfailed = λ other. work_unfailed Solve m budget evaluator w.state new_one before now stop w.works.stop (λ e. other (ap (λ (x : Stop). Err x) (is ∙ e)));
    notes = w.works.notes;
  }
