-- What the doing of a job does.
use Rattle.std.proofs.Common.{◌≡◌, ℕ, ◌≤◌, List, Option, Result, Ok, Err, IfSome, IfErr, OnOk, refl, sym, ap, ◌∙◌, subst, arith}
use Rattle.std.specs.Result.{IsErrAnd}
use Rattle.mcs_ports.specs.Causes.{Rose}
use Rattle.mcs_ports.specs.Pieces.{Device}
use Rattle.mcs_words.specs.Commands.{Word}
use Rattle.mcs_listing.specs.Jobs.{File, told_all}
use Rattle.mcs_listing.specs.declared.ending.Stop.{Stop}
use Rattle.mcs_top.specs.Meaning.{JobMeaning}
use Rattle.mcs_top.specs.Promise.{DoesJob, IsStopCause, LeavesText, WritesOutput, Excludes, as_done}
use Rattle.mcs_listing.specs.Listings.{UsesSink}
use Rattle.mcs_listing.proofs.DeviceLemmas.{still}
use Rattle.mcs_top.specs.declared.outcome.Outcome.{Outcome}
use Rattle.mcs_top.specs.declared.outcome.Outcome.TheVariants as outcomes
use Rattle.mcs_top.proofs.StageLemmas.{done_ends, done_stops}

-- ---- the job
module _ (job : JobMeaning) (held : Option (Word → File)) (faults faults' failures failures' : ℕ) (before now : Device) where
  abbrev Does : Result Outcome Stop → Type 0
  Does r = DoesJob job held faults faults' failures failures' before now r

  -- what comes of a stop
  pub does_err : (stop : Stop) (r : Result Outcome Stop) → IsErrAnd r (λ s. s ≡ stop) → Does (Err stop) → Does r
  does_err stop (Ok x) is d = absurd is
  does_err stop (Err s) is d = subst (λ (x : Stop). Does (Err x)) (sym is) d

  -- the same of a job that is done unless it stops
  pub does_stop : (stop : Stop) (r : Result (Unit {0}) Stop) → IsErrAnd r (λ s. s ≡ stop) → Does (Err stop) → Does (as_done r)
  does_stop stop (Ok x) is d = absurd is
  does_stop stop (Err s) is d = subst (λ (x : Stop). Does (Err x)) (sym is) d

  pub does_done : ((fs : List File) → Excludes outcomes.Done job fs) → faults ≤ faults' → (r : Result (Unit {0}) Stop) → UsesSink before now r → OnOk r (IfSome (told_all held job.files) (WritesOutput before.written now.written job))
      → IfErr r (λ stop. IsStopCause stop (Rose faults faults') (Rose failures failures') (Rose before.faults now.faults) job (told_all held job.files))
      → IfErr r (λ stop. LeavesText stop job (told_all held job.files) before.written now.written) → Does (as_done r)
  does_done never up r sink wrote cause leaves = record {
    shelf_later = up;
    sink = record { later = sink.later; unfailed = λ other. sink.unfailed (λ is. other (ap as_done is)); notes = sink.notes };
    ok = done_ends job (told_all held job.files) before.written now.written never r wrote;
    cause = done_stops _ r cause;
    leaves = done_stops _ r leaves;
  }

-- it stopped before the device was used
pub does_unused : (job : JobMeaning) (held : Option (Word → File)) (faults faults' failures failures' : ℕ) (d : Device) (stop : Stop) → faults ≤ faults'
    → IsStopCause stop (Rose faults faults') (Rose failures failures') (Rose d.faults d.faults) job (told_all held job.files) → LeavesText stop job (told_all held job.files) d.written d.written
    → DoesJob job held faults faults' failures failures' d d (Err stop)
does_unused job held faults faults' failures failures' d stop up cause leaves = record { shelf_later = up; sink = still d (Err stop); ok = tt; cause = cause; leaves = leaves }
