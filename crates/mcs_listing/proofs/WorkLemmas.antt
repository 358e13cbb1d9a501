-- What the work on a system wrote, and why it stopped: of the system of a file, and of one that is generated.
use Rattle.std.proofs.Common.{◌≡◌, ℕ, ◌+◌, ◌≤◌, List, [], ◌++◌, Option, Result, Ok, Err, IfErr, OnOk, inl, inr, refl, sym, ap, ◌∙◌, subst, append_assoc, arith}
use Rattle.std.proofs.lemmas.List.{append-nil}
use Rattle.mcs_ports.specs.Causes.{Rose}
use Rattle.mcs_ports.specs.Pieces.{Device, appended}
use Rattle.mcs_text.specs.Writes.{Writes, WritesFront}
use Rattle.mcs_text.proofs.WriteLaws.{appended-append, appended-none}
use Rattle.mcs_system.specs.Plain.{System}
use Rattle.mcs_system.specs.Levels.{HasQuestions}
use Rattle.mcs_states.specs.Evaluators.{EvaluatorState}
use Rattle.mcs_states.specs.Evaluators as evaluators
use Rattle.mcs_generator.specs.Generated.{generated_system}
use Rattle.mcs_work.specs.Tasks.{IsTaskText, IsTaskStage, IsTaskUpTo, TakesLevel, opening}
use Rattle.mcs_work.specs.Work.{LeavesStage, IsDone, IsSpent, HasStopped}
use Rattle.mcs_work.specs.declared.task.Task.{Task}
use Rattle.mcs_work.specs.declared.task.Task.TheVariants.{Make}
use Rattle.mcs_work.specs.declared.task.WorkStop.{WorkStop}
use Rattle.mcs_work.specs.declared.task.WorkStop.TheVariants as works
use Rattle.mcs_work.proofs.StopLemmas.{opening_stage}
use Rattle.mcs_listing.specs.Endings.{stop_for_work, stop_for_unwritten}
use Rattle.mcs_listing.specs.Listings.{NeedsMoreThan, IsListingText, IsListedBefore, AfterNumber, number_line, Prints, PrintsFront, StopsWork, StopsGenerated, IsNewEvaluator}
use Rattle.mcs_listing.specs.declared.ending.Stop.{Stop}
use Rattle.mcs_listing.specs.declared.ending.Stop.TheVariants as stops
use Rattle.mcs_text.specs.declared.unwritten.Unwritten.{Unwritten}
use Rattle.mcs_text.specs.declared.unwritten.Unwritten.TheVariants as unwritten

-- ---- before the work
-- what is printed before the first question is a stage, and nothing is a front of it
pub nothing_left : (task : Task) (m : System) (now : Option (List ℕ)) → PrintsFront (IsTaskStage task m) now now
nothing_left task m now = record {
  text = opening task m;
  holds = opening_stage task m m refl;
  front = record { front = []; rest = opening task m; parts = refl; written = appended-none now };
}

-- ---- what the work did, of the system
module _ (task : Task) (m : System) (budget : ℕ) (e e' : EvaluatorState) (fresh : IsNewEvaluator m budget e) where
  beyond_here : (level : ℕ) → evaluators.ExceedsBudget e level → NeedsMoreThan m level budget
  beyond_here level h = subst (λ (n : System). HasQuestions n level (budget + 1)) fresh.system (subst (λ (b : ℕ). HasQuestions e.system level (b + 1)) fresh.budget_is h)

  beyond_there : (level : ℕ) → NeedsMoreThan m level budget → evaluators.ExceedsBudget e level
  beyond_there level h = subst (λ (b : ℕ). HasQuestions e.system level (b + 1)) (sym fresh.budget_is) (subst (λ (n : System). HasQuestions n level (budget + 1)) (sym fresh.system) h)

  pub listed_done : (before now : Option (List ℕ)) → IsDone task [] e e' before now → Prints (λ text. IsListingText task budget text m) before now
  listed_done before now d = record {
    text = d.part;
    holds = (
      λ level taken beyond. d.within level (subst (λ (n : System). TakesLevel task n level) (sym fresh.system) taken) (beyond_there level beyond),
      subst (λ (n : System). IsTaskText task n d.part) fresh.system d.text,
    );
    written = d.written;
  }

  stage_left : (before now : Option (List ℕ)) → LeavesStage task e.system [] before now → PrintsFront (IsTaskStage task m) before now
  stage_left before now l = record {
    text = l.part ++ l.rest;
    holds = subst (λ (n : System). IsTaskStage task n (l.part ++ l.rest)) fresh.system l.stage;
    front = record { front = l.part; rest = l.rest; parts = refl; written = l.written };
  }

  listed_before : (level : ℕ) (before now : Option (List ℕ)) → IsSpent task [] e e' level before now → Prints (λ text. IsListedBefore task budget level text m) before now
  listed_before level before now s = record {
    text = s.part;
    holds = (
      record {
        taken = subst (λ (n : System). TakesLevel task n level) fresh.system s.taken;
        beyond = beyond_here level s.beyond;
        least = λ k less beyond. s.least k less (beyond_there k beyond);
      },
      subst (λ (n : System). IsTaskUpTo task n level s.part) fresh.system s.text,
    );
    written = s.written;
  }

  pub work_done : (before now : Device) (r : Result (Unit {0}) WorkStop) → OnOk r (IsDone task [] e e' before.written now.written) → OnOk r (Prints (λ text. IsListingText task budget text m) before.written now.written)
  work_done before now (Ok x) d = listed_done before.written now.written d
  work_done before now (Err stop) d = tt

  pub work_stopped : (before now : Device) (stop : WorkStop) → HasStopped task [] e e' before now stop → StopsWork (stop_for_work budget stop) task budget m (Rose before.faults now.faults) before.written now.written
  work_stopped before now works.Write h = (h.0, stage_left before.written now.written h.1)
  work_stopped before now (works.Spent level) (same, h) = (refl, listed_before level before.written now.written h)
  work_stopped before now (works.Missing context active) (same, h) = stage_left before.written now.written h.left
  work_stopped before now works.Memory (same, h) = stage_left before.written now.written h

  -- unless a write failed, the count is as before
  pub work_unfailed : (before now : Device) (stop : WorkStop) → HasStopped task [] e e' before now stop → ¬ (stop_for_work budget stop ≡ stops.WriteFault) → now.faults ≡ before.faults
  work_unfailed before now works.Write h other = absurd (other refl)
  work_unfailed before now (works.Spent level) (same, h) other = same
  work_unfailed before now (works.Missing context active) (same, h) other = same
  work_unfailed before now works.Memory (same, h) other = same

-- ---- a generated system, whose number is printed first
module _ (number budget : ℕ) (before mid now : Device) where
  abbrev line : List ℕ
  line = number_line number (generated_system number)

  module _ (first : mid.written ≡ appended before.written line) where
    later : (part : List ℕ) → now.written ≡ appended mid.written part → now.written ≡ appended before.written (line ++ part)
    later part is = is ∙ ap (λ w. appended w part) first ∙ appended-append before.written line part

    printed_after : (P : List ℕ → System → Type 0) → Prints (λ text. P text (generated_system number)) mid.written now.written → Prints (AfterNumber P number) before.written now.written
    printed_after P p = record { text = line ++ p.text; holds = (p.text, p.holds, refl); written = later p.text p.written }

    front_after : PrintsFront (IsTaskStage Make (generated_system number)) mid.written now.written → PrintsFront (AfterNumber (λ rest m. IsTaskStage Make m rest) number) before.written now.written
    front_after p = record {
      text = line ++ p.text;
      holds = (p.text, p.holds, refl);
      front = record {
        front = line ++ p.front.front;
        rest = p.front.rest;
        parts = append_assoc line p.front.front p.front.rest ∙ ap (λ t. line ++ t) p.front.parts;
        written = later p.front.front p.front.written;
      };
    }

    pub made_done : (r : Result (Unit {0}) Stop) → OnOk r (Prints (λ text. IsListingText Make budget text (generated_system number)) mid.written now.written) → OnOk r (Prints (AfterNumber (IsListingText Make budget) number) before.written now.written)
    made_done (Ok x) p = printed_after (IsListingText Make budget) p
    made_done (Err stop) p = tt

    made_stopped : (stop : Stop) → before.faults ≤ mid.faults → StopsWork stop Make budget (generated_system number) (Rose mid.faults now.faults) mid.written now.written
        → StopsGenerated stop number budget (Rose before.faults now.faults) before.written now.written
    made_stopped stops.Usage up h = h
    made_stopped (stops.Refused why) up h = h
    made_stopped (stops.Unfinished level limit) up h = (h.0, printed_after (IsListedBefore Make budget level) h.1)
    made_stopped stops.ReadFault up h = h
    made_stopped stops.WriteFault up h = (omega (arith, up, h.0), front_after h.1)
    made_stopped stops.Memory up h = inr (front_after h)

    pub made_stops : (r : Result (Unit {0}) Stop) → before.faults ≤ mid.faults → IfErr r (λ stop. StopsWork stop Make budget (generated_system number) (Rose mid.faults now.faults) mid.written now.written)
        → IfErr r (λ stop. StopsGenerated stop number budget (Rose before.faults now.faults) before.written now.written)
    made_stops (Ok x) up h = tt
    made_stops (Err stop) up h = made_stopped stop up h

  -- the line itself was not written whole
  line_front : WritesFront line before.written mid.written → PrintsFront (AfterNumber (λ rest m. IsTaskStage Make m rest) number) before.written mid.written
  line_front f = record {
    text = line ++ [];
    holds = ([], inl refl, refl);
    front = record { front = f.front; rest = f.rest; parts = f.parts ∙ sym (append-nil line); written = f.written };
  }

  pub line_stopped : (why : Unwritten) → Writes {T = Unit {0}} line before mid (Err why) → StopsGenerated (stop_for_unwritten why) number budget (Rose before.faults mid.faults) before.written mid.written
  line_stopped unwritten.Fault w = (w.due, line_front w.front)
  line_stopped unwritten.Memory w = inr (line_front w.front)
