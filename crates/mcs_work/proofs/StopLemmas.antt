-- A stop of a later part of the work is one of the whole.
use Rattle.std.proofs.Common.{◌≡◌, ℕ, ◌<◌, List, [], ◌++◌, Option, Result, Ok, Err, refl, sym, ap, ◌∙◌, subst, append_assoc, inl, arith}
use Rattle.std.proofs.lemmas.List.{append-nil}
use Rattle.std.specs.Result.{IsErrAnd}
use Rattle.mcs_ports.specs.Pieces.{Device, appended}
use Rattle.mcs_text.specs.Writes.{Writes, IsWriteFaultDue}
use Rattle.mcs_text.specs.declared.unwritten.Unwritten.{Unwritten}
use Rattle.mcs_text.specs.declared.unwritten.Unwritten.TheVariants as unwritten
use Rattle.mcs_text.proofs.WriteLaws.{appended-append}
use Rattle.mcs_sets.specs.Sets.{size}
use Rattle.mcs_sets.proofs.Lattice.{size-none}
use Rattle.mcs_system.specs.Plain.{System}
use Rattle.mcs_states.specs.Evaluators.{EvaluatorState, KeepsRest, HasDone, HasHaltCause, ExceedsBudget, IsHaltOf}
use Rattle.mcs_states.specs.Calls.{Evaluates, HasHaltOf}
use Rattle.mcs_states.specs.declared.halt.Halt.{Halt}
use Rattle.mcs_states.specs.declared.halt.Halt.TheVariants as halts
use Rattle.mcs_report.specs.Listing.{heading}
use Rattle.mcs_report.specs.Solutions.{first}
use Rattle.mcs_states.proofs.Causes.{rest_kept, rest_same, unanswered_before, told}
use Rattle.mcs_work.specs.Tasks.{opening, IsTaskText, IsTaskStage, IsTaskUpTo, TakesLevel, IsLastTaken, stop_for_halt, stop_for_line}
use Rattle.mcs_work.specs.Work.{LeavesStage, IsDone, IsSpent, HasStopped, Proceeds, Works}
use Rattle.mcs_work.specs.declared.task.Task.{Task}
use Rattle.mcs_work.specs.declared.task.Task.TheVariants.{Equilibria, Grounded, Solve, Cheapest, Make}
use Rattle.mcs_work.specs.declared.task.WorkStop.{WorkStop}
use Rattle.mcs_work.specs.declared.task.WorkStop.TheVariants as stops
use Rattle.mcs_cheapest.proofs.CountLemmas.{rest_back, beyond_before}
use Rattle.mcs_work.proofs.StateLemmas.{found_beyond}
use Rattle.mcs_base.proofs.Written.{append_in_middle}

-- ---- what stops a part of the work stops the work
module _ {T U : Type 0} (task : Task) (so_far : List ℕ) (e e' : EvaluatorState) (before now : Device) where
  pub proceeds_cut : (stop : WorkStop) (r : Result U WorkStop) → IsErrAnd r (λ s. s ≡ stop) → Proceeds {T = T} task so_far e e' before now (Err stop) → Proceeds task so_far e e' before now r
  proceeds_cut stop (Ok y) is p = absurd is
  proceeds_cut stop (Err s) is p = record { later = p.later; notes = p.notes; rest = p.rest; quiet = tt; stop = subst (HasStopped task so_far e e' before now) (sym is) p.stop }

  -- where it did not stop, what was written so far does not matter
  pub proceeds_ok : (other : List ℕ) (x : T) (y : U) → Proceeds task so_far e e' before now (Ok x) → Proceeds task other e e' before now (Ok y)
  proceeds_ok other x y p = record { later = p.later; notes = p.notes; rest = p.rest; quiet = p.quiet; stop = tt }

-- a text was written
pub text_goes : {T U : Type 0} (task : Task) (so_far text : List ℕ) (e : EvaluatorState) (before now : Device) (x : T) (y : U) → Writes text before now (Ok x) → Proceeds task so_far e e before now (Ok y)
text_goes task so_far text e before now x y w = record { later = w.later; notes = w.notes; rest = rest_same e; quiet = w.quiet; stop = tt }

module _ (task : Task) (so_far : List ℕ) (e e' : EvaluatorState) (before now : Device) where
  pub works_cut : {T : Type 0} (stop : WorkStop) (r : Result (Unit {0}) WorkStop) → IsErrAnd r (λ s. s ≡ stop) → Proceeds {T = T} task so_far e e' before now (Err stop) → Works task so_far e e' before now r
  works_cut stop (Ok x) is p = absurd is
  works_cut stop (Err s) is p = record { later = p.later; notes = p.notes; rest = p.rest; quiet = tt; done = tt; stop = subst (HasStopped task so_far e e' before now) (sym is) p.stop }

  part_of : (r : Result (Unit {0}) WorkStop) → Works task so_far e e' before now r → Proceeds task so_far e e' before now r
  part_of r w = record { later = w.later; notes = w.notes; rest = w.rest; quiet = w.quiet; stop = w.stop }

-- ---- a part of the work comes after another, in which this was written
module _ {T : Type 0} (task : Task) (so_far part : List ℕ) (e mid-e e' : EvaluatorState) (before mid now : Device) (x : T) (went : Proceeds task so_far e mid-e before mid (Ok x)) (wrote : mid.written ≡ appended before.written part) where
  written_later : (more : List ℕ) → now.written ≡ appended mid.written more → now.written ≡ appended before.written (part ++ more)
  written_later more is = is ∙ ap (λ w. appended w more) wrote ∙ appended-append before.written part more

  left_later : LeavesStage task mid-e.system (so_far ++ part) mid.written now.written → LeavesStage task e.system so_far before.written now.written
  left_later l = record {
    part = part ++ l.part;
    rest = l.rest;
    stage = subst (λ (t : List ℕ). IsTaskStage task e.system t) (append_in_middle so_far part l.part l.rest) (subst (λ (m : System). IsTaskStage task m ((so_far ++ part) ++ (l.part ++ l.rest))) went.rest.system l.stage);
    written = written_later l.part l.written;
  }

  stopped_later : (stop : WorkStop) → HasStopped task (so_far ++ part) mid-e e' mid now stop → HasStopped task so_far e e' before now stop
  stopped_later stops.Write (rose, l) = (omega (arith, went.quiet, rose), left_later l)
  stopped_later (stops.Spent level) (same, s) = (
    same ∙ went.quiet,
    record {
      taken = subst (λ (m : System). TakesLevel task m level) went.rest.system s.taken;
      beyond = beyond_before e mid-e went.rest level s.beyond;
      least = λ k less beyond. s.least k less (beyond_before mid-e e (rest_back e mid-e went.rest) k beyond);
      drawn = s.drawn;
      halt = s.halt;
      over = s.over;
      part = part ++ s.part;
      text = subst (λ (t : List ℕ). IsTaskUpTo task e.system level t) (append_assoc so_far part s.part) (subst (λ (m : System). IsTaskUpTo task m level ((so_far ++ part) ++ s.part)) went.rest.system s.text);
      written = written_later s.part s.written;
    },
  )
  stopped_later (stops.Missing context active) (same, s) = (
    same ∙ went.quiet,
    record {
      level = s.level;
      taken = subst (λ (m : System). TakesLevel task m s.level) went.rest.system s.taken;
      unanswered = unanswered_before e mid-e went.rest s.level context active s.unanswered;
      halt = s.halt;
      over = s.over;
      left = left_later s.left;
    },
  )
  stopped_later stops.Memory (same, l) = (same ∙ went.quiet, left_later l)

  done_later : IsDone task (so_far ++ part) mid-e e' mid.written now.written → IsDone task so_far e e' before.written now.written
  done_later d = record {
    part = part ++ d.part;
    text = subst (λ (t : List ℕ). IsTaskText task e.system t) (append_assoc so_far part d.part) (subst (λ (m : System). IsTaskText task m ((so_far ++ part) ++ d.part)) went.rest.system d.text);
    written = written_later d.part d.written;
    level = d.level;
    last = subst (λ (m : System). IsLastTaken task m d.level) went.rest.system d.last;
    level_done = d.level_done;
    settled = d.settled;
    within = λ k taken beyond. d.within k (subst (λ (m : System). TakesLevel task m k) (sym went.rest.system) taken) (beyond_before mid-e e (rest_back e mid-e went.rest) k beyond);
    answered = λ k i x taken u. d.answered k i x (subst (λ (m : System). TakesLevel task m k) (sym went.rest.system) taken) (unanswered_before mid-e e (rest_back e mid-e went.rest) k i x u);
  }

  pub proceeds_later : {U : Type 0} (r : Result U WorkStop) → Proceeds task (so_far ++ part) mid-e e' mid now r → Proceeds task so_far e e' before now r
  proceeds_later (Ok y) p = record { later = omega (arith, went.quiet, p.later); notes = p.notes ∙ went.notes; rest = rest_kept e mid-e e' went.rest p.rest; quiet = p.quiet ∙ went.quiet; stop = tt }
  proceeds_later (Err stop) p = record { later = omega (arith, went.quiet, p.later); notes = p.notes ∙ went.notes; rest = rest_kept e mid-e e' went.rest p.rest; quiet = tt; stop = stopped_later stop p.stop }

  pub works_later : (r : Result (Unit {0}) WorkStop) → Works task (so_far ++ part) mid-e e' mid now r → Works task so_far e e' before now r
  works_later (Ok y) w = let p = proceeds_later (Ok y) (part_of task (so_far ++ part) mid-e e' mid now (Ok y) w) in
      record { later = p.later; notes = p.notes; rest = p.rest; quiet = p.quiet; done = done_later w.done; stop = tt }
  works_later (Err stop) w = works_cut task so_far e e' before now stop (Err stop) refl (proceeds_later (Err stop) (part_of task (so_far ++ part) mid-e e' mid now (Err stop) w))

-- ---- where a part stops
-- what was written makes a stage
pub left_after : (task : Task) (m : System) (so_far part : List ℕ) (before now : Option (List ℕ)) → IsTaskStage task m (so_far ++ part) → now ≡ appended before part → LeavesStage task m so_far before now
left_after task m so_far part before now stage is = record { part = part; rest = []; stage = subst (λ (t : List ℕ). IsTaskStage task m (so_far ++ t)) (sym (append-nil part)) stage; written = is }

module _ (task : Task) (so_far text : List ℕ) (e e' : EvaluatorState) (kept : KeepsRest e e') (stage : IsTaskStage task e.system (so_far ++ text)) (before now : Device) {T : Type 0} where
  -- the text was cut off
  pub text_stops : (why : Unwritten) → Writes {T = T} text before now (Err why) → Proceeds {T = Unit {0}} task so_far e e' before now (Err (stop_for_line why))
  text_stops why w = record { later = w.later; notes = w.notes; rest = kept; quiet = tt; stop = at why w.due }
    where
      left : LeavesStage task e.system so_far before.written now.written
      left = record { part = w.front.front; rest = w.front.rest; stage = subst (λ (t : List ℕ). IsTaskStage task e.system (so_far ++ t)) (sym w.front.parts) stage; written = w.front.written }

      at : (d : Unwritten) → IsWriteFaultDue d before.faults now.faults → HasStopped task so_far e e' before now (stop_for_line d)
      at unwritten.Fault due = (due, left)
      at unwritten.Memory due = (due, left)

  -- it was written, and then memory ran out
  pub memory_stops : (x : T) → Writes text before now (Ok x) → Proceeds {T = Unit {0}} task so_far e e' before now (Err stops.Memory)
  memory_stops x w = record { later = w.later; notes = w.notes; rest = kept; quiet = tt; stop = (w.quiet, left_after task e.system so_far text before.written now.written stage w.whole) }

  -- it was written, and then the level halted, which is the least one beyond the budget where it is spent
  pub halt_stops : (level : ℕ) → TakesLevel task e.system level → ((k : ℕ) → k < level → ¬ ExceedsBudget e k) → (ExceedsBudget e level → IsTaskUpTo task e.system level (so_far ++ text)) → (x : T) → Writes text before now (Ok x)
      → (halt : Halt) → HasHaltOf e e' level halt → Proceeds {T = Unit {0}} task so_far e e' before now (Err (stop_for_halt halt))
  halt_stops level taken least up_to x w halt h = record { later = w.later; notes = w.notes; rest = kept; quiet = tt; stop = at halt h }
    where
      at : (why : Halt) → HasHaltOf e e' level why → HasStopped task so_far e e' before now (stop_for_halt why)
      at (halts.Spent found drawn) spent = (
        w.quiet,
        subst (λ (l : ℕ). IsHaltOf e' (halts.Spent l drawn) → IsSpent task so_far e e' l before.written now.written) (sym spent.cause.0) (λ told.
            let beyond : ExceedsBudget e level = found_beyond e level drawn (omega (arith, spent.cause.1)) spent.cause.2 in
            record {
              taken = taken;
              beyond = beyond;
              least = least;
              drawn = drawn;
              halt = told.0;
              over = told.1;
              part = text;
              text = up_to beyond;
              written = w.whole;
            }) spent.told,
      )
      at (halts.Missing context active) missing = (
        w.quiet,
        record {
          level = level;
          taken = taken;
          unanswered = missing.cause;
          halt = missing.told.0;
          over = missing.told.1;
          left = left_after task e.system so_far text before.written now.written stage w.whole;
        },
      )
      at halts.Memory h = (w.quiet, left_after task e.system so_far text before.written now.written stage w.whole)

-- ---- what comes before the first question, and then the equilibria
pub opening_stage : (task : Task) (m n : System) → m ≡ n → IsTaskStage task m (opening task n)
opening_stage Equilibria m n same = inl (ap heading (sym same))
opening_stage Grounded m n same = inl (ap heading (sym same))
opening_stage Solve m n same = first (ap heading (sym same))
opening_stage Cheapest m n same = inl (ap heading (sym same))
opening_stage Make m n same = inl refl

opening_up_to : (task : Task) (m n : System) → m ≡ n → IsTaskUpTo task m 0 (opening task n)
opening_up_to Equilibria m n same = ap heading (sym same)
opening_up_to Grounded m n same = ap heading (sym same)
opening_up_to Solve m n same = ap heading (sym same)
opening_up_to Cheapest m n same = ap heading (sym same) ∙ sym (append-nil (heading m))
opening_up_to Make m n same = refl

lowest_taken : (task : Task) (m : System) → TakesLevel task m 0
lowest_taken Equilibria m = refl
lowest_taken Grounded m = refl
lowest_taken Solve m = inl refl
lowest_taken Cheapest m = λ stop _. omega arith
lowest_taken Make m = inl refl

module _ (task : Task) (m : System) (e : EvaluatorState) (same : e.system ≡ m) (before now : Device) {T : Type 0} where
  pub opening_stops : (why : Unwritten) → Writes {T = T} (opening task m) before now (Err why) → Proceeds {T = Unit {0}} task [] e e before now (Err (stop_for_line why))
  opening_stops why w = text_stops task [] (opening task m) e e (rest_same e) (opening_stage task e.system m same) before now why w

  -- the round of level 0 halted
  pub first_halts : {U : Type 0} (e' : EvaluatorState) (x : T) (pair : ℕ) (halt : Halt) → pair ≡ 0 → Writes (opening task m) before now (Ok x) → Evaluates {T = U} (size pair) e e' (Err halt) → Proceeds {T = Unit {0}} task [] e e' before now (Err (stop_for_halt halt))
  first_halts e' x pair halt none w call = halt_stops task [] (opening task m) e e' call.rest (opening_stage task e.system m same) before now 0 (lowest_taken task e.system) (λ k less. absurd (omega (arith, less))) (λ _. opening_up_to task e.system m same) x w halt
      (record { cause = subst (λ (n : ℕ). HasHaltCause e n halt) (ap size none ∙ size-none) call.halt.cause; told = told e e' (size pair) halt call.halt })

-- the level of the empty pair is 0
pub done_first : (e e' : EvaluatorState) (pair : ℕ) → pair ≡ 0 → HasDone e e' (size pair) → HasDone e e' 0
done_first e e' pair none h = subst (λ (n : ℕ). HasDone e e' n) (ap (λ (p : ℕ). size p) none ∙ size-none) h
