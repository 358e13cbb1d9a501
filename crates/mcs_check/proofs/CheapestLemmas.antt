-- What the work on the cheapest diagnoses tells where it is evaluated by answers.
use Rattle.std.proofs.Common.{◌≡◌, ℕ, ◌≤◌, List, [], ◌++◌, length, Result, Ok, Err, refl, sym, subst, ◌∙◌, inl, inr, append_assoc, arith}
use Rattle.std.specs.Result.{IsErrAnd}
use Rattle.std.proofs.lemmas.Option.{slice_get_within}
use Rattle.mcs_ports.specs.Pieces.{Device}
use Rattle.mcs_text.specs.Writes.{Writes, WritesFront}
use Rattle.mcs_text.specs.declared.unwritten.Unwritten.{Unwritten}
use Rattle.mcs_text.specs.declared.unwritten.Unwritten.TheVariants as unwritten
use Rattle.mcs_text.proofs.WriteLaws.{appended-none}
use Rattle.mcs_system.specs.Faults.{IsValid}
use Rattle.mcs_system.specs.Plain.{System}
use Rattle.mcs_states.specs.Evaluators.{EvaluatorState}
use Rattle.mcs_states.specs.Oracles.{OracleState}
use Rattle.mcs_costs.specs.Costs.{IsStopLevel, IsUpToStop}
use Rattle.mcs_costs.proofs.ExistLemmas.{stop_exists}
use Rattle.mcs_work.specs.Cheapest.{IsCheapestText}
use Rattle.mcs_work.specs.Tasks.{IsRepairLevel, stop_for_line}
use Rattle.mcs_work.specs.Work.{HasStopped, LeavesStage, Works}
use Rattle.mcs_work.specs.declared.task.Task.TheVariants.{Cheapest}
use Rattle.mcs_work.specs.declared.task.WorkStop.{WorkStop}
use Rattle.mcs_work.specs.declared.task.WorkStop.TheVariants as stops
use Rattle.mcs_work.proofs.CheapestLaws.{cheapest_stages, cheapest_texts}
use Rattle.mcs_work.proofs.CourseLemmas.{decided_always}
use Rattle.mcs_check.specs.Relisting.{AreWholeOracles, IsCutOff, start_of}
use Rattle.mcs_check.proofs.Counting.{never_so_many}
use Rattle.mcs_check.proofs.RelistingLemmas.{needed_of}

-- a level that the search for them takes is one that the listing takes
repair_level : (m : System) → IsValid m → (level : ℕ) → IsUpToStop m level → IsRepairLevel m level
repair_level m valid level up = elim (decided_always m) [
  | inl consistent ↦ inl (let low = up 0 (inl (consistent, refl)) in omega (arith, low))
  | inr none ↦ let (stop, is) = stop_exists m valid in inr (none, within stop is (up stop is))
]
  where
    within : (stop : ℕ) → IsStopLevel m stop → level ≤ stop → level ≤ length m.bridges
    within stop (inl (consistent, first)) less = omega (arith, first, less)
    within stop (inr (none, inl settling)) less = let top = settling.within in omega (arith, top, less)
    within stop (inr (none, inr never)) less = let all = never.all in omega (arith, all, less)

-- nothing was written, for want of memory
none_written : (m : System) → IsValid m → (at : Device) → (text : List ℕ) × IsCheapestText m text × Writes {T = Unit {0}} text at at (Err unwritten.Memory)
none_written m valid at = let (text, is) = cheapest_texts m valid in (
  text,
  is,
  record {
    later = omega arith;
    notes = refl;
    quiet = tt;
    whole = tt;
    front = record { front = []; rest = text; parts = refl; written = appended-none at.written };
    due = refl;
  },
)

pub none_told : (m : System) → IsValid m → (at : Device) (r : Result (Unit {0}) Unwritten) → IsErrAnd r (λ why. why ≡ unwritten.Memory) → (text : List ℕ) × IsCheapestText m text × Writes text at at r
none_told m valid at (Ok x) told = absurd told
none_told m valid at (Err why) told = subst (λ (u : Unwritten). (text : List ℕ) × IsCheapestText m text × Writes {T = Unit {0}} text at at (Err u)) (sym told) (none_written m valid at)

module _ (m : System) (valid : IsValid m) (os : List OracleState) (whole : AreWholeOracles m os) (e : EvaluatorState) (before now : Device) where
  -- there are never too many questions, and an answer is never missing
  pub cut_off : (stop : WorkStop) → HasStopped Cheapest [] (start_of m os) e before now stop → IsCutOff stop
  cut_off stops.Write h = tt
  cut_off (stops.Spent level) (same, h) = never_so_many m valid level h.beyond
  cut_off (stops.Missing context active) (same, h) =
      let o = h.unanswered.oracle in
      let less = slice_get_within os context o h.unanswered.is_its in
      let needed = needed_of m h.level context active (omega (arith, less, whole.own.one_each)) (repair_level m valid h.level h.taken) h.unanswered.question in
      whole.hold context active o needed h.unanswered.is_its h.unanswered.lacks
  cut_off stops.Memory h = tt

  -- the text was written whole
  pub whole_written : (x y : Unit {0}) → Works Cheapest [] (start_of m os) e before now (Ok x) → (text : List ℕ) × IsCheapestText m text × Writes text before now (Ok y)
  whole_written x y w = (
    w.done.part,
    w.done.text,
    record { later = w.later; notes = w.notes; quiet = w.quiet; whole = w.done.written; front = tt; due = tt },
  )

  -- a front of it was
  front_left : (text : List ℕ) → IsCheapestText m text → LeavesStage Cheapest m [] before.written now.written → WritesFront text before.written now.written
  front_left text is l = let (more, same) = cheapest_stages m (l.part ++ l.rest) text l.stage is in record {
    front = l.part;
    rest = l.rest ++ more;
    parts = sym (append_assoc l.part l.rest more) ∙ same;
    written = l.written;
  }

  pub front_written : (why : Unwritten) → Works Cheapest [] (start_of m os) e before now (Err (stop_for_line why)) → (text : List ℕ) × IsCheapestText m text × Writes {T = Unit {0}} text before now (Err why)
  front_written unwritten.Fault w = let (text, is) = cheapest_texts m valid in (
    text,
    is,
    record { later = w.later; notes = w.notes; quiet = tt; whole = tt; front = front_left text is w.stop.1; due = w.stop.0 },
  )
  front_written unwritten.Memory w = let (text, is) = cheapest_texts m valid in (
    text,
    is,
    record { later = w.later; notes = w.notes; quiet = tt; whole = tt; front = front_left text is w.stop.1; due = w.stop.0 },
  )
