-- Levels are done one after the other, their diagnoses are printed, and then all is known.
use Rattle.std.proofs.Common.{◌≡◌, ℕ, zero, suc, ◌+◌, ◌-◌, ◌<◌, ◌≤◌, max, nat_lt, Bool, true, false, List, [], ◌∷◌, ◌++◌, length, Option, Some, Result, Ok, Err, refl, sym, ap, ◌∙◌, subst, inl, inr, ◌⊎◌, append_assoc, arith}
use Rattle.std.proofs.lemmas.Bool.{cases_lt}
use Rattle.std.proofs.lemmas.List.{append-nil, length-map}
use Rattle.mcs_ports.specs.Pieces.{Device, appended}
use Rattle.mcs_text.specs.Writes.{Writes}
use Rattle.mcs_text.specs.declared.unwritten.Unwritten.{Unwritten}
use Rattle.mcs_text.proofs.WriteLaws.{appended-append, writes_nothing}
use Rattle.mcs_sets.specs.Orders.{PairBefore}
use Rattle.std.specs.List.{AllByRecursion}
use Rattle.mcs_base.specs.Listings.{IsListing, IsAmong}
use Rattle.mcs_base.specs.Minimal.{IsMinimal}
use Rattle.mcs_base.specs.Transversals.{IsTransversalOf}
use Rattle.mcs_base.proofs.ListingLemmas.{IsListing-same}
use Rattle.mcs_base.proofs.Each.{all_from_among}
use Rattle.mcs_transversal.specs.Transversals.{IsCritical}
use Rattle.mcs_transversal.proofs.CriticalLemmas.{minimality_is_critical}
use Rattle.mcs_system.specs.Plain.{System}
use Rattle.mcs_system.specs.Systems.{IsConsistent, all_rules}
use Rattle.mcs_existence.proofs.SystemListings.{all_states_listed}
use Rattle.mcs_system.specs.Levels.{IsCount, IsNeed}
use Rattle.mcs_system.specs.Repairs.{IsExplanation, IsDiagnosis}
use Rattle.mcs_laws.proofs.Existence.{consistency_is_listed}
use Rattle.mcs_laws.proofs.Transversals.{minimal_explanations}
use Rattle.mcs_states.specs.Calls.{CanBegin, HasHaltOf}
use Rattle.mcs_states.specs.Evaluators.{EvaluatorState, KeepsRest, HasDone, ExceedsBudget, IsUnanswered, asked_of, raised}
use Rattle.mcs_states.specs.declared.halt.Halt.{Halt}
use Rattle.mcs_states.proofs.Causes.{unanswered_before, rest_same}
use Rattle.mcs_diagnosis.specs.declared.diagnosis.Diagnosis as code
use Rattle.mcs_diagnosis.specs.Courses.{IsPast}
use Rattle.mcs_diagnosis.specs.Diagnoses.{AreShownDiagnoses, AreFoundBelow, AreDiagnoses, ShowsFirstState, pairs_of}
use Rattle.mcs_diagnosis.proofs.BelowLemmas.{none_below, more_below, all_of_consistent, all_below, shown_within}
use Rattle.mcs_report.specs.Listing.{verdict_line}
use Rattle.mcs_report.specs.Repairs.{end_line}
use Rattle.mcs_report.specs.Solutions.{AreEquilibria, IsWholeListing, IsSummary, explanation_lines, listing_front, summary_text, below, whole}
use Rattle.mcs_report.proofs.SolutionLemmas.{diagnosis_lines-append}
use Rattle.mcs_work.specs.Extents.{task_of, states_part, diagnoses_part, front_part, rest_part}
use Rattle.mcs_work.specs.declared.extent.Extent.{Extent}
use Rattle.mcs_work.specs.declared.extent.Extent.TheVariants.{Whole, Counts}
use Rattle.mcs_work.specs.Tasks.{opening, IsTaskText, IsTaskUpTo, IsTaskStage, TakesLevel, IsLastTaken, stop_for_halt, stop_for_line}
use Rattle.mcs_work.specs.Work.{Proceeds, Works}
use Rattle.mcs_work.specs.Course.{IsUnderWay, AddsLines, HasGone}
use Rattle.mcs_report.specs.Repairs.{IsOfSystem}
use Rattle.mcs_work.specs.Printed.{IsCauseOf}
use Rattle.mcs_work.specs.declared.task.Task.TheVariants.{Solve}
use Rattle.mcs_work.specs.declared.task.WorkStop.{WorkStop}
use Rattle.mcs_work.specs.declared.task.WorkStop.TheVariants as stops
use Rattle.mcs_cheapest.proofs.CountLemmas.{beyond_before, settled_count}
use Rattle.mcs_work.proofs.StopLemmas.{proceeds_ok, proceeds_later, works_later, text_stops, memory_stops, halt_stops}
use Rattle.mcs_base.proofs.NumberCases.{not_less}

-- ---- one level after the other
pub begun : (m : System) (e e' : EvaluatorState) → CanBegin m e → KeepsRest e e' → HasDone e e' 0 → IsUnderWay m e' 0 []
begun m e e' can kept h = record {
  same = kept.system ∙ can.same;
  settled = h.settled;
  done = h.level_done ∙ ap (λ (d : Option ℕ). raised d 0) can.fresh;
  repairs = none_below m;
  within = λ k low beyond. let lowest : k ≡ 0 = omega (arith, low) in h.within (subst (λ (n : ℕ). ExceedsBudget e n) lowest (beyond_before e e' kept k beyond));
  answered = λ k i x low u. let lowest : k ≡ 0 = omega (arith, low) in h.answered i x (subst (λ (n : ℕ). IsUnanswered e n i x) lowest (unanswered_before e e' kept k i x u));
  not_past = λ more. absurd (omega (arith, more));
}

-- ---- the text that is written so
pub diagnoses_part-none : (x : Extent) (m : System) (k : ℕ) → diagnoses_part x m k [] ≡ []
diagnoses_part-none Whole m k = refl
diagnoses_part-none Counts m k = refl

diagnoses_part-append : (x : Extent) (m : System) (k : ℕ) (ds fresh : List code.Diagnosis) → diagnoses_part x m k (ds ++ fresh) ≡ diagnoses_part x m k ds ++ diagnoses_part x m (k + length ds) fresh
diagnoses_part-append Whole m k ds fresh = diagnosis_lines-append m k ds fresh
diagnoses_part-append Counts m k ds fresh = refl

pub front_more : (x : Extent) (m : System) (σs : List ℕ) (ds fresh : List code.Diagnosis) → front_part x m σs ds ++ diagnoses_part x m (length ds + 1) fresh ≡ front_part x m σs (ds ++ fresh)
front_more x m σs ds fresh =
    let next : length ds + 1 ≡ 1 + length ds = omega arith in
    append_assoc (opening (task_of x) m) (states_part x m σs ++ diagnoses_part x m 1 ds) (diagnoses_part x m (length ds + 1) fresh)
    ∙ ap (λ t. opening (task_of x) m ++ t) (append_assoc (states_part x m σs) (diagnoses_part x m 1 ds) (diagnoses_part x m (length ds + 1) fresh)
    ∙ ap (λ t. states_part x m σs ++ t) (ap (λ (n : ℕ). diagnoses_part x m 1 ds ++ diagnoses_part x m n fresh) next ∙ sym (diagnoses_part-append x m 1 ds fresh)))

stage_below : (x : Extent) (m : System) (σs : List ℕ) (ds : List code.Diagnosis) (level : ℕ) (text : List ℕ) → AreEquilibria m σs → AreFoundBelow m level ds → text ≡ front_part x m σs ds → IsTaskStage (task_of x) m text
stage_below Whole m σs ds level text equilibria found is = below level (record { states = σs; equilibria = equilibria; diagnoses = ds; repairs = found; text_is = is })
stage_below Counts m σs ds level text equilibria found is = inl is

stage_of : (x : Extent) (m : System) (e : EvaluatorState) (σs : List ℕ) (ds : List code.Diagnosis) (level : ℕ) {text : List ℕ} → e.system ≡ m → AreEquilibria m σs → AreFoundBelow m level ds → text ≡ front_part x m σs ds → IsTaskStage (task_of x) e.system text
stage_of x m e σs ds level {text} same equilibria found is = subst (λ (s : System). IsTaskStage (task_of x) s text) (sym same) (stage_below x m σs ds level text equilibria found is)

listed_before : (x : Extent) (m : System) (σs : List ℕ) (ds : List code.Diagnosis) (level : ℕ) → 0 < level → AreEquilibria m σs → AreFoundBelow m level ds → IsTaskUpTo (task_of x) m level (front_part x m σs ds ++ [])
listed_before Whole m σs ds zero more equilibria found = absurd (omega (arith, more))
listed_before Whole m σs ds (suc n) more equilibria found = record { states = σs; equilibria = equilibria; diagnoses = ds; repairs = found; text_is = append-nil (listing_front m σs ds) }
listed_before Counts m σs ds level more equilibria found = refl

-- both extents take the same levels
taken_as : (x : Extent) (m : System) (level : ℕ) → TakesLevel Solve m level → TakesLevel (task_of x) m level
taken_as Whole m level taken = taken
taken_as Counts m level taken = taken

taken_back : (x : Extent) (m : System) (level : ℕ) → TakesLevel (task_of x) m level → TakesLevel Solve m level
taken_back Whole m level taken = taken
taken_back Counts m level taken = taken

last_as : (x : Extent) (m : System) (level : ℕ) → IsLastTaken Solve m level → IsLastTaken (task_of x) m level
last_as Whole m level last = last
last_as Counts m level last = last

repair_level : (m : System) (level : ℕ) → ¬ IsPast m level → TakesLevel Solve m level
repair_level m zero open_yet = inl refl
repair_level m (suc n) open_yet = inr ((λ c. open_yet (inr (let more : 0 < suc n = omega arith in (more, c)))), not_less (length m.bridges) (suc n) (λ more. open_yet (inl more)))

taken_here : (x : Extent) (m : System) (level : ℕ) → ¬ IsPast m level → TakesLevel (task_of x) m level
taken_here x m level open_yet = taken_as x m level (repair_level m level open_yet)

-- ---- what a level does that is not past the last one
module _ (m : System) (e e' : EvaluatorState) (level : ℕ) (ds : List code.Diagnosis) (u : IsUnderWay m e level ds) (kept : KeepsRest e e') (not_past : ¬ IsPast e.system level) where
  open_yet : ¬ IsPast m level
  open_yet = subst (λ (s : System). ¬ IsPast s level) u.same not_past

  pub went_on : (fresh : List code.Diagnosis) → HasDone e e' level → AreShownDiagnoses e.system level fresh → IsUnderWay m e' (level + 1) (ds ++ fresh)
  went_on fresh h found = record {
    same = kept.system ∙ u.same;
    settled = h.settled;
    done = h.level_done ∙ ap (λ (d : Option ℕ). raised d level) u.done ∙ ap (λ n. Some n) (let same : max (level - 1) level ≡ level + 1 - 1 = omega arith in same);
    repairs = more_below m level ds fresh u.repairs (subst (λ (s : System). AreShownDiagnoses s level fresh) u.same found);
    within = λ k low beyond. inside k low (beyond_before e e' kept k beyond);
    answered = λ k i x low lacking. had k i x low (unanswered_before e e' kept k i x lacking);
    not_past = λ more past. open_yet (subst (λ (n : ℕ). IsPast m n) (let same : level + 1 - 1 ≡ level = omega arith in same) past);
  }
    where
      inside : (k : ℕ) → k ≤ level + 1 - 1 → ExceedsBudget e k → ⊥
      inside k low beyond = elim (cases_lt k level) [
        | inl less ↦ u.within k (omega (arith, less)) beyond
        | inr past ↦ (let here : k ≡ level = omega (arith, past, low) in h.within (subst (λ (n : ℕ). ExceedsBudget e n) here beyond))
      ]

      had : (k i x : ℕ) → k ≤ level + 1 - 1 → IsUnanswered e k i x → ⊥
      had k i x low lacking = elim (cases_lt k level) [
        | inl less ↦ u.answered k i x (omega (arith, less)) lacking
        | inr past ↦ (let here : k ≡ level = omega (arith, past, low) in h.answered i x (subst (λ (n : ℕ). IsUnanswered e n i x) here lacking))
      ]

  -- where the work stops then
  module _ (x : Extent) (σs : List ℕ) (equilibria : AreEquilibria m σs) where
    pub level_halts : (at : Device) (halt : Halt) → HasHaltOf e e' level halt → Proceeds {T = Unit {0}} (task_of x) (front_part x m σs ds) e e' at at (Err (stop_for_halt halt))
    level_halts at halt h =
        halt_stops (task_of x) (front_part x m σs ds) [] e e' kept
        (stage_of x m e σs ds level u.same equilibria u.repairs (append-nil (front_part x m σs ds))) at at level
        (subst (λ (s : System). TakesLevel (task_of x) s level) (sym u.same) (taken_here x m level open_yet)) (λ k less. u.within k (omega (arith, less)))
        (λ beyond. subst (λ (s : System). IsTaskUpTo (task_of x) s level (front_part x m σs ds ++ [])) (sym u.same) (listed_before x m σs ds level (later_level beyond) equilibria u.repairs)) (tt {0}) (writes_nothing at (tt {0})) halt h
      where
        later_level : ExceedsBudget e level → 0 < level
        later_level beyond = elim (cases_lt 0 level) [ inl more ↦ more | inr none ↦ absurd (u.within level (omega (arith, none)) beyond) ]

    module _ (fresh : List code.Diagnosis) (found : AreShownDiagnoses e.system level fresh) where
      with_level : IsTaskStage (task_of x) e.system (front_part x m σs ds ++ diagnoses_part x m (length ds + 1) fresh)
      with_level = stage_of x m e σs (ds ++ fresh) (level + 1) u.same equilibria (more_below m level ds fresh u.repairs (subst (λ (s : System). AreShownDiagnoses s level fresh) u.same found)) (front_more x m σs ds fresh)

      module _ {T : Type 0} (before now : Device) where
        pub lines_stop : (why : Unwritten) → Writes {T = T} (diagnoses_part x m (length ds + 1) fresh) before now (Err why) → Proceeds {T = Unit {0}} (task_of x) (front_part x m σs ds) e e' before now (Err (stop_for_line why))
        lines_stop why w = text_stops (task_of x) (front_part x m σs ds) (diagnoses_part x m (length ds + 1) fresh) e e' kept with_level before now why w

        pub lines_left : (y : T) → Writes (diagnoses_part x m (length ds + 1) fresh) before now (Ok y) → Proceeds {T = Unit {0}} (task_of x) (front_part x m σs ds) e e' before now (Err stops.Memory)
        lines_left y w = memory_stops (task_of x) (front_part x m σs ds) (diagnoses_part x m (length ds + 1) fresh) e e' kept with_level before now y w

-- ---- in the end
pub record IsEnded (m : System) (e : EvaluatorState) (level : ℕ) (ds : List code.Diagnosis) : Type 0 where
  pub repairs : AreDiagnoses m ds
  pub last : IsLastTaken Solve m (level - 1)
  pub reached : (k : ℕ) → TakesLevel Solve m k → k ≤ level - 1
  pub needed : IsNeed m (asked_of e)

module _ (m : System) (e : EvaluatorState) (level : ℕ) (ds : List code.Diagnosis) (u : IsUnderWay m e level ds) where
  counted_at : (k : ℕ) → level - 1 ≡ k → IsCount m k (asked_of e)
  counted_at k is = subst (λ (s : System). IsCount s k (asked_of e)) u.same (subst (λ (l : ℕ). IsCount e.system l (asked_of e)) is (settled_count e (level - 1) u.settled u.done))

  ended : IsPast m level → IsConsistent m ⊎ (¬ IsConsistent m) → IsEnded m e level ds
  ended past (inl c) = record {
    repairs = all_of_consistent m ds c (subst (λ (l : ℕ). AreFoundBelow m l ds) first u.repairs);
    last = inl (c, omega (arith, first));
    reached = λ k taken. elim taken [ inl lowest ↦ omega (arith, lowest) | inr both ↦ absurd (both.0 c) ];
    needed = inl (c, counted_at 0 (omega (arith, first)));
  }
    where
      some : 0 < level
      some = elim past [ inl more ↦ omega (arith, more) | inr both ↦ both.0 ]

      low : level - 1 ≤ 0
      low = not_less 0 (level - 1) (λ more. u.not_past some (inr (more, c)))

      first : level ≡ 1
      first = omega (arith, some, low)
  ended (inr both) (inr none) = absurd (none both.1)
  ended (inl more) (inr none) = record {
    repairs = all_below m ds level more u.repairs;
    last = inr (none, all_of_them);
    reached = λ k taken. elim taken [ inl lowest ↦ omega (arith, lowest) | inr both ↦ omega (arith, both.1, all_of_them) ];
    needed = inr (none, counted_at (length m.bridges) all_of_them);
  }
    where
      some : 0 < level
      some = omega (arith, more)

      most : level - 1 ≤ length m.bridges
      most = not_less (length m.bridges) (level - 1) (λ over. u.not_past some (inl over))

      all_of_them : level - 1 ≡ length m.bridges
      all_of_them = omega (arith, more, most)

decided : (m : System) (σs : List ℕ) → AreEquilibria m σs → IsConsistent m ⊎ (¬ IsConsistent m)
decided m σs equilibria = elim (cases_lt 0 (length σs)) [
  | inl some ↦ inl ((consistency_is_listed m σs equilibria).1 some)
  | inr none ↦ inr (λ c. let more : 0 < length σs = (consistency_is_listed m σs equilibria).0 c in absurd (omega (arith, more, none)))
]

pub decided_always : (m : System) → IsConsistent m ⊎ (¬ IsConsistent m)
decided_always m = let (σs, listing) = all_states_listed m (all_rules m) 0 in decided m σs listing

-- once the explanations and the end line are written, all is
module _ (m : System) (e : EvaluatorState) (level : ℕ) (ds : List code.Diagnosis) (u : IsUnderWay m e level ds) (past : IsPast m level) (ts pairs : List ℕ) (paired : pairs ≡ pairs_of ds) (listed : IsListing (IsMinimal (IsTransversalOf (pairs_of ds))) PairBefore ts) where
  at_end : IsEnded m e level ds
  at_end = ended m e level ds u past (decided_always m)

  -- an explanation is of the rules and needs each of its marks
  pub causes_within : AllByRecursion (IsCauseOf m pairs) ts
  causes_within = all_from_among (IsCauseOf m pairs) ts (λ t among.
      let minimal = (listed.exactly t).0 among in
      let explanation = (minimal_explanations m (pairs_of ds) at_end.repairs.listed t).1 minimal in
      record { marks = explanation.one.of_rules; critical = subst (λ (ps : List ℕ). IsCritical ps t) (sym paired) ((minimality_is_critical (pairs_of ds) t).0 minimal).1 })

  module _ (x : Extent) (σs : List ℕ) (count asked : ℕ) (equilibria : AreEquilibria m σs) (counted : length σs ≡ count) (told : e.halted ≡ false → asked ≡ asked_of e) where
    abbrev all_known : IsWholeListing m (listing_front m σs ds ++ (explanation_lines m 1 pairs ts ++ end_line count (length pairs) (length ts) asked))
    all_known =
        let many : length pairs ≡ length ds = ap length paired ∙ length-map ds (λ (d : code.Diagnosis). d.pair) in
        record {
          states = σs;
          equilibria = equilibria;
          diagnoses = ds;
          repairs = at_end.repairs;
          explanations = ts;
          causes = IsListing-same PairBefore (IsMinimal (IsTransversalOf (pairs_of ds))) (IsMinimal (IsExplanation m)) ts
              (λ t. let both = minimal_explanations m (pairs_of ds) at_end.repairs.listed t in (both.1, both.0)) listed;
          need = asked_of e;
          needed = at_end.needed;
          text_is = ap (λ t. listing_front m σs ds ++ t) (
              ap (λ (ps : List ℕ). explanation_lines m 1 ps ts ++ end_line count (length pairs) (length ts) asked) paired
              ∙ ap (λ (n : ℕ). explanation_lines m 1 (pairs_of ds) ts ++ end_line n (length pairs) (length ts) asked) (sym counted)
              ∙ ap (λ (n : ℕ). explanation_lines m 1 (pairs_of ds) ts ++ end_line (length σs) n (length ts) asked) many
              ∙ ap (λ (n : ℕ). explanation_lines m 1 (pairs_of ds) ts ++ end_line (length σs) (length ds) (length ts) n) (told u.settled.going));
        }

    counts_known : IsSummary m (verdict_line (nat_lt 0 count) ++ end_line count (length pairs) (length ts) asked)
    counts_known =
        let many : length pairs ≡ length ds = ap length paired ∙ length-map ds (λ (d : code.Diagnosis). d.pair) in
        record {
          listing = _;
          listed = all_known;
          text_is =
              ap (λ (n : ℕ). summary_text n (length pairs) (length ts) asked) (sym counted)
              ∙ ap (λ (n : ℕ). summary_text (length σs) n (length ts) asked) many
              ∙ ap (λ (n : ℕ). summary_text (length σs) (length ds) (length ts) n) (told u.settled.going);
        }

    text_known : (y : Extent) → IsTaskText (task_of y) m (front_part y m σs ds ++ rest_part y m count pairs ts asked)
    text_known Whole = all_known
    text_known Counts = counts_known

    stage_known : (y : Extent) → IsTaskStage (task_of y) m (front_part y m σs ds ++ rest_part y m count pairs ts asked)
    stage_known Whole = whole all_known
    stage_known Counts = inr counts_known

    module _ {T : Type 0} (before now : Device) where
      pub rest_stops : (why : Unwritten) → Writes {T = T} (rest_part x m count pairs ts asked) before now (Err why) → Proceeds {T = Unit {0}} (task_of x) (front_part x m σs ds) e e before now (Err (stop_for_line why))
      rest_stops why w = text_stops (task_of x) (front_part x m σs ds) (rest_part x m count pairs ts asked) e e (rest_same e)
          (subst (λ (s : System). IsTaskStage (task_of x) s (front_part x m σs ds ++ rest_part x m count pairs ts asked)) (sym u.same) (stage_known x)) before now why w

      pub rest_done : (y : T) → Writes (rest_part x m count pairs ts asked) before now (Ok y) → Works (task_of x) (front_part x m σs ds) e e before now (Ok tt)
      rest_done y w = record {
        later = w.later;
        notes = w.notes;
        rest = rest_same e;
        quiet = w.quiet;
        done = record {
          part = rest_part x m count pairs ts asked;
          text = subst (λ (s : System). IsTaskText (task_of x) s (front_part x m σs ds ++ rest_part x m count pairs ts asked)) (sym u.same) (text_known x);
          written = w.whole;
          level = level - 1;
          last = subst (λ (s : System). IsLastTaken (task_of x) s (level - 1)) (sym u.same) (last_as x m (level - 1) at_end.last);
          level_done = u.done;
          settled = u.settled;
          within = λ k taken. u.within k (reached k taken);
          answered = λ k i r taken. u.answered k i r (reached k taken);
        };
        stop = tt;
      }
        where
          reached : (k : ℕ) → TakesLevel (task_of x) e.system k → k ≤ level - 1
          reached k taken = at_end.reached k (taken_back x m k (subst (λ (s : System). TakesLevel (task_of x) s k) u.same taken))

-- ---- what is printed is of the system
pub each_of_system : (m : System) (ds : List code.Diagnosis) → ((p : ℕ) → IsAmong p (pairs_of ds) → IsDiagnosis m p) → AllByRecursion (ShowsFirstState m) ds → AllByRecursion (IsOfSystem m) ds
each_of_system m [] are shown = tt
each_of_system m (d ∷ ds) are shown =
    let within = shown_within m d (are d.pair (inl refl)) shown.0 in
    (record { marks = within.0; state = within.1; active = within.2 }, each_of_system m ds (λ p among. are p (inr among)) shown.1)

pub lines_of_system : (m n : System) (level : ℕ) (ds : List code.Diagnosis) → n ≡ m → AreShownDiagnoses n level ds → AllByRecursion (IsOfSystem m) ds
lines_of_system m n level ds same found =
    subst (λ (s : System). AllByRecursion (IsOfSystem s) ds) same (each_of_system n ds (λ p among. ((found.listed.exactly p).0 among).0.one) found.shown)

pub gone : (x : Extent) (m n : System) (level level' : ℕ) (ds fresh ds' : List code.Diagnosis) (before now : Option (List ℕ)) → n ≡ m → ¬ IsPast n level → level' ≡ level + 1 → ds' ≡ ds ++ fresh → now ≡ appended before (diagnoses_part x m (length ds + 1) fresh)
    → HasGone x m level level' ds ds' before now true
gone x m n level level' ds fresh ds' before now same open_yet next grown is =
    (next, not_less (length m.bridges) level (λ more. open_yet (inl (subst (λ (s : System). length s.bridges < level) (sym same) more))), record { fresh = fresh; grown = grown; written = is })

pub went_through : (x : Extent) (m : System) (level level' : ℕ) (ds ds' : List code.Diagnosis) (before now : Option (List ℕ)) (b : Bool) → b ≡ true → HasGone x m level level' ds ds' before now b → AddsLines x m ds ds' before now
went_through x m level level' ds ds' before now b more h = (subst (HasGone x m level level' ds ds' before now) more h).2

pub lines_added : (x : Extent) (m : System) (ds ds' : List code.Diagnosis) (start before now : Option (List ℕ)) → before ≡ appended start (diagnoses_part x m 1 ds) → AddsLines x m ds ds' before now → now ≡ appended start (diagnoses_part x m 1 ds')
lines_added x m ds ds' start before now is added =
    let next : length ds + 1 ≡ 1 + length ds = omega arith in
    added.written ∙ ap (λ w. appended w (diagnoses_part x m (length ds + 1) added.fresh)) is ∙ appended-append start (diagnoses_part x m 1 ds) (diagnoses_part x m (length ds + 1) added.fresh)
    ∙ ap (appended start) (ap (λ (n : ℕ). diagnoses_part x m 1 ds ++ diagnoses_part x m n added.fresh) next ∙ sym (diagnoses_part-append x m 1 ds added.fresh) ∙ ap (diagnoses_part x m 1) (sym added.grown))

-- ---- what is printed of the equilibria
front_begins : (x : Extent) (m : System) (σs : List ℕ) → opening (task_of x) m ++ states_part x m σs ≡ front_part x m σs []
front_begins x m σs = ap (λ t. opening (task_of x) m ++ t) (sym (append-nil (states_part x m σs)) ∙ ap (λ t. states_part x m σs ++ t) (sym (diagnoses_part-none x m 1)))

module _ (x : Extent) (m : System) (e : EvaluatorState) (same : e.system ≡ m) (σs : List ℕ) (equilibria : AreEquilibria m σs) where
  pub verdict_stops : {T : Type 0} (before now : Device) (why : Unwritten) → Writes {T = T} (states_part x m σs) before now (Err why) → Proceeds {T = Unit {0}} (task_of x) (opening (task_of x) m) e e before now (Err (stop_for_line why))
  verdict_stops before now why w = text_stops (task_of x) (opening (task_of x) m) (states_part x m σs) e e (rest_same e) (stage_of x m e σs [] 0 same equilibria (none_below m) (front_begins x m σs)) before now why w

pub front_written : (x : Extent) (m : System) (σs : List ℕ) (before mid now : Option (List ℕ)) → mid ≡ appended before (opening (task_of x) m) → now ≡ appended mid (states_part x m σs) → now ≡ appended before (front_part x m σs [])
front_written x m σs before mid now first next = next ∙ ap (λ w. appended w (states_part x m σs)) first ∙ appended-append before (opening (task_of x) m) (states_part x m σs) ∙ ap (appended before) (front_begins x m σs)

-- memory ran out and nothing more was written
pub nothing_left : (x : Extent) (m : System) (e : EvaluatorState) (level : ℕ) (ds : List code.Diagnosis) → IsUnderWay m e level ds → (σs : List ℕ) → AreEquilibria m σs → (at : Device) → Proceeds {T = Unit {0}} (task_of x) (front_part x m σs ds) e e at at (Err stops.Memory)
nothing_left x m e level ds u σs equilibria at = memory_stops (task_of x) (front_part x m σs ds) [] e e (rest_same e) (stage_of x m e σs ds level u.same equilibria u.repairs (append-nil (front_part x m σs ds))) at at (tt {0}) (writes_nothing at (tt {0}))

-- ---- the work goes on after some levels
module _ {T : Type 0} (x : Extent) (m : System) (σs : List ℕ) (ds : List code.Diagnosis) (e mid-e e' : EvaluatorState) (before mid now : Device) (y : T) (so_far : List ℕ) (went : Proceeds (task_of x) so_far e mid-e before mid (Ok y)) (wrote : mid.written ≡ appended before.written (diagnoses_part x m 1 ds)) where
  to_front : front_part x m σs ds ≡ front_part x m σs [] ++ diagnoses_part x m 1 ds
  to_front = sym (front_more x m σs [] ds)

  after_levels : Proceeds {T = T} (task_of x) (front_part x m σs []) e mid-e before mid (Ok y)
  after_levels = proceeds_ok (task_of x) so_far e mid-e before mid (front_part x m σs []) y y went

  pub levels_then : {U : Type 0} (r : Result U WorkStop) → Proceeds (task_of x) (front_part x m σs ds) mid-e e' mid now r → Proceeds (task_of x) (front_part x m σs []) e e' before now r
  levels_then r p = proceeds_later (task_of x) (front_part x m σs []) (diagnoses_part x m 1 ds) e mid-e e' before mid now y after_levels wrote r (subst (λ t. Proceeds (task_of x) t mid-e e' mid now r) to_front p)

  pub levels_worked : (r : Result (Unit {0}) WorkStop) → Works (task_of x) (front_part x m σs ds) mid-e e' mid now r → Works (task_of x) (front_part x m σs []) e e' before now r
  levels_worked r w = works_later (task_of x) (front_part x m σs []) (diagnoses_part x m 1 ds) e mid-e e' before mid now y after_levels wrote r (subst (λ t. Works (task_of x) t mid-e e' mid now r) to_front w)
