-- The listing of the cheapest diagnoses: what is told once the search has ended, and where it broke off.
use Rattle.std.proofs.Common.{◌≡◌, ℕ, ◌+◌, ◌<◌, false, IsTrue, [], ◌++◌, List, length, get_or, drop, Option, Some, None, Result, Ok, Err, refl, sym, ap, ◌∙◌, subst, inl, inr, ◌↔◌, ◌⊎◌, arith, true≢false}
use Rattle.std.proofs.lemmas.Bool.Decides.{nat_tests}
use Rattle.std.proofs.lemmas.List.{append-nil, drop_more}
use Rattle.std.specs.List.{AllByRecursion}
use Rattle.mcs_base.proofs.NumberCases.{cases_zero, cond_at_zero, cond_above_zero}
use Rattle.mcs_ports.specs.Pieces.{Device}
use Rattle.mcs_text.specs.Writes.{Writes}
use Rattle.mcs_text.specs.declared.unwritten.Unwritten.{Unwritten}
use Rattle.mcs_system.specs.Faults.{IsValid}
use Rattle.mcs_system.specs.Plain.{System}
use Rattle.mcs_system.specs.Repairs.{IsDiagnosis}
use Rattle.mcs_system.specs.Systems.{IsConsistent}
use Rattle.mcs_system.proofs.MarkLemmas.{allowed_known}
use Rattle.mcs_laws.proofs.Choices.{consistent_needs_nothing, consistent_where_nothing}
use Rattle.mcs_states.specs.Evaluators.{EvaluatorState, KeepsRest}
use Rattle.mcs_states.specs.declared.halt.Halt.{Halt}
use Rattle.mcs_states.specs.declared.halt.Halt.TheVariants as halts
use Rattle.mcs_diagnosis.specs.declared.diagnosis.Diagnosis as code
use Rattle.mcs_costs.specs.Costs.{cost}
use Rattle.mcs_costs.proofs.CostLemmas.{cost-none, none_from_cost}
use Rattle.mcs_cheapest.specs.declared.cheapest.Cheapest as found
use Rattle.mcs_cheapest.specs.Found.{HasSearched, HasBrokenOff, IsLeastCost}
use Rattle.mcs_report.specs.Cheapest.{cheapest_line}
use Rattle.mcs_report.specs.Listing.{heading, verdict_line}
use Rattle.mcs_report.specs.Repairs.{IsOfSystem}
use Rattle.mcs_work.specs.Cheapest.{IsCheapestText, IsCheapestUpTo, after_search, cheapest_lines, cheapest_text, is_free, verdict_above, verdict_before}
use Rattle.mcs_work.specs.Tasks.{IsTaskStage, stop_for_halt, stop_for_line}
use Rattle.mcs_work.specs.Work.{Proceeds, Works}
use Rattle.mcs_work.specs.declared.task.Task.TheVariants.{Cheapest}
use Rattle.mcs_work.specs.declared.task.WorkStop.{WorkStop}
use Rattle.mcs_work.proofs.CourseLemmas.{each_of_system}
use Rattle.mcs_work.proofs.StopLemmas.{halt_stops, left_after, memory_stops, text_goes, text_stops, works_later}

-- one line more
pub cheapest_lines-more : (m : System) (n : ℕ) (ds : List code.Diagnosis) (i price : ℕ) (d : code.Diagnosis) → i < length ds → d ≡ get_or ds i d → price ≡ cost m d.pair
    → cheapest_lines m n (drop i ds) ≡ cheapest_line m n price d ++ cheapest_lines m (n + 1) (drop (i + 1) ds)
cheapest_lines-more m n ds i price d less is costs =
    ap (cheapest_lines m n) (drop_more ds i d less)
    ∙ ap (λ (e : code.Diagnosis). cheapest_line m n (cost m e.pair) e ++ cheapest_lines m (n + 1) (drop (i + 1) ds)) (sym is)
    ∙ ap (λ (p : ℕ). cheapest_line m n p d ++ cheapest_lines m (n + 1) (drop (i + 1) ds)) (sym costs)

-- ---- the verdict
-- a system is consistent exactly where a diagnosis costs nothing
pub verdict_told : (m : System) → IsValid m → (price : Option ℕ) → IsLeastCost m price → IsTrue (is_free price) ↔ IsConsistent m
verdict_told m valid None none = (λ h. absurd (true≢false (sym h)), λ c. absurd (none 0 (consistent_needs_nothing m c.equilibrium c.balanced)))
verdict_told m valid (Some price) (p, cheapest, is) = (
  λ h. (let free : price ≡ 0 = grind (arith, nat_tests) in consistent_where_nothing m (subst (IsDiagnosis m) (none_from_cost m valid p (allowed_known m p cheapest.one.allowed) (is ∙ free)) cheapest.one)),
  λ c. (let le = cheapest.least 0 (consistent_needs_nothing m c.equilibrium c.balanced) in let free : price ≡ 0 = omega (arith, le, is, cost-none m) in grind (arith, nat_tests)),
)

-- ---- the search came to its end
module _ (m : System) (e e' : EvaluatorState) (same : e.system ≡ m) (valid : IsValid m) (kept : KeepsRest e e') (c : found.Cheapest) (h : HasSearched e e' c) where
  rest : List ℕ
  rest = after_search m (is_free c.cost) c.found.items c.cost c.need

  text_told : IsCheapestText e.system (heading m ++ rest)
  unfolding rest
  text_told = record {
    consistent = is_free c.cost;
    verdict = verdict_told e.system (subst IsValid (sym same) valid) c.cost h.cost;
    found = c.found.items;
    cheapest = h.found;
    price = c.cost;
    price_is = h.cost;
    stop = h.stop;
    stop_is = h.is_stop;
    need = c.need;
    count = h.need;
    text_is = ap (λ (s : System). cheapest_text s (is_free c.cost) c.found.items c.cost c.need) (sym same);
  }

  pub lines_within : AllByRecursion (IsOfSystem m) c.found.items
  lines_within = subst (λ (s : System). AllByRecursion (IsOfSystem s) c.found.items) same (each_of_system e.system c.found.items (λ p among. ((h.found.listed.exactly p).0 among).one) h.found.shown)

  module _ (mid now : Device) {T : Type 0} where
    -- the rest was cut off
    pub search_cut : (why : Unwritten) → Writes {T = T} (after_search m (is_free c.cost) c.found.items c.cost c.need) mid now (Err why) → Proceeds {T = Unit {0}} Cheapest (heading m) e e' mid now (Err (stop_for_line why))
    unfolding rest
    search_cut why w = text_stops Cheapest (heading m) rest e e' kept (inr (inr text_told)) mid now why w

    -- it was written whole
    pub search_done : (x : T) → Writes (after_search m (is_free c.cost) c.found.items c.cost c.need) mid now (Ok x) → Works Cheapest (heading m) e e' mid now (Ok tt)
    unfolding rest
    search_done x w = record {
      later = w.later;
      notes = w.notes;
      rest = kept;
      quiet = w.quiet;
      done = record {
        part = rest;
        text = text_told;
        written = w.whole;
        level = h.stop;
        last = h.is_stop;
        level_done = h.level_done;
        settled = h.settled;
        within = λ k taken. h.within k (taken h.stop h.is_stop);
        answered = λ k i r taken. h.answered k i r (taken h.stop h.is_stop);
      };
      stop = tt;
    }

-- ---- the search broke off
module _ (m : System) (e e' : EvaluatorState) (same : e.system ≡ m) (kept : KeepsRest e e') where
  -- a level above 0 is taken of an inconsistent system alone
  inconsistent_above : (halt : Halt) (h : HasBrokenOff e e' halt) → 0 < h.level → ¬ IsConsistent e.system
  inconsistent_above halt h some c = (let low = h.up_to_stop 0 (inl (c, refl)) in omega (arith, low, some))

  heading_stage : IsTaskStage Cheapest e.system (heading m ++ [])
  heading_stage = inl (append-nil (heading m) ∙ ap heading (sym same))

  -- what is written then makes a stage
  broken_stage : (halt : Halt) → HasBrokenOff e e' halt → IsTaskStage Cheapest e.system (heading m ++ verdict_before halt)
  broken_stage (halts.Missing context active) h = heading_stage
  broken_stage halts.Memory h = heading_stage
  broken_stage (halts.Spent level drawn) h = at (cases_zero level)
    where
      at : (level ≡ 0) ⊎ (0 < level) → IsTaskStage Cheapest e.system (heading m ++ verdict_above level)
      at (inl none) = subst (λ (t : List ℕ). IsTaskStage Cheapest e.system (heading m ++ t)) (sym (cond_at_zero level [] (verdict_line false) none)) heading_stage
      at (inr some) = subst (λ (t : List ℕ). IsTaskStage Cheapest e.system (heading m ++ t)) (sym (cond_above_zero level [] (verdict_line false) some))
          (inr (inl (inconsistent_above (halts.Spent level drawn) h (let here = h.cause.0 in omega (arith, some, here)), ap (λ (s : System). heading s ++ verdict_line false) (sym same))))

  module _ (mid now : Device) {T : Type 0} where
    -- it was cut off
    pub verdict_cut : (halt : Halt) → HasBrokenOff e e' halt → (why : Unwritten) → Writes {T = T} (verdict_before halt) mid now (Err why) → Proceeds {T = Unit {0}} Cheapest (heading m) e e' mid now (Err (stop_for_line why))
    verdict_cut halt h why w = text_stops Cheapest (heading m) (verdict_before halt) e e' kept (broken_stage halt h) mid now why w

    -- it was written whole
    pub search_stops : (halt : Halt) → HasBrokenOff e e' halt → (x : T) → Writes (verdict_before halt) mid now (Ok x) → Proceeds {T = Unit {0}} Cheapest (heading m) e e' mid now (Err (stop_for_halt halt))
    search_stops (halts.Spent level drawn) h x w = halt_stops Cheapest (heading m) (verdict_above level) e e' kept (broken_stage (halts.Spent level drawn) h) mid now h.level h.up_to_stop h.within
        (λ _. up_to) x w (halts.Spent level drawn) (record { cause = h.cause; told = h.told })
      where
        up_to : IsCheapestUpTo e.system h.level (heading m ++ verdict_above level)
        up_to = ap (λ (s : System). heading s ++ verdict_above level) (sym same) ∙ ap (λ (l : ℕ). heading e.system ++ verdict_above l) h.cause.0
    search_stops (halts.Missing context active) h x w = record {
      later = w.later;
      notes = w.notes;
      rest = kept;
      quiet = tt;
      stop = (
        w.quiet,
        record {
          level = h.level;
          taken = h.up_to_stop;
          unanswered = h.cause;
          halt = h.told.0;
          over = h.told.1;
          left = left_after Cheapest e.system (heading m) [] mid.written now.written heading_stage w.whole;
        },
      );
    }
    search_stops halts.Memory h x w = memory_stops Cheapest (heading m) [] e e' kept heading_stage mid now x w

-- ---- after the heading
-- what comes of the work after it comes of the whole
pub after_opening : {T : Type 0} (m : System) (e e' : EvaluatorState) (before mid now : Device) (x : T) → Writes (heading m) before mid (Ok x) → (r : Result (Unit {0}) WorkStop) → Works Cheapest (heading m) e e' mid now r → Works Cheapest [] e e' before now r
after_opening m e e' before mid now x w = works_later Cheapest [] (heading m) e e e' before mid now (tt {0}) (text_goes Cheapest [] (heading m) e before mid x (tt {0}) w) w.whole
