-- A listing of what level 0 tells: what comes before the first question, and then the rest.
use Rattle.std.proofs.Common.{◌≡◌, ℕ, false, List, [], ◌++◌, length, Ok, Err, refl, sym, ap, ◌∙◌, subst, inr, arith}
use Rattle.std.specs.List.{AllByRecursion}
use Rattle.std.proofs.lemmas.Option.{slice_get_within}
use Rattle.std.proofs.lemmas.Bool.Decides.{nat_tests}
use Rattle.mcs_sets.specs.Sets.{Within}
use Rattle.mcs_sets.proofs.SetLemmas.{has-such_that}
use Rattle.mcs_base.proofs.Each.{all_from_among}
use Rattle.mcs_ports.specs.Pieces.{Device, appended}
use Rattle.mcs_text.specs.Writes.{Writes}
use Rattle.mcs_text.specs.declared.unwritten.Unwritten.{Unwritten}
use Rattle.mcs_text.proofs.WriteLaws.{appended-append}
use Rattle.mcs_system.specs.Plain.{System}
use Rattle.mcs_system.specs.Levels.{IsCount}
use Rattle.mcs_system.specs.Systems.{variables, all_variables}
use Rattle.mcs_states.specs.Calls.{CanBegin}
use Rattle.mcs_states.specs.Evaluators.{EvaluatorState, ExceedsBudget, IsUnanswered, asked_of}
use Rattle.mcs_states.proofs.Causes.{rest_same}
use Rattle.mcs_report.specs.Listing.{equilibria_text, IsEquilibriaText}
use Rattle.mcs_report.specs.Solutions.{whole}
use Rattle.mcs_reduct.specs.Grounded.{IsGroundedState, AreGrounded}
use Rattle.mcs_work.specs.Course.{HasFoundEquilibria, IsUnderWay}
use Rattle.mcs_work.specs.Grounded.{grounded_text, IsGroundedText}
use Rattle.mcs_work.specs.Tasks.{opening, stop_for_line, IsTaskText, IsTaskStage, IsLastTaken, TakesLevel}
use Rattle.mcs_work.specs.Work.{Proceeds, Works}
use Rattle.mcs_work.specs.declared.task.Task.{Task}
use Rattle.mcs_work.specs.declared.task.Task.TheVariants.{Equilibria, Grounded, Solve, Cheapest, Make}
use Rattle.mcs_work.specs.declared.task.WorkStop.TheVariants as stops
use Rattle.mcs_cheapest.proofs.CountLemmas.{settled_count}
use Rattle.mcs_work.proofs.StopLemmas.{proceeds_later, text_stops, left_after, opening_stage}
use Rattle.mcs_work.proofs.CourseLemmas.{begun}

-- the whole text is a stage
whole_stage : (task : Task) (m : System) (text : List ℕ) → IsTaskText task m text → IsTaskStage task m text
whole_stage Equilibria m text is = inr is
whole_stage Grounded m text is = inr is
whole_stage Solve m text is = whole is
whole_stage Cheapest m text is = inr (inr is)
whole_stage Make m text is = inr is

module _ {T : Type 0} (task : Task) (m : System) (e e' : EvaluatorState) (can : CanBegin m e) (before mid : Device) (x : T) (part : Proceeds task [] e e' before mid (Ok x)) (states : List ℕ) (f : HasFoundEquilibria task m e e' before.written mid.written states) where
  begin : IsUnderWay m e' 0 []
  begin = begun m e e' can part.rest f.done

  -- so many questions were asked
  asked_count : (asked : ℕ) → (e'.halted ≡ false → asked ≡ asked_of e') → IsCount m 0 asked
  asked_count asked told = subst (λ (n : ℕ). IsCount m 0 n) (sym (told begin.settled.going)) (subst (λ (n : System). IsCount n 0 (asked_of e')) begin.same (settled_count e' 0 begin.settled begin.done))

  -- memory ran out before the rest was printed
  pub rest_lacks : Proceeds {T = Unit {0}} task [] e e' before mid (Err stops.Memory)
  rest_lacks = record {
    later = omega (arith, part.quiet);
    notes = part.notes;
    rest = part.rest;
    quiet = tt;
    stop = (part.quiet, left_after task e.system [] (opening task m) before.written mid.written (opening_stage task e.system m can.same) f.written);
  }

  module _ (rest : List ℕ) (text_is : IsTaskText task m (opening task m ++ rest)) where
    text_for : (s : System) → s ≡ m → IsTaskText task s (opening task m ++ rest)
    text_for s same = subst (λ (n : System). IsTaskText task n (opening task m ++ rest)) (sym same) text_is

    pub rest_stops : {U : Type 0} (now : Device) (why : Unwritten) → Writes {T = U} rest mid now (Err why) → Proceeds {T = Unit {0}} task [] e e' before now (Err (stop_for_line why))
    rest_stops now why w = proceeds_later task [] (opening task m) e e' e' before mid now x part f.written (Err (stop_for_line why))
        (text_stops task (opening task m) rest e' e' (rest_same e') (whole_stage task e'.system (opening task m ++ rest) (text_for e'.system begin.same)) mid now why w)

    -- level 0 is the last one of the task
    pub rest_done : IsLastTaken task e.system 0 → ((k : ℕ) → TakesLevel task e.system k → k ≡ 0) → {U : Type 0} (now : Device) (y : U) → Writes rest mid now (Ok y) → Works task [] e e' before now (Ok tt)
    rest_done last lowest now y w = record {
      later = omega (arith, part.quiet, w.later);
      notes = w.notes ∙ part.notes;
      rest = part.rest;
      quiet = w.quiet ∙ part.quiet;
      done = record {
        part = opening task m ++ rest;
        text = text_for e.system can.same;
        written = w.whole ∙ ap (λ t. appended t rest) f.written ∙ appended-append before.written (opening task m) rest;
        level = 0;
        last = last;
        level_done = begin.done;
        settled = begin.settled;
        within = λ k taken beyond. f.done.within (subst (λ (n : ℕ). ExceedsBudget e n) (lowest k taken) beyond);
        answered = λ k i r taken u. f.done.answered i r (subst (λ (n : ℕ). IsUnanswered e n i r) (lowest k taken) u);
      };
      stop = tt;
    }

-- ---- what is listed
module _ {T : Type 0} (m : System) (e e' : EvaluatorState) (can : CanBegin m e) (before mid : Device) (x : T) (asked : ℕ) (told : e'.halted ≡ false → asked ≡ asked_of e') where
  -- the equilibria
  pub equilibria_known : (part : Proceeds Equilibria [] e e' before mid (Ok x)) (states : List ℕ) → HasFoundEquilibria Equilibria m e e' before.written mid.written states → IsEquilibriaText m (equilibria_text m states asked)
  equilibria_known part states f = record { states = states; listing = f.found; need = asked; count = asked_count Equilibria m e e' can before mid x part states f asked told; text_is = refl }

  -- the grounded ones among them
  pub grounded_known : (part : Proceeds Grounded [] e e' before mid (Ok x)) (states : List ℕ) → HasFoundEquilibria Grounded m e e' before.written mid.written states → (grounded : List ℕ) → AreGrounded m grounded
      → (many : ℕ) → many ≡ length states → IsGroundedText m (grounded_text m grounded many asked)
  grounded_known part states f grounded listing many is = record {
    equilibria = states;
    all = f.found;
    states = grounded;
    listing = listing;
    need = asked;
    count = asked_count Grounded m e e' can before mid x part states f asked told;
    text_is = ap (λ (n : ℕ). grounded_text m grounded n asked) is;
  }

-- each of them is a set of variables
pub grounded_within : (m : System) (grounded : List ℕ) → AreGrounded m grounded → AllByRecursion (λ σ. Within σ (all_variables m)) grounded
grounded_within m grounded listing = all_from_among _ grounded (λ σ among. within σ ((listing.exactly σ).0 among))
  where
    within : (σ : ℕ) → IsGroundedState m σ → Within σ (all_variables m)
    within σ g v member = let (r, var, believes) = (g.projection v).0 member in let less = slice_get_within (variables m) v r var in has-such_that _ _ v ∙ grind (arith, nat_tests)
