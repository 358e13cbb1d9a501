-- What is told of readings, part by part as the code reads.
use Rattle.std.proofs.Common.{◌≡◌, ℕ, Bool, true, false, cond, IsTrue, List, [], ◌∷◌, codes, Some, None, Result, Ok, Err, Vec, ◌↔◌, refl, sym, ap, ◌∙◌, subst}
use Rattle.std.specs.declared.alloc.Global.{Global}
use Rattle.std.specs.Result.{IsErrAnd}
use Rattle.mcs_system.specs.Plain.{Name, Formula}
use Rattle.mcs_trace.specs.Traces.{Inference}
use Rattle.mcs_cnf.specs.Entailments.{Entailment, Yes, No, says_yes, IsAcceptedEntailment}
use Rattle.mcs_cnf.specs.Classical.{IsAcceptedClassical}
use Rattle.mcs_evidence.specs.Defaults.{IsEntailmentShown}
use Rattle.mcs_proof_lines.specs.declared.fault.ReportFault.{ReportFault}
use Rattle.mcs_proof_lines.specs.declared.fault.ReportFault.TheVariants as faults
use Rattle.mcs_proof_lines.specs.Walks.{At, Reading, ◌>>=◌, ReturnsReading, is_next, expect_at, trace_at, yes_at, atoms_at, no_at, entailment_at}
use Rattle.mcs_proof_lines.proofs.Readings.{same_reading}
use Rattle.mcs_steps.specs.Judging.{Judges}
use Rattle.mcs_judging.specs.Judging.{IsTold, Tells, AreViewsOf, ArePlacesShown}

-- ---- two that are told
pub both_told : (told first second : Bool) (P : Type 0) → (IsTrue told ↔ (IsTrue first × IsTrue second)) → (IsTrue second ↔ P) → IsTrue told ↔ (IsTrue first × P)
both_told told first second P both same = (λ h. (let parts = both.0 h in (parts.0, same.0 parts.1)), λ h. both.1 (h.0, same.1 h.1))

-- ---- a fault that is handed on
pub told_err : {X A : Type 0} (Fits : X → A → Type 0) (r : Result X ReportFault) (now : At) (read : Reading A) (e : ReportFault) → IsErrAnd r (λ d. d ≡ e) → ReturnsReading e read → Tells Fits r now read
told_err Fits (Ok x) now read e h told = absurd h
told_err Fits (Err d) now read e h told = subst (λ (f : ReportFault). ReturnsReading f read) (sym h) told

-- ---- a `yes`
abbrev pub yes_then : Reading (List Inference) → Reading Entailment
yes_then r = r >>= λ trace. Ok (Yes trace.0, trace.1)

abbrev pub yes_after : Result At ℕ → Reading Entailment
yes_after r = r >>= λ then. yes_then (trace_at then)

module _ (at : At) where
  to_trace : (mid : At) → expect_at (codes "yes") at ≡ Ok mid → yes_at at ≡ yes_then (trace_at mid)
  unfolding yes_at
  to_trace mid e = ap yes_after e

  -- the line is another one
  pub yes_failed : (e : ReportFault) → ReturnsReading e (expect_at (codes "yes") at) → ReturnsReading e (yes_at at)
  unfolding yes_at
  yes_failed faults.Memory told = tt
  yes_failed (faults.Grammar k) told = ap yes_after told

  pub yes_judged : (names : List Name) (fs : List Formula) (g : Formula) (mid now : At) (r : Result Bool ReportFault) → expect_at (codes "yes") at ≡ Ok mid
      → Judges (λ steps. IsAcceptedEntailment names fs g (Yes steps)) r now (trace_at mid) → Judges (IsEntailmentShown names fs g) r now (yes_at at)
  yes_judged names fs g mid now (Ok told) begun j = record {
    value = Yes j.value;
    is = to_trace mid begun ∙ ap yes_then j.is;
    right = (λ h. (j.right.0 h, refl), λ h. j.right.1 h.0);
  }
  yes_judged names fs g mid now (Err faults.Memory) begun j = tt
  yes_judged names fs g mid now (Err (faults.Grammar k)) begun j = to_trace mid begun ∙ ap yes_then j

  -- what was read says so
  pub yes_says : (now : At) (e : Entailment) → yes_at at ≡ Ok (e, now) → says_yes e ≡ true
  unfolding yes_at
  yes_says now e is = after (expect_at (codes "yes") at) is
    where
      trace : (r : Reading (List Inference)) → yes_then r ≡ Ok (e, now) → says_yes e ≡ true
      trace (Ok t) h = ap says_yes (sym (same_reading (Yes t.0) e t.1 now h).0)
      trace (Err n) h = absurd (cc)

      after : (r : Result At ℕ) → yes_after r ≡ Ok (e, now) → says_yes e ≡ true
      after (Ok then) h = trace (trace_at then) h
      after (Err n) h = absurd (cc)

-- ---- a `no`
abbrev no_then : Reading ℕ → Reading Entailment
no_then r = r >>= λ atoms. Ok (No atoms.0, atoms.1)

module _ (texts : List (List ℕ)) (at : At) where
  pub no_says : (now : At) (e : Entailment) → no_at texts at ≡ Ok (e, now) → says_yes e ≡ false
  unfolding no_at
  no_says now e is = from (atoms_at (codes "no ") texts at) is
    where
      from : (r : Reading ℕ) → no_then r ≡ Ok (e, now) → says_yes e ≡ false
      from (Ok t) h = ap says_yes (sym (same_reading (No t.0) e t.1 now h).0)
      from (Err n) h = absurd (cc)

  -- ---- either
  pub either_yes : is_next (codes "yes") at ≡ true → entailment_at texts at ≡ yes_at at
  unfolding entailment_at
  either_yes e = ap (λ (b : Bool). cond b (yes_at at) (no_at texts at)) e

  pub either_no : is_next (codes "yes") at ≡ false → entailment_at texts at ≡ no_at texts at
  unfolding entailment_at
  either_no e = ap (λ (b : Bool). cond b (yes_at at) (no_at texts at)) e

  -- which is not read
  pub either_failed : (q : Reading Entailment) (e : ReportFault) → entailment_at texts at ≡ q → ReturnsReading e q → ReturnsReading e (entailment_at texts at)
  either_failed q faults.Memory same told = tt
  either_failed q (faults.Grammar k) same told = same ∙ told

-- ---- the one view of a classical context
module _ (names : List Name) (fs beliefs : List Formula) (now : At) (read : Reading (List Entailment)) where
  pub view_told : (view : ℕ) (views : Vec ℕ Global) → views.items ≡ view ∷ [] → IsTold (ArePlacesShown names fs beliefs) (Some view) now read → IsTold (AreViewsOf (IsAcceptedClassical names fs beliefs)) (Some views) now read
  view_told view views only told = record {
    value = told.value;
    is = told.is;
    fits = record { view = view; only = only; shown = told.fits };
  }

  pub view_refused : IsTold (ArePlacesShown names fs beliefs) None now read → IsTold (AreViewsOf (IsAcceptedClassical names fs beliefs)) None now read
  view_refused told = record {
    value = told.value;
    is = told.is;
    fits = λ views h. told.fits h.view h.shown;
  }
