-- Values that are read one after the other, judged as they are read, and what is told where a reading fails.
use Rattle.std.proofs.Common.{◌≡◌, ℕ, ◌+◌, ◌-◌, ◌<◌, zero, suc, Bool, true, IsTrue, ◌↔◌, List, [], ◌∷◌, ◌++◌, Result, Ok, Err, codes, sym, ap, ◌∙◌, subst, arith, append_assoc, append-nil}
use Rattle.mcs_cnf.specs.Entailments.{Yes}
use Rattle.mcs_evidence.specs.Defaults.{Verdict}
use Rattle.mcs_proof_lines.specs.declared.fault.ReportFault.{ReportFault}
use Rattle.mcs_proof_lines.specs.declared.fault.ReportFault.TheVariants as faults
use Rattle.mcs_proof_lines.specs.Walks.{At, Reading, ◌>>=◌, ReturnsReading, expect_at, trace_at, yes_at, many_at, each_at, after_front}
use Rattle.mcs_proof_lines.specs.Verdicts.{Terms, set_at, sets_from}
use Rattle.mcs_proof_lines.proofs.WalkLemmas.{pushed_front, front_none}
use Rattle.mcs_steps.specs.Judging.{IsJudged, PassesBy}
use Rattle.mcs_judging.proofs.Readings.{yes_then, yes_after}

-- ---- readings that fail
pub fault_first : {A B : Type 0} (fault : ReportFault) (r : Reading A) (f : A × At → Reading B) → ReturnsReading fault r → ReturnsReading fault (r >>= f)
fault_first faults.Memory r f e = tt
fault_first (faults.Grammar line) r f e = ap (λ s. s >>= f) e

pub fault_later : {A B : Type 0} (fault : ReportFault) (r : Reading A) (f : A × At → Reading B) (x : A) (now : At) → r ≡ Ok (x, now) → ReturnsReading fault (f (x, now)) → ReturnsReading fault (r >>= f)
fault_later {B = B} fault r f x now e later = subst (λ (s : Reading B). ReturnsReading fault s) (ap (λ s. s >>= f) (sym e)) later

-- the same reading by other words
pub fault_same : {A : Type 0} (fault : ReportFault) (r s : Reading A) → r ≡ s → ReturnsReading fault s → ReturnsReading fault r
fault_same {A = A} fault r s e told = subst (λ (t : Reading A). ReturnsReading fault t) (sym e) told

-- ---- one value, and the others after it
abbrev pub with_others : {A : Type 0} → A → Reading (List A) → Reading (List A)
with_others x read = read >>= λ others. Ok (x ∷ others.0, others.1)

-- so far: the values that were read, what is left to be read, and when all of them hold
pub record IsOnTheWay {A : Type 0} (Whole Rest : List A → Type 0) (told : Bool) (goal left : Reading (List A)) : Type 0 where
  pub front : List A
  pub read : after_front front left ≡ goal
  pub holds : (xs : List A) → Whole (front ++ xs) ↔ (IsTrue told × Rest xs)

pub way_begins : {A : Type 0} (Whole : List A → Type 0) (told : Bool) (goal : Reading (List A)) → told ≡ true → IsOnTheWay Whole Whole told goal goal
way_begins Whole told goal is = record { front = []; read = front_none goal; holds = λ xs. (λ h. (is, h), λ h. h.1) }

module _ {A : Type 0} (Whole Rest Rest' : List A → Type 0) (told told' : Bool) (goal left left' : Reading (List A)) (x : A) where
  pub way_on : (Right : Type 0) → IsOnTheWay Whole Rest told goal left → left ≡ with_others x left' → (IsTrue told' ↔ (IsTrue told × Right)) → ((xs : List A) → Rest (x ∷ xs) ↔ (Right × Rest' xs)) → IsOnTheWay Whole Rest' told' goal left'
  way_on Right way next tells parts = record {
    front = way.front ++ x ∷ [];
    read = pushed_front way.front x left' ∙ ap (after_front way.front) (sym next) ∙ way.read;
    holds = λ xs. (let same : (way.front ++ x ∷ []) ++ xs ≡ way.front ++ x ∷ xs = append_assoc way.front (x ∷ []) xs in (
      λ h. (let both = (way.holds (x ∷ xs)).0 (subst Whole same h) in let more = (parts xs).0 both.1 in (tells.1 (both.0, more.0), more.1)),
      λ h. (let both = tells.0 h.0 in subst Whole (sym same) ((way.holds (x ∷ xs)).1 (both.0, (parts xs).1 (both.1, h.1)))),
    ));
  }

pub way_ends : {A : Type 0} (Whole Rest : List A → Type 0) (told told' : Bool) (goal left : Reading (List A)) (at : At) → IsOnTheWay Whole Rest told goal left → left ≡ Ok ([], at) → (IsTrue told' ↔ (IsTrue told × Rest [])) → IsJudged Whole told' at goal
way_ends {A = A} Whole Rest told told' goal left at way done tells = record {
  value = way.front;
  is = sym way.read ∙ ap (after_front way.front) done ∙ ap (λ (xs : List A). (let r : Reading (List A) = Ok (xs, at) in r)) (append-nil way.front);
  right = (
    λ h. subst Whole (append-nil way.front) ((way.holds []).1 (tells.0 h)),
    λ h. tells.1 ((way.holds []).0 (subst Whole (sym (append-nil way.front)) h)),
  );
}

pub way_fails : {A : Type 0} (Whole Rest : List A → Type 0) (told : Bool) (goal left : Reading (List A)) (fault : ReportFault) → IsOnTheWay Whole Rest told goal left → ReturnsReading fault left → ReturnsReading fault goal
way_fails Whole Rest told goal left faults.Memory way e = tt
way_fails Whole Rest told goal left (faults.Grammar line) way e = sym way.read ∙ ap (after_front way.front) e

-- ---- what is next of several
pub each_next : {A : Type 0} (p : ℕ → At → Reading A) (k : ℕ) (ks : List ℕ) (at now : At) (x : A) → p k at ≡ Ok (x, now) → each_at p (k ∷ ks) at ≡ with_others x (each_at p ks now)
each_next p k ks at now x e = ap (λ r. r >>= λ first. each_at p ks first.1 >>= λ others. Ok (first.0 ∷ others.0, others.1)) e

pub each_failed : {A : Type 0} (p : ℕ → At → Reading A) (k : ℕ) (ks : List ℕ) (at : At) (fault : ReportFault) → ReturnsReading fault (p k at) → ReturnsReading fault (each_at p (k ∷ ks) at)
each_failed p k ks at fault e = fault_first fault (p k at) (λ first. each_at p ks first.1 >>= λ others. Ok (first.0 ∷ others.0, others.1)) e

pub many_next : {A : Type 0} (p : At → Reading A) (n : ℕ) (at now : At) (x : A) → p at ≡ Ok (x, now) → many_at p (suc n) at ≡ with_others x (many_at p n now)
many_next p n at now x e = ap (λ r. r >>= λ first. many_at p n first.1 >>= λ others. Ok (first.0 ∷ others.0, others.1)) e

pub many_failed : {A : Type 0} (p : At → Reading A) (n : ℕ) (at : At) (fault : ReportFault) → ReturnsReading fault (p at) → ReturnsReading fault (many_at p (suc n) at)
many_failed p n at fault e = fault_first fault (p at) (λ first. many_at p n first.1 >>= λ others. Ok (first.0 ∷ others.0, others.1)) e

pub sets_next : (t : Terms) (k n : ℕ) (at now : At) (v : Verdict) → 0 < n → set_at t k at ≡ Ok (v, now) → sets_from t k n at ≡ with_others v (sets_from t (k + 1) (n - 1) now)
sets_next t k zero at now v some e = absurd (omega arith)
sets_next t k (suc n) at now v some e =
    let less : suc n - 1 ≡ n = omega arith in
    rw less (ap (λ r. r >>= λ first. sets_from t (k + 1) n first.1 >>= λ others. Ok (first.0 ∷ others.0, others.1)) e)

pub sets_failed : (t : Terms) (k n : ℕ) (at : At) (fault : ReportFault) → 0 < n → ReturnsReading fault (set_at t k at) → ReturnsReading fault (sets_from t k n at)
sets_failed t k zero at fault some e = absurd (omega arith)
sets_failed t k (suc n) at fault some e = fault_first fault (set_at t k at) (λ first. sets_from t (k + 1) n first.1 >>= λ others. Ok (first.0 ∷ others.0, others.1)) e

-- ---- a `yes` that is passed
pub yes_passed : (at mid now : At) (r : Result (Unit {0}) ReportFault) → expect_at (codes "yes") at ≡ Ok mid → PassesBy r now (trace_at mid) → PassesBy r now (yes_at at)
unfolding yes_at
yes_passed at mid now (Ok u) begun h = record { value = Yes h.value; is = ap yes_after begun ∙ ap yes_then h.is }
yes_passed at mid now (Err faults.Memory) begun h = tt
yes_passed at mid now (Err (faults.Grammar line)) begun h = ap yes_after begun ∙ ap yes_then h
