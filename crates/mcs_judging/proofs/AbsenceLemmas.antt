-- Absences, judged as they are read.
use Rattle.std.proofs.Common.{◌≡◌, ℕ, ◌+◌, Bool, true, false, IsTrue, List, Option, Some, None, Ok, Err, Result, refl, sym, ap, ◌∙◌, subst, ◌↔◌, true≢false}
use Rattle.std.proofs.lemmas.Option.{same_Some, none-some}
use Rattle.mcs_system.specs.Plain.{Name, Formula, Not, Default, Item}
use Rattle.mcs_cnf.specs.Entailments.{Entailment}
use Rattle.mcs_evidence.specs.Defaults.{Absence, Unsupported, Blocked, defaults_of, generated, IsEntailmentShown, IsDenied, IsAbsent, FailsToApply}
use Rattle.mcs_extensions.specs.Checks.{at_number, IsNumberIn}
use Rattle.mcs_extensions.proofs.VerdictLemmas.{unsupported_iff, blocked_iff}
use Rattle.mcs_proof_lines.specs.Walks.{At, Reading, line_at, no_at, yes_at, unsupported_of, blocked_of, absence_at, advanced, unsupported_at, blocked_at, fault_at, mapped_reading}
use Rattle.mcs_proof_lines.specs.declared.fault.ReportFault.{ReportFault}
use Rattle.mcs_judging.specs.Judging.{Tells}
use Rattle.mcs_judging.specs.Theories.{TellsAbsence, told_if}
use Rattle.mcs_judging.proofs.Ways.{fault_first, fault_same}

-- ---- what is told of each kind
module _ (names : List Name) (items : List Item) (ds : List Default) (same : ds ≡ defaults_of items) (fs : List Formula) (number : ℕ) (d : Default) (at : at_number ds number ≡ Some d) where
  pub tells_unsupported : (told : Bool) (e : Entailment) → (IsTrue told ↔ IsDenied names fs d.pre e) → TellsAbsence names items fs (told_if told number) (Unsupported number e)
  tells_unsupported true e tells n = (
    λ is. subst (λ (m : ℕ). IsAbsent names items fs m (Unsupported number e)) (same_Some number n is) ((unsupported_iff names items ds same fs number d at number e).1 (refl, tells.0 refl)),
    λ absent. ap (λ (m : ℕ). Some m) absent.0,
  )
  tells_unsupported false e tells n = (
    λ is. absurd (none-some n is),
    λ absent. absurd (true≢false (sym (tells.1 ((unsupported_iff names items ds same fs number d at number e).0 (refl, absent.1)).1))),
  )

  module _ (just : ℕ) (f : Formula) (there : at_number d.justs just ≡ Some f) where
    pub tells_blocked : (told : Bool) (e : Entailment) → (IsTrue told ↔ IsEntailmentShown names fs (Not f) e) → TellsAbsence names items fs (told_if told number) (Blocked number just e)
    tells_blocked true e tells n = (
      λ is. subst (λ (m : ℕ). IsAbsent names items fs m (Blocked number just e)) (same_Some number n is) ((blocked_iff names items ds same fs number d at number just e).1 (refl, (f, there, tells.0 refl))),
      λ absent. ap (λ (m : ℕ). Some m) absent.0,
    )
    tells_blocked false e tells n = (
      λ is. absurd (none-some n is),
      λ absent. absurd (
          let (f', there', shown) = ((blocked_iff names items ds same fs number d at number just e).0 (refl, absent.1)).1 in
          true≢false (sym (tells.1 (subst (λ (x : Formula). IsEntailmentShown names fs (Not x) e) (same_Some f' f (sym there' ∙ there)) shown)))),
    )

-- ---- a default of the set that does not apply
pub fails_told : (names : List Name) (items : List Item) (set : ℕ) (told : Option ℕ) (a : Absence) (b : Bool) → TellsAbsence names items (generated items set) told a → (IsTrue b ↔ ((n : ℕ) × (told ≡ Some n) × IsNumberIn set n)) → IsTrue b ↔ FailsToApply names items set a
fails_told names items set told a b tells is = (
  λ h. (let (n, named, (k, number, there)) = is.0 h in (k, there, (tells (k + 1)).0 (named ∙ ap (λ (m : ℕ). Some m) number))),
  λ (k, there, absent). is.1 (k + 1, (tells (k + 1)).1 absent, (k, refl, there)),
)

-- ---- as they are read
module _ (texts : List (List ℕ)) (justs : List ℕ) (only : Option ℕ) (at : At) where
  absence_unsupported : (n : ℕ) → Some n ≡ line_at (unsupported_of justs only) at → absence_at texts justs only at ≡ mapped_reading (Unsupported n) (no_at texts (advanced at))
  unfolding absence_at
  absence_unsupported n e = ap (λ (o : Option ℕ). unsupported_at texts at o (blocked_at at (line_at (blocked_of justs only) at))) (sym e)

  absence_other : None ≡ line_at (unsupported_of justs only) at → absence_at texts justs only at ≡ blocked_at at (line_at (blocked_of justs only) at)
  unfolding absence_at
  absence_other e = ap (λ (o : Option ℕ). unsupported_at texts at o (blocked_at at (line_at (blocked_of justs only) at))) (sym e)

  absence_blocked : (n j : ℕ) → None ≡ line_at (unsupported_of justs only) at → Some (n, j) ≡ line_at (blocked_of justs only) at → absence_at texts justs only at ≡ mapped_reading (Blocked n j) (yes_at (advanced at))
  absence_blocked n j none e = absence_other none ∙ ap (blocked_at at) (sym e)

  pub absence_none : None ≡ line_at (unsupported_of justs only) at → None ≡ line_at (blocked_of justs only) at → absence_at texts justs only at ≡ fault_at at
  absence_none none e = absence_other none ∙ ap (blocked_at at) (sym e)

  module _ (names : List Name) (items : List Item) (fs : List Formula) (now : At) where
    mapped_told : (f : Entailment → Absence) (r : Result (Option ℕ) ReportFault) (read : Reading Entailment) → absence_at texts justs only at ≡ mapped_reading f read → Tells (λ told e. TellsAbsence names items fs told (f e)) r now read
        → Tells (TellsAbsence names items fs) r now (absence_at texts justs only at)
    mapped_told f (Ok told) read is h = record { value = f h.value; is = is ∙ ap (mapped_reading f) h.is; fits = h.fits }
    mapped_told f (Err fault) read is h = fault_same fault (absence_at texts justs only at) (mapped_reading f read) is (fault_first fault read (λ x. Ok (f x.0, x.1)) h)

    pub unsupported_told : (n : ℕ) (r : Result (Option ℕ) ReportFault) → Some n ≡ line_at (unsupported_of justs only) at → Tells (λ told e. TellsAbsence names items fs told (Unsupported n e)) r now (no_at texts (advanced at))
        → Tells (TellsAbsence names items fs) r now (absence_at texts justs only at)
    unsupported_told n r e h = mapped_told (Unsupported n) r (no_at texts (advanced at)) (absence_unsupported n e) h

    pub blocked_told : (n j : ℕ) (r : Result (Option ℕ) ReportFault) → None ≡ line_at (unsupported_of justs only) at → Some (n, j) ≡ line_at (blocked_of justs only) at → Tells (λ told e. TellsAbsence names items fs told (Blocked n j e)) r now (yes_at (advanced at))
        → Tells (TellsAbsence names items fs) r now (absence_at texts justs only at)
    blocked_told n j r none e h = mapped_told (Blocked n j) r (yes_at (advanced at)) (absence_blocked n j none e) h

-- one of several: the default at this place is shown to be absent where its number is told
pub place_told : (names : List Name) (items : List Item) (fs : List Formula) (before after named : Bool) (told : Option ℕ) (k : ℕ) (a : Absence) → TellsAbsence names items fs told a → (IsTrue named ↔ (told ≡ Some (k + 1))) → (IsTrue after ↔ (IsTrue before × IsTrue named))
    → IsTrue after ↔ (IsTrue before × IsAbsent names items fs (k + 1) a)
place_told names items fs before after named told k a tells is both = (
  λ h. (let parts = both.0 h in (parts.0, (tells (k + 1)).0 (is.0 parts.1))),
  λ h. both.1 (h.0, is.1 ((tells (k + 1)).1 h.1)),
)
