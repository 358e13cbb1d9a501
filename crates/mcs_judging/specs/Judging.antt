-- What is told of certificates that were read, of which nothing is kept.
use Rattle.std.specs.Prelude.{◌≡◌, ◌↔◌, ℕ, cond, List, Option, Ok, Result, Err, IsTrue, IfSome, MatchOption, Vec}
use Rattle.std.specs.declared.alloc.Global.{Global}
use Rattle.mcs_sets.specs.Sets.{single, union}
use Rattle.mcs_system.specs.Plain.{Name, Formula}
use Rattle.mcs_cnf.specs.Entailments.{Entailment, says_yes, IsAcceptedEntailment, IsModelAt}
use Rattle.mcs_cnf.specs.Classical.{AreShown}
use Rattle.mcs_proof_lines.specs.Walks.{At, Reading, ReturnsReading}
use Rattle.mcs_proof_lines.specs.declared.fault.ReportFault.{ReportFault}
use Rattle.mcs_judging.specs.declared.entailments.Told as code

-- what was read is this value, to which what is told fits
pub record IsTold {X A : Type 0} (Fits : X → A → Type 0) (told : X) (now : At) (read : Reading A) : Type 0 where
  pub value : A
  pub is : read ≡ Ok (value, now)
  pub fits : Fits told value

-- the same, unless the reading fails or memory ran out
abbrev pub Tells : {X A : Type 0} → (X → A → Type 0) → Result X ReportFault → At → Reading A → Type 0
Tells Fits (Ok told) now read = IsTold Fits told now read
Tells Fits (Err fault) now read = ReturnsReading fault read

-- these are the views that are shown, if any are
abbrev pub AreViewsOf : {A : Type 0} → (List ℕ → A → Type 0) → Option (Vec ℕ Global) → A → Type 0
AreViewsOf Shown told value = MatchOption told ((views : List ℕ) → ¬ Shown views value) (λ views. Shown views.items value)

-- these are the places of the beliefs that follow, if it is shown of each whether it does
abbrev pub ArePlacesShown : List Name → List Formula → List Formula → Option ℕ → List Entailment → Type 0
ArePlacesShown names fs beliefs told es = MatchOption told ((places : ℕ) → ¬ AreShown names fs beliefs places es) (λ places. AreShown names fs beliefs places es)

-- the places, and this one if the entailment says `yes`
abbrev pub with_yes : ℕ → Entailment → ℕ → ℕ
with_yes index e places = cond (says_yes e) (union places (single index)) places

-- what is told after one entailment more, of this number
pub record IsToldOn (names : List Name) (fs : List Formula) (g : Formula) (index : ℕ) (before after : code.Told) (e : Entailment) : Type 0 where
  pub right : IsTrue after.are_right ↔ (IsTrue before.are_right × IsAcceptedEntailment names fs g e)
  pub places : after.places ≡ with_yes index e before.places
  pub model : IfSome after.model (IsModelAt names fs)
