-- When it is accepted that a formula follows, or that it does not.
use Rattle.std.specs.Prelude.{◌≡◌, ℕ, ◌<◌, Bool, true, false, IsTrue, List, [], ◌∷◌, ◌++◌, length, Option, Some}
use Rattle.mcs_sets.specs.Sets.{has}
use Rattle.mcs_system.specs.Plain.{Name, Formula, Not}
use Rattle.mcs_system.specs.Logic.{holds, holds_all, true_names}
use Rattle.mcs_trace.specs.Traces.{Inference, IsAcceptedTrace, inferences_of}
use Rattle.mcs_trace.specs.declared.certificate.Entail as code
use Rattle.mcs_trace.specs.declared.certificate.Entail.TheVariants as variants
use Rattle.mcs_cnf.specs.ClauseLists.{clause_list}

-- a trace that refutes formulas with the negated goal, or the set of the places of the atoms that are true
-- where the formulas hold and the goal does not
pub data Entailment : Type 0 where
  Yes : (steps : List Inference) → Entailment
  No : (places : ℕ) → Entailment

abbrev pub entailment_of : code.Entail → Entailment
entailment_of (variants.Yes trace) = Yes (inferences_of trace)
entailment_of (variants.No places) = No places

abbrev pub says_yes : Entailment → Bool
says_yes (Yes steps) = true
says_yes (No places) = false

abbrev pub with_negated : List Formula → Formula → List Formula
with_negated fs g = fs ++ Not g ∷ []

-- the formulas hold where exactly the atoms at these places are true
pub record IsModelAt (names : List Name) (fs : List Formula) (places : ℕ) : Type 0 where
  pub in_range : (k : ℕ) → IsTrue (has places k) → k < length names
  pub formulas : IsTrue (holds_all (true_names 0 names places) fs)

-- and the goal does not
pub record IsRefuted (names : List Name) (fs : List Formula) (g : Formula) (places : ℕ) : Type 0 where
  pub model : IsModelAt names fs places
  pub goal : holds (true_names 0 names places) g ≡ false

abbrev pub IsAcceptedEntailment : List Name → List Formula → Formula → Entailment → Type 0
IsAcceptedEntailment names fs g (Yes steps) = IsAcceptedTrace (clause_list names (with_negated fs g)).clauses steps
IsAcceptedEntailment names fs g (No places) = IsRefuted names fs g places

-- a model of the formulas that is known after one more accepted entailment
abbrev pub model_after : Option ℕ → Entailment → Option ℕ
model_after model (Yes steps) = model
model_after model (No places) = Some places
