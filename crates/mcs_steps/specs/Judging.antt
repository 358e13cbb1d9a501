-- What is told of steps and traces that were read.
use Rattle.std.specs.Prelude.{◌≡◌, ◌↔◌, Bool, false, List, [], ◌∷◌, ◌++◌, map, Ok, Result, Err, IsTrue, Some, ℤ, ℕ}
use Rattle.std.specs.List.{AllByRecursion}
use Rattle.mcs_trace.specs.Clauses.{IsClause}
use Rattle.mcs_trace.specs.Traces.{Inference, IsChainResolvent, AreRightSteps, EndsEmpty, ResolvesTo}
use Rattle.mcs_proof_lines.specs.Walks.{At, Reading, ReturnsReading, line_at, steps_at}
use Rattle.mcs_spelling.specs.Words.{step_of}
use Rattle.mcs_proof_lines.specs.declared.fault.ReportFault.{ReportFault}
use Rattle.mcs_steps.specs.declared.line.StepLine as code
use Rattle.mcs_steps.specs.declared.trace.Judged as judged
use Rattle.mcs_steps.specs.Lines.{Spells}

-- what was read is this value, of which it is told whether this holds
pub record IsJudged {A : Type 0} (Holds : A → Type 0) (told : Bool) (now : At) (read : Reading A) : Type 0 where
  pub value : A
  pub is : read ≡ Ok (value, now)
  pub right : IsTrue told ↔ Holds value

-- the same, unless the reading fails or memory ran out
abbrev pub Judges : {A : Type 0} → (A → Type 0) → Result Bool ReportFault → At → Reading A → Type 0
Judges Holds (Ok told) now read = IsJudged Holds told now read
Judges Holds (Err fault) now read = ReturnsReading fault read

-- a value was read, which nobody keeps
pub record IsPassed {A : Type 0} (now : At) (read : Reading A) : Type 0 where
  pub value : A
  pub is : read ≡ Ok (value, now)

abbrev pub PassesBy : {A : Type 0} → Result (Unit {0}) ReportFault → At → Reading A → Type 0
PassesBy (Ok x) now read = IsPassed now read
PassesBy (Err fault) now read = ReturnsReading fault read

-- ---- chains and steps, where these clauses are known
-- the clause that is resolved with those of the numbers in turn gives the last one, if this is so at all
abbrev pub IsResolved : List (List ℤ) → List ℤ → List ℕ → Bool → List ℤ → Type 0
IsResolved known clause ns told last = (c : List ℤ) → ResolvesTo known clause ns c ↔ (IsTrue told × (last ≡ c))

-- the same from the first number on
abbrev pub IsDerived : List (List ℤ) → List ℕ → Bool → List ℤ → Type 0
IsDerived known ns told last = (c : List ℤ) → IsChainResolvent known ns c ↔ (IsTrue told × (last ≡ c))

-- whether the step is right; if so, its clause is derived as well
pub record IsStepJudged (clauses old new : List (List ℤ)) (s : Inference) (told : Bool) : Type 0 where
  pub right : IsTrue told ↔ IsChainResolvent (clauses ++ old) s.chain s.clause
  pub more : IsTrue told → new ≡ old ++ s.clause ∷ []
  pub less : told ≡ false → new ≡ old

abbrev pub clauses_in : List Inference → List (List ℤ)
clauses_in steps = map (λ (s : Inference). s.clause) steps

-- what is told after one step more
pub record IsJudgedOn (clauses old new : List (List ℤ)) (s : Inference) (before after : judged.Judged) : Type 0 where
  pub right : IsTrue after.are_right ↔ (IsTrue before.are_right × IsChainResolvent (clauses ++ old) s.chain s.clause)
  pub ends : IsTrue after.ends_empty ↔ (s.clause ≡ [])
  pub more : IsTrue after.are_right → new ≡ old ++ s.clause ∷ []
  pub clauses_still : AllByRecursion IsClause new

-- of the steps that were read
pub record AreStepsJudged (clauses : List (List ℤ)) (old now : At) (j : judged.Judged) : Type 0 where
  pub steps : List Inference
  pub read : steps_at old ≡ (steps, now)
  pub right : IsTrue j.are_right ↔ AreRightSteps clauses steps
  pub ends : IsTrue j.ends_empty ↔ EndsEmpty steps

-- the next line is a step with these parts
pub record IsNextStep (at : At) (part : code.StepLine) : Type 0 where
  pub step : Inference
  pub is : line_at step_of at ≡ Some step
  pub spells : Spells part step
