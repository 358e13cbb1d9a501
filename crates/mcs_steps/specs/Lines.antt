-- A step's line in its two parts.
use Rattle.std.specs.Prelude.{◌≡◌, ℕ, List, Option, Some, ℤ}
use Rattle.std.specs.Option.{option_and_then}
use Rattle.mcs_trace.specs.Clauses.{IsClause}
use Rattle.mcs_trace.specs.Traces.{Inference}
use Rattle.mcs_spelling.specs.Words.{ascend_from, guarded, literals_of_bytes, numbers_of, step_of}
use Rattle.mcs_steps.specs.declared.line.StepLine as code

-- the literals that the bytes spell, where they ascend from this place on
abbrev pub clause_from : ℕ → List ℕ → Option (List ℤ)
clause_from last bytes = option_and_then (λ ls. guarded (ascend_from last ls) ls) (literals_of_bytes bytes)

-- the parts spell the clause and the chain of this step
pub record Spells (part : code.StepLine) (s : Inference) : Type 0 where
  pub literals : literals_of_bytes part.literals.now ≡ Some s.clause
  pub clause : IsClause s.clause
  pub chain : numbers_of part.chain.now ≡ Some s.chain

-- they are the parts of the line, which is a step
pub record IsStepLine (line : List ℕ) (part : code.StepLine) : Type 0 where
  pub step : Inference
  pub is : step_of line ≡ Some step
  pub spells : Spells part step
