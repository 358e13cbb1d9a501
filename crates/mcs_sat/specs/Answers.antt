-- What a search answers.
use Rattle.std.specs.Prelude.{◌≡◌, ℕ, zero, suc, Bool, false, List, Option, Some, None, Vec, get_or, IsTrue, vec_len}
use Rattle.std.specs.declared.alloc.Global.{Global}
use Rattle.mcs_trace.specs.Clauses.{ClauseList, all_hold, IsUnsatisfiable}
use Rattle.mcs_trace.specs.Traces.{IsAcceptedTrace, inferences_of}
use Rattle.mcs_sat.specs.declared.outcome.Outcome.{Outcome}
use Rattle.mcs_sat.specs.declared.outcome.Outcome.TheVariants.{Model, Refuted}

-- the value of variable v is at v - 1
abbrev pub assignment_of : List Bool → ℕ → Bool
assignment_of values zero = false
assignment_of values (suc n) = get_or values n false

-- a model has a value for each variable and satisfies all clauses; else a trace refutes them
abbrev pub IsSatAnswer : ClauseList → Outcome → Type 0
IsSatAnswer f (Model values) = (vec_len values ≡ f.vars) × IsTrue (all_hold (assignment_of values.items) f.clauses)
IsSatAnswer f (Refuted trace) = IsAcceptedTrace f.clauses (inferences_of trace)

-- refuted exactly where no assignment satisfies the clauses
abbrev pub IsExact : ClauseList → Outcome → Type 0
IsExact f (Model values) = ¬ IsUnsatisfiable f.clauses
IsExact f (Refuted trace) = IsUnsatisfiable f.clauses

-- an assignment with a value for each variable that satisfies all clauses; or none, exactly where there is none
abbrev pub IsSettledAnswer : ClauseList → Option (Vec Bool Global) → Type 0
IsSettledAnswer f None = IsUnsatisfiable f.clauses
IsSettledAnswer f (Some values) = (vec_len values ≡ f.vars) × IsTrue (all_hold (assignment_of values.items) f.clauses)
