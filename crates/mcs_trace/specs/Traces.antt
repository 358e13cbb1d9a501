-- Chains of resolvents and traces. Clauses are numbered from 1 on, and the steps of a trace go on with the
-- next numbers.
use Rattle.std.specs.Prelude.{◌≡◌, ℕ, zero, suc, ◌-◌, List, [], ◌∷◌, ◌++◌, length, map, ℤ, Option, Some, None, slice_get}
use Rattle.std.specs.List.{AllByRecursion}
use Rattle.mcs_trace.specs.Clauses.{IsClause, IsUnsatisfiable}
use Rattle.mcs_trace.specs.Resolution.{IsResolvent}
use Rattle.mcs_trace.specs.declared.trace.Step.{Step}
use Rattle.mcs_trace.specs.declared.trace.Trace.{Trace}

-- a clause, and the numbers of the clauses that it is resolved from
pub record Inference : Type 0 where
  pub clause : List ℤ
  pub chain : List ℕ

abbrev pub numbered_clause : List (List ℤ) → ℕ → Option (List ℤ)
numbered_clause known zero = None
numbered_clause known (suc n) = slice_get known n

-- the clause, resolved with those of the numbers in turn, gives the last one
abbrev pub ResolvesTo : List (List ℤ) → List ℤ → List ℕ → List ℤ → Type 0
ResolvesTo known clause [] last = clause ≡ last
ResolvesTo known clause (n ∷ ns) last =
    (next : List ℤ) × (numbered_clause known n ≡ Some next) × ((between : List ℤ) × IsResolvent clause next between × ResolvesTo known between ns last)

-- the clause is that of the first number, resolved with those of the others in turn
abbrev pub IsChainResolvent : List (List ℤ) → List ℕ → List ℤ → Type 0
IsChainResolvent known [] clause = ⊥
IsChainResolvent known (n ∷ ns) clause = (first : List ℤ) × (numbered_clause known n ≡ Some first) × ResolvesTo known first ns clause

-- each step's clause is the resolvent of its chain, which names known clauses and earlier steps
abbrev pub AreRightSteps : List (List ℤ) → List Inference → Type 0
AreRightSteps known [] = Unit {0}
AreRightSteps known (s ∷ steps) = IsChainResolvent known s.chain s.clause × AreRightSteps (known ++ s.clause ∷ []) steps

-- there is a last step, and its clause is empty
abbrev pub EndsEmpty : List Inference → Type 0
EndsEmpty steps = (s : Inference) × (slice_get steps (length steps - 1) ≡ Some s) × (s.clause ≡ [])

abbrev pub IsAcceptedTrace : List (List ℤ) → List Inference → Type 0
IsAcceptedTrace clauses steps = AreRightSteps clauses steps × EndsEmpty steps

-- no assignment satisfies the clauses of an accepted trace
abbrev pub AcceptedTracesRefute : Type 0
AcceptedTracesRefute = (clauses : List (List ℤ)) (steps : List Inference) → AllByRecursion IsClause clauses → IsAcceptedTrace clauses steps → IsUnsatisfiable clauses

-- ---- the plain data of the code's values
abbrev pub inference_of : Step → Inference
inference_of s = record { clause = s.clause; chain = s.chain.items }

abbrev pub clauses_of : List Step → List (List ℤ)
clauses_of steps = map (λ (s : Step). s.clause) steps

abbrev pub inferences_of : Trace → List Inference
inferences_of t = map inference_of t.steps.items
