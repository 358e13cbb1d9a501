-- The steps of a right trace are clauses, and each names one or more of the clauses before it.
use Rattle.std.proofs.Common.{◌≡◌, ℕ, zero, suc, ◌+◌, ◌-◌, ◌<◌, ◌≤◌, List, [], ◌∷◌, ◌++◌, length, length-append, Some, subst, arith, ℤ}
use Rattle.std.proofs.lemmas.Option.{slice_get_within}
use Rattle.std.specs.List.{AllByRecursion}
use Rattle.mcs_base.proofs.Each.{all_get, all_push}
use Rattle.mcs_trace.specs.Clauses.{IsClause}
use Rattle.mcs_trace.specs.Traces.{Inference, numbered_clause, ResolvesTo, IsChainResolvent, AreRightSteps, EndsEmpty}
use Rattle.mcs_trace.proofs.ResolventLemmas.{IsResolvent-clause}

-- ---- numbers of clauses
abbrev pub IsUpTo : ℕ → ℕ → Type 0
IsUpTo most n = (0 < n) × (n ≤ most)

number_up_to : (known : List (List ℤ)) (most n : ℕ) (c : List ℤ) → length known ≤ most → numbered_clause known n ≡ Some c → IsUpTo most n
number_up_to known most zero c room e = absurd (cc)
number_up_to known most (suc n) c room e = (omega arith, omega (arith, slice_get_within known n c e))

clause_at_number : (known : List (List ℤ)) (n : ℕ) (c : List ℤ) → AllByRecursion IsClause known → numbered_clause known n ≡ Some c → IsClause c
clause_at_number known zero c all e = absurd (cc)
clause_at_number known (suc n) c all e = all_get IsClause known n c all e

-- ---- chains
chain_clause : (known : List (List ℤ)) (c : List ℤ) (ns : List ℕ) (last : List ℤ) → AllByRecursion IsClause known → IsClause c → ResolvesTo known c ns last
    → IsClause last
chain_clause known c [] last all is e = subst IsClause e is
chain_clause known c (n ∷ ns) last all is (d, e, (m, r, rest)) =
    chain_clause known m ns last all (IsResolvent-clause c d m is (clause_at_number known n d all e) r) rest

chain_up_to : (known : List (List ℤ)) (most : ℕ) (c : List ℤ) (ns : List ℕ) (last : List ℤ) → length known ≤ most → ResolvesTo known c ns last
    → AllByRecursion (IsUpTo most) ns
chain_up_to known most c [] last room e = tt
chain_up_to known most c (n ∷ ns) last room (d, e, (m, r, rest)) = (number_up_to known most n d room e, chain_up_to known most m ns last room rest)

-- ---- steps
-- a clause that is told to come from clauses of these numbers
pub record IsToldStep (most : ℕ) (s : Inference) : Type 0 where
  pub clause : IsClause s.clause
  pub some : ¬ (s.chain ≡ [])
  pub numbers : AllByRecursion (IsUpTo most) s.chain

told_step : (known : List (List ℤ)) (most : ℕ) (s : Inference) → AllByRecursion IsClause known → length known ≤ most
    → IsChainResolvent known s.chain s.clause → IsToldStep most s
told_step known most s all room right = record { clause = clause s.chain right; some = some s.chain right; numbers = numbers s.chain right }
  where
    clause : (ns : List ℕ) → IsChainResolvent known ns s.clause → IsClause s.clause
    clause [] h = absurd h
    clause (n ∷ ns) (c, e, rest) = chain_clause known c ns s.clause all (clause_at_number known n c all e) rest

    some : (ns : List ℕ) → IsChainResolvent known ns s.clause → ¬ (ns ≡ [])
    some [] h e = absurd h
    some (n ∷ ns) h e = absurd (cc)

    numbers : (ns : List ℕ) → IsChainResolvent known ns s.clause → AllByRecursion (IsUpTo most) ns
    numbers [] h = absurd h
    numbers (n ∷ ns) (c, e, rest) = (number_up_to known most n c room e, chain_up_to known most c ns s.clause room rest)

-- where there are no more clauses and steps than this
pub told_steps : (known : List (List ℤ)) (most : ℕ) (steps : List Inference) → AllByRecursion IsClause known → length known + length steps ≤ most
    → AreRightSteps known steps → AllByRecursion (IsToldStep most) steps
told_steps known most [] all room right = tt
told_steps known most (s ∷ steps) all room right =
    let step = told_step known most s all (omega arith) right.0 in
    let clauses = all_push IsClause known s.clause all step.clause in
    (step, told_steps (known ++ s.clause ∷ []) most steps clauses (omega (arith, length-append known (s.clause ∷ []))) right.1)

pub some_steps : (steps : List Inference) → EndsEmpty steps → ¬ (steps ≡ [])
some_steps [] (s, is, empty) e = absurd (cc)
some_steps (t ∷ steps) h e = absurd (cc)
