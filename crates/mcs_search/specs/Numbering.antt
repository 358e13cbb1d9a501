-- The trace that a store of clauses gives: the clauses that were given first, then the steps that are named, by it or by a step that is, each with the number that it has there.
use Rattle.std.specs.Prelude.{◌≡◌, ℕ, ◌+◌, ◌-◌, ◌<◌, ◌≤◌, ◌⊎◌, List, [], ◌∷◌, ◌++◌, ℤ, Bool, true, false, IsTrue, length, map, take, get_or, Some, slice_get}
use Rattle.std.specs.List.{AllByRecursion}
use Rattle.mcs_base.specs.Listings.{IsAmong}
use Rattle.mcs_trace.specs.Clauses.{IsClause}
use Rattle.mcs_trace.specs.Traces.{AreRightSteps, clauses_of, inference_of, numbered_clause}
use Rattle.mcs_trace.specs.declared.trace.Step.{Step}
use Rattle.mcs_search.specs.declared.trace.Numbering.{Numbering}
use Rattle.mcs_engine.specs.States.{AreChains}
use Rattle.mcs_engine.specs.Stores.{given, given_count}

-- the numbers, which go from 1 on, are at most the one
abbrev pub NameBelow : ℕ → List ℕ → Type 0
NameBelow count numbers = (n : ℕ) → IsAmong n numbers → (0 < n) × (n ≤ count)

-- each chain names clauses before its own
abbrev pub NamesAt : List (List ℕ) → Type 0
NamesAt chains = (i : ℕ) (ns : List ℕ) → slice_get chains i ≡ Some ns → NameBelow i ns

-- the clauses of the numbers are marked
abbrev pub AreMarked : List Bool → List ℕ → Type 0
AreMarked needed numbers = (n : ℕ) → IsAmong n numbers → IsTrue (get_or needed (n - 1) false)

-- from the index on, where a clause is marked, so are those that its chain names
abbrev pub AreChainsMarked : List (List ℕ) → List Bool → ℕ → Type 0
AreChainsMarked chains needed from = (i : ℕ) (ns : List ℕ) → from ≤ i → slice_get chains i ≡ Some ns → IsTrue (get_or needed i false) → AreMarked needed ns

-- the clauses that the last chain needs are marked, one for each chain
pub record AreNeeded (chains : List (List ℕ)) (last : List ℕ) (needed : List Bool) : Type 0 where
  pub sized : length needed ≡ length chains
  pub named : AreMarked needed last
  pub closed : AreChainsMarked chains needed 0

-- clauses with right chains, of which so many were given
pub record IsStore (known : List (List ℤ)) (chains : List (List ℕ)) (count : ℕ) : Type 0 where
  pub clauses : AllByRecursion IsClause known
  pub right : AreChains known chains
  pub counted : count ≡ given_count chains

-- the new number of a clause
abbrev pub number_now : List ℕ → ℕ → ℕ
number_now numbers n = get_or numbers (n - 1) 0

-- the next clause was taken: one that was given, one that is left out, or a step
abbrev pub IsRead : Numbering → Numbering → List ℤ → List ℕ → Bool → ℕ → Type 0
IsRead old new c [] needed count = (new.steps.items ≡ old.steps.items) × (new.given ≡ old.given + 1) × (new.numbers.items ≡ old.numbers.items ++ (old.given + 1) ∷ [])
IsRead old new c (n ∷ ns) false count = (new.steps.items ≡ old.steps.items) × (new.given ≡ old.given) × (new.numbers.items ≡ old.numbers.items ++ 0 ∷ [])
IsRead old new c (n ∷ ns) true count = (s : Step) × (inference_of s ≡ record { clause = c; chain = map (number_now old.numbers.items) (n ∷ ns) }) × (new.steps.items ≡ old.steps.items ++ s ∷ []) × (new.given ≡ old.given)
    × (new.numbers.items ≡ old.numbers.items ++ (count + length old.steps.items + 1) ∷ [])

-- of the first clauses of the store: their steps are right, and each clause that was given or is needed has its number
pub record IsNumbering (known : List (List ℤ)) (chains : List (List ℕ)) (needed : List Bool) (i : ℕ) (n : Numbering) : Type 0 where
  pub sized : length n.numbers.items ≡ i
  pub counted : n.given ≡ given_count (take i chains)
  pub few : n.given + length n.steps.items ≤ i
  pub right : AreRightSteps (given known chains) (map inference_of n.steps.items)
  pub named : (j : ℕ) (c : List ℤ) (ns : List ℕ) → j < i → slice_get known j ≡ Some c → slice_get chains j ≡ Some ns → (ns ≡ []) ⊎ IsTrue (get_or needed j false)
      → numbered_clause (given known chains ++ clauses_of n.steps.items) (get_or n.numbers.items j 0) ≡ Some c
