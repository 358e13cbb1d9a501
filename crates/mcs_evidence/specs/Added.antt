-- What one call needs of a list of clauses, and what it adds to it.
use Rattle.std.specs.Prelude.{◌≡◌, ℕ, ◌≤◌, List, [], ◌∷◌, ◌++◌, length, ℤ, Option}
use Rattle.mcs_system.specs.Plain.{Name, Formula, Not}
use Rattle.mcs_trace.specs.Clauses.{ClauseList}
use Rattle.mcs_cnf.specs.ClauseLists.{with_formulas}
use Rattle.mcs_evidence.specs.Programs.{conjunction}
use Rattle.mcs_evidence.specs.Pushing.{IsListVariable, IsVariablePart, HasOccurrences, HasConjunction, IsJoinedPart}

-- the list has the numbers of all names, and what is to be added is over the names
pub record CanAdd (names : List Name) (c : ClauseList) (is_over : Type 0) : Type 0 where
  pub over : is_over
  pub room : length names ≤ c.vars

-- the clauses of these formulas
pub record AddsFormulas (names : List Name) (fs : List Formula) (old new : ClauseList) : Type 0 where
  pub grows : old.vars ≤ new.vars
  pub pushed : new ≡ with_formulas names old fs

-- an occurrence of the formula, which has this number
pub record AddsOccurrence (names : List Name) (f : Formula) (old new : ClauseList) (n : ℕ) : Type 0 where
  pub number : IsListVariable new n
  pub grows : old.vars ≤ new.vars
  pub occurs : HasOccurrences names f old new n

-- an occurrence of the part and of x together, which has this number
pub record AddsPart (own : ℕ → ℕ → ℕ → List (List ℤ)) (old new : ClauseList) (part : Option ℕ) (x n : ℕ) : Type 0 where
  pub number : IsListVariable new n
  pub grows : old.vars ≤ new.vars
  pub joined : IsJoinedPart own old new part x n

-- these formulas, to a conjunction
pub record AddsToConjunction (names : List Name) (more : List Formula) (old new : ClauseList) (before now : Option ℕ) : Type 0 where
  pub grows : old.vars ≤ new.vars
  pub part : IsVariablePart new now
  pub joined : (start : ClauseList) (fs : List Formula) → HasConjunction names fs start old before → HasConjunction names (fs ++ more) start new now

-- an occurrence of the whole of a conjunction or disjunction that has this part, or none
pub record AddsWhole (has : List Name → List Formula → ClauseList → ClauseList → Option ℕ → Type 0) (whole_of : List Formula → Formula) (old new : ClauseList) (part : Option ℕ) (n : ℕ) : Type 0 where
  pub number : IsListVariable new n
  pub grows : old.vars ≤ new.vars
  pub whole : (names : List Name) (start : ClauseList) (fs : List Formula) → has names fs start old part → HasOccurrences names (whole_of fs) start new n

-- the clauses that such a conjunction is false
pub record AddsDenial (old new : ClauseList) (part : Option ℕ) : Type 0 where
  pub grows : old.vars ≤ new.vars
  pub pushed : (names : List Name) (start : ClauseList) (fs : List Formula) → HasConjunction names fs start old part → new ≡ with_formulas names start (Not (conjunction fs) ∷ [])
