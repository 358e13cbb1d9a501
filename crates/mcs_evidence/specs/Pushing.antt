-- What is added to a list of clauses for a formula, and for a conjunction or a disjunction that grows from the left.
use Rattle.std.specs.Prelude.{◌≡◌, ℕ, ◌<◌, ◌≤◌, IsTrue, List, [], ◌∷◌, ◌++◌, ℤ, Option, Some, None}
use Rattle.std.specs.List.{AllByRecursion}
use Rattle.mcs_system.specs.Plain.{Name, Formula}
use Rattle.mcs_system.specs.Logic.{is_in}
use Rattle.mcs_trace.specs.Clauses.{ClauseList}
use Rattle.mcs_cnf.specs.ClauseLists.{taken, number, formula_clauses, IsAdded}
use Rattle.mcs_evidence.specs.Programs.{and_from, or_from}

-- each of the one list is among the other
abbrev pub AreNamesOf : List Name → List Name → Type 0
AreNamesOf names these = AllByRecursion (λ (n : Name). IsTrue (is_in n names)) these

-- the number is a variable's of the list
abbrev pub IsListVariable : ClauseList → ℕ → Type 0
IsListVariable c n = (0 < n) × (n ≤ c.vars)

-- so it is if there is one
abbrev pub IsVariablePart : ClauseList → Option ℕ → Type 0
IsVariablePart c None = Unit {0}
IsVariablePart c (Some n) = IsListVariable c n

-- the occurrences in the formula are added, and its own number is this one
pub record HasOccurrences (names : List Name) (f : Formula) (old new : ClauseList) (n : ℕ) : Type 0 where
  pub number : n ≡ number names old.vars f
  pub added : new ≡ record { vars = taken old.vars f; clauses = old.clauses ++ formula_clauses names old.vars f }

-- those of the conjunction of the formulas, if there are any
abbrev pub HasConjunction : List Name → List Formula → ClauseList → ClauseList → Option ℕ → Type 0
HasConjunction names [] old new o = (o ≡ None) × (new ≡ old)
HasConjunction names (f ∷ fs) old new o = (n : ℕ) × (o ≡ Some n) × HasOccurrences names (and_from f fs) old new n

-- those of the disjunction
abbrev pub HasDisjunction : List Name → List Formula → ClauseList → ClauseList → Option ℕ → Type 0
HasDisjunction names [] old new o = (o ≡ None) × (new ≡ old)
HasDisjunction names (f ∷ fs) old new o = (n : ℕ) × (o ≡ Some n) × HasOccurrences names (or_from f fs) old new n

-- of a part and one more part: the one alone where there was none, else an occurrence of both
abbrev pub IsJoinedPart : (ℕ → ℕ → ℕ → List (List ℤ)) → ClauseList → ClauseList → Option ℕ → ℕ → ℕ → Type 0
IsJoinedPart own old new None x n = (n ≡ x) × (new ≡ old)
IsJoinedPart own old new (Some y) x n = IsAdded (λ n. own n y x) old new n
