-- When clauses mean formulas: their models, at the atoms, are those of the formulas.
use Rattle.std.specs.Prelude.{◌≡◌, ℕ, ◌≤◌, Bool, IsTrue, List, [], ◌∷◌, ◌++◌, length}
use Rattle.mcs_system.specs.Plain.{Name, Formula}
use Rattle.mcs_system.specs.Logic.{holds, holds_all}
use Rattle.mcs_trace.specs.Clauses.{ClauseList, all_hold}
use Rattle.mcs_cnf.specs.Meaning.{Extends}

-- an assignment satisfies the formulas exactly where it extends to one of the variables that satisfies the clauses
pub record AreMeantBy (names : List Name) (fs : List Formula) (c : ClauseList) : Type 0 where
  pub room : length names ≤ c.vars
  pub extends : (a : List Name) → IsTrue (holds_all a fs) → (v : ℕ → Bool) × Extends names a v × IsTrue (all_hold v c.clauses)
  pub satisfied : (a : List Name) (v : ℕ → Bool) → Extends names a v → IsTrue (all_hold v c.clauses) → IsTrue (holds_all a fs)

-- the new clauses mean one formula more, whatever the old ones mean
abbrev pub AddsFormula : List Name → Formula → ClauseList → ClauseList → Type 0
AddsFormula names f old new = (fs : List Formula) → AreMeantBy names fs old → AreMeantBy names (fs ++ f ∷ []) new

-- the two assignments are the same for the variables up to this one
abbrev pub AgreeUpTo : ℕ → (ℕ → Bool) → (ℕ → Bool) → Type 0
AgreeUpTo n v w = (k : ℕ) → k ≤ n → v k ≡ w k

-- clauses that say of the variables up to this one, among which those of the names are, that the formula is true
pub record AreClausesFor (names : List Name) (f : Formula) (vars : ℕ) (c : ClauseList) : Type 0 where
  pub grows : vars ≤ c.vars
  pub extends : (a : List Name) (v : ℕ → Bool) → Extends names a v → IsTrue (holds a f) → (w : ℕ → Bool) × AgreeUpTo vars v w × IsTrue (all_hold w c.clauses)
  pub satisfied : (a : List Name) (v : ℕ → Bool) → Extends names a v → IsTrue (all_hold v c.clauses) → IsTrue (holds a f)
