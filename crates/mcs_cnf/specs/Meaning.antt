-- What the clauses of formulas mean.
use Rattle.std.specs.Prelude.{◌≡◌, ℕ, ◌<◌, ◌≤◌, Bool, IsTrue, List}
use Rattle.mcs_system.specs.Plain.{Name, Formula}
use Rattle.mcs_system.specs.Logic.{is_in, holds_all}
use Rattle.mcs_trace.specs.Clauses.{all_hold}
use Rattle.mcs_cnf.specs.ClauseLists.{atom_number, clause_list}

-- the variable of each atom is true exactly where the atom is
abbrev pub Extends : List Name → List Name → (ℕ → Bool) → Type 0
Extends names a v = (n : Name) → IsTrue (is_in n names) → v (atom_number names n) ≡ is_in n a

-- An assignment satisfies the formulas exactly where it extends to one of the variables that satisfies the
-- clauses, and then to only one.
pub record IsMeaning (names : List Name) (fs : List Formula) (a : List Name) : Type 0 where
  pub extends : IsTrue (holds_all a fs) → (v : ℕ → Bool) × Extends names a v × IsTrue (all_hold v (clause_list names fs).clauses)
  pub satisfied : (v : ℕ → Bool) → Extends names a v → IsTrue (all_hold v (clause_list names fs).clauses) → IsTrue (holds_all a fs)
  pub only : (v w : ℕ → Bool) → Extends names a v → IsTrue (all_hold v (clause_list names fs).clauses) → Extends names a w → IsTrue (all_hold w (clause_list names fs).clauses)
      → (k : ℕ) → 0 < k → k ≤ (clause_list names fs).vars → v k ≡ w k
