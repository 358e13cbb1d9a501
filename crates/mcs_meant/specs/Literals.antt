-- Literals that stand for formulas. A denial has the opposite literal of what it denies.
use Rattle.std.specs.Prelude.{◌≡◌, ℕ, ◌+◌, ◌≤◌, Bool, false, cond, not, ◌&&◌, ◌||◌, IsTrue, List, ℤ, neg_ℤ}
use Rattle.std.specs.Int.RustNames.{unsigned_abs}
use Rattle.mcs_system.specs.Plain.{Name, Formula, Truth, Falsity, Atom, Not, Joined}
use Rattle.mcs_system.specs.Trees.{joined_value}
use Rattle.mcs_system.specs.Logic.{holds, both_or_neither}
use Rattle.mcs_trace.specs.Clauses.{ClauseList, IsLiteral, IsClauseList, literal_holds, all_hold}
use Rattle.mcs_cnf.specs.ClauseLists.{IsThere}
use Rattle.mcs_cnf.specs.Meaning.{Extends}
use Rattle.mcs_meant.specs.Meanings.{AgreeUpTo}

-- the formula begins with an odd number of denials
abbrev pub is_turned : Formula → Bool
is_turned Truth = false
is_turned Falsity = false
is_turned (Atom n) = false
is_turned (Not f) = not (is_turned f)
is_turned (Joined c f g) = false

-- the literal of a formula, from that of what its first denials deny
abbrev pub turned_by : Formula → ℤ → ℤ
turned_by f l = cond (is_turned f) (neg_ℤ l) l

-- what a formula of two parts makes of their values
abbrev pub sign_of : Formula → Bool → Bool → Bool
sign_of (Joined c f g) p q = joined_value c p q
sign_of f p q = p && q

-- one variable more, and clauses that say that its literal is true exactly where the test is
pub record IsGate (test : (ℕ → Bool) → Bool) (old new : ClauseList) (l : ℤ) : Type 0 where
  pub kept : IsClauseList old
  pub fits : IsLiteral l
  pub vars : new.vars ≡ old.vars + 1
  pub newest : unsigned_abs l ≡ old.vars + 1
  pub says : (v : ℕ → Bool) → all_hold v new.clauses ≡ (all_hold v old.clauses && both_or_neither (literal_holds v l) (test v))

-- once the new clauses hold, the literal is true exactly where the formula is; and they can be made to hold
pub record IsLiteralOf (names : List Name) (f : Formula) (old new : ClauseList) (l : ℤ) : Type 0 where
  pub grows : old.vars ≤ new.vars
  pub there : IsThere new l
  pub fits : IsLiteral l
  pub extends : (a : List Name) (v : ℕ → Bool) → Extends names a v → IsTrue (all_hold v old.clauses) → (w : ℕ → Bool) × AgreeUpTo old.vars v w × IsTrue (all_hold w new.clauses)
  pub says : (a : List Name) (v : ℕ → Bool) → Extends names a v → IsTrue (all_hold v new.clauses) → IsTrue (all_hold v old.clauses) × (literal_holds v l ≡ holds a f)
