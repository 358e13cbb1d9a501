-- Literals, clauses, and what an assignment makes of them.
use Rattle.std.specs.Prelude.{ℕ, ◌+◌, ◌*◌, ◌^◌, ◌<◌, ◌≤◌, Bool, not, List, ℤ, pos, negsuc, IsTrue}
use Rattle.std.specs.Int.RustNames.{unsigned_abs}
use Rattle.std.specs.List.{AllByRecursion, list_any, list_all}
use Rattle.mcs_base.specs.Listings.{IsAscending}

-- the literal n says that variable n is true, and -n that it is false; 0 is none
abbrev pub IsLiteral : ℤ → Type 0
IsLiteral l = (0 < unsigned_abs l) × (unsigned_abs l < 2 ^ 63)

-- the place of a literal in the order 1, -1, 2, -2, ..
abbrev pub place : ℤ → ℕ
place (pos n) = 2 * n
place (negsuc n) = 2 * n + 3

abbrev pub LiteralBefore : ℤ → ℤ → Type 0
LiteralBefore a b = place a < place b

-- a set of literals, listed in the order of literals
abbrev pub IsClause : List ℤ → Type 0
IsClause c = AllByRecursion IsLiteral c × IsAscending LiteralBefore c

-- each variable of the clause is one of 1 to n
abbrev pub IsWithin : ℕ → List ℤ → Type 0
IsWithin n c = AllByRecursion (λ l. unsigned_abs l ≤ n) c

-- clauses over the variables 1 to `vars`
pub record ClauseList : Type 0 where
  pub vars : ℕ
  pub clauses : List (List ℤ)

abbrev pub IsClauseList : ClauseList → Type 0
IsClauseList f = (f.vars < 2 ^ 63) × AllByRecursion (λ c. IsClause c × IsWithin f.vars c) f.clauses

-- ---- truth under an assignment, which says of each variable whether it is true
abbrev pub literal_holds : (ℕ → Bool) → ℤ → Bool
literal_holds v (pos n) = v n
literal_holds v (negsuc n) = not (v (n + 1))

-- a clause holds where one of its literals does
abbrev pub clause_holds : (ℕ → Bool) → List ℤ → Bool
clause_holds v c = list_any (literal_holds v) c

abbrev pub all_hold : (ℕ → Bool) → List (List ℤ) → Bool
all_hold v cs = list_all (clause_holds v) cs

abbrev pub IsUnsatisfiable : List (List ℤ) → Type 0
IsUnsatisfiable cs = (v : ℕ → Bool) → ¬ IsTrue (all_hold v cs)
