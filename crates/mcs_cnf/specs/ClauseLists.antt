-- The clauses of formulas, by a variable for each occurrence of a subformula (Tseitin 1968).
use Rattle.std.specs.Prelude.{◌≡◌, ℕ, ◌+◌, ◌<◌, ◌≤◌, cond, nat_lt, nat_eq, IsTrue, List, [], ◌∷◌, ◌++◌, length, ℤ, pos, neg_ℤ}
use Rattle.std.specs.Int.RustNames.{unsigned_abs}
use Rattle.std.specs.List.{AllByRecursion}
use Rattle.mcs_system.specs.Plain.{Name, Formula, Truth, Falsity, Atom, Not, Joined, Connective, Conjunction, Disjunction, Implication, Equivalence}
use Rattle.mcs_system.specs.Trees.{AllLeaves}
use Rattle.mcs_system.specs.Logic.{same_name, is_in}
use Rattle.mcs_trace.specs.Clauses.{place, ClauseList}

-- ---- clauses from literals in any order
-- the literal in its place among those of a clause, unless it is there
unfoldable pub with_literal : ℤ → List ℤ → List ℤ
with_literal l [] = l ∷ []
with_literal l (k ∷ c) = cond (nat_lt (place l) (place k)) (l ∷ k ∷ c) (k ∷ cond (nat_eq (place l) (place k)) c (with_literal l c))

-- the set of the literals, in order
unfoldable pub clause_of : List ℤ → List ℤ
clause_of [] = []
clause_of (l ∷ ls) = with_literal l (clause_of ls)

-- the literal that says that a variable is false
abbrev pub non : ℕ → ℤ
non n = neg_ℤ (pos n)

-- ---- the clauses of an occurrence n with the parts x and y: n is true exactly where it should be
abbrev pub truth_clauses : ℕ → List (List ℤ)
truth_clauses n = clause_of (pos n ∷ []) ∷ []

abbrev pub falsity_clauses : ℕ → List (List ℤ)
falsity_clauses n = clause_of (non n ∷ []) ∷ []

abbrev pub not_clauses : ℕ → ℕ → List (List ℤ)
not_clauses n x = clause_of (non n ∷ non x ∷ []) ∷ clause_of (pos n ∷ pos x ∷ []) ∷ []

abbrev pub and_clauses : ℕ → ℕ → ℕ → List (List ℤ)
and_clauses n x y = clause_of (non n ∷ pos x ∷ []) ∷ clause_of (non n ∷ pos y ∷ []) ∷ clause_of (pos n ∷ non x ∷ non y ∷ []) ∷ []

abbrev pub or_clauses : ℕ → ℕ → ℕ → List (List ℤ)
or_clauses n x y = clause_of (pos n ∷ non x ∷ []) ∷ clause_of (pos n ∷ non y ∷ []) ∷ clause_of (non n ∷ pos x ∷ pos y ∷ []) ∷ []

abbrev pub implies_clauses : ℕ → ℕ → ℕ → List (List ℤ)
implies_clauses n x y = clause_of (pos n ∷ pos x ∷ []) ∷ clause_of (pos n ∷ non y ∷ []) ∷ clause_of (non n ∷ non x ∷ pos y ∷ []) ∷ []

abbrev pub iff_clauses : ℕ → ℕ → ℕ → List (List ℤ)
iff_clauses n x y =
    clause_of (non n ∷ non x ∷ pos y ∷ []) ∷ clause_of (non n ∷ pos x ∷ non y ∷ []) ∷ clause_of (pos n ∷ pos x ∷ pos y ∷ []) ∷ clause_of (pos n ∷ non x ∷ non y ∷ []) ∷ []

-- of two parts, by their connective
abbrev pub joined_clauses : Connective → ℕ → ℕ → ℕ → List (List ℤ)
joined_clauses Conjunction n x y = and_clauses n x y
joined_clauses Disjunction n x y = or_clauses n x y
joined_clauses Implication n x y = implies_clauses n x y
joined_clauses Equivalence n x y = iff_clauses n x y

-- of a formula of two parts
abbrev pub own_clauses : Formula → ℕ → ℕ → ℕ → List (List ℤ)
own_clauses (Joined c f g) n x y = joined_clauses c n x y
own_clauses f n x y = []

-- ---- what is added to a list
-- the literal's variable is one of the list's
abbrev pub IsThere : ClauseList → ℤ → Type 0
IsThere c l = (0 < unsigned_abs l) × (unsigned_abs l ≤ c.vars)

-- one more clause, of these literals
abbrev pub with_clause : ClauseList → List ℤ → ClauseList
with_clause c ls = record { vars = c.vars; clauses = c.clauses ++ clause_of ls ∷ [] }

-- the next number, n, is an occurrence's, and its clauses are added
abbrev pub IsAdded : (ℕ → List (List ℤ)) → ClauseList → ClauseList → ℕ → Type 0
IsAdded own old new n = (n ≡ old.vars + 1) × (new ≡ record { vars = old.vars + 1; clauses = old.clauses ++ own (old.vars + 1) })

-- ---- numbers
-- an atom's place among the atoms, from 1
abbrev pub atom_number : List Name → Name → ℕ
atom_number [] n = 1
atom_number (m ∷ names) n = cond (same_name n m) 1 (atom_number names n + 1)

-- Each occurrence of a subformula that is no atom takes the next number: the parts before the whole, the left
-- one before the right one. Of k numbers that are taken before the formula, this many are after it.
abbrev pub taken : ℕ → Formula → ℕ
taken k Truth = k + 1
taken k Falsity = k + 1
taken k (Atom n) = k
taken k (Not f) = taken k f + 1
taken k (Joined c f g) = taken (taken k f) g + 1

-- the formula's own number: the last one that it takes, or its atom's
abbrev pub number : List Name → ℕ → Formula → ℕ
number names k (Atom n) = atom_number names n
number names k f = taken k f

-- the clauses of the occurrences in the formula, in the order of their numbers
abbrev pub formula_clauses : List Name → ℕ → Formula → List (List ℤ)
formula_clauses names k Truth = truth_clauses (k + 1)
formula_clauses names k Falsity = falsity_clauses (k + 1)
formula_clauses names k (Atom n) = []
formula_clauses names k (Not f) = formula_clauses names k f ++ not_clauses (taken k f + 1) (number names k f)
formula_clauses names k (Joined c f g) = formula_clauses names k f ++ formula_clauses names (taken k f) g ++ joined_clauses c (taken (taken k f) g + 1) (number names k f) (number names (taken k f) g)

-- ---- lists of formulas
abbrev pub taken_by_all : ℕ → List Formula → ℕ
taken_by_all k [] = k
taken_by_all k (f ∷ fs) = taken_by_all (taken k f) fs

-- after each formula the clause that says that it is true
abbrev pub list_clauses : List Name → ℕ → List Formula → List (List ℤ)
list_clauses names k [] = []
list_clauses names k (f ∷ fs) = formula_clauses names k f ++ clause_of (pos (number names k f) ∷ []) ∷ list_clauses names (taken k f) fs

-- clauses, followed by those of formulas, whose numbers go on after the variables that are there
abbrev pub with_formulas : List Name → ClauseList → List Formula → ClauseList
with_formulas names c fs = record { vars = taken_by_all c.vars fs; clauses = c.clauses ++ list_clauses names c.vars fs }

-- the clauses of formulas over the names
abbrev pub clause_list : List Name → List Formula → ClauseList
clause_list names fs = with_formulas names (record { vars = length names; clauses = [] }) fs

-- ---- each atom of the formula is one of the names
abbrev pub IsOver : List Name → Formula → Type 0
IsOver names f = AllLeaves (λ n. IsTrue (is_in n names)) f

abbrev pub AreOver : List Name → List Formula → Type 0
AreOver names fs = AllByRecursion (IsOver names) fs
