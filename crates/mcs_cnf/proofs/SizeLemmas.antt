-- Formulas that are not too large have few clauses, and their clause lists are of clauses.
use Rattle.std.proofs.Common.{◌≡◌, ℕ, ◌+◌, ◌*◌, ◌^◌, ◌<◌, ◌≤◌, List, [], ◌∷◌, ◌++◌, length, length-append, arith, ℤ, pos}
use Rattle.std.proofs.lemmas.List.Elements.{All-from_recursion}
use Rattle.std.proofs.lemmas.List.Sums.{sum_by-append, sum_by-cons, sum_by-le}
use Rattle.std.specs.List.{AllByRecursion, sum_by}
use Rattle.mcs_system.specs.Plain.{Name, Formula, Truth, Falsity, Atom, Not, Joined, Connective, Conjunction, Disjunction, Implication, Equivalence}
use Rattle.mcs_system.specs.Seen.{formula_size}
use Rattle.mcs_trace.specs.Clauses.{IsClause}
use Rattle.mcs_cnf.specs.ClauseLists.{clause_of, not_clauses, joined_clauses, taken, number, formula_clauses, taken_by_all, list_clauses, clause_list}
use Rattle.mcs_cnf.proofs.NoZeros.{list_are}

-- of all of them
abbrev pub sizes : List Formula → ℕ
sizes fs = sum_by formula_size fs

pub size_positive : (f : Formula) → 0 < formula_size f
size_positive Truth = omega arith
size_positive Falsity = omega arith
size_positive (Atom n) = omega arith
size_positive (Not f) = omega arith
size_positive (Joined c f g) = omega arith

-- where none is larger than this
pub sizes_up_to : (most : ℕ) (fs : List Formula) → AllByRecursion (λ (f : Formula). formula_size f ≤ most) fs → sizes fs ≤ length fs * most
sizes_up_to most fs all = sum_by-le formula_size most fs (All-from_recursion (λ (f : Formula). formula_size f ≤ most) fs all)

pub sizes_push : (fs : List Formula) (f : Formula) → sizes (fs ++ f ∷ []) ≡ sizes fs + formula_size f
sizes_push fs f = omega (arith, sum_by-append formula_size fs (f ∷ []), sum_by-cons formula_size f [])

pub sizes_append : (fs gs : List Formula) → sizes (fs ++ gs) ≡ sizes fs + sizes gs
sizes_append fs gs = sum_by-append formula_size fs gs

pub sizes_cons : (f : Formula) (fs : List Formula) → sizes (f ∷ fs) ≡ formula_size f + sizes fs
sizes_cons f fs = sum_by-cons formula_size f fs

-- ---- variables
few_taken : (k : ℕ) (f : Formula) → taken k f ≤ k + formula_size f
few_taken k Truth = omega arith
few_taken k Falsity = omega arith
few_taken k (Atom n) = omega arith
few_taken k (Not f) = omega (arith, few_taken k f)
few_taken k (Joined c f g) = omega (arith, few_taken k f, few_taken (taken k f) g)

few_taken_by_all : (k : ℕ) (fs : List Formula) → taken_by_all k fs ≤ k + sizes fs
few_taken_by_all k [] = omega arith
few_taken_by_all k (f ∷ fs) = omega (arith, sum_by-cons formula_size f fs, few_taken k f, few_taken_by_all (taken k f) fs)

-- ---- clauses
few_joined : (c : Connective) (n x y : ℕ) → length (joined_clauses c n x y) ≤ 4
few_joined Conjunction n x y = omega arith
few_joined Disjunction n x y = omega arith
few_joined Implication n x y = omega arith
few_joined Equivalence n x y = omega arith

module _ (names : List Name) where
  -- of a formula of two parts
  few_with : (k : ℕ) (f g : Formula) (own : List (List ℤ)) → length own ≤ 4 → length (formula_clauses names k f) ≤ 4 * formula_size f
      → length (formula_clauses names (taken k f) g) ≤ 4 * formula_size g
      → length (formula_clauses names k f ++ formula_clauses names (taken k f) g ++ own) ≤ 4 * (formula_size f + formula_size g + 1)
  few_with k f g own few first second =
      let parts = length-append (formula_clauses names k f) (formula_clauses names (taken k f) g) in
      omega (arith, length-append (formula_clauses names k f ++ formula_clauses names (taken k f) g) own)

  few_clauses : (k : ℕ) (f : Formula) → length (formula_clauses names k f) ≤ 4 * formula_size f
  few_clauses k Truth = omega arith
  few_clauses k Falsity = omega arith
  few_clauses k (Atom n) = omega arith
  few_clauses k (Not f) = omega (arith, few_clauses k f, length-append (formula_clauses names k f) (not_clauses (taken k f + 1) (number names k f)))
  few_clauses k (Joined c f g) =
      let own = joined_clauses c (taken (taken k f) g + 1) (number names k f) (number names (taken k f) g) in
      few_with k f g own (few_joined c (taken (taken k f) g + 1) (number names k f) (number names (taken k f) g)) (few_clauses k f) (few_clauses (taken k f) g)

  few_list_clauses : (k : ℕ) (fs : List Formula) → length (list_clauses names k fs) ≤ 5 * sizes fs
  few_list_clauses k [] = omega arith
  few_list_clauses k (f ∷ fs) = omega (
    arith,
    sum_by-cons formula_size f fs,
    size_positive f,
    few_clauses k f,
    few_list_clauses (taken k f) fs,
    length-append (formula_clauses names k f) (clause_of (pos (number names k f) ∷ []) ∷ list_clauses names (taken k f) fs),
  )

  -- ---- their list
  pub few_in_list : (fs : List Formula) → length (clause_list names fs).clauses ≤ 5 * sizes fs
  few_in_list fs = few_list_clauses (length names) fs

  pub list_is_clauses : (fs : List Formula) → length names + sizes fs + 1 < 2 ^ 63 → AllByRecursion IsClause (clause_list names fs).clauses
  list_is_clauses fs room =
      let few = few_taken_by_all (length names) fs in
      list_are (λ n. (0 < n) × (n < 2 ^ 63)) names (length names + sizes fs + 1) (omega arith) (λ j some most. (some, omega arith)) (length names) fs (omega arith)
