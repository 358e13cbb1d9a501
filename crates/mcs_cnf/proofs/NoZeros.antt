-- The clauses of formulas list literals in their order, whose numbers are those of atoms and occurrences: so no literal is 0.
use Rattle.std.proofs.Common.{ℕ, ◌+◌, ◌<◌, ◌≤◌, List, [], ◌∷◌, ◌++◌, length, arith, sym, subst, ℤ, pos}
use Rattle.std.specs.Int.RustNames.{unsigned_abs}
use Rattle.std.specs.List.{AllByRecursion}
use Rattle.mcs_base.specs.Listings.{IsAscending}
use Rattle.mcs_base.proofs.Numbers.{unsigned_abs-neg_ℤ}
use Rattle.mcs_base.proofs.Clausal.{HasNoZero, HaveNoZero}
use Rattle.mcs_base.proofs.Each.{all_append, all_weaker}
use Rattle.mcs_system.specs.Plain.{Name, Formula, Truth, Falsity, Atom, Not, Joined, Connective, Conjunction, Disjunction, Implication, Equivalence}
use Rattle.mcs_trace.specs.Clauses.{LiteralBefore}
use Rattle.mcs_cnf.specs.ClauseLists.{clause_of, non, not_clauses, and_clauses, or_clauses, implies_clauses, iff_clauses, joined_clauses, taken, number, formula_clauses, taken_by_all, list_clauses}
use Rattle.mcs_cnf.proofs.ClauseLemmas.{all_clause, clause_listing}
use Rattle.mcs_cnf.proofs.NumberLemmas.{taken_grows, atom_near, number_positive}
use Rattle.mcs_cnf.proofs.ListLemmas.{all_take_grow}

-- ---- clauses of numbers that have P
module _ (P : ℕ → Type 0) where
  abbrev HasNumbers : List ℤ → Type 0
  HasNumbers ls = AllByRecursion (λ l. P (unsigned_abs l)) ls

  abbrev pub IsClauseOf : List ℤ → Type 0
  IsClauseOf c = HasNumbers c × IsAscending LiteralBefore c

  abbrev AreClauses : List (List ℤ) → Type 0
  AreClauses cs = AllByRecursion IsClauseOf cs

  clause : (ls : List ℤ) → HasNumbers ls → IsClauseOf (clause_of ls)
  clause ls all = (all_clause (λ l. P (unsigned_abs l)) ls all, (clause_listing ls).ascending)

  non_has : (n : ℕ) → P n → P (unsigned_abs (non n))
  non_has n is = subst P (sym (unsigned_abs-neg_ℤ (pos n))) is

  module _ (n x y : ℕ) (is : P n) (is' : P x) (is'' : P y) where
    not_are : AreClauses (not_clauses n x)
    not_are = (clause _ (non_has n is, (non_has x is', tt)), (clause _ (is, (is', tt)), tt))

    and_are : AreClauses (and_clauses n x y)
    and_are = (clause _ (non_has n is, (is', tt)), (clause _ (non_has n is, (is'', tt)), (clause _ (is, (non_has x is', (non_has y is'', tt))), tt)))

    or_are : AreClauses (or_clauses n x y)
    or_are = (clause _ (is, (non_has x is', tt)), (clause _ (is, (non_has y is'', tt)), (clause _ (non_has n is, (is', (is'', tt))), tt)))

    implies_are : AreClauses (implies_clauses n x y)
    implies_are = (clause _ (is, (is', tt)), (clause _ (is, (non_has y is'', tt)), (clause _ (non_has n is, (non_has x is', (is'', tt))), tt)))

    iff_are : AreClauses (iff_clauses n x y)
    iff_are = (
      clause _ (non_has n is, (non_has x is', (is'', tt))),
      (clause _ (non_has n is, (is', (non_has y is'', tt))), (clause _ (is, (is', (is'', tt))), (clause _ (is, (non_has x is', (non_has y is'', tt))), tt))),
    )

  joined_are : (c : Connective) (n x y : ℕ) → P n → P x → P y → AreClauses (joined_clauses c n x y)
  joined_are Conjunction = and_are
  joined_are Disjunction = or_are
  joined_are Implication = implies_are
  joined_are Equivalence = iff_are

  -- where each number from 1 to the most has P
  module _ (names : List Name) (most : ℕ) (known : length names < most) (each : (j : ℕ) → 0 < j → j ≤ most → P j) where
    number_near : (k : ℕ) (f : Formula) → taken k f ≤ most → number names k f ≤ most
    number_near k Truth room = room
    number_near k Falsity room = room
    number_near k (Atom n) room = omega (arith, atom_near names n)
    number_near k (Not f) room = room
    number_near k (Joined c f g) room = room

    number_has : (k : ℕ) (f : Formula) → taken k f ≤ most → P (number names k f)
    number_has k f room = each (number names k f) (number_positive names k f) (number_near k f room)

    -- of two parts
    module _ (k : ℕ) (f g : Formula) (room : taken (taken k f) g < most) where
      first_room : taken k f ≤ most
      first_room = omega (arith, taken_grows (taken k f) g)

      two_parts : (own : ℕ → ℕ → ℕ → List (List ℤ)) → ((n x y : ℕ) → P n → P x → P y → AreClauses (own n x y)) → AreClauses (formula_clauses names k f) → AreClauses (formula_clauses names (taken k f) g)
          → AreClauses (formula_clauses names k f ++ formula_clauses names (taken k f) g ++ own (taken (taken k f) g + 1) (number names k f) (number names (taken k f) g))
      two_parts own are first second =
          all_append IsClauseOf (formula_clauses names k f ++ formula_clauses names (taken k f) g) _ (all_append IsClauseOf (formula_clauses names k f) _ first second)
          (are _ _ _ (each (taken (taken k f) g + 1) (omega arith) (omega arith)) (number_has k f first_room) (number_has (taken k f) g (omega arith)))

    formula_are : (k : ℕ) (f : Formula) → taken k f ≤ most → AreClauses (formula_clauses names k f)
    formula_are k Truth room = (clause (pos (k + 1) ∷ []) (each (k + 1) (omega arith) room, tt), tt)
    formula_are k Falsity room = (clause (non (k + 1) ∷ []) (non_has (k + 1) (each (k + 1) (omega arith) room), tt), tt)
    formula_are k (Atom n) room = tt
    formula_are k (Not f) room = all_append IsClauseOf (formula_clauses names k f) _ (formula_are k f (omega arith))
        (not_are (taken k f + 1) (number names k f) (taken k f + 1) (each (taken k f + 1) (omega arith) room) (number_has k f (omega arith)) (each (taken k f + 1) (omega arith) room))
    formula_are k (Joined c f g) room = two_parts k f g (omega arith) (joined_clauses c) (joined_are c) (formula_are k f (first_room k f g (omega arith))) (formula_are (taken k f) g (omega arith))

    pub list_are : (k : ℕ) (fs : List Formula) → taken_by_all k fs ≤ most → AreClauses (list_clauses names k fs)
    list_are k [] room = tt
    list_are k (f ∷ fs) room =
        let first : taken k f ≤ most = omega (arith, all_take_grow (taken k f) fs) in
        all_append IsClauseOf (formula_clauses names k f) _ (formula_are k f first) (clause (pos (number names k f) ∷ []) (number_has k f first, tt), list_are (taken k f) fs room)

pub list_no_zero : (names : List Name) (k : ℕ) (fs : List Formula) → HaveNoZero (list_clauses names k fs)
list_no_zero names k fs = all_weaker (IsClauseOf (λ n. 0 < n)) HasNoZero (λ c is. is.0) (list_clauses names k fs)
    (list_are (λ n. 0 < n) names (taken_by_all k fs + length names + 1) (omega arith) (λ j some most. some) k fs (omega arith))
