-- What the clauses of one occurrence say.
use Rattle.std.proofs.Common.{◌≡◌, ℕ, ◌+◌, ◌<◌, zero, suc, Bool, true, false, not, ◌&&◌, ◌||◌, ltb, eqb, cond, List, [], ◌∷◌, arith, refl, sym, ap, ◌∙◌, ℤ, pos}
use Rattle.std.proofs.lemmas.Bool.Decides.{nat_tests}
use Rattle.std.proofs.Math.Bool.{or_self_left}
use Rattle.std.proofs.lemmas.Bool.{not-true, not_from_false}
use Rattle.mcs_base.proofs.Booleans.{or_swap}
use Rattle.mcs_system.specs.Trees.{Connective, Conjunction, Disjunction, Implication, Equivalence, both_or_neither, joined_value}
use Rattle.mcs_trace.specs.Clauses.{place, literal_holds, clause_holds, all_hold}
use Rattle.mcs_trace.proofs.OrderLemmas.{place-injective}
use Rattle.mcs_cnf.specs.ClauseLists.{with_literal, clause_of, non, truth_clauses, falsity_clauses, not_clauses, and_clauses, or_clauses, implies_clauses, iff_clauses, joined_clauses}

-- ---- a clause holds where one of its literals does
with_holds : (v : ℕ → Bool) (l : ℤ) (c : List ℤ) → clause_holds v (with_literal l c) ≡ (literal_holds v l || clause_holds v c)
unfolding with_literal
with_holds v l [] = refl
with_holds v l (m ∷ c) = at (with_holds v l c) (ltb (place l) (place m))
  where
    later : clause_holds v (with_literal l c) ≡ (literal_holds v l || clause_holds v c) → (b : Bool) → eqb (place l) (place m) ≡ b
        → (literal_holds v m || clause_holds v (cond b c (with_literal l c))) ≡ (literal_holds v l || (literal_holds v m || clause_holds v c))
    later rest true same =
        let at_one : place l ≡ place m = grind (arith, nat_tests) in
        let one : l ≡ m = place-injective l m at_one in
        sym (or_self_left (literal_holds v m) (clause_holds v c)) ∙ ap (λ k. literal_holds v k || (literal_holds v m || clause_holds v c)) (sym one)
    later rest false differ = ap (λ b. literal_holds v m || b) rest ∙ or_swap (literal_holds v m) (literal_holds v l) (clause_holds v c)

    at : clause_holds v (with_literal l c) ≡ (literal_holds v l || clause_holds v c) → (b : Bool)
        → clause_holds v (cond b (l ∷ m ∷ c) (m ∷ cond (eqb (place l) (place m)) c (with_literal l c))) ≡ (literal_holds v l || (literal_holds v m || clause_holds v c))
    at rest true = refl
    at rest false = later rest (eqb (place l) (place m)) refl

pub clause_of-holds : (v : ℕ → Bool) (ls : List ℤ) → clause_holds v (clause_of ls) ≡ clause_holds v ls
unfolding clause_of
clause_of-holds v [] = refl
clause_of-holds v (l ∷ ls) = with_holds v l (clause_of ls) ∙ ap (λ b. literal_holds v l || b) (clause_of-holds v ls)

pub non-holds : (v : ℕ → Bool) (n : ℕ) → 0 < n → literal_holds v (non n) ≡ not (v n)
non-holds v zero some = absurd (omega arith)
non-holds v (suc n) some = let e : n + 1 ≡ suc n = omega arith in ap (λ m. not (v m)) e

-- ---- the tables
pub truth_table : (v : ℕ → Bool) (n : ℕ) → all_hold v (truth_clauses n) ≡ both_or_neither (v n) true
truth_table v n = rw (clause_of-holds v (pos n ∷ [])) (grind arith)

pub falsity_table : (v : ℕ → Bool) (n : ℕ) → 0 < n → all_hold v (falsity_clauses n) ≡ both_or_neither (v n) false
falsity_table v n some = rw (clause_of-holds v (non n ∷ []), non-holds v n some) (grind arith)

pub not_table : (v : ℕ → Bool) (n x : ℕ) → 0 < n → 0 < x → all_hold v (not_clauses n x) ≡ both_or_neither (v n) (not (v x))
not_table v n x some some' =
    rw (clause_of-holds v (non n ∷ non x ∷ []), clause_of-holds v (pos n ∷ pos x ∷ [])) (rw (non-holds v n some, non-holds v x some') (grind arith))

pub and_table : (v : ℕ → Bool) (n x y : ℕ) → 0 < n → 0 < x → 0 < y → all_hold v (and_clauses n x y) ≡ both_or_neither (v n) (v x && v y)
and_table v n x y some some' some'' =
    rw (clause_of-holds v (non n ∷ pos x ∷ []), clause_of-holds v (non n ∷ pos y ∷ []), clause_of-holds v (pos n ∷ non x ∷ non y ∷ [])) (rw (non-holds v n some, non-holds v x some', non-holds v y some'') (grind arith))

pub or_table : (v : ℕ → Bool) (n x y : ℕ) → 0 < n → 0 < x → 0 < y → all_hold v (or_clauses n x y) ≡ both_or_neither (v n) (v x || v y)
or_table v n x y some some' some'' =
    rw (clause_of-holds v (pos n ∷ non x ∷ []), clause_of-holds v (pos n ∷ non y ∷ []), clause_of-holds v (non n ∷ pos x ∷ pos y ∷ [])) (rw (non-holds v n some, non-holds v x some', non-holds v y some'') (grind arith))

pub implies_table : (v : ℕ → Bool) (n x y : ℕ) → 0 < n → 0 < x → 0 < y → all_hold v (implies_clauses n x y) ≡ both_or_neither (v n) (not (v x) || v y)
implies_table v n x y some some' some'' =
    rw (clause_of-holds v (pos n ∷ pos x ∷ []), clause_of-holds v (pos n ∷ non y ∷ []), clause_of-holds v (non n ∷ non x ∷ pos y ∷ [])) (rw (non-holds v n some, non-holds v x some', non-holds v y some'') (grind arith))

pub iff_table : (v : ℕ → Bool) (n x y : ℕ) → 0 < n → 0 < x → 0 < y → all_hold v (iff_clauses n x y) ≡ both_or_neither (v n) (both_or_neither (v x) (v y))
iff_table v n x y some some' some'' =
    rw (clause_of-holds v (non n ∷ non x ∷ pos y ∷ []), clause_of-holds v (non n ∷ pos x ∷ non y ∷ []), clause_of-holds v (pos n ∷ pos x ∷ pos y ∷ []), clause_of-holds v (pos n ∷ non x ∷ non y ∷ []))
    (rw (non-holds v n some, non-holds v x some', non-holds v y some'') (grind arith))

pub joined_table : (c : Connective) (v : ℕ → Bool) (n x y : ℕ) → 0 < n → 0 < x → 0 < y → all_hold v (joined_clauses c n x y) ≡ both_or_neither (v n) (joined_value c (v x) (v y))
joined_table Conjunction = and_table
joined_table Disjunction = or_table
joined_table Implication = implies_table
joined_table Equivalence = iff_table

pub same_values : (p q : Bool) → both_or_neither p q ≡ true → p ≡ q
same_values true q h = sym h
same_values false q h = sym (not-true q h)

pub values_same : (p q : Bool) → p ≡ q → both_or_neither p q ≡ true
values_same true q h = sym h
values_same false q h = not_from_false q (sym h)
