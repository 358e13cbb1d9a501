-- The truth table over some names decides consequence for all assignments.
use Rattle.std.proofs.Common.{◌≡◌, ℕ, ◌+◌, ◌<◌, ◌^◌, Bool, true, false, ltb, List, [], ◌∷◌, ◌++◌, filter, cond, length, Option, Some, None, slice_get, refl, sym, ap, ◌∙◌, arith, add-one, true≢false}
use Rattle.std.proofs.lemmas.Bool.Decides.{nat_tests}
use Rattle.std.proofs.lemmas.Option.{slice_get_within}
use Rattle.mcs_sets.specs.Sets.{has, such_that}
use Rattle.mcs_sets.proofs.SetLemmas.{has-such_that, such_that-lt}
use Rattle.mcs_system.specs.Plain.{Name, Formula}
use Rattle.mcs_system.specs.Logic.{is_in, holds, holds_all, atoms, all_atoms, true_names, Entails}
use Rattle.mcs_system.proofs.Deciding.{Agree, agree_left, agree_right, agree_filter, same_truth, same_truths}
use Rattle.std.proofs.lemmas.Option.{slice_get_within}

-- the names at the places in the set are those that pass the test, where the set has just their places
pub true_names-filter : (q : Name → Bool) (s k : ℕ) (names : List Name) → ((j : ℕ) (n : Name) → slice_get names j ≡ Some n → has s (k + j) ≡ q n) → true_names k names s ≡ filter q names
true_names-filter q s k [] same = refl
true_names-filter q s k (n ∷ ns) same = at (has s k) (q n) (ap (has s) (omega arith) ∙ same 0 n refl) (true_names-filter q s (k + 1) ns (λ j x is. ap (has s) (omega arith) ∙ same (j + 1) x (ap (slice_get (n ∷ ns)) (add-one j) ∙ is)))
  where
    at : (u v : Bool) → u ≡ v → true_names (k + 1) ns s ≡ filter q ns → cond u (n ∷ true_names (k + 1) ns s) (true_names (k + 1) ns s) ≡ cond v (n ∷ filter q ns) (filter q ns)
    at true true e rest = ap (λ xs. n ∷ xs) rest
    at false false e rest = rest
    at true false e rest = absurd (true≢false e)
    at false true e rest = absurd (true≢false (sym e))

passes : (Name → Bool) → Option Name → Bool
passes q None = false
passes q (Some n) = q n

-- the places of the names that pass the test
pub places : (Name → Bool) → List Name → ℕ
places q names = such_that (length names) (λ j. passes q (slice_get names j))

pub true_names-places : (q : Name → Bool) (names : List Name) → true_names 0 names (places q names) ≡ filter q names
unfolding places passes
true_names-places q names = true_names-filter q (places q names) 0 names
    (λ j n is. ap (has (places q names)) (omega arith) ∙ has-such_that (length names) (λ j. passes q (slice_get names j)) j ∙ (let less = slice_get_within names j n is in let e : ltb j (length names) ≡ true = grind (arith, nat_tests) in rw (e, is) refl))

pub places-lt : (q : Name → Bool) (names : List Name) → places q names < 2 ^ length names
unfolding places
places-lt q names = such_that-lt (length names) (λ j. passes q (slice_get names j))

pub table_decides : (names : List Name) (fs : List Formula) (p : Formula) → ((n : Name) → is_in n (all_atoms fs ++ atoms p) ≡ true → is_in n names ≡ true)
    → ((row : ℕ) → row < 2 ^ length names → holds_all (true_names 0 names row) fs ≡ true → holds (true_names 0 names row) p ≡ true) → Entails fs p
unfolding Agree
table_decides names fs p covers all a h =
    let b : List Name = filter (λ x. is_in x a) names in
    let agree : Agree (all_atoms fs ++ atoms p) a b = (λ n known. agree_filter a names n (covers n known)) in
    let e1 : holds_all a fs ≡ holds_all b fs = same_truths a b fs (agree_left (all_atoms fs) (atoms p) a b agree) in
    let e2 : holds a p ≡ holds b p = same_truth a b p (agree_right (all_atoms fs) (atoms p) a b agree) in
    let is : true_names 0 names (places (λ x. is_in x a) names) ≡ b = true_names-places (λ x. is_in x a) names in
    e2 ∙ ap (λ c. holds c p) (sym is) ∙ all (places (λ x. is_in x a) names) (places-lt (λ x. is_in x a) names) (ap (λ c. holds_all c fs) is ∙ sym e1 ∙ h)
