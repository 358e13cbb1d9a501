-- The work that is left falls with each literal that is made true, and with each jump back to a decision.
use Rattle.std.proofs.Common.{◌≡◌, ℕ, ◌+◌, ◌*◌, ◌^◌, ◌<◌, ◌≤◌, zero, suc, cond, nat_eq, List, [], ◌∷◌, ◌++◌, sym, subst, arith, length, length-append, append-nil, append_assoc, take, get_or}
use Rattle.std.proofs.lemmas.Bool.Decides.{nat_tests}
use Rattle.std.proofs.Math.Nat.{pow-succ', one-le-pow}
use Rattle.mcs_base.proofs.Numbers.{cond_times-le}
use Rattle.mcs_engine.specs.declared.trail.Entry.{Entry}
use Rattle.mcs_search.specs.Searches.{work_left}

pub work_left-bound : (n : ℕ) (es : List Entry) → work_left n es < 3 ^ n
work_left-bound zero es = omega arith
work_left-bound (suc n) [] = let p = one-le-pow (suc n) 3 (omega arith) in omega arith
work_left-bound (suc n) (e ∷ es) =
    let rest = work_left-bound n es in
    let here = cond_times-le (nat_eq e.reason 0) (3 ^ n) in
    omega (arith, pow-succ' 3 n)

-- a literal is made true
pub work_left-push : (n : ℕ) (es : List Entry) (e : Entry) → length es < n → work_left n (es ++ e ∷ []) < work_left n es
work_left-push zero es e less = absurd (omega arith)
work_left-push (suc n) [] e less =
    let here = cond_times-le (nat_eq e.reason 0) (3 ^ n) in
    let rest = work_left-bound n [] in
    omega (arith, pow-succ' 3 n, one-le-pow n 3 (omega arith))
work_left-push (suc n) (x ∷ es) e less = let rest = work_left-push n es e (omega arith) in omega arith

-- a decision is taken back, and an implied literal put in its place
pub work_left-back : (n : ℕ) (es : List Entry) (k : ℕ) (d e : Entry) → k < length es → k < n → (get_or es k d).reason ≡ 0 → (e.reason ≡ 0 → ⊥) → work_left n (take k es ++ e ∷ []) < work_left n es
work_left-back zero es k d e less fits decided implied = absurd (omega arith)
work_left-back (suc n) [] k d e less fits decided implied = absurd (omega arith)
work_left-back (suc n) (x ∷ es) zero d e less fits decided implied =
    let one : cond (nat_eq x.reason 0) 1 0 ≡ 1 = grind (arith, nat_tests) in
    let none : cond (nat_eq e.reason 0) 1 0 ≡ 0 = grind (arith, nat_tests) in
    let free = work_left-bound n [] in
    at (cond (nat_eq x.reason 0) 1 0) (cond (nat_eq e.reason 0) 1 0) one none free
  where
    at : (a b : ℕ) → a ≡ 1 → b ≡ 0 → work_left n [] < 3 ^ n → b * 3 ^ n + work_left n [] < a * 3 ^ n + work_left n es
    at a b one none free = rw (one, none) (omega arith)
work_left-back (suc n) (x ∷ es) (suc k) d e less fits decided implied = let rest = work_left-back n es k d e (omega arith) (omega arith) decided implied in omega arith

-- more literals leave no more to do
pub work_left-more : (n : ℕ) (es more : List Entry) → length (es ++ more) ≤ n → work_left n (es ++ more) ≤ work_left n es
work_left-more n es [] fits = rw append-nil (omega arith)
work_left-more n es (e ∷ more) fits =
    let same : (es ++ e ∷ []) ++ more ≡ es ++ e ∷ more = append_assoc es (e ∷ []) more in
    let fits' : length ((es ++ e ∷ []) ++ more) ≤ n = subst (λ (xs : List Entry). length xs ≤ n) (sym same) fits in
    let first : work_left n (es ++ e ∷ []) < work_left n es = work_left-push n es e (omega (arith, fits, length-append es (e ∷ more))) in
    let rest : work_left n ((es ++ e ∷ []) ++ more) ≤ work_left n (es ++ e ∷ []) = work_left-more n (es ++ e ∷ []) more fits' in
    subst (λ (xs : List Entry). work_left n xs ≤ work_left n es) same (omega arith)
