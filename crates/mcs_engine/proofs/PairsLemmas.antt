-- Pairs of no literals before other pairs.
use Rattle.std.proofs.Common.{◌≡◌, ◌≢◌, ℕ, zero, suc, ◌+◌, ◌-◌, ◌<◌, ◌≤◌, min, inl, inr, List, [], ◌∷◌, ◌++◌, refl, sym, ap, ◌∙◌, arith, length, take, Some, slice_get}
use Rattle.std.proofs.lemmas.Bool.{cases_lt}
use Rattle.mcs_engine.specs.declared.watches.Pair.{Pair}
use Rattle.mcs_engine.specs.Pairs.{no_pair, no_pairs}

pub length-no_pairs : (n : ℕ) → length (no_pairs n) ≡ n
length-no_pairs zero = refl
length-no_pairs (suc n) = ap suc (length-no_pairs n)

pub size-pairs : (n : ℕ) (rest : List Pair) → length (no_pairs n ++ rest) ≡ n + length rest
size-pairs zero rest = omega arith
size-pairs (suc n) rest = ap suc (size-pairs n rest) ∙ omega arith

pub none-at : (n : ℕ) (rest : List Pair) (i : ℕ) → i < n → slice_get (no_pairs n ++ rest) i ≡ Some no_pair
none-at zero rest i less = absurd (omega arith)
none-at (suc n) rest zero less = refl
none-at (suc n) rest (suc i) less = none-at n rest i (omega arith)

pub rest-at : (n : ℕ) (rest : List Pair) (i : ℕ) → n ≤ i → slice_get (no_pairs n ++ rest) i ≡ slice_get rest (i - n)
rest-at zero rest i past = ap (slice_get rest) (omega arith)
rest-at (suc n) rest zero past = absurd (omega arith)
rest-at (suc n) rest (suc i) past = rest-at n rest i (omega arith) ∙ ap (slice_get rest) (omega arith)

pub some-past : (n : ℕ) (rest : List Pair) (i : ℕ) → slice_get (no_pairs n ++ rest) i ≢ Some no_pair → n ≤ i
some-past n rest i some = elim (cases_lt i n) [
  | inl less ↦ absurd (some (none-at n rest i less))
  | inr past ↦ past
]

pub no-items : (ps : List Pair) → length ps ≡ 0 → ps ≡ []
no-items [] none = refl
no-items (p ∷ ps) none = absurd (omega (arith, none))

pub one-more : (n : ℕ) (rest : List Pair) → rest ≡ [] → no_pairs (n + 1) ++ rest ≡ (no_pairs n ++ rest) ++ no_pair ∷ []
one-more n rest none =
    let next : n + 1 ≡ suc n = omega arith in
    ap (λ (m : ℕ). no_pairs m ++ rest) next ∙ ap (λ (xs : List Pair). no_pairs (suc n) ++ xs) none ∙ after n ∙ sym (ap (λ (xs : List Pair). (no_pairs n ++ xs) ++ no_pair ∷ []) none)
  where
    after : (n : ℕ) → no_pairs (suc n) ++ [] ≡ (no_pairs n ++ []) ++ no_pair ∷ []
    after zero = refl
    after (suc n) = ap (λ (xs : List Pair). no_pair ∷ xs) (after n)

pub first-pairs : (k n : ℕ) (rest : List Pair) → no_pairs (min n k) ++ take (k - n) rest ≡ take k (no_pairs n ++ rest)
first-pairs k zero rest =
    let none : min 0 k ≡ 0 = omega arith in
    let all : k - 0 ≡ k = omega arith in
    ap (λ (m : ℕ). no_pairs m ++ take (k - 0) rest) none ∙ ap (λ (m : ℕ). take m rest) all
first-pairs zero (suc n) rest =
    let none : min (suc n) 0 ≡ 0 = omega arith in
    let no : 0 - suc n ≡ 0 = omega arith in
    ap (λ (m : ℕ). no_pairs m ++ take (0 - suc n) rest) none ∙ ap (λ (m : ℕ). take m rest) no
first-pairs (suc k) (suc n) rest =
    let one : min (suc n) (suc k) ≡ suc (min n k) = omega arith in
    let less : suc k - suc n ≡ k - n = omega arith in
    ap (λ (m : ℕ). no_pairs m ++ take (suc k - suc n) rest) one ∙ ap (λ (m : ℕ). no_pair ∷ (no_pairs (min n k) ++ take m rest)) less ∙ ap (λ (xs : List Pair). no_pair ∷ xs) (first-pairs k n rest)
