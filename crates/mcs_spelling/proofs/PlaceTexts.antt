-- The place of a byte, and what stands before and after it.
use Rattle.std.proofs.Common.{◌≡◌, ℕ, ◌+◌, ◌%◌, ◌<◌, ◌^◌, suc, Bool, true, false, cond, nat_eq, List, [], ◌∷◌, ◌++◌, length, take, drop, decimal, Some, refl, sym, ap, ◌∙◌, arith}
use Rattle.std.proofs.lemmas.Bool.{eq-eqb, eqb-true, ne_eqb}
use Rattle.std.proofs.lemmas.Fmt.{decimal_by_steps}
use Rattle.std.proofs.lemmas.Iterator.Adapters.{position_from-zero}
use Rattle.std.proofs.lemmas.Option.{same_Some}
use Rattle.std.specs.List.{AllByRecursion, position_from}
use Rattle.mcs_base.proofs.Each.{all_append}
use Rattle.mcs_spelling.specs.Words.{place_of_byte}

module _ (byte : ℕ) where
  place_from : (k : ℕ) (xs ys : List ℕ) → AllByRecursion (λ b. nat_eq b byte ≡ false) xs → position_from (λ b. nat_eq b byte) k (xs ++ byte ∷ ys) ≡ Some (k + length xs)
  place_from k [] ys h = ap (λ (v : Bool). cond v (Some k) (position_from (λ b. nat_eq b byte) (k + 1) ys)) (eq-eqb byte byte refl) ∙ ap Some (omega arith)
  place_from k (x ∷ xs) ys h =
      ap (λ (v : Bool). cond v (Some k) (position_from (λ b. nat_eq b byte) (k + 1) (xs ++ byte ∷ ys))) h.0 ∙ (place_from (k + 1) xs ys h.1 ∙ ap Some (omega arith))

  pub place_is : (xs ys : List ℕ) → AllByRecursion (λ b. nat_eq b byte ≡ false) xs → place_of_byte byte (xs ++ byte ∷ ys) ≡ Some (length xs)
  place_is xs ys h = position_from-zero (λ b. nat_eq b byte) (xs ++ byte ∷ ys) ∙ (place_from 0 xs ys h ∙ ap Some (omega arith))

  -- what is no digit stands in no number
  pub decimal_without : ((d : ℕ) → d < 10 → ¬ (48 + d ≡ byte)) → (n : ℕ) → n < 2 ^ 64 → AllByRecursion (λ b. nat_eq b byte ≡ false) (decimal n)
  decimal_without other n few = decimal_by_steps (λ k ds. AllByRecursion (λ b. nat_eq b byte ≡ false) ds) (λ k less. (ne_eqb (48 + k) byte (other k less), tt))
      (λ k ds many h. all_append (λ b. nat_eq b byte ≡ false) ds ((48 + k % 10) ∷ []) h (ne_eqb (48 + k % 10) byte (other (k % 10) (omega arith)), tt)) n few

  split_from : (k i : ℕ) (xs : List ℕ) → position_from (λ b. nat_eq b byte) k xs ≡ Some i → (j : ℕ) × (i ≡ k + j) × (xs ≡ take j xs ++ byte ∷ drop (suc j) xs)
  split_from k i [] e = absurd (cc)
  split_from k i (x ∷ xs) e = at (nat_eq x byte) refl (λ e'. split_from (k + 1) i xs e') e
    where
      at : (v : Bool) → nat_eq x byte ≡ v → (position_from (λ b. nat_eq b byte) (k + 1) xs ≡ Some i → (j : ℕ) × (i ≡ k + 1 + j) × (xs ≡ take j xs ++ byte ∷ drop (suc j) xs))
          → cond v (Some k) (position_from (λ b. nat_eq b byte) (k + 1) xs) ≡ Some i → (j : ℕ) × (i ≡ k + j) × (x ∷ xs ≡ take j (x ∷ xs) ++ byte ∷ drop (suc j) (x ∷ xs))
      at true v again e = (0, (let same = same_Some k i e in omega arith), ap (λ (y : ℕ). y ∷ xs) (eqb-true x byte v))
      at false v again e = let (j, is, split) = again e in (suc j, omega (arith, is), ap (λ (ys : List ℕ). x ∷ ys) split)

  pub split_at : (xs : List ℕ) (place : ℕ) → place_of_byte byte xs ≡ Some place → xs ≡ take place xs ++ byte ∷ drop (place + 1) xs
  split_at xs place e =
      let (j, is, split) = split_from 0 place xs (sym (position_from-zero (λ b. nat_eq b byte) xs) ∙ e) in
      let same : j ≡ place = omega (arith, is) in
      let next : suc j ≡ place + 1 = omega (arith, is) in
      split ∙ (ap (λ (m : ℕ). take m xs ++ byte ∷ drop (suc j) xs) same ∙ ap (λ (m : ℕ). take place xs ++ byte ∷ drop m xs) next)
