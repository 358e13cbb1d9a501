-- Ranges by one more, and values that stand once in a list.
use Rattle.std.proofs.Common.{◌≡◌, ℕ, ◌+◌, ◌≤◌, zero, suc, Bool, true, false, not, List, [], ◌∷◌, map, length, refl, sym, ◌∙◌, subst, inl, inr, arith, true≢false}
use Rattle.std.proofs.lemmas.Bool.{false_from_ne_true}
use Rattle.std.specs.List.{range_with_len}
use Rattle.mcs_base.specs.Listings.{IsAmong, AreApart, firsts}
use Rattle.mcs_base.proofs.Among.{among_map, filter_among, any_none, range_among}
use Rattle.mcs_base.proofs.Distinct.{distinct_filter, distinct_fits}
use Rattle.mcs_system.specs.Plain.{Name}
use Rattle.mcs_system.specs.Logic.{same_name, is_in}
use Rattle.mcs_system.specs.Faults.{has_twins}
use Rattle.mcs_system.proofs.Sameness.{same_name-is}

-- ---- values that stand once
pub range_apart : (a n : ℕ) → AreApart (range_with_len a n)
range_apart a zero = tt
range_apart a (suc n) = (λ here. let low = (range_among a (a + 1) n here).0 in omega arith, range_apart (a + 1) n)

module _ {A : Type 0} where
  pub apart_from_images : {B : Type 0} (f : A → B) (xs : List A) → AreApart (map f xs) → AreApart xs
  apart_from_images f [] apart = tt
  apart_from_images f (x ∷ xs) apart = (λ here. apart.0 (among_map f x xs here), apart_from_images f xs apart.1)

  -- where all are one, there is one
  pub alike_few : (xs : List A) → AreApart xs → ((x y : A) → IsAmong x xs → IsAmong y xs → x ≡ y) → length xs ≤ 1
  alike_few [] apart alike = omega arith
  alike_few (x ∷ xs) apart alike = distinct_fits (x ∷ xs) (x ∷ []) apart (λ y here. inl (alike y x here (inl refl)))

  pub firsts_from : (same : A → A → Bool) (x : A) (xs : List A) → IsAmong x (firsts same xs) → IsAmong x xs
  firsts_from same x [] here = absurd here
  firsts_from same x (y ∷ ys) (inl e) = inl e
  firsts_from same x (y ∷ ys) (inr here) = inr (firsts_from same x ys (filter_among (λ z. not (same y z)) x (firsts same ys) here).0)

  pub firsts_apart : (same : A → A → Bool) → ((x : A) → same x x ≡ true) → (xs : List A) → AreApart (firsts same xs)
  firsts_apart same itself [] = tt
  firsts_apart same itself (x ∷ xs) = (
    λ here. true≢false (sym (itself x) ∙ flip (same x x) (filter_among (λ y. not (same x y)) x (firsts same xs) here).1),
    distinct_filter (λ y. not (same x y)) (firsts same xs) (firsts_apart same itself xs),
  )
    where
      flip : (b : Bool) → not b ≡ true → b ≡ false
      flip true e = absurd (true≢false (sym e))
      flip false e = refl

-- names that stand once are no twins
pub no_twins : (ns : List Name) → AreApart ns → has_twins ns ≡ false
no_twins [] apart = refl
no_twins (n ∷ ns) apart =
    let first : is_in n ns ≡ false = any_none (same_name n) ns (λ x here. false_from_ne_true (same_name n x) (λ e. apart.0 (subst (λ y. IsAmong y ns) (sym (same_name-is n x e)) here))) in
    let rest = no_twins ns apart.1 in rw (first, rest) refl
