-- The keys of the two listings of the worked session.
use Rattle.std.proofs.Common.{◌≡◌, ℕ, ◌<◌, zero, suc, Bool, true, false, cond, [], ◌∷◌, codes, refl, sym, ◌∙◌, inl, inr, arith}
use Rattle.mcs_sets.specs.Sets.{has}
use Rattle.mcs_base.specs.Listings.{IsAmong}
use Rattle.mcs_system.specs.Plain.{Atom}
use Rattle.mcs_session.specs.Keys.{Key, key_of}
use Rattle.mcs_session.specs.Worked.{the_key, with_rule, without_rule}
use Rattle.mcs_editing.specs.Listed.{IsKeyOfListing}
use Rattle.mcs_editing.specs.Worked.{AreWorkedKeys, keys_without, keys_with}
use Rattle.mcs_editing.proofs.WorkedSystems.{without_is_consistent, asked_without, key_without, with_is_inconsistent, asked_first, asked_second_without, asked_second_with, key_first, key_second}

-- ---- without the rule something is in equilibrium, so level 0 is the last one
key_is_without : (k : Key) → IsKeyOfListing without_rule k → IsAmong k keys_without
key_is_without k w = at w.context w.there (w.key_is ∙ key_without w.context w.question)
  where
    at : (i : ℕ) → i < 2 → k ≡ the_key i [] [] → IsAmong k keys_without
    at zero less is = inl is
    at (suc zero) less is = inr (inl is)
    at (suc (suc i)) less is = absurd (omega (arith, less))

without_is_key : (k : Key) → IsAmong k keys_without → IsKeyOfListing without_rule k
without_is_key k h = elim h [
  | inl is ↦ of_context 0 (omega arith) is
  | inr more ↦ elim more [ inl is ↦ of_context 1 (omega arith) is | inr none ↦ absurd none ]
]
  where
    of_context : (i : ℕ) → i < 2 → k ≡ the_key i [] [] → IsKeyOfListing without_rule k
    of_context i less is = record { level = 0; last = inl (without_is_consistent, refl); context = i; there = less; question = 0; asked = asked_without i; key_is = is ∙ sym (key_without i 0) }

-- ---- with the rule nothing is in equilibrium, so level 1 is the last one
key_is_with : (k : Key) → IsKeyOfListing with_rule k → IsAmong k keys_with
key_is_with k w = at w.context w.there w.key_is
  where
    second : (v : Bool) → k ≡ the_key 1 (cond v (Atom (codes "p") ∷ []) []) [] → IsAmong k keys_with
    second true is = inr (inr (inl is))
    second false is = inr (inl is)

    at : (i : ℕ) → i < 2 → k ≡ key_of with_rule i w.question → IsAmong k keys_with
    at zero less is = inl (is ∙ key_first w.question)
    at (suc zero) less is = second (has w.question 0) (is ∙ key_second w.question (has w.question 0) refl)
    at (suc (suc i)) less is = absurd (omega (arith, less))

no_rule : has 0 0 ≡ false
unfolding has
no_rule = refl

the_rule : has 1 0 ≡ true
unfolding has
the_rule = refl

with_is_key : (k : Key) → IsAmong k keys_with → IsKeyOfListing with_rule k
with_is_key k h = elim h [
  | inl is ↦ record { level = 1; last = inr (with_is_inconsistent, refl); context = 0; there = omega arith; question = 0; asked = asked_first; key_is = is ∙ sym (key_first 0) }
  | inr more ↦ elim more [
    | inl is ↦ record { level = 1; last = inr (with_is_inconsistent, refl); context = 1; there = omega arith; question = 0; asked = asked_second_without; key_is = is ∙ sym (key_second 0 false no_rule) }
    | inr last ↦ elim last [
      | inl is ↦ record { level = 1; last = inr (with_is_inconsistent, refl); context = 1; there = omega arith; question = 1; asked = asked_second_with; key_is = is ∙ sym (key_second 1 true the_rule) }
      | inr none ↦ absurd none
    ]
  ]
]

pub worked_keys : AreWorkedKeys
worked_keys = record { without_it = λ k. (key_is_without k, without_is_key k); with_it = λ k. (key_is_with k, with_is_key k) }
