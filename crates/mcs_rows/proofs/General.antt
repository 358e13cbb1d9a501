-- Of the lower crates' words alone: what stands before a context in a list, and states that take the place of others.
use Rattle.std.proofs.Common.{◌≡◌, ℕ, Bool, true, false, cond, eqb, List, [], ◌∷◌, refl, ap, inl, inr, arith}
use Rattle.std.proofs.lemmas.Bool.Decides.{nat_tests}
use Rattle.mcs_sets.specs.Sets.{has, common, union, minus, Within}
use Rattle.mcs_sets.proofs.SetLemmas.{same_set, sets}
use Rattle.mcs_base.specs.Listings.{IsAmong}
use Rattle.mcs_system.specs.Imports.{before_in}

-- nothing stands before itself
pub not_before : (xs : List ℕ) (i : ℕ) → ¬ IsAmong i (before_in xs i)
not_before [] i h = h
not_before (x ∷ xs) i h = at (eqb x i) refl h (not_before xs i)
  where
    at : (v : Bool) → eqb x i ≡ v → IsAmong i (cond v [] (x ∷ before_in xs i)) → ¬ (¬ IsAmong i (before_in xs i))
    at true e none rest = none
    at false e (inl same) rest = grind (arith, nat_tests)
    at false e (inr later) rest = rest later

-- ---- a state that takes the place of another one at the variables of one context
module _ (V σ τ : ℕ) (inside : Within τ V) where
  abbrev pub replaced : ℕ
  replaced = union (minus σ V) τ

  pub replaced-own : common replaced V ≡ τ
  replaced-own = same_set _ _ (λ v. let h = inside v in grind (arith, sets))

  pub replaced-elsewhere : (U : ℕ) → ((v : ℕ) → has U v ≡ true → has V v ≡ true → ⊥) → common replaced U ≡ common σ U
  replaced-elsewhere U apart = same_set _ _ (λ v. let h = inside v in at v (has U v) refl (has V v) refl h)
    where
      at : (v : ℕ) (u : Bool) → has U v ≡ u → (w : Bool) → has V v ≡ w → (has τ v ≡ true → has V v ≡ true) → has (common replaced U) v ≡ has (common σ U) v
      at v true e true e' h = absurd (apart v e e')
      at v true e false e' h = grind (arith, sets)
      at v false e w e' h = grind (arith, sets)

  pub replaced-inputs : (I s : ℕ) → common σ I ≡ s → common τ I ≡ common s V → common replaced I ≡ s
  replaced-inputs I s seen agree = same_set _ _ (λ v. let h = inside v in let a = ap (λ z. has z v) seen in let b = ap (λ z. has z v) agree in at v h a b)
    where
      at : (v : ℕ) → (has τ v ≡ true → has V v ≡ true) → has (common σ I) v ≡ has s v → has (common τ I) v ≡ has (common s V) v → has (common replaced I) v ≡ has s v
      at v h a b = grind (arith, sets)

  pub replaced-known : (all : ℕ) → Within σ all → Within V all → Within replaced all
  replaced-known all known known' v e = let h = inside v in let a = known v in let b = known' v in grind (arith, sets)
