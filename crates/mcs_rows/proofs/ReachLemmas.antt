-- Rows that are seen not to be made without their marks.
use Rattle.std.proofs.Common.{◌≡◌, ◌∙◌, ◌*◌, ◌+◌, ◌/◌, ◌%◌, ℕ, Bool, true, false, not, ◌&&◌, cond, eqb, ltb, length, refl, sym, ap, inl, inr, ◌⊎◌, arith, true≢false}
use Rattle.std.proofs.lemmas.Bool.Decides.{nat_tests}
use Rattle.mcs_sets.specs.Sets.{has, minus, Meets, Within}
use Rattle.mcs_sets.proofs.SetLemmas.{has-minus}
use Rattle.mcs_base.specs.Pairs.{removed_of, forced_of}
use Rattle.mcs_base.proofs.PairLemmas.{has-removed_of, has-forced_of}
use Rattle.mcs_system.specs.Plain.{System}
use Rattle.mcs_system.specs.Systems.{all_rules}
use Rattle.mcs_system.specs.Repairs.{marks_of}
use Rattle.mcs_system.proofs.MarkLemmas.{has-all_rules, has-marks_of}
use Rattle.mcs_rows.specs.Reach.{HasMarksFor}

-- a mark that is not among the allowed ones that are not alone is not allowed, or is alone
module _ (allowed alone : ℕ) (Held : ℕ → Type 0) (each : (s : ℕ) → Meets s alone → Held s) where
  out_mark : (s k : ℕ) → has (minus allowed alone) k ≡ false → has s k ≡ true → (¬ Within s allowed) ⊎ Held s
  out_mark s k none there = at (has allowed k) refl (has alone k) refl
    where
      at : (u : Bool) → has allowed k ≡ u → (v : Bool) → has alone k ≡ v → (¬ Within s allowed) ⊎ Held s
      at u e true e' = inr (each s (record { member = k; in_first = there; in_second = e' }))
      at false e false e' = inl (λ within. true≢false (sym (within k there) ∙ e))
      at true e false e' = absurd (true≢false (sym (has-minus allowed alone k ∙ let h : (has allowed k && not (has alone k)) ≡ true = grind arith in h) ∙ none))

  pub never_removed : (every s k : ℕ) → has (minus every (removed_of (minus allowed alone))) k ≡ true → has s (2 * k) ≡ true → (¬ Within s allowed) ⊎ Held s
  never_removed every s k out there =
      let e = has-minus every (removed_of (minus allowed alone)) k in
      let none : has (removed_of (minus allowed alone)) k ≡ false = grind arith in
      out_mark s (2 * k) (sym (has-removed_of (minus allowed alone) k) ∙ none) there

  pub never_forced : (every s k : ℕ) → has (minus every (forced_of (minus allowed alone))) k ≡ true → has s (2 * k + 1) ≡ true → (¬ Within s allowed) ⊎ Held s
  never_forced every s k out there =
      let e = has-minus every (forced_of (minus allowed alone)) k in
      let none : has (forced_of (minus allowed alone)) k ≡ false = grind arith in
      out_mark s (2 * k + 1) (sym (has-forced_of (minus allowed alone) k) ∙ none) there

-- the marks of sets of rules
pub marks_for : (m : System) (a b : ℕ) → Within a (all_rules m) → Within b (all_rules m) → HasMarksFor a b (marks_of m a b)
marks_for m a b of_a of_b = record {
  removed_there = λ k h.
      let known = sym (has-all_rules m k) ∙ of_a k h in
      let less : ltb (2 * k) (2 * length m.bridges) ≡ true = grind (arith, nat_tests) in
      let even : (2 * k) % 2 ≡ 0 = omega arith in
      let half : (2 * k) / 2 ≡ k = omega arith in
      has-marks_of m a b (2 * k) ∙ (ap (λ u. u && cond (eqb ((2 * k) % 2) 0) (has a ((2 * k) / 2)) (has b ((2 * k) / 2))) less
      ∙ (ap (λ p. cond (eqb p 0) (has a ((2 * k) / 2)) (has b ((2 * k) / 2))) even ∙ (ap (has a) half ∙ h)));
  forced_there = λ k h.
      let known = sym (has-all_rules m k) ∙ of_b k h in
      let less : ltb (2 * k + 1) (2 * length m.bridges) ≡ true = grind (arith, nat_tests) in
      let odd : (2 * k + 1) % 2 ≡ 1 = omega arith in
      let half : (2 * k + 1) / 2 ≡ k = omega arith in
      has-marks_of m a b (2 * k + 1) ∙ (ap (λ u. u && cond (eqb ((2 * k + 1) % 2) 0) (has a ((2 * k + 1) / 2)) (has b ((2 * k + 1) / 2))) less
      ∙ (ap (λ p. cond (eqb p 0) (has a ((2 * k + 1) / 2)) (has b ((2 * k + 1) / 2))) odd ∙ (ap (has b) half ∙ h)));
}
