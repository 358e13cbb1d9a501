-- Marks of sets of rules, by the two sets of the marks that they lie within.
use Rattle.std.proofs.Common.{◌≡◌, ℕ, ◌+◌, ◌*◌, true, ltb, length, sym, ap, ◌∙◌, inl, inr, ◌⊎◌, ◌↔◌, arith}
use Rattle.std.proofs.lemmas.Bool.{and_parts, and_from}
use Rattle.std.proofs.lemmas.Bool.Decides.{nat_tests}
use Rattle.mcs_sets.specs.Sets.{has, Within}
use Rattle.mcs_base.specs.Pairs.{removed_of, forced_of}
use Rattle.mcs_base.proofs.PairLemmas.{has-removed_of, has-forced_of}
use Rattle.mcs_system.specs.Plain.{System}
use Rattle.mcs_system.specs.Systems.{all_rules}
use Rattle.mcs_system.specs.Repairs.{marks_of, mark_of}
use Rattle.mcs_system.proofs.MarkLemmas.{has-all_rules, has-marks_of, mark-even, mark-odd, by_parity}

-- they lie within marks where the sets lie within the sets of these
pub marks_within : (m : System) (a b p : ℕ) → Within a (all_rules m) → Within b (all_rules m) → Within (marks_of m a b) p ↔ (Within a (removed_of p) × Within b (forced_of p))
marks_within m a b p within_a within_b = (λ h. (λ r is. even h r is, λ r is. odd h r is), λ parts k is. back parts.0 parts.1 k is (by_parity k))
  where
    even : Within (marks_of m a b) p → (r : ℕ) → has a r ≡ true → has (removed_of p) r ≡ true
    even h r is =
        let known = sym (has-all_rules m r) ∙ within_a r is in
        let low : ltb (2 * r) (2 * length m.bridges) ≡ true = grind (arith, nat_tests) in
        has-removed_of p r ∙ h (2 * r) (has-marks_of m a b (2 * r) ∙ and_from (ltb (2 * r) (2 * length m.bridges)) (mark_of a b (2 * r)) low (mark-even a b r ∙ is))

    odd : Within (marks_of m a b) p → (r : ℕ) → has b r ≡ true → has (forced_of p) r ≡ true
    odd h r is =
        let known = sym (has-all_rules m r) ∙ within_b r is in
        let low : ltb (2 * r + 1) (2 * length m.bridges) ≡ true = grind (arith, nat_tests) in
        has-forced_of p r ∙ h (2 * r + 1) (has-marks_of m a b (2 * r + 1) ∙ and_from (ltb (2 * r + 1) (2 * length m.bridges)) (mark_of a b (2 * r + 1)) low (mark-odd a b r ∙ is))

    told : (k : ℕ) → has (marks_of m a b) k ≡ true → mark_of a b k ≡ true
    told k is = (and_parts (ltb k (2 * length m.bridges)) (mark_of a b k) (sym (has-marks_of m a b k) ∙ is)).1

    back : Within a (removed_of p) → Within b (forced_of p) → (k : ℕ) → has (marks_of m a b) k ≡ true → (r : ℕ) × ((k ≡ 2 * r) ⊎ (k ≡ 2 * r + 1)) → has p k ≡ true
    back of_a of_b k is (r, inl e) = ap (λ (j : ℕ). has p j) e ∙ sym (has-removed_of p r) ∙ of_a r (sym (mark-even a b r) ∙ sym (ap (mark_of a b) e) ∙ told k is)
    back of_a of_b k is (r, inr e) = ap (λ (j : ℕ). has p j) e ∙ sym (has-forced_of p r) ∙ of_b r (sym (mark-odd a b r) ∙ sym (ap (mark_of a b) e) ∙ told k is)
