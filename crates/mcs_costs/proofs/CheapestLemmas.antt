-- Cheapest diagnoses are minimal, and what costs little has few marks.
use Rattle.std.proofs.Common.{◌≡◌, ℕ, ◌+◌, ◌*◌, ◌<◌, ◌≤◌, true, false, inl, inr, ◌⊎◌, arith}
use Rattle.std.proofs.lemmas.Bool.{cases_lt}
use Rattle.std.proofs.lemmas.Nat.{mul-le}
use Rattle.mcs_sets.specs.Sets.{has, single, minus, size, Within}
use Rattle.mcs_sets.proofs.SetLemmas.{below_power, least_below, minus-le}
use Rattle.mcs_sets.proofs.Lattice.{in_minus, nothing_missing, within_without}
use Rattle.mcs_base.specs.Minimal.{IsMinimal}
use Rattle.mcs_system.specs.Plain.{System}
use Rattle.mcs_system.specs.Faults.{IsValid}
use Rattle.mcs_system.specs.Repairs.{all_marks, IsDiagnosis}
use Rattle.mcs_system.proofs.MarkLemmas.{allowed_known}
use Rattle.mcs_costs.specs.Costs.{cost, IsCheapest, IsLeastWeight}
use Rattle.mcs_costs.proofs.CostLemmas.{mark_below, mark_weight_some, cost_within, cost-without, cost_least}

-- ---- minimal ones
-- a pair that lacks a mark of another one, within which it lies, costs less
less_within : (m : System) → IsValid m → (t p k : ℕ) → Within p (all_marks m) → Within t p → has p k ≡ true → has t k ≡ false → cost m t < cost m p
less_within m valid t p k known within is out =
    let rest = cost_within m t (minus p (single k)) (within_without t p k within out) in
    let some = mark_weight_some m valid k (mark_below m p known k is) in
    omega (arith, cost-without m p k is, rest, some)

-- so marks within others that cost as much are the same
pub cost_within_same : (m : System) → IsValid m → (t p : ℕ) → Within p (all_marks m) → Within t p → cost m p ≤ cost m t → t ≡ p
cost_within_same m valid t p known within no_less = at (least_below (minus p t) p (omega (arith, minus-le p t, below_power p)))
  where
    at : (minus p t ≡ 0) ⊎ ((k : ℕ) × (k < p) × (has (minus p t) k ≡ true) × ((j : ℕ) → j < k → has (minus p t) j ≡ false)) → t ≡ p
    at (inl none) = nothing_missing t p within none
    at (inr (k, less, missing, first)) =
        let (is, out) = in_minus p t k missing in
        let cheaper = less_within m valid t p k known within is out in
        absurd (omega (arith, cheaper, no_less))

pub cheapest_minimal : (m : System) (p : ℕ) → IsValid m → IsCheapest m p → IsMinimal (IsDiagnosis m) p
cheapest_minimal m p valid cheapest = record {
  one = cheapest.one;
  least = λ t d within. cost_within_same m valid t p (allowed_known m p cheapest.one.allowed) within (cheapest.least t d);
}

-- ---- how many marks
-- what costs less than one mark more than so many would has no more than so many
pub few_marks : (m : System) (w p level : ℕ) → IsLeastWeight m w → Within p (all_marks m) → cost m p < (level + 1) * w → size p ≤ level
few_marks m w p level least known cheap = elim (cases_lt level (size p)) [
  | inr few ↦ few
  | inl many ↦ absurd (let more : (level + 1) * w ≤ size p * w = mul-le (level + 1) w (size p) w (omega (arith, many)) (omega arith) in omega (arith, more, cost_least m w p least known, cheap))
]
