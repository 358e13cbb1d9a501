-- How many marks a pair has.
use Rattle.std.proofs.Common.{◌≡◌, ℕ, ◌^◌, ◌<◌, ◌≤◌, true, false, length, arith}
use Rattle.std.proofs.lemmas.Bool.Decides.{nat_tests}
use Rattle.mcs_sets.specs.Sets.{has, size, union, minus, Within}
use Rattle.mcs_sets.proofs.SetLemmas.{size-union, size-le, such_that-lt, has-minus, has-union, Within-le}
use Rattle.mcs_system.specs.Plain.{System}
use Rattle.mcs_system.specs.Systems.{all_rules, applicable}
use Rattle.mcs_base.specs.Minimal.{IsMinimal}
use Rattle.mcs_system.specs.Repairs.{choice_marks, IsDiagnosis}
use Rattle.mcs_system.proofs.MarkLemmas.{applicable_within, size-marks_of, size-all_rules}
use Rattle.mcs_laws.proofs.Choices.{state_is_choice, minimal_from_choice}

-- a choice has at most one mark for each rule
pub choice_is_small : (m : System) (σ x : ℕ) → Within x (all_rules m) → size (choice_marks m σ x) ≤ length m.bridges
choice_is_small m σ x within =
    omega (
      arith,
      size-marks_of m removed forced removed_known forced_known,
      size-union removed forced (length m.bridges) (omega (arith, Within-le removed _ removed_known, rules_small)) (omega (arith, Within-le forced _ forced_known, rules_small)) apart,
      size-le (union removed forced) (all_rules m) (length m.bridges) rules_small joined,
      size-all_rules m,
    )
  where
    removed : ℕ
    removed = minus (applicable m σ) x

    forced : ℕ
    forced = minus x (applicable m σ)

    rules_small : all_rules m < 2 ^ length m.bridges
    rules_small = such_that-lt (length m.bridges) (λ k. true)

    removed_known : Within removed (all_rules m)
    removed_known k is = let e = has-minus (applicable m σ) x k in let w = applicable_within m σ k in grind (arith, nat_tests)

    forced_known : Within forced (all_rules m)
    forced_known k is = let e = has-minus x (applicable m σ) k in let w = within k in grind (arith, nat_tests)

    apart : (k : ℕ) → has removed k ≡ true → has forced k ≡ false
    apart k is = let e = has-minus (applicable m σ) x k in let e' = has-minus x (applicable m σ) k in grind (arith, nat_tests)

    joined : Within (union removed forced) (all_rules m)
    joined k is = let e = has-union removed forced k in let w = removed_known k in let w' = forced_known k in grind (arith, nat_tests)

pub minimal_is_small : (m : System) (pair : ℕ) → IsMinimal (IsDiagnosis m) pair → size pair ≤ length m.bridges
minimal_is_small m pair h =
    let σ : ℕ = h.one.equilibrium in
    let c = state_is_choice m pair σ h.one.allowed h.one.balanced in
    let small = choice_is_small m σ _ c.of_rules in
    let e = minimal_from_choice m pair σ h h.one.balanced in
    rw e at small
