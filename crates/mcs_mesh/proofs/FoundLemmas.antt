-- The minimal diagnoses that were found, and those of them with few marks.
use Rattle.std.proofs.Common.{◌≡◌, ℕ, ◌≤◌, List, Option, Some, None, refl, sym, subst, arith}
use Rattle.std.specs.List.{AllByRecursion}
use Rattle.mcs_sets.specs.Sets.{size, Within}
use Rattle.mcs_sets.specs.Orders.{PairBefore}
use Rattle.mcs_base.specs.Listings.{IsAmong, IsListing}
use Rattle.mcs_base.specs.Minimal.{IsMinimal}
use Rattle.mcs_base.proofs.Each.{all_among, all_from_among, all_weaker}
use Rattle.mcs_base.proofs.ListingLemmas.{IsListing-same}
use Rattle.mcs_system.specs.Plain.{System}
use Rattle.mcs_system.specs.Repairs.{all_marks, IsDiagnosis}
use Rattle.mcs_system.proofs.MarkLemmas.{allowed_known}
use Rattle.mcs_states.specs.Evaluators.{AreRepairs}
use Rattle.mcs_costs.specs.Costs.{cost, ArePairs}
use Rattle.mcs_costs.specs.Settling.{AreDiagnosesUpTo}
use Rattle.mcs_mesh.specs.Found.{AreRepairsFound}

few_are_repairs : (m : System) (most level : ℕ) (pairs few : List ℕ) → level ≤ most → AreRepairs m most pairs → IsListing (λ p. IsAmong p pairs × (size p ≤ level)) PairBefore few → AreRepairs m level few
few_are_repairs m most level pairs few less all listed = IsListing-same PairBefore (λ p. IsAmong p pairs × (size p ≤ level)) (λ p. IsMinimal (IsDiagnosis m) p × (size p ≤ level)) few (λ p. (
  λ h. (((all.exactly p).0 h.0).0, h.1),
  λ h. ((all.exactly p).1 (h.0, let small = h.1 in omega arith), h.1),
)) listed

-- where they are found up to a level as high, those with few marks are the ones that are asked for
pub found_few : (m : System) (level : ℕ) (found : Option ℕ) (pairs few : List ℕ) → AreRepairsFound m found pairs → (d : ℕ) × (found ≡ Some d) × (level ≤ d) → IsListing (λ p. IsAmong p pairs × (size p ≤ level)) PairBefore few → AreRepairs m level few
found_few m level found pairs few kept (d, is, less) listed = few_are_repairs m d level pairs few less (subst (λ (o : Option ℕ). AreRepairsFound m o pairs) is kept) listed

-- what is found is among the minimal diagnoses up to a level as high
pub found_known : (m : System) (level ahead : ℕ) (found : Option ℕ) (pairs : List ℕ) → AreRepairsFound m found pairs → ((d : ℕ) → found ≡ Some d → d ≤ level) → level ≤ ahead
    → AllByRecursion (λ p. IsMinimal (IsDiagnosis m) p × (size p ≤ ahead)) pairs
found_known m level ahead None pairs none lower no_less = subst (AllByRecursion (λ p. IsMinimal (IsDiagnosis m) p × (size p ≤ ahead))) (sym none) tt
found_known m level ahead (Some d) pairs all lower no_less = all_from_among (λ p. IsMinimal (IsDiagnosis m) p × (size p ≤ ahead)) pairs (λ p among.
    let h = (all.exactly p).0 among in
    let few = h.1 in
    let below = lower d refl in
    (h.0, omega (arith, few, below, no_less)))

-- ---- of the minimal diagnoses that are found, those with few marks are diagnoses that can be told
module _ (m : System) (level : ℕ) where
  pub few_are_diagnoses : (found : ℕ) (pairs few : List ℕ) → AreRepairs m found pairs → IsListing (λ p. IsAmong p pairs × (size p ≤ level)) PairBefore few → AreDiagnosesUpTo m level few
  few_are_diagnoses found pairs few all listed = all_from_among (λ p. IsDiagnosis m p × (size p ≤ level)) few (λ p among.
      let h = (listed.exactly p).0 among in
      (((all.exactly p).0 h.0).0.one, h.1))

  -- so are those of one cost
  pub some_are_diagnoses : (price : ℕ) (few kept : List ℕ) → AreDiagnosesUpTo m level few → IsListing (λ p. IsAmong p few × (price ≡ cost m p)) PairBefore kept → AreDiagnosesUpTo m level kept
  some_are_diagnoses price few kept are listed = all_from_among (λ p. IsDiagnosis m p × (size p ≤ level)) kept (λ p among. all_among (λ p. IsDiagnosis m p × (size p ≤ level)) few p are ((listed.exactly p).0 among).0)

  -- their marks are those of rules
  pub marks_of_diagnoses : (few : List ℕ) → AreDiagnosesUpTo m level few → AllByRecursion (λ p. Within p (all_marks m)) few
  marks_of_diagnoses few are = all_weaker (λ p. IsDiagnosis m p × (size p ≤ level)) (λ p. Within p (all_marks m)) (λ p d. allowed_known m p d.0.allowed) few are

  pub few_are_pairs : (found : ℕ) (pairs few : List ℕ) → AreRepairs m found pairs → IsListing (λ p. IsAmong p pairs × (size p ≤ level)) PairBefore few → ArePairs m few
  few_are_pairs found pairs few all listed = record { marks = marks_of_diagnoses few (few_are_diagnoses found pairs few all listed); ascending = listed.ascending }
