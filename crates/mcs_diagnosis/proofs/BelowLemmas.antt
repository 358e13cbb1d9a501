-- The diagnoses below a level: none at first, those of a level more, and all of them at the end; and where what is shown lies.
use Rattle.std.proofs.Common.{◌≡◌, ℕ, ◌+◌, ◌<◌, List, [], ◌++◌, length, sym, ap, subst, inl, inr, ◌⊎◌, arith}
use Rattle.std.proofs.lemmas.Bool.{cases_lt}
use Rattle.std.proofs.lemmas.List.{map-append}
use Rattle.mcs_sets.specs.Sets.{size, minus, Within}
use Rattle.mcs_sets.specs.Orders.{PairBefore}
use Rattle.mcs_sets.proofs.Lattice.{size-none, minus_within, union_within}
use Rattle.mcs_base.specs.Listings.{IsListing}
use Rattle.mcs_base.specs.Minimal.{IsMinimal}
use Rattle.mcs_base.specs.Pairs.{removed_of}
use Rattle.mcs_base.proofs.Each.{all_append}
use Rattle.mcs_base.proofs.ListingLemmas.{IsListing-nil, IsListing-same, IsListing-append}
use Rattle.mcs_system.specs.Plain.{System}
use Rattle.mcs_system.specs.Repairs.{all_marks, IsDiagnosis}
use Rattle.mcs_system.specs.Systems.{all_variables, all_rules, applicable, IsConsistent}
use Rattle.mcs_system.proofs.MarkLemmas.{allowed_known, applicable_within, forced_known}
use Rattle.mcs_laws.proofs.Choices.{consistent_minimal}
use Rattle.mcs_laws.proofs.Counting.{minimal_is_small}
use Rattle.mcs_laws.proofs.Projections.{parts_of}
use Rattle.mcs_diagnosis.specs.declared.diagnosis.Diagnosis as code
use Rattle.mcs_diagnosis.specs.Diagnoses.{AreShownDiagnoses, AreFoundBelow, AreDiagnoses, IsDiagnosisOfSize, ShowsFirstState, pairs_of}

-- a minimal diagnosis with fewer marks than the level
abbrev pub IsBelow : System → ℕ → ℕ → Type 0
IsBelow m level p = IsMinimal (IsDiagnosis m) p × (size p < level)

pub none_below : (m : System) → AreFoundBelow m 0 []
none_below m = record { listed = IsListing-nil PairBefore _ (λ p h. absurd (omega (arith, h.1))); shown = tt }

-- the diagnoses of a level come after those below it
pub more_below : (m : System) (level : ℕ) (ds fresh : List code.Diagnosis) → AreFoundBelow m level ds → AreShownDiagnoses m level fresh → AreFoundBelow m (level + 1) (ds ++ fresh)
more_below m level ds fresh below found = record {
  listed = subst (IsListing (IsBelow m (level + 1)) PairBefore) (sym (map-append (λ (d : code.Diagnosis). d.pair) ds fresh))
      (IsListing-same PairBefore _ (IsBelow m (level + 1)) _ (λ p. (to p, from p)) (IsListing-append PairBefore (IsBelow m level) (IsDiagnosisOfSize m level) (pairs_of ds) (pairs_of fresh) first below.listed found.listed));
  shown = all_append (ShowsFirstState m) ds fresh below.shown found.shown;
}
  where
    first : (p q : ℕ) → IsBelow m level p → IsDiagnosisOfSize m level q → PairBefore p q
    first p q less is = inl (omega (arith, less.1, is.1))

    to : (p : ℕ) → IsBelow m level p ⊎ IsDiagnosisOfSize m level p → IsBelow m (level + 1) p
    to p (inl less) = (less.0, omega (arith, less.1))
    to p (inr is) = (is.0, omega (arith, is.1))

    from : (p : ℕ) → IsBelow m (level + 1) p → IsBelow m level p ⊎ IsDiagnosisOfSize m level p
    from p h = elim (cases_lt (size p) level) [
      | inl less ↦ inl (h.0, less)
      | inr past ↦ inr (h.0, omega (arith, h.1))
    ]

-- where each minimal diagnosis has fewer marks, they are all
all_where : (m : System) (ds : List code.Diagnosis) (level : ℕ) → ((p : ℕ) → IsMinimal (IsDiagnosis m) p → size p < level) → AreFoundBelow m level ds → AreDiagnoses m ds
all_where m ds level small below = record {
  listed = IsListing-same PairBefore (IsBelow m level) (IsMinimal (IsDiagnosis m)) (pairs_of ds) (λ p. (λ h. h.0, λ h. (h, small p h))) below.listed;
  shown = below.shown;
}

-- a consistent system has no diagnosis with marks
pub all_of_consistent : (m : System) (ds : List code.Diagnosis) → IsConsistent m → AreFoundBelow m 1 ds → AreDiagnoses m ds
all_of_consistent m ds c below = all_where m ds 1 small below
  where
    small : (p : ℕ) → IsMinimal (IsDiagnosis m) p → size p < 1
    small p h = let e : size p ≡ size 0 = ap size ((consistent_minimal m c.equilibrium c.balanced p).0 h) in omega (arith, e, size-none)

-- no minimal diagnosis has more marks than there are rules
pub all_below : (m : System) (ds : List code.Diagnosis) (level : ℕ) → length m.bridges < level → AreFoundBelow m level ds → AreDiagnoses m ds
all_below m ds level past below = all_where m ds level (λ p h. omega (arith, minimal_is_small m p h)) below

-- what is shown is of the system
pub shown_within : (m : System) (d : code.Diagnosis) → IsDiagnosis m d.pair → ShowsFirstState m d → Within d.pair (all_marks m) × Within d.state (all_variables m) × Within d.active (all_rules m)
shown_within m d is shown = (allowed_known m d.pair is.allowed, (parts_of m _ _ d.state shown.state.one).0, rw shown.active (union_within _ _ _ rules (forced_known m d.pair (allowed_known m d.pair is.allowed))))
  where
    rules : Within (minus (applicable m d.state) (removed_of d.pair)) (all_rules m)
    rules k in_both = applicable_within m d.state k (minus_within _ _ k in_both)
