-- A system with a diagnosis has a cheapest one, and each system has a stop level: what is a diagnosis is decided, since states have listings.
use Rattle.std.proofs.Common.{◌≡◌, ℕ, zero, suc, ◌+◌, ◌*◌, ◌/◌, ◌^◌, ◌<◌, ◌≤◌, min, List, [], ◌∷◌, length, Some, refl, sym, ap, ◌∙◌, subst, inl, inr, ◌⊎◌, arith}
use Rattle.std.proofs.lemmas.Bool.{cases_lt}
use Rattle.std.proofs.lemmas.List.{length-map}
use Rattle.std.specs.List.{AllByRecursion}
use Rattle.mcs_sets.specs.Orders.{StateBefore}
use Rattle.mcs_sets.specs.Sets.{minus, Within}
use Rattle.mcs_sets.proofs.Lattice.{cases_within}
use Rattle.mcs_base.specs.Listings.{IsListing}
use Rattle.mcs_base.specs.Pairs.{removed_of, forced_of}
use Rattle.mcs_base.proofs.Deciding.{cases_both, cases_some_below}
use Rattle.mcs_base.proofs.Each.{all_weaker}
use Rattle.mcs_base.proofs.NumberCases.{not_less}
use Rattle.mcs_system.specs.Plain.{Bridge, System}
use Rattle.mcs_system.specs.Repairs.{allowed_marks, IsDiagnosis}
use Rattle.mcs_system.specs.Systems.{all_rules, IsProjectedEquilibrium}
use Rattle.mcs_system.proofs.MarkLemmas.{allowed_known, marks_small}
use Rattle.mcs_laws.proofs.Choices.{consistent_where_nothing}
use Rattle.mcs_existence.proofs.SystemListings.{all_states_listed}
use Rattle.mcs_base.specs.Least.{IsLeastOf}
use Rattle.mcs_costs.specs.Costs.{cost, weights, IsCheapest}
use Rattle.mcs_costs.specs.Laws.{CheapestExist, StopLevelsExist}
use Rattle.mcs_costs.proofs.StopLemmas.{stop_is_quotient, stop_without}

-- ---- whether a pair is a diagnosis is decided
pub cases_states : (m : System) (r1 r2 : ℕ) → ((σ : ℕ) × IsProjectedEquilibrium m r1 r2 σ) ⊎ ((σ : ℕ) → ¬ IsProjectedEquilibrium m r1 r2 σ)
cases_states m r1 r2 = let (states, listing) = all_states_listed m r1 r2 in at states listing
  where
    at : (states : List ℕ) → IsListing (IsProjectedEquilibrium m r1 r2) StateBefore states → ((σ : ℕ) × IsProjectedEquilibrium m r1 r2 σ) ⊎ ((σ : ℕ) → ¬ IsProjectedEquilibrium m r1 r2 σ)
    at [] listing = inr (λ σ is. (listing.exactly σ).1 is)
    at (σ ∷ states) listing = inl (σ, (listing.exactly σ).0 (inl refl))

pub cases_diagnosis : (m : System) (pair : ℕ) → IsDiagnosis m pair ⊎ (¬ IsDiagnosis m pair)
cases_diagnosis m pair = at (cases_within pair (allowed_marks m)) (cases_states m (minus (all_rules m) (removed_of pair)) (forced_of pair))
  where
    at : Within pair (allowed_marks m) ⊎ (¬ Within pair (allowed_marks m)) → ((σ : ℕ) × IsProjectedEquilibrium m (minus (all_rules m) (removed_of pair)) (forced_of pair) σ) ⊎ ((σ : ℕ) → ¬ IsProjectedEquilibrium m (minus (all_rules m) (removed_of pair)) (forced_of pair) σ)
        → IsDiagnosis m pair ⊎ (¬ IsDiagnosis m pair)
    at (inl within) (inl (σ, is)) = inl (record { allowed = within; equilibrium = σ; balanced = is })
    at (inl within) (inr none) = inr (λ d. none d.equilibrium d.balanced)
    at (inr outside) states = inr (λ d. outside d.allowed)

-- a diagnosis is a number below this one
abbrev bound : System → ℕ
bound m = 2 ^ (2 * length m.bridges)

diagnosis_small : (m : System) (d : ℕ) → IsDiagnosis m d → d < bound m
diagnosis_small m d is = marks_small m d (allowed_known m d is.allowed)

pub cases_some : (m : System) → ((d : ℕ) × IsDiagnosis m d) ⊎ ((d : ℕ) → ¬ IsDiagnosis m d)
cases_some m = elim (cases_some_below (IsDiagnosis m) (bound m) (cases_diagnosis m)) [
  | inl (d, less, is) ↦ inl (d, is)
  | inr none ↦ inr (λ d is. none (d, diagnosis_small m d is, is))
]

-- ---- a cheapest one
-- it costs less
IsCheaper : System → ℕ → ℕ → Type 0
IsCheaper m d e = IsDiagnosis m e × (cost m e < cost m d)

cheaper_decided : (m : System) (d e : ℕ) → IsCheaper m d e ⊎ (¬ IsCheaper m d e)
unfolding IsCheaper
cheaper_decided m d e = cases_both (cases_diagnosis m e) (elim (cases_lt (cost m e) (cost m d)) [ inl less ↦ inl less | inr past ↦ inr (λ less. omega (arith, less, past)) ])

-- where none costs less, it is cheapest
where_none_cheaper : (m : System) (d : ℕ) → IsDiagnosis m d → ¬ ((e : ℕ) × (e < bound m) × IsCheaper m d e) → IsCheapest m d
unfolding IsCheaper
where_none_cheaper m d is none = record { one = is; least = λ e is'. not_less (cost m e) (cost m d) (λ lower. none (e, diagnosis_small m e is', (is', lower))) }

cheapest_from : (m : System) (n d : ℕ) → IsDiagnosis m d → cost m d < n → (best : ℕ) × IsCheapest m best
unfolding IsCheaper
cheapest_from m zero d is less = absurd (omega (arith, less))
cheapest_from m (suc n) d is less = elim (cases_some_below (IsCheaper m d) (bound m) (cheaper_decided m d)) [
  | inl (e, small, cheaper) ↦ cheapest_from m n e cheaper.0 (let lower = cheaper.1 in omega (arith, lower, less))
  | inr none ↦ (d, where_none_cheaper m d is none)
]

pub cheapest_exists : CheapestExist
cheapest_exists m d is = cheapest_from m (cost m d + 1) d is (omega arith)

pub cases_cheapest : (m : System) (d : ℕ) → IsCheapest m d ⊎ (¬ IsCheapest m d)
unfolding IsCheaper
cases_cheapest m d = elim (cases_diagnosis m d) [
  | inr other ↦ inr (λ c. other c.one)
  | inl is ↦ elim (cases_some_below (IsCheaper m d) (bound m) (cheaper_decided m d)) [
    | inl (e, small, cheaper) ↦ inr (λ c. (let least = c.least e cheaper.0 in let less = cheaper.1 in omega (arith, least, less)))
    | inr none ↦ inl (where_none_cheaper m d is none)
  ]
]

-- ---- a stop level
pub least_exists : (xs : List ℕ) → (xs ≡ []) ⊎ ((n : ℕ) × IsLeastOf xs (Some n))
least_exists [] = inl refl
least_exists (x ∷ xs) = elim (least_exists xs) [
  | inl none ↦ inr (x, (inl refl, ((let same : x ≤ x = omega arith in same), subst (λ ys. AllByRecursion (λ k. x ≤ k) ys) (sym none) tt)))
  | inr (n, least) ↦ elim (cases_lt x n) [
    | inl less ↦ inr (x, (inl refl, ((let same : x ≤ x = omega arith in same), all_weaker (λ k. n ≤ k) (λ k. x ≤ k) (λ k h. omega (arith, h, less)) xs least.1)))
    | inr past ↦ inr (n, (inr least.0, (past, least.1)))
  ]
]

-- without rules the empty pair is the only one
no_marks : (m : System) (d : ℕ) → length m.bridges ≡ 0 → IsDiagnosis m d → d ≡ 0
no_marks m d none is =
    let one : bound m ≡ 1 = ap (λ (n : ℕ). 2 ^ (2 * n)) none in
    omega (arith, diagnosis_small m d is, one)

pub stop_exists : StopLevelsExist
stop_exists m valid = elim (cases_some m) [
  | inr none ↦ (length m.bridges, (stop_without m (length m.bridges) none).1 refl)
  | inl (d, is) ↦ elim (least_exists (weights m)) [
    | inl none ↦ (0, inl (consistent_where_nothing m (subst (IsDiagnosis m) (no_marks m d (sym (length-map m.bridges (λ (b : Bridge). b.weight)) ∙ ap length none) is) is), refl))
    | inr (w, least) ↦ let (best, cheapest) = cheapest_exists m d is in (min (cost m best / w) (length m.bridges), (stop_is_quotient m best w (min (cost m best / w) (length m.bridges)) valid cheapest least).1 refl)
  ]
]
