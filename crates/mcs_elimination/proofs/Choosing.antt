-- The cheapest diagnoses below a bound, of a list of the minimal ones with few marks.
use Rattle.std.proofs.Common.{◌≡◌, ℕ, ◌≤◌, List, [], map, Option, Some, None, sym, subst, inl, inr, arith}
use Rattle.std.proofs.lemmas.Bool.{cases_lt}
use Rattle.mcs_sets.specs.Orders.{PairBefore}
use Rattle.mcs_sets.specs.Sets.{size, Within}
use Rattle.mcs_base.specs.Least.{IsLeastOf}
use Rattle.mcs_base.specs.Listings.{IsAmong, IsListing}
use Rattle.mcs_base.specs.Minimal.{IsMinimal}
use Rattle.mcs_base.proofs.Among.{among_map, map_among}
use Rattle.mcs_base.proofs.Each.{all_from_among}
use Rattle.mcs_base.proofs.LeastLemmas.{at_least}
use Rattle.mcs_base.proofs.ListingLemmas.{IsListing-nil, IsListing-same}
use Rattle.mcs_system.specs.Faults.{IsValid}
use Rattle.mcs_system.specs.Plain.{System}
use Rattle.mcs_system.specs.Repairs.{all_marks, IsDiagnosis}
use Rattle.mcs_system.proofs.MarkLemmas.{allowed_known}
use Rattle.mcs_laws.proofs.Counting.{minimal_is_small}
use Rattle.mcs_costs.specs.Costs.{cost, ArePairs, IsCheapest}
use Rattle.mcs_costs.proofs.CheapestLemmas.{cheapest_minimal}
use Rattle.mcs_costs.proofs.ExistLemmas.{cheapest_exists}
use Rattle.mcs_elimination.specs.CheapestRows.{IsBelow}
use Rattle.mcs_elimination.specs.Eliminating.{IsCostBound}
use Rattle.mcs_elimination.proofs.Exchanging.{below_less}
use Rattle.mcs_elimination.proofs.OneMarkEach.{minimal_one_each}

module _ (m : System) (level : ℕ) (pairs : List ℕ) (listed : IsListing (λ p. IsMinimal (IsDiagnosis m) p × (size p ≤ level)) PairBefore pairs) where
  pub are_pairs : ArePairs m pairs
  are_pairs = record {
    marks = all_from_among (λ p. Within p (all_marks m)) pairs (λ p among. allowed_known m p ((listed.exactly p).0 among).0.one.allowed);
    ascending = listed.ascending;
  }

  module _ (valid : IsValid m) (below : Option ℕ) (bound : IsCostBound m level below) where
    -- a cheapest one below the bound is listed
    cheapest_listed : (p : ℕ) → IsCheapest m p → IsBelow below (cost m p) → IsAmong p pairs
    cheapest_listed p c is = (listed.exactly p).1 (minimal, few below bound is)
      where
        minimal : IsMinimal (IsDiagnosis m) p
        minimal = cheapest_minimal m p valid c

        few : (o : Option ℕ) → IsCostBound m level o → IsBelow o (cost m p) → size p ≤ level
        few None all h = omega (arith, minimal_is_small m p minimal, all)
        few (Some b) above h = elim (cases_lt level (size p)) [
          | inr no_more ↦ no_more
          | inl many ↦ absurd (let reached = above p c.one.allowed (minimal_one_each m p minimal) many in omega (arith, reached, h))
        ]

    -- where nothing is listed, there is none
    pub none_listed : (kept : List ℕ) → kept ≡ [] → IsLeastOf (map (cost m) pairs) None → IsListing (λ p. IsCheapest m p × IsBelow below (cost m p)) PairBefore kept
    none_listed kept empty none = subst (IsListing _ PairBefore) (sym empty) (IsListing-nil PairBefore _ (λ p (c, is). subst (IsAmong (cost m p)) none (among_map (cost m) p pairs (cheapest_listed p c is))))

    module _ (price : ℕ) (least : IsLeastOf (map (cost m) pairs) (Some price)) where
      no_less : (p : ℕ) → IsAmong p pairs → price ≤ cost m p
      no_less p among = at_least (map (cost m) pairs) price (cost m p) least (among_map (cost m) p pairs among)

      -- where the least cost reaches the bound, there is none
      pub none_below : (kept : List ℕ) → kept ≡ [] → ¬ IsBelow below price → IsListing (λ p. IsCheapest m p × IsBelow below (cost m p)) PairBefore kept
      none_below kept empty reached = subst (IsListing _ PairBefore) (sym empty) (IsListing-nil PairBefore _ (λ p (c, is). reached (below_less below price (cost m p) (no_less p (cheapest_listed p c is)) is)))

      -- elsewhere those of the least cost are the cheapest ones
      pub of_least_cost : IsBelow below price → (kept : List ℕ) → IsListing (λ p. IsAmong p pairs × (price ≡ cost m p)) PairBefore kept → IsListing (λ p. IsCheapest m p × IsBelow below (cost m p)) PairBefore kept
      of_least_cost cheap kept are = IsListing-same PairBefore (λ p. IsAmong p pairs × (price ≡ cost m p)) (λ p. IsCheapest m p × IsBelow below (cost m p)) kept (λ p. (to p, from p)) are
        where
          least_of_all : (p d : ℕ) → IsAmong p pairs → price ≡ cost m p → IsDiagnosis m d → cost m p ≤ cost m d
          least_of_all p d among same is =
              let one = ((listed.exactly p).0 among).0.one in
              let (best, c) = cheapest_exists m p one in
              let no_more : cost m best ≤ price = (let le = c.least p one in omega (arith, le, same)) in
              let there = no_less best (cheapest_listed best c (below_less below (cost m best) price no_more cheap)) in
              let lowest = c.least d is in
              omega (arith, same, there, lowest)

          to : (p : ℕ) → IsAmong p pairs × (price ≡ cost m p) → IsCheapest m p × IsBelow below (cost m p)
          to p (among, same) = (record { one = ((listed.exactly p).0 among).0.one; least = λ d is. least_of_all p d among same is }, subst (IsBelow below) same cheap)

          from : (p : ℕ) → IsCheapest m p × IsBelow below (cost m p) → IsAmong p pairs × (price ≡ cost m p)
          from p (c, is) =
              let among = cheapest_listed p c is in
              let (q, there, same) = map_among (cost m) price pairs least.0 in
              let no_more = c.least q ((listed.exactly q).0 there).0.one in
              let low = no_less p among in
              (among, (let equal : price ≡ cost m p = omega (arith, no_more, same, low) in equal))
