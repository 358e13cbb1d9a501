-- The minimal diagnoses of the levels taken, and their least cost: whether the search goes on, at which level it stops, and which of them are cheapest.
use Rattle.std.proofs.Common.{◌≡◌, ℕ, ◌+◌, ◌-◌, ◌*◌, ◌<◌, ◌≤◌, Bool, true, false, List, map, Option, Some, None, sym, ap, ◌∙◌, subst, inl, inr, ◌⊎◌, ◌↔◌, arith, true≢false}
use Rattle.std.proofs.lemmas.Bool.{cases_lt}
use Rattle.std.proofs.lemmas.Nat.{mul-le}
use Rattle.mcs_sets.specs.Orders.{PairBefore}
use Rattle.mcs_sets.specs.Sets.{size, Within}
use Rattle.mcs_sets.proofs.Lattice.{size-none}
use Rattle.mcs_base.specs.Listings.{IsAmong, IsListing}
use Rattle.mcs_base.specs.Minimal.{IsMinimal}
use Rattle.mcs_base.proofs.Among.{among_map, map_among}
use Rattle.mcs_base.proofs.NumberCases.{cases_zero, not_less}
use Rattle.mcs_system.specs.Faults.{IsValid}
use Rattle.mcs_system.specs.Plain.{System}
use Rattle.mcs_system.specs.Repairs.{all_marks, IsDiagnosis}
use Rattle.mcs_system.proofs.MarkLemmas.{allowed_known}
use Rattle.mcs_laws.proofs.Choices.{consistent_minimal}
use Rattle.mcs_laws.proofs.Counting.{minimal_is_small}
use Rattle.mcs_diagnosis.specs.Courses.{IsPast}
use Rattle.mcs_base.specs.Least.{IsLeastOf}
use Rattle.mcs_costs.specs.Costs.{cost, weights, IsCheapest, IsLeastWeight, SettlesCost, IsStopLevel, IsUpToStop}
use Rattle.mcs_base.proofs.LeastLemmas.{at_least, least_is_one}
use Rattle.mcs_costs.proofs.CheapestLemmas.{cheapest_minimal, few_marks}
use Rattle.mcs_costs.proofs.ExistLemmas.{cheapest_exists, stop_exists}
use Rattle.mcs_cheapest.specs.Found.{IsLeastCost}
use Rattle.mcs_cheapest.specs.Searching.{CostsLeast, CostsLess, IsBelowMarks, IsEnough}

-- a minimal diagnosis with fewer marks than the level
abbrev pub IsBelow : System → ℕ → ℕ → Type 0
IsBelow m level p = IsMinimal (IsDiagnosis m) p × (size p < level)

-- ---- the code's test
pub below_marks : (m n : System) → m ≡ n → (least weight : Option ℕ) → IsLeastOf (weights n) weight → (level told : ℕ) → told ≡ level → CostsLess least weight told → IsBelowMarks m level least
below_marks m n same None weight l level told is less = less
below_marks m n same (Some c) None l level told is less = absurd less
below_marks m n same (Some c) (Some w) l level told is less =
    let scaled : told * w ≡ level * w = ap (λ (k : ℕ). k * w) is in
    (w, subst (λ (s : System). IsLeastWeight s w) (sym same) l, omega (arith, less, scaled))

pub below_told : (m n : System) → m ≡ n → (least weight : Option ℕ) → IsLeastOf (weights n) weight → (level told : ℕ) → told ≡ level → IsBelowMarks m level least → CostsLess least weight told
below_told m n same None weight l level told is below = below
below_told m n same (Some c) None l level told is (v, v_is, cheap) = subst (IsAmong v) l (subst (λ (s : System). IsAmong v (weights s)) same v_is.0)
below_told m n same (Some c) (Some w) l level told is (v, v_is, cheap) =
    let one : v ≡ w = least_is_one (weights n) v w (subst (λ (s : System). IsLeastWeight s v) same v_is) l in
    let scaled : level * v ≡ told * w = ap (λ (k : ℕ). k * v) (sym is) ∙ ap (λ (k : ℕ). told * k) one in
    omega (arith, cheap, scaled)

-- where it fails, the least cost is not less
pub not_settled : (m n : System) → m ≡ n → (least weight : Option ℕ) → IsLeastOf (weights n) weight → (level told : ℕ) → told ≡ level → (settled : Bool) → (settled ≡ true) ↔ CostsLess least weight told → settled ≡ false → ¬ IsBelowMarks m level least
not_settled m n same least weight l level told is settled test off below = true≢false (sym (test.1 (below_told m n same least weight l level told is below)) ∙ off)

-- ---- the levels before one
module _ (m : System) (valid : IsValid m) (level : ℕ) (pairs : List ℕ) (listed : IsListing (IsBelow m level) PairBefore pairs) where
  -- a minimal diagnosis with few marks costs no less
  no_cheaper : (price : ℕ) → IsLeastOf (map (cost m) pairs) (Some price) → (q : ℕ) → IsBelow m level q → price ≤ cost m q
  no_cheaper price least q below = at_least (map (cost m) pairs) price (cost m q) least (among_map (cost m) q pairs ((listed.exactly q).1 below))

  -- one of them costs so much
  attained : (price : ℕ) → IsLeastOf (map (cost m) pairs) (Some price) → (p : ℕ) × IsBelow m level p × (price ≡ cost m p)
  attained price least = let (p, among, is) = map_among (cost m) price pairs least.0 in (p, (listed.exactly p).0 among, is)

  -- without pairs there is none
  none_below : IsLeastOf (map (cost m) pairs) None → (q : ℕ) → ¬ IsBelow m level q
  none_below none q below = subst (IsAmong (cost m q)) none (among_map (cost m) q pairs ((listed.exactly q).1 below))

  -- what costs less than so many marks has fewer
  few_where_cheap : (w p : ℕ) → IsLeastWeight m w → Within p (all_marks m) → cost m p < level * w → size p < level
  few_where_cheap w p least known cheap = at (cases_zero level)
    where
      at : (level ≡ 0) ⊎ (0 < level) → size p < level
      at (inl none) = absurd (let nothing : level * w ≡ 0 * w = ap (λ (n : ℕ). n * w) none in omega (arith, cheap, nothing))
      at (inr some) =
          let next : level - 1 + 1 ≡ level = omega (arith, some) in
          let scaled : (level - 1 + 1) * w ≡ level * w = ap (λ (n : ℕ). n * w) next in
          let few = few_marks m w p (level - 1) least known (omega (arith, cheap, scaled)) in
          omega (arith, few, next)

  -- ---- whether a further level is taken
  -- where a level before settles the least cost, the pairs tell so
  settled_before : (k : ℕ) → SettlesCost m k → k < level → (least : Option ℕ) → IsLeastOf (map (cost m) pairs) least → IsBelowMarks m level least
  settled_before k s less least least_is =
      let (best, cheapest) = cheapest_exists m s.pair s.diagnosis in
      let no_more = cheapest.least s.pair s.diagnosis in
      let cheap : cost m best < (k + 1) * s.weight = omega (arith, no_more, s.cheap) in
      let few = few_marks m s.weight best k s.least (allowed_known m best cheapest.one.allowed) cheap in
      at least least_is best (cheapest_minimal m best valid cheapest, omega (arith, few, less)) cheap
    where
      at : (o : Option ℕ) → IsLeastOf (map (cost m) pairs) o → (best : ℕ) → IsBelow m level best → cost m best < (k + 1) * s.weight → IsBelowMarks m level o
      at None none best below cheap = absurd (none_below none best below)
      at (Some price) l best below cheap =
          let more : (k + 1) * s.weight ≤ level * s.weight = mul-le (k + 1) s.weight level s.weight (omega (arith, less)) (omega arith) in
          (s.weight, s.least, omega (arith, no_cheaper price l best below, cheap, more))

  pub next_up_to_stop : (least : Option ℕ) → IsLeastOf (map (cost m) pairs) least → ¬ IsPast m level → ¬ IsBelowMarks m level least → IsUpToStop m level
  next_up_to_stop least least_is open_yet not_yet stop (inl (c, e)) = not_less stop level (λ more. open_yet (inr ((let some : 0 < level = omega (arith, more) in some), c)))
  next_up_to_stop least least_is open_yet not_yet stop (inr (none, inl f)) = not_less stop level (λ more. not_yet (settled_before stop f.settles more least least_is))
  next_up_to_stop least least_is open_yet not_yet stop (inr (none, inr n)) = not_less stop level (λ more. open_yet (inl (omega (arith, more, n.all))))

  -- ---- at which level the search stops
  -- the last level settles the least cost
  last_settles : (price : ℕ) → IsLeastOf (map (cost m) pairs) (Some price) → IsBelowMarks m level (Some price) → 0 < level → SettlesCost m (level - 1)
  last_settles price least (weight, weight_is, cheap) some =
      let (p, below, same) = attained price least in
      let next : level - 1 + 1 ≡ level = omega (arith, some) in
      let scaled : (level - 1 + 1) * weight ≡ level * weight = ap (λ (n : ℕ). n * weight) next in
      record { pair = p; diagnosis = below.0.one; few = (let small = below.1 in omega (arith, small)); weight = weight; least = weight_is; cheap = omega (arith, same, cheap, scaled) }

  settled_stop : (price : ℕ) → IsLeastOf (map (cost m) pairs) (Some price) → IsBelowMarks m level (Some price) → 0 < level → (stop : ℕ) → IsStopLevel m stop → stop < level
  settled_stop price least below some stop (inl (c, e)) = omega (arith, some, e)
  settled_stop price least below some stop (inr (none, inl f)) = elim (cases_lt stop level) [
    | inl less ↦ less
    | inr past ↦ absurd (f.first (level - 1) (omega (arith, past, some)) (last_settles price least below some))
  ]
  settled_stop price least below some stop (inr (none, inr n)) = elim (cases_lt stop level) [
    | inl less ↦ less
    | inr past ↦ absurd (n.never (level - 1) (omega (arith, past, n.all)) (last_settles price least below some))
  ]

  past_stop : IsPast m level → (stop : ℕ) → IsStopLevel m stop → stop < level
  past_stop (inl more) stop (inl (c, e)) = omega (arith, more, e)
  past_stop (inl more) stop (inr (none, inl f)) = omega (arith, more, f.within)
  past_stop (inl more) stop (inr (none, inr n)) = omega (arith, more, n.all)
  past_stop (inr (some, c)) stop (inl (c', e)) = omega (arith, some, e)
  past_stop (inr (some, c)) stop (inr (none, h)) = absurd (none c)

  stop_below : (least : Option ℕ) → IsLeastOf (map (cost m) pairs) least → IsEnough m level least → (stop : ℕ) → IsStopLevel m stop → stop < level
  stop_below least l (inr past) stop is = past_stop past stop is
  stop_below None l (inl below) stop is = absurd below
  stop_below (Some price) l (inl (weight, weight_is, cheap)) stop is = at (cases_zero level)
    where
      at : (level ≡ 0) ⊎ (0 < level) → stop < level
      at (inl none) = absurd (let nothing : level * weight ≡ 0 * weight = ap (λ (n : ℕ). n * weight) none in omega (arith, cheap, nothing))
      at (inr some) = settled_stop price l (weight, weight_is, cheap) some stop is

  module _ (least : Option ℕ) (least_is : IsLeastOf (map (cost m) pairs) least) (enough : IsEnough m level least) where
    pub some_taken : 0 < level
    some_taken = let (stop, is) = stop_exists m valid in let less = stop_below least least_is enough stop is in omega (arith, less)

    pub stops_last : (k : ℕ) → level ≡ k + 1 → IsUpToStop m k → IsStopLevel m k
    stops_last k next up =
        let (stop, is) = stop_exists m valid in
        let low = up stop is in
        let high = stop_below least least_is enough stop is in
        subst (IsStopLevel m) (let same : stop ≡ k = omega (arith, low, high, next) in same) is

    -- ---- which are cheapest
    covered : (p : ℕ) → IsCheapest m p → IsBelow m level p
    covered p cheapest = (minimal, at least least_is enough)
      where
        minimal : IsMinimal (IsDiagnosis m) p
        minimal = cheapest_minimal m p valid cheapest

        at : (o : Option ℕ) → IsLeastOf (map (cost m) pairs) o → IsEnough m level o → size p < level
        at o l (inr (inl more)) = omega (arith, more, minimal_is_small m p minimal)
        at o l (inr (inr (some, c))) =
            let none : p ≡ 0 = (consistent_minimal m c.equilibrium c.balanced p).0 minimal in
            let free : size p ≡ 0 = ap (λ (s : ℕ). size s) none ∙ size-none in
            omega (arith, free, some)
        at None l (inl below) = absurd below
        at (Some price) l (inl (weight, weight_is, cheap)) =
            let (q, below, same) = attained price l in
            let no_more = cheapest.least q below.0.one in
            few_where_cheap weight p weight_is (allowed_known m p cheapest.one.allowed) (omega (arith, no_more, same, cheap))

    -- every diagnosis costs so much
    least_of_all : (price : ℕ) → IsLeastOf (map (cost m) pairs) (Some price) → (d : ℕ) → IsDiagnosis m d → price ≤ cost m d
    least_of_all price l d is =
        let (best, cheapest) = cheapest_exists m d is in
        let no_more = cheapest.least d is in
        omega (arith, no_more, no_cheaper price l best (covered best cheapest))

    none_at_all : IsLeastOf (map (cost m) pairs) None → (d : ℕ) → ¬ IsDiagnosis m d
    none_at_all none d is = let (best, cheapest) = cheapest_exists m d is in none_below none best (covered best cheapest)

  -- where the pair costs as much as the cheapest ones found, it is cheapest
  pub cheapest_told : (least : Option ℕ) → IsLeastOf (map (cost m) pairs) least → IsEnough m level least → (p : ℕ) → (IsAmong p pairs × CostsLeast least (cost m p)) ↔ IsCheapest m p
  cheapest_told None l enough p = (λ h. absurd h.1, λ cheapest. absurd (none_at_all None l enough l p cheapest.one))
  cheapest_told (Some price) l enough p = (
    λ h.
        let same : price ≡ cost m p = h.1 in
        record { one = ((listed.exactly p).0 h.0).0.one; least = λ d is. (let no_less = least_of_all (Some price) l enough price l d is in omega (arith, same, no_less)) },
    λ cheapest.
        let (q, below, same) = attained price l in
        let no_more : cost m p ≤ price = (let le = cheapest.least q below.0.one in omega (arith, le, same)) in
        let few = covered (Some price) l enough p cheapest in
        let no_less = no_cheaper price l p few in
        ((listed.exactly p).1 few, (let equal : price ≡ cost m p = omega (arith, no_more, no_less) in equal)),
  )

  pub least_cost_told : (least : Option ℕ) → IsLeastOf (map (cost m) pairs) least → IsEnough m level least → IsLeastCost m least
  least_cost_told None l enough = none_at_all None l enough l
  least_cost_told (Some price) l enough =
      let (p, below, same) = attained price l in
      (p, (cheapest_told (Some price) l enough p).0 ((listed.exactly p).1 below, same), sym same)
