-- More marks than so many, at most one of each rule, cost at least as much as so many of any weight, less what the rules lack of it.
use Rattle.std.proofs.Common.{◌≡◌, ℕ, ◌+◌, ◌-◌, ◌*◌, ◌^◌, ◌<◌, ◌≤◌, max, suc, Bool, true, false, ◌&&◌, cond, List, [], ◌∷◌, map, take, length, get_or, slice_get, Some, ap, ◌∙◌, subst, arith}
use Rattle.std.proofs.lemmas.Bool.Decides.{nat_tests}
use Rattle.std.proofs.lemmas.List.{length-map, length-take-le, map-append, take_all}
use Rattle.std.proofs.lemmas.List.Sums.{sum_by-cons, sum_by_push}
use Rattle.std.proofs.lemmas.Nat.{mul-le}
use Rattle.std.specs.List.{fold, sum_by}
use Rattle.mcs_sets.specs.Sets.{has, members, single, size, Within}
use Rattle.mcs_sets.proofs.Lattice.{single_within}
use Rattle.mcs_base.proofs.Among.{get_among, map_among}
use Rattle.mcs_base.proofs.Mapped.{slice_get-map_read}
use Rattle.mcs_base.proofs.Written.{take_read}
use Rattle.mcs_system.specs.Faults.{IsValid}
use Rattle.mcs_system.specs.Plain.{Bridge, System}
use Rattle.mcs_system.specs.Repairs.{all_marks}
use Rattle.mcs_system.specs.Seen.{bridge_of}
use Rattle.mcs_system.specs.declared.bridge.Bridge as code
use Rattle.mcs_system.proofs.MarkLemmas.{allowed_known, has-all_marks}
use Rattle.mcs_system.proofs.ValidLemmas.{few_bridges}
use Rattle.mcs_costs.specs.Costs.{cost, mark_weight, weights, IsLeastWeight}
use Rattle.mcs_costs.proofs.CostLemmas.{cost_least, weight_in_range}
use Rattle.mcs_elimination.specs.Lightest.{IsReachedAbove, lack_of, lacking, least_above, least_cost_above}
use Rattle.mcs_elimination.proofs.OneMarkEach.{lacks_no_more}

-- with what they lack of a weight, some weights come to as many times this one
made_up : (w : ℕ → ℕ) (t : ℕ) (xs : List ℕ) → length xs * t ≤ sum_by w xs + sum_by (λ (k : ℕ). t - w k) xs
made_up w t [] = omega arith
made_up w t (x ∷ xs) =
    let rest = made_up w t xs in
    let step : suc (length xs) * t ≡ length xs * t + t = omega arith in
    let own : t ≤ w x + (t - w x) = omega arith in
    omega (arith, rest, step, own, sum_by-cons w x xs, sum_by-cons (λ (k : ℕ). t - w k) x xs)

pub reached_above : (m : System) (level weight : ℕ) → IsReachedAbove m level (least_above m level weight)
unfolding cost
reached_above m level weight p within one more =
    let all = made_up (mark_weight m) weight (members p) in
    let few = lacks_no_more m p weight within one in
    let many : (level + 1) * weight ≤ size p * weight = mul-le (level + 1) weight (size p) weight (omega (arith, more)) (omega arith) in
    omega (arith, all, few, many)

-- as many marks and one more of the least weight
pub least_reached : (m : System) (level weight : ℕ) → IsLeastWeight m weight → IsReachedAbove m level ((level + 1) * weight)
least_reached m level weight least p within one more =
    let some = cost_least m weight p least (allowed_known m p within) in
    let many : (level + 1) * weight ≤ size p * weight = mul-le (level + 1) weight (size p) weight (omega (arith, more)) (omega arith) in
    omega (arith, some, many)

-- ---- the greatest of them
pub bound_reached : (m : System) (level least : ℕ) → IsLeastWeight m least → IsReachedAbove m level (least_cost_above m level least)
bound_reached m level least is = at (weights m) ((level + 1) * least) (least_reached m level least is)
  where
    at : (ws : List ℕ) (n : ℕ) → IsReachedAbove m level n → IsReachedAbove m level (fold (λ (bound weight : ℕ). max bound (least_above m level weight)) n ws)
    at [] n h = h
    at (w ∷ ws) n h = at ws (max n (least_above m level w)) (λ p within one more. let a = h p within one more in let b = reached_above m level w p within one more in omega (arith, a, b))

pub least_in_bound : (m : System) (level least : ℕ) → (level + 1) * least ≤ least_cost_above m level least
least_in_bound m level least = at (weights m) ((level + 1) * least)
  where
    at : (ws : List ℕ) (n : ℕ) → n ≤ fold (λ (bound weight : ℕ). max bound (least_above m level weight)) n ws
    at [] n = omega arith
    at (w ∷ ws) n = let rest = at ws (max n (least_above m level w)) in omega (arith, rest)

-- ---- weights
pub weight_few : (m : System) → IsValid m → (rules : List code.Bridge) (i : ℕ) (b : code.Bridge) → map bridge_of rules ≡ m.bridges → i < length rules → b ≡ get_or rules i b → b.weight ≤ 1000000
weight_few m valid rules i b seen less is = (weight_in_range m valid i (bridge_of b) (subst (λ (bs : List Bridge). slice_get bs i ≡ Some (bridge_of b)) seen (slice_get-map_read bridge_of rules i b less is))).1

pub least_few : (m : System) → IsValid m → (weight : ℕ) → IsLeastWeight m weight → weight ≤ 1000000
least_few m valid weight least =
    let (b, there, is) = map_among (λ (x : Bridge). x.weight) weight m.bridges least.0 in
    let (r, at) = get_among b m.bridges there in
    let range = (weight_in_range m valid r b at).1 in
    omega (arith, is, range)

-- a number of 32 bits and one, times a weight
pub above_fits : (level weight : ℕ) → level < 2 ^ 32 → weight ≤ 1000000 → (level + 1) * weight ≤ 2 ^ 32 * 1000000
above_fits level weight low few = mul-le (level + 1) weight (2 ^ 32) 1000000 (omega (arith, low)) few

-- ---- what is lacking
module _ (weight : ℕ) where
  -- a rule more
  pub lacks_more : (rules : List code.Bridge) (i : ℕ) (b : code.Bridge) → i < length rules → b ≡ get_or rules i b
      → sum_by (lack_of weight) (map bridge_of (take (i + 1) rules)) ≡ sum_by (lack_of weight) (map bridge_of (take i rules)) + lack_of weight (bridge_of b)
  lacks_more rules i b less is =
      ap (λ (bs : List code.Bridge). sum_by (lack_of weight) (map bridge_of bs)) (take_read rules i b less is)
      ∙ ap (sum_by (lack_of weight)) (map-append bridge_of (take i rules) (b ∷ []))
      ∙ sum_by_push (lack_of weight) (map bridge_of (take i rules)) (bridge_of b)

  pub lacks_all : (m : System) (rules : List code.Bridge) (i : ℕ) → map bridge_of rules ≡ m.bridges → length rules ≤ i → sum_by (lack_of weight) (map bridge_of (take i rules)) ≡ lacking m weight
  lacks_all m rules i seen past = ap (λ (bs : List code.Bridge). sum_by (lack_of weight) (map bridge_of bs)) (take_all i rules past) ∙ ap (sum_by (lack_of weight)) seen

  lacks_at_most : (bs : List Bridge) → sum_by (lack_of weight) bs ≤ length bs * weight
  lacks_at_most [] = omega arith
  lacks_at_most (b ∷ bs) =
      let rest = lacks_at_most bs in
      let step : suc (length bs) * weight ≡ length bs * weight + weight = omega arith in
      omega (arith, rest, step, own (b.keep && b.closed), sum_by-cons (lack_of weight) b bs)
    where
      own : (none : Bool) → cond none 0 (weight - b.weight) ≤ weight
      own true = omega arith
      own false = omega arith

  -- a million of each of 64 rules
  pub lacks_few : (m : System) → IsValid m → weight ≤ 1000000 → (rules : List code.Bridge) (i : ℕ) → map bridge_of rules ≡ m.bridges → i < length rules → sum_by (lack_of weight) (map bridge_of (take (i + 1) rules)) ≤ 64000000
  lacks_few m valid few rules i seen less =
      let most = lacks_at_most (map bridge_of (take (i + 1) rules)) in
      let many = length-map (take (i + 1) rules) bridge_of in
      let taken = length-take-le (i + 1) rules (omega (arith, less)) in
      let all = length-map rules bridge_of in
      let known = ap length seen in
      let small : length (map bridge_of (take (i + 1) rules)) ≤ 64 = omega (arith, many, taken, less, all, known, few_bridges m valid) in
      let much : length (map bridge_of (take (i + 1) rules)) * weight ≤ 64 * 1000000 = mul-le (length (map bridge_of (take (i + 1) rules))) weight 64 1000000 small few in
      omega (arith, most, much)

pub single_known : (m : System) (k : ℕ) → k < 2 * length m.bridges → Within (single k) (all_marks m)
single_known m k less = single_within k (all_marks m) (let e = has-all_marks m k in let is : has (all_marks m) k ≡ true = grind (arith, nat_tests) in is)
