-- Weights of a valid system, and what marks cost.
use Rattle.std.proofs.Common.{◌≡◌, ℕ, ◌+◌, ◌*◌, ◌/◌, ◌<◌, ◌≤◌, true, List, [], ◌∷◌, ◌++◌, map, take, length, get_or, Some, slice_get, refl, sym, ap, ◌∙◌, append_assoc, subst, inl, inr, arith}
use Rattle.std.proofs.lemmas.Bool.Decides.{nat_tests}
use Rattle.std.proofs.lemmas.List.{map-append, take_more}
use Rattle.std.specs.List.{AllByRecursion, sum_by}
use Rattle.mcs_sets.specs.Sets.{has, single, union, minus, members, size, Within, Meets}
use Rattle.mcs_sets.proofs.SetLemmas.{below_power, least_below, size-below}
use Rattle.mcs_base.proofs.Among.{among_get, among_map, get_among, map_among}
use Rattle.mcs_base.proofs.Each.{all_get}
use Rattle.mcs_base.proofs.ListingLemmas.{members_listing}
use Rattle.mcs_base.proofs.Lists.{slice_get_below}
use Rattle.mcs_base.proofs.SetParts.{members_below_all}
use Rattle.mcs_base.proofs.Written.{take_read}
use Rattle.mcs_system.specs.Plain.{Bridge, System}
use Rattle.mcs_system.specs.declared.bridge.Bridge as code
use Rattle.mcs_system.specs.Faults.{IsValid}
use Rattle.mcs_system.specs.Repairs.{all_marks}
use Rattle.mcs_system.specs.Seen.{bridge_of}
use Rattle.mcs_system.proofs.MarkLemmas.{has-all_marks, marks_small}
use Rattle.mcs_system.proofs.ValidLemmas.{few_bridges, weights_in_range}
use Rattle.mcs_costs.specs.Costs.{weight_of, mark_weight, weights, cost, IsLeastWeight}
use Rattle.mcs_base.proofs.LeastLemmas.{at_least}
use Rattle.mcs_base.proofs.Totals.{sum_within, sum-union_apart, sum-none, sum-single, sum-without, sum_at_least, sum_at_most}

-- ---- weights
-- a weight of a rule is from 1 to a million
pub weight_in_range : (m : System) → IsValid m → (r : ℕ) (b : Bridge) → slice_get m.bridges r ≡ Some b → (1 ≤ b.weight) × (b.weight ≤ 1000000)
weight_in_range m valid r b at = all_get (λ (b : Bridge). (1 ≤ b.weight) × (b.weight ≤ 1000000)) m.bridges r b (weights_in_range m valid) at

-- ---- marks
-- a mark of the pair is one of a rule
pub mark_below : (m : System) (p : ℕ) → Within p (all_marks m) → (k : ℕ) → has p k ≡ true → k < 2 * length m.bridges
mark_below m p within k is = let e = has-all_marks m k in let h = within k is in grind (arith, nat_tests)

rule_of_mark : (m : System) (k : ℕ) → k < 2 * length m.bridges → (b : Bridge) × (slice_get m.bridges (k / 2) ≡ Some b)
rule_of_mark m k less = slice_get_below m.bridges (k / 2) (omega (arith, less))

pub mark_weight_some : (m : System) → IsValid m → (k : ℕ) → k < 2 * length m.bridges → 1 ≤ mark_weight m k
mark_weight_some m valid k less = let (b, at) = rule_of_mark m k less in subst (λ (n : ℕ). 1 ≤ n) (sym (ap weight_of at)) (weight_in_range m valid (k / 2) b at).0

pub mark_weight_few : (m : System) → IsValid m → (k : ℕ) → k < 2 * length m.bridges → mark_weight m k ≤ 1000000
mark_weight_few m valid k less = let (b, at) = rule_of_mark m k less in subst (λ (n : ℕ). n ≤ 1000000) (sym (ap weight_of at)) (weight_in_range m valid (k / 2) b at).1

-- ---- the least weight
pub least_weight_some : (m : System) → IsValid m → (w : ℕ) → IsLeastWeight m w → 1 ≤ w
least_weight_some m valid w least =
    let (b, there, is) = map_among (λ (b : Bridge). b.weight) w m.bridges least.0 in
    let (r, at) = get_among b m.bridges there in
    let range = weight_in_range m valid r b at in
    let some = range.0 in
    omega (arith, is, some)

mark_weight_least : (m : System) (w k : ℕ) → IsLeastWeight m w → k < 2 * length m.bridges → w ≤ mark_weight m k
mark_weight_least m w k least less =
    let (b, at) = rule_of_mark m k less in
    let here : w ≤ b.weight = at_least (weights m) w b.weight least (among_map (λ (b : Bridge). b.weight) b m.bridges (among_get b m.bridges (k / 2) at)) in
    subst (λ (n : ℕ). w ≤ n) (sym (ap weight_of at)) here

-- ---- costs
pub cost-none : (m : System) → cost m 0 ≡ 0
unfolding cost
cost-none m = sum-none (mark_weight m)

pub cost-single : (m : System) (k : ℕ) → cost m (single k) ≡ mark_weight m k
unfolding cost
cost-single m k = sum-single (mark_weight m) k

pub cost-union_apart : (m : System) (a b : ℕ) → ¬ Meets a b → cost m (union a b) ≡ cost m a + cost m b
unfolding cost
cost-union_apart m a b apart = sum-union_apart (mark_weight m) a b apart

pub cost_within : (m : System) (a b : ℕ) → Within a b → cost m a ≤ cost m b
unfolding cost
cost_within m a b within = sum_within (mark_weight m) a b within

pub cost-without : (m : System) (s k : ℕ) → has s k ≡ true → cost m s ≡ cost m (minus s (single k)) + mark_weight m k
unfolding cost
cost-without m s k is = sum-without (mark_weight m) s k is

-- each mark costs the least weight at least
pub cost_least : (m : System) (w p : ℕ) → IsLeastWeight m w → Within p (all_marks m) → size p * w ≤ cost m p
unfolding cost
cost_least m w p least within = sum_at_least (mark_weight m) w (members p) (λ k among. mark_weight_least m w k least (mark_below m p within k (((members_listing p).exactly k).0 among)))

-- and a million at most
pub cost_few : (m : System) → IsValid m → (p : ℕ) → Within p (all_marks m) → cost m p ≤ size p * 1000000
unfolding cost
cost_few m valid p within = sum_at_most (mark_weight m) 1000000 (members p) (λ k among. mark_weight_few m valid k (mark_below m p within k (((members_listing p).exactly k).0 among)))

-- what has a mark of a rule costs something
pub none_from_cost : (m : System) → IsValid m → (p : ℕ) → Within p (all_marks m) → cost m p ≡ 0 → p ≡ 0
none_from_cost m valid p within free = elim (least_below p p (below_power p)) [
  | inl none ↦ none
  | inr (k, less, is, first) ↦ absurd (let some = mark_weight_some m valid k (mark_below m p within k is) in omega (arith, cost-without m p k is, some, free))
]

-- ---- what the code counts
pub marks_below : (m : System) (p : ℕ) → Within p (all_marks m) → AllByRecursion (λ k. k < 2 * length m.bridges) (members p)
unfolding all_marks
marks_below m p within = members_below_all p (2 * length m.bridges) within

pub costs_of_members : (m : System) (p : ℕ) → 0 + sum_by (mark_weight m) (members p) ≡ cost m p
unfolding cost
costs_of_members m p = omega arith

-- no cost is more than a million for each mark of 64 rules
pub cost_fits : (m : System) → IsValid m → (p : ℕ) → Within p (all_marks m) → cost m p ≤ 128000000
cost_fits m valid p within =
    let few : size p ≤ 2 * length m.bridges = size-below p (2 * length m.bridges) (marks_small m p within) in
    omega (arith, cost_few m valid p within, few, few_bridges m valid)

pub weights_more : (items : List code.Bridge) (i : ℕ) (b : code.Bridge) → i < length items → b ≡ get_or items i b → map (λ (x : code.Bridge). x.weight) (take (i + 1) items) ≡ map (λ (x : code.Bridge). x.weight) (take i items) ++ b.weight ∷ []
weights_more items i b less is = ap (map (λ (x : code.Bridge). x.weight)) (take_more items i b less ∙ ap (λ (y : code.Bridge). take i items ++ y ∷ []) (sym is)) ∙ map-append (λ (x : code.Bridge). x.weight) (take i items) (b ∷ [])

pub weights_seen : (items : List code.Bridge) → map (λ (b : code.Bridge). b.weight) items ≡ map (λ (b : Bridge). b.weight) (map bridge_of items)
weights_seen [] = refl
weights_seen (b ∷ items) = ap (λ ws. b.weight ∷ ws) (weights_seen items)

-- the costs of a pair more
pub costs_more : (f : ℕ → ℕ) (before xs : List ℕ) (i x n : ℕ) → i < length xs → x ≡ get_or xs i x → n ≡ f x → map f (before ++ take (i + 1) xs) ≡ map f (before ++ take i xs) ++ n ∷ []
costs_more f before xs i x n less is same =
    ap (λ ys. map f (before ++ ys)) (take_read xs i x less is)
    ∙ ap (map f) (sym (append_assoc before (take i xs) (x ∷ [])))
    ∙ map-append f (before ++ take i xs) (x ∷ [])
    ∙ ap (λ (y : ℕ). map f (before ++ take i xs) ++ y ∷ []) (sym same)
