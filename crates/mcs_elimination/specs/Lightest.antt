-- What more marks than so many cost at least, where no rule has both of its marks.
use Rattle.std.specs.Prelude.{◌≡◌, ℕ, ◌+◌, ◌-◌, ◌*◌, ◌<◌, ◌≤◌, ◌&&◌, cond, max, length, Option, Some, None}
use Rattle.std.specs.List.{fold, sum_by}
use Rattle.mcs_sets.specs.Sets.{size, Within, Meets}
use Rattle.mcs_base.specs.Pairs.{removed_of, forced_of}
use Rattle.mcs_system.specs.Plain.{Bridge, System}
use Rattle.mcs_system.specs.Repairs.{allowed_marks}
use Rattle.mcs_costs.specs.Costs.{cost, weights, IsLeastWeight}

-- no rule has both of its marks: none is both removed and forced
abbrev pub HasOneMarkEach : ℕ → Type 0
HasOneMarkEach p = ¬ Meets (removed_of p) (forced_of p)

-- more marks than so many that a repair may have, at most one of each rule, cost at least so much
abbrev pub IsReachedAbove : System → ℕ → ℕ → Type 0
IsReachedAbove m level bound = (p : ℕ) → Within p (allowed_marks m) → HasOneMarkEach p → level < size p → bound ≤ cost m p

-- what a rule lacks of this weight; nothing where a repair may neither remove nor force it
abbrev pub lack_of : ℕ → Bridge → ℕ
lack_of weight b = cond (b.keep && b.closed) 0 (weight - b.weight)

-- what the rules lack of this weight, all together, each once
abbrev pub lacking : System → ℕ → ℕ
lacking m weight = sum_by (lack_of weight) m.bridges

-- one mark more than so many of this weight, less what is lacking of it
abbrev pub least_above : System → ℕ → ℕ → ℕ
least_above m level weight = (level + 1) * weight - lacking m weight

-- the greatest of as many marks and one more of the least weight, and of what is so told of the weights of the rules
abbrev pub least_cost_above : System → ℕ → ℕ → ℕ
least_cost_above m level least = fold (λ (bound weight : ℕ). max bound (least_above m level weight)) ((level + 1) * least) (weights m)

-- the bound at a level, which is what more marks than so many, at most one of each rule, cost at least; at the level of all rules there is none
abbrev pub IsBoundAt : System → ℕ → Option ℕ → Type 0
IsBoundAt m level None = length m.bridges ≤ level
IsBoundAt m level (Some bound) = (level < length m.bridges) × ((least : ℕ) × IsLeastWeight m least × (bound ≡ least_cost_above m level least))
