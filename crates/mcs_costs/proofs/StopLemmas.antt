-- At which level a search for the cheapest diagnoses stops.
use Rattle.std.proofs.Common.{◌≡◌, ℕ, ◌+◌, ◌*◌, ◌/◌, ◌<◌, ◌≤◌, min, length, refl, sym, ap, ◌∙◌, subst, inl, inr, arith}
use Rattle.std.proofs.lemmas.Bool.{cases_lt}
use Rattle.std.proofs.lemmas.Nat.{div-add-mod', mod_below, mul-le}
use Rattle.mcs_sets.specs.Sets.{size}
use Rattle.mcs_sets.proofs.Lattice.{size-none}
use Rattle.mcs_base.proofs.NumberCases.{cases_zero}
use Rattle.mcs_system.specs.Plain.{System}
use Rattle.mcs_system.specs.Faults.{IsValid}
use Rattle.mcs_system.specs.Repairs.{IsDiagnosis}
use Rattle.mcs_system.specs.Systems.{IsConsistent}
use Rattle.mcs_system.proofs.MarkLemmas.{allowed_known}
use Rattle.mcs_laws.proofs.Choices.{consistent_minimal, consistent_needs_nothing, consistent_where_nothing}
use Rattle.mcs_laws.proofs.Counting.{minimal_is_small}
use Rattle.mcs_costs.specs.Costs.{cost, weights, IsCheapest, IsLeastWeight, SettlesCost, IsFirstSettling, IsStopLevel, SettlesNone}
use Rattle.mcs_costs.specs.Laws.{CheapestHaveFewMarks, StopLevelIsQuotient, StopLevelWithoutDiagnoses, StopLevelsAreOne}
use Rattle.mcs_costs.specs.Settling.{IsSettling}
use Rattle.mcs_costs.specs.declared.evaluator.Settling.{Settling}
use Rattle.mcs_costs.specs.declared.evaluator.Settling.TheVariants.{Settled, NoneUpTo}
use Rattle.mcs_base.proofs.LeastLemmas.{least_is_one}
use Rattle.mcs_costs.proofs.CostLemmas.{cost-none, least_weight_some, none_from_cost}
use Rattle.mcs_costs.proofs.CheapestLemmas.{cheapest_minimal, few_marks}

-- ---- there is at most one
first_is_one : (m : System) (a b : ℕ) → IsFirstSettling m a → IsFirstSettling m b → a ≡ b
first_is_one m a b f g = elim (cases_lt a b) [
  | inl less ↦ absurd (g.first a less f.settles)
  | inr past ↦ elim (cases_lt b a) [ inl less ↦ absurd (f.first b less g.settles) | inr most ↦ omega (arith, past, most) ]
]

pub stop_is_one : StopLevelsAreOne
stop_is_one m a b (inl (c, e)) (inl (c', e')) = e ∙ sym e'
stop_is_one m a b (inl (c, e)) (inr (none, h)) = absurd (none c)
stop_is_one m a b (inr (none, h)) (inl (c, e)) = absurd (none c)
stop_is_one m a b (inr (none, inl f)) (inr (none', inl g)) = first_is_one m a b f g
stop_is_one m a b (inr (none, inl f)) (inr (none', inr n)) = absurd (n.never a f.within f.settles)
stop_is_one m a b (inr (none, inr n)) (inr (none', inl g)) = absurd (n.never b g.within g.settles)
stop_is_one m a b (inr (none, inr n)) (inr (none', inr n')) = n.all ∙ sym n'.all

-- ---- a cheapest diagnosis has no more marks
pub cheapest_few : CheapestHaveFewMarks
cheapest_few m p stop valid cheapest (inl (c, e)) =
    let none : p ≡ 0 = (consistent_minimal m c.equilibrium c.balanced p).0 (cheapest_minimal m p valid cheapest) in
    let free : size p ≡ 0 = ap (λ (s : ℕ). size s) none ∙ size-none in
    omega (arith, free)
cheapest_few m p stop valid cheapest (inr (none, inl f)) =
    let s = f.settles in
    let cheap : cost m p < (stop + 1) * s.weight = (let least = cheapest.least s.pair s.diagnosis in omega (arith, least, s.cheap)) in
    few_marks m s.weight p stop s.least (allowed_known m p cheapest.one.allowed) cheap
cheapest_few m p stop valid cheapest (inr (none, inr n)) = omega (arith, minimal_is_small m p (cheapest_minimal m p valid cheapest), n.all)

-- ---- which levels settle the least cost, where there is a cheapest diagnosis
module _ (m : System) (p w : ℕ) (valid : IsValid m) (cheapest : IsCheapest m p) (least : IsLeastWeight m w) where
  settled_below : (k : ℕ) → SettlesCost m k → cost m p < (k + 1) * w
  settled_below k s =
      let same : s.weight ≡ w = least_is_one (weights m) s.weight w s.least least in
      let cheap : cost m s.pair < (k + 1) * w = subst (λ (v : ℕ). cost m s.pair < (k + 1) * v) same s.cheap in
      (let no_less = cheapest.least s.pair s.diagnosis in omega (arith, no_less, cheap))

  settles_where : (k : ℕ) → cost m p < (k + 1) * w → SettlesCost m k
  settles_where k cheap = record { pair = p; diagnosis = cheapest.one; few = few_marks m w p k least (allowed_known m p cheapest.one.allowed) cheap; weight = w; least = least; cheap = cheap }

  abbrev quotient : ℕ
  quotient = cost m p / w

  -- the least cost lies between this many times the least weight and once more
  reaches : quotient * w ≤ cost m p
  reaches = omega (arith, div-add-mod' (cost m p) w)

  below_next : cost m p < (quotient + 1) * w
  below_next =
      let some = least_weight_some m valid w least in
      let next : (cost m p / w + 1) * w ≡ cost m p / w * w + w = omega arith in
      omega (arith, div-add-mod' (cost m p) w, mod_below (cost m p) w (omega (arith, some)), next)

  -- a lower level does not settle it
  not_below : (k : ℕ) → k < quotient → ¬ SettlesCost m k
  not_below k less s =
      let more : (k + 1) * w ≤ quotient * w = mul-le (k + 1) w quotient w (omega (arith, less)) (omega arith) in
      let cheap = settled_below k s in
      omega (arith, more, reaches, cheap)

  inconsistent : 0 < cost m p → ¬ IsConsistent m
  inconsistent some c = let free = cheapest.least 0 (consistent_needs_nothing m c.equilibrium c.balanced) in omega (arith, free, some, cost-none m)

  stops_there : (level : ℕ) → level ≡ min quotient (length m.bridges) → IsStopLevel m level
  stops_there level e = elim (cases_zero (cost m p)) [
    | inl free ↦ inl (consistent free, omega (arith, e, nothing free))
    | inr some ↦ inr (
      inconsistent some,
      elim (cases_lt (length m.bridges) quotient) [
        | inl past ↦ inr (record { all = omega (arith, e, past); never = λ k few s. not_below k (omega (arith, few, past)) s })
        | inr within ↦ inl (settled (omega (arith, e, within)) within)
      ],
    )
  ]
    where
      consistent : cost m p ≡ 0 → IsConsistent m
      consistent free = consistent_where_nothing m (subst (IsDiagnosis m) (none_from_cost m valid p (allowed_known m p cheapest.one.allowed) free) cheapest.one)

      nothing : cost m p ≡ 0 → quotient ≡ 0
      nothing free = elim (cases_zero quotient) [
        | inl none ↦ none
        | inr some ↦ absurd (let once : 1 * w ≤ quotient * w = mul-le 1 w quotient w (omega (arith, some)) (omega arith) in let weighs = least_weight_some m valid w least in omega (arith, once, weighs, reaches, free))
      ]

      settled : level ≡ quotient → quotient ≤ length m.bridges → IsFirstSettling m level
      settled same within = subst (λ (n : ℕ). IsFirstSettling m n) (sym same) (record { settles = settles_where quotient below_next; first = not_below; within = within })

pub stop_is_quotient : StopLevelIsQuotient
stop_is_quotient m p w level valid cheapest least = (
  λ stop. stop_is_one m level (min (cost m p / w) (length m.bridges)) stop (stops_there m p w valid cheapest least (min (cost m p / w) (length m.bridges)) refl),
  λ e. stops_there m p w valid cheapest least level e,
)

-- ---- where there is no diagnosis
pub stop_without : StopLevelWithoutDiagnoses
stop_without m level none = (λ stop. stop_is_one m level (length m.bridges) stop at_all, λ e. subst (IsStopLevel m) (sym e) at_all)
  where
    at_all : IsStopLevel m (length m.bridges)
    at_all = inr ((λ c. none 0 (consistent_needs_nothing m c.equilibrium c.balanced)), inr (record { all = refl; never = λ k few s. none s.pair s.diagnosis }))

-- ---- what is not settled at a level is at none below it
pub settles_none_below : (m : System) (level ahead : ℕ) → level ≤ ahead → SettlesNone m ahead → SettlesNone m level
settles_none_below m level ahead no_less none pair diagnosis settled = none pair diagnosis (elim settled [
  | inl (weight, least, cheap) ↦ inl (weight, least, (let more : (level + 1) * weight ≤ (ahead + 1) * weight = mul-le (level + 1) weight (ahead + 1) weight (omega (arith, no_less)) (omega arith) in omega (arith, more, cheap)))
  | inr all ↦ inr (omega (arith, all, no_less))
])
