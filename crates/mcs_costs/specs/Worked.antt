-- Worked costs, and worked systems with their cheapest diagnoses and stop levels. They show what each part of the definitions is for.
use Rattle.std.specs.Prelude.{◌≡◌, ◌↔◌, ℕ, ◌+◌, true, [], ◌∷◌, codes}
use Rattle.mcs_sets.specs.Sets.{single, union}
use Rattle.mcs_system.specs.Plain.{Truth, System, plain_rule}
use Rattle.mcs_laws.specs.Examples.{p, p_of_0, example_context, against_itself_where, self_support}
use Rattle.mcs_costs.specs.Costs.{cost, IsCheapest, IsStopLevel}

-- (a: p) <- not (a: p)., which is kept, of the first weight, and (a: true)., which is kept and closed, of the second
abbrev pub forced_beside : ℕ → ℕ → System
forced_beside weight other = record {
  contexts = example_context ∷ [];
  bridges =
      record (plain_rule (codes "r") 0 p [] (p_of_0 ∷ [])) { keep = true; weight = weight }
      ∷ record (plain_rule (codes "s") 0 Truth [] []) { keep = true; closed = true; weight = other }
      ∷ [];
}

-- ---- costs
-- a mark costs the weight of its rule, the third mark that of the second rule
abbrev pub MarksCostTheirRules : Type 0
MarksCostTheirRules = (weight other : ℕ) → (cost (forced_beside weight other) (single 1) ≡ weight) × (cost (forced_beside weight other) (single 2) ≡ other)

-- a rule that is both removed and forced is paid twice
abbrev pub BothMarksArePaid : Type 0
BothMarksArePaid = (weight other : ℕ) → cost (forced_beside weight other) (union (single 0) (single 1)) ≡ weight + weight

-- ---- stop levels
abbrev pub StopsAt : System → ℕ → Type 0
StopsAt m stop = (level : ℕ) → IsStopLevel m level ↔ (level ≡ stop)

-- To force the first rule is the only diagnosis, at whatever weights; the empty pair costs less, and is none. Where all weights are 1, level 0 settles nothing, and level 1 does, so the search stops there, and not at the number of rules.
abbrev pub ForcingIsCheapest : Type 0
ForcingIsCheapest = ((weight other pair : ℕ) → IsCheapest (forced_beside weight other) pair ↔ (pair ≡ single 1)) × StopsAt (forced_beside 1 1) 1

-- Where the diagnosis costs 5 and a rule weighs 1, level 1 has it and does not settle that it is cheapest. Level 5 would, but there are two rules only. Where it costs as much and no rule weighs less, level 1 settles it.
abbrev pub LightRulesDelay : Type 0
LightRulesDelay = StopsAt (forced_beside 5 1) 2 × StopsAt (forced_beside 5 5) 1

-- where the rule may be neither removed nor forced, nothing is cheapest, and the search stops at the number of rules
abbrev pub BarredIsUnpaid : Type 0
BarredIsUnpaid = ((pair : ℕ) → ¬ IsCheapest (against_itself_where true true) pair) × StopsAt (against_itself_where true true) 1

-- of a consistent system the empty pair is cheapest, though to remove the rule is a diagnosis as well, and the search stops at level 0
abbrev pub ConsistentIsFree : Type 0
ConsistentIsFree = ((pair : ℕ) → IsCheapest self_support pair ↔ (pair ≡ 0)) × StopsAt self_support 0
