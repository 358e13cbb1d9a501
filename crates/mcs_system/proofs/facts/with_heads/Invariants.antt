use Rattle.std.proofs.Common.{◌≡◌, ◌++◌, map, drop}
use Rattle.std.specs.List.{filter_map}
use Rattle.mcs_system.specs.Logic.{fact_of}
use Rattle.mcs_system.specs.Seen.{formula_of, rule_of}
use Rattle.mcs_system.proofs.facts.with_heads.Given as goal

abbrev pub invariant-loop-head : goal.invariant-loop-head
invariant-loop-head l = map rule_of l.all.items ++ filter_map fact_of (map (λ f. formula_of f.now) (drop l.head-index l.heads)) ≡ map rule_of l.fn.rules ++ filter_map fact_of (map (λ f. formula_of f.now) l.heads)
