use Rattle.std.proofs.Common.{◌≡◌, ◌++◌, map, drop}
use Rattle.mcs_system.specs.Seen.{formula_of, bridge_of}
use Rattle.mcs_system.specs.Systems.{heads_from, heads_into}
use Rattle.mcs_asking.proofs.asking.heads_into.Given as goal

-- with those of the rules that are still to come the heads are all
abbrev pub invariant-loop-k : goal.invariant-loop-k
invariant-loop-k l = record {
  all : map (λ f. formula_of f.now) l.heads.items ++ heads_from l.k (map bridge_of (drop l.k l.rule-items)) l.context l.rules ≡ heads_into l.system l.context l.rules;
}
