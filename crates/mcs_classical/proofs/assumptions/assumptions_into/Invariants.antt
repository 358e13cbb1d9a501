use Rattle.std.proofs.Common.{◌≡◌, ◌<◌, ◌++◌, ℕ, map, drop}
use Rattle.std.specs.List.{AllByRecursion}
use Rattle.mcs_system.specs.Seen.{bridge_of}
use Rattle.mcs_system.specs.Systems.{heads_from, heads_into}
use Rattle.mcs_classical.specs.Assumptions.{assumed}
use Rattle.mcs_classical.specs.declared.assumptions.Assumption as declared
use Rattle.mcs_classical.proofs.assumptions.assumptions_into.Given as goal

-- with those of the rules that are still to come the heads are all
abbrev pub invariant-loop-number : goal.invariant-loop-number
invariant-loop-number l = record {
  of_rules : (rules : ℕ) → assumed rules l.heads.items ++ heads_from l.number (map bridge_of (drop l.number l.rule-items)) l.context rules ≡ heads_into l.system l.context rules;
  numbers : AllByRecursion (λ (a : declared.Assumption). a.number < 64) l.heads.items;
}
