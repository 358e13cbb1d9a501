use Rattle.std.proofs.Common.{◌≡◌, ◌++◌, map, drop}
use Rattle.std.specs.List.{filter_map}
use Rattle.mcs_system.specs.Plain.{Atom}
use Rattle.mcs_system.specs.Logic.{fact_of}
use Rattle.mcs_system.specs.Seen.{rule_of}
use Rattle.mcs_system.proofs.facts.with_facts.Given as goal

abbrev pub invariant-loop-name : goal.invariant-loop-name
invariant-loop-name l = map rule_of l.all.items ++ filter_map fact_of (map Atom (map (λ b. b.now) (drop l.name-index l.added))) ≡ map rule_of l.rules ++ filter_map fact_of (map Atom (map (λ b. b.now) l.added))
