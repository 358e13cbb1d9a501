use Rattle.std.proofs.Common.{◌≡◌, ◌-◌, ◌++◌, map}
use Rattle.std.specs.List.{range_with_len}
use Rattle.mcs_system.specs.Seen.{item_of}
use Rattle.mcs_generator.specs.Generated.{link_fact}
use Rattle.mcs_generator.proofs.knowledge.add_link_facts.Given as goal

abbrev pub invariant-loop-link : goal.invariant-loop-link
invariant-loop-link l = map item_of l.items.items ≡ map item_of l.fn.items.items ++ map link_fact (range_with_len 2 (l.link - 2))
