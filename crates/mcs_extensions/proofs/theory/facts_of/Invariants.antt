use Rattle.std.proofs.Common.{◌≡◌, ◌++◌, drop, map}
use Rattle.mcs_system.specs.Seen.{item_of, formula_of}
use Rattle.mcs_evidence.specs.Defaults.{facts_of}
use Rattle.mcs_extensions.proofs.theory.facts_of.Given as goal

abbrev pub invariant-loop-item : goal.invariant-loop-item
invariant-loop-item l = map (λ f. formula_of f.now) l.facts.items ++ facts_of (map item_of (drop l.item-index l.items)) ≡ facts_of (map item_of l.items)
