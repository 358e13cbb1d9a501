use Rattle.std.proofs.Common.{◌≡◌, ◌++◌, drop, map}
use Rattle.mcs_system.specs.Seen.{item_of, default_of}
use Rattle.mcs_evidence.specs.Defaults.{defaults_of}
use Rattle.mcs_evidence.proofs.theory.defaults_of.Given as goal

abbrev pub invariant-loop-item : goal.invariant-loop-item
invariant-loop-item l = map (λ d. default_of d.now) l.defaults.items ++ defaults_of (map item_of (drop l.item-index l.items)) ≡ defaults_of (map item_of l.items)
