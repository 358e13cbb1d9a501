use Rattle.std.proofs.Common.{map, take}
use Rattle.mcs_base.specs.Listings.{IsAmong}
use Rattle.mcs_faults.specs.declared.watch.ContextSeen.{ContextSeen}
use Rattle.mcs_faults.proofs.watch.Watch.number_of.Given as goal

abbrev pub invariant-loop-number : goal.invariant-loop-number
invariant-loop-number l = ¬ IsAmong l.name (map (λ (c : ContextSeen). c.name) (take l.number l.self.contexts.items))
