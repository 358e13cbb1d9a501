use Rattle.std.proofs.lemmas.Option.{IfSome_then}
use Rattle.mcs_sets.proofs.SetLemmas.{members_below}
use Rattle.mcs_base.proofs.set.Set.first.Goals as goal

pub returns-clause-below : goal.returns-clause-below
returns-clause-below g c = IfSome_then _ c.first.ensures.least (λ k least. members_below _ _ k c.self.invariant least.in_set)
