use Rattle.mcs_base.specs.Listings.{IsAmong}
use Rattle.mcs_import.proofs.FewestLemmas.{IsFront}
use Rattle.mcs_import.proofs.fewest.unchanged.Given as goal

abbrev pub invariant-loop-set : goal.invariant-loop-set
invariant-loop-set l = IsFront (λ m x. IsAmong x l.sets) l.all l.set-index l.fewest.items
