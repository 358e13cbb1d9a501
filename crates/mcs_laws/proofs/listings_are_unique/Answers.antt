use Rattle.mcs_sets.specs.Orders.{StateBefore, PairBefore}
use Rattle.mcs_sets.proofs.SetLemmas.{StateBefore-asymmetric, PairBefore-asymmetric}
use Rattle.mcs_base.proofs.ListingLemmas.{same_listing}
use Rattle.mcs_laws.proofs.listings_are_unique.Goals as goal

pub returns : goal.returns
returns c = record {
  states = λ m r1 r2 xs ys. same_listing StateBefore StateBefore-asymmetric _ xs ys;
  diagnoses = λ m xs ys. same_listing PairBefore PairBefore-asymmetric _ xs ys;
}
