use Rattle.std.proofs.Common.{sym, subst}
use Rattle.mcs_sets.specs.Orders.{PairBefore}
use Rattle.mcs_base.specs.Listings.{IsAscending}
use Rattle.mcs_diagnosis.proofs.FoundLemmas.{exact_listed}
use Rattle.mcs_diagnosis.proofs.found.pairs_at.Goals as goal

pub of_size-requires : goal.of_size-requires
of_size-requires g c = subst (IsAscending PairBefore) (sym c.deref.ensures.value) c.in_ok-pairs.ensures.listing.ascending

pub returns-clause-found : goal.returns-clause-found
returns-clause-found g c = exact_listed _ c.args.level c.in_ok-pairs.pairs.items c.deref.result.now c.in_ok-exact.exact.items c.deref.ensures.value c.in_ok-pairs.ensures.listing c.in_ok-exact.ensures
