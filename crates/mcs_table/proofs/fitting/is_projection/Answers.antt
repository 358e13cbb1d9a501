use Rattle.std.proofs.Common.{subst, ◌↔◌, IsTrue, ℕ}
use Rattle.mcs_base.specs.Listings.{IsAmong}
use Rattle.mcs_table.proofs.ProjectionLemmas.{found_state}
use Rattle.mcs_table.proofs.fitting.is_projection.Goals as goal

pub returns : goal.returns
returns c = subst (λ (x : ℕ). IsTrue c.is_ok.result ↔ IsAmong x c.args.projections.now) c.common.ensures
    (found_state c.args.projections.now c.common.result c.requires c.binary_search.result c.binary_search.ensures.position c.binary_search.ensures.bound c.is_ok.result c.is_ok.ensures.value)
