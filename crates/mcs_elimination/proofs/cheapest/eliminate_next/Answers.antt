use Rattle.std.proofs.Common.{◌∙◌, sym, subst}
use Rattle.mcs_sets.proofs.Lattice.{none-union}
use Rattle.mcs_table.specs.Tables.{IsForgetting}
use Rattle.mcs_elimination.proofs.Prices.{rest_marks}
use Rattle.mcs_elimination.proofs.cheapest.eliminate_next.Goals as goal

pub cheapest_rows-requires : goal.cheapest_rows-requires
cheapest_rows-requires c = rest_marks c.args.system.now c.args.level c.scopes.result c.args.left.now c.args.next.now c.in_ok-joined.joined c.in_ok-rest.rest c.requires.first c.requires.second c.in_ok-joined.ensures c.in_ok-rest.ensures

pub returns : goal.returns
returns c = (
  c.in_ok-joined.joined,
  c.in_ok-rest.rest,
  c.in_ok-joined.ensures,
  subst (λ n. IsForgetting c.in_ok-joined.joined n c.in_ok-rest.rest) (c.scopes.ensures.value ∙ sym (none-union _)) c.in_ok-rest.ensures,
  c.in_ok-kept.ensures,
)
