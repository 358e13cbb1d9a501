use Rattle.std.proofs.Common.{◌∙◌, sym, subst}
use Rattle.mcs_sets.proofs.Lattice.{none-union}
use Rattle.mcs_table.specs.Tables.{IsForgetting}
use Rattle.mcs_joint.proofs.repairs.eliminate_next.Goals as goal

pub returns : goal.returns
returns c = (
  c.in_ok-joined.joined,
  c.without-fewer.result,
  c.in_ok-joined.ensures,
  c.without-fewer.ensures,
  subst (λ n. IsForgetting c.without-fewer.result n c.in_ok-rest.rest) (c.scopes.ensures.value ∙ sym (none-union _)) c.in_ok-rest.ensures,
)
