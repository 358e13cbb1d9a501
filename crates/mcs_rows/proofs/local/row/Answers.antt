use Rattle.mcs_sets.proofs.Lattice.{common_within_right}
use Rattle.mcs_rows.proofs.local.row.Goals as goal

pub new-requires : goal.new-requires
new-requires c = rw c.common.ensures (common_within_right c.args.values c.args.local)
