use Rattle.mcs_faults.proofs.NameTables.{found}
use Rattle.mcs_faults.proofs.names.Names.has.Goals as goal

pub returns : goal.returns
returns c = rw (← c.self.view_is) (rw c.contains.ensures (found c.args.name.now c.self.inside.table.keys))
