use Rattle.std.proofs.Common.{sym}
use Rattle.mcs_sets.proofs.SetLemmas.{length-members}
use Rattle.mcs_sets.proofs.small_set.SmallSet.count.Goals as goal

pub returns-clause-number : goal.returns-clause-number
returns-clause-number c = rw (← c.self.view_is) (sym (length-members _))
