use Rattle.mcs_laws.proofs.Worked.{kinds_accept_their_sort}
use Rattle.mcs_laws.proofs.kinds_accept_their_sort.Goals as goal

pub returns : goal.returns
returns c = kinds_accept_their_sort
