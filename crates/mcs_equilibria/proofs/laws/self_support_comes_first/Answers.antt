use Rattle.mcs_equilibria.proofs.FirstLaws.{self_support_first}
use Rattle.mcs_equilibria.proofs.laws.self_support_comes_first.Goals as goal

pub returns : goal.returns
returns c = self_support_first
