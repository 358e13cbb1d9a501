use Rattle.std.proofs.Common.{subst}
use Rattle.mcs_base.specs.Least.{IsLeastOf}
use Rattle.mcs_base.proofs.LeastLemmas.{least_first, least_next}
use Rattle.mcs_base.proofs.least.lesser.Goals as goal

pub returns-in-None : goal.returns-in-None
returns-in-None c = λ numbers least. least_first numbers c.args.number (subst (IsLeastOf numbers) c.in-None.is least)

pub returns-in-Some : goal.returns-in-Some
returns-in-Some c = λ numbers least. least_next numbers c.in-Some.least c.args.number c.min.result c.min.ensures (subst (IsLeastOf numbers) c.in-Some.is least)
