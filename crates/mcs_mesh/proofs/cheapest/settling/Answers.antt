use Rattle.std.proofs.Common.{MatchOption, subst}
use Rattle.mcs_costs.specs.Costs.{AreCheapest, SettlesNone}
use Rattle.mcs_mesh.proofs.cheapest.settling.Goals as goal

pub returns-in-Some : goal.returns-in-Some
returns-in-Some c = λ m asked less few known. subst (λ told. MatchOption told (SettlesNone m c.args.level) (λ pairs. AreCheapest m pairs.items)) c.in-Some.is known

pub returns-in-None : goal.returns-in-None
returns-in-None c = λ m asked less few known. (less, subst (λ told. MatchOption told (SettlesNone m c.args.level) (λ pairs. AreCheapest m pairs.items)) c.in-None.is known, few)
