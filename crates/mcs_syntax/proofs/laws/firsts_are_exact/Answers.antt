use Rattle.mcs_syntax.proofs.Fronts.{leads, start-of}
use Rattle.mcs_syntax.proofs.laws.firsts_are_exact.Goals as goal

pub returns : goal.returns
returns g c = λ e k. (λ i. leads (g.N.Rules).grammar g.met.N.Rules.readable e k i, λ l. start-of (g.N.Rules).grammar g.met.N.Rules.readable e l.0 k l.1 l.2)
