use Rattle.mcs_syntax.proofs.Counts.{never-short, rule-leaves}
use Rattle.mcs_syntax.proofs.laws.operands_are_there.Goals as goal

pub returns-clause-along : goal.returns-clause-along
returns-clause-along g c = λ o b n ds xs s r k. never-short o (g.N.Rules).grammar b g.met.N.Rules.readable n ds xs s r k

pub returns-clause-whole : goal.returns-clause-whole
returns-clause-whole g c = λ o b n ds xs r k. rule-leaves o (g.N.Rules).grammar b n xs r.0 k
