use Rattle.mcs_syntax.proofs.Texts.{read-more, begins-read, read-begins, read-ends}
use Rattle.mcs_syntax.proofs.laws.reads_are_joined.Goals as goal

pub returns-clause-reads : goal.returns-clause-reads
returns-clause-reads g c = λ e ds vs xs ys s t h k. read-more (g.N.Rules).grammar e s t ds vs xs ys h k

pub returns-clause-beginnings : goal.returns-clause-beginnings
returns-clause-beginnings g c = λ e ds vs xs s h. (begins-read (g.N.Rules).grammar e s ds vs xs h, read-begins (g.N.Rules).grammar e s ds vs xs h)

pub returns-clause-ends : goal.returns-clause-ends
returns-clause-ends g c = λ e ds xs ys s h r. read-ends (g.N.Rules).grammar e s ds xs ys h r
