use Rattle.std.proofs.Common.{refl}
use Rattle.mcs_syntax.specs.Grammar.{tokens}
use Rattle.mcs_syntax.proofs.Fills.{fill}
use Rattle.mcs_syntax.proofs.Unique.{one-way}
use Rattle.mcs_syntax.proofs.laws.texts_are_read_in_one_way.Goals as goal

pub returns-clause-one_way : goal.returns-clause-one_way
returns-clause-one_way g c = λ n ds xs ys. one-way (g.N.Rules).grammar g.met.N.Rules.readable n ds xs ys

pub returns-clause-some : goal.returns-clause-some
returns-clause-some g c = λ e. let p = fill (g.N.Rules).grammar g.met.N.Rules.readable e in (tokens (g.N.Rules).grammar p.0, (p.0, (p.1, refl)))
