use Rattle.mcs_base.proofs.Each.{all_among}
use Rattle.mcs_trace.specs.Clauses.{IsLiteral}
use Rattle.mcs_search.proofs.adding.beginning_of.Goals as goal

pub fresh_below-requires : goal.fresh_below-requires
fresh_below-requires c = let pair = c.in-Some-first_pair.ensures in (all_among IsLiteral c.args.literals.now _ c.requires.clause.0.0 pair.first, all_among IsLiteral c.args.literals.now _ c.requires.clause.0.0 pair.second)
