use Rattle.mcs_system.specs.Seen.{formula_of}
use Rattle.mcs_meant.proofs.LiteralLemmas.{handed_there, clauses_for_literal}
use Rattle.mcs_meant.proofs.meant.clauses_for.Goals as goal

pub push_clause-requires : goal.push_clause-requires
push_clause-requires c = (handed_there c.push_literal.new.cnf c.in_ok-literal.literal c.in_ok-literal.ensures.fits c.in_ok-literal.ensures.there, tt)

pub returns : goal.returns
returns c =
    clauses_for_literal c.args.atoms.now (formula_of c.args.formula.now) c.args.vars c.new-own.result c.push_literal.new.cnf c.push_clause.new.cnf c.in_ok-literal.literal c.new-own.ensures c.in_ok-literal.ensures c.requires.room c.in_ok-push_clause.ensures.ok
