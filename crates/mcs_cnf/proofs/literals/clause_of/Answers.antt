use Rattle.std.proofs.Common.{get_or, pos, to_z-of_z}
use Rattle.mcs_trace.specs.Clauses.{IsLiteral}
use Rattle.mcs_trace.proofs.OrderLemmas.{fits_literal}
use Rattle.mcs_cnf.proofs.ClauseLemmas.{listing_more, listing_all, literal_of}
use Rattle.mcs_cnf.proofs.literals.clause_of.Goals as goal

pub loop-literal-preserved : goal.loop-literal-preserved
loop-literal-preserved c =
    let i = c.loop-literal.literal-index in
    let ls = c.args.lits.now in
    let is : IsLiteral (get_or ls i (pos 0)) = literal_of ls i c.requires c.loop-literal-test.true in
    listing_more ls c.loop-literal.clause c.insert.new.self i (pos 0) _ c.loop-literal-test.true (to_z-of_z (fits_literal _ is)) c.loop-literal.invariant c.in_ok-insert.ensures.ok

pub returns : goal.returns
returns c = listing_all c.args.lits.now c.loop-literal.clause c.loop-literal.literal-index c.loop-literal-test.false c.loop-literal.invariant
