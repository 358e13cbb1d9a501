use Rattle.std.proofs.Common.{arith, sym}
use Rattle.std.proofs.lemmas.List.{take_all}
use Rattle.mcs_engine.specs.Stores.{given}
use Rattle.mcs_engine.proofs.StoreLemmas.{cut-list, length-given}
use Rattle.mcs_sat.proofs.base.leave_first.Goals as goal

pub returns-then-count-given-clause-clauses : goal.returns-then-count-given-clause-clauses
returns-then-count-given-clause-clauses c =
    let s = c.args.state.now in
    cut-list s c.cut.new.state c.args.count c.place_of-place.result c.requires.state c.place_of-place.ensures.number c.cut.ensures.clauses c.cut.ensures.chains

pub returns-else-count-given-clause-clauses : goal.returns-else-count-given-clause-clauses
returns-else-count-given-clause-clauses c =
    let s = c.args.state.now in
    sym (take_all c.args.count (given s.clauses s.chains) (omega (arith, c.given.ensures, length-given s.clauses s.chains c.requires.state.chains.sized)))
