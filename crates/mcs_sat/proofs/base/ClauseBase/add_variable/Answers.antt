use Rattle.std.proofs.Common.{◌+◌, arith}
use Rattle.mcs_engine.specs.Stores.{given}
use Rattle.mcs_engine.proofs.StoreLemmas.{base-vars, base-widened, within-more}
use Rattle.mcs_sat.proofs.base.ClauseBase.add_variable.Goals as goal

pub invariant_of-self-2 : goal.invariant_of-self-2
invariant_of-self-2 c =
    let b = c.self.inside in
    let s = c.make_room.new.state in
    let base = base-widened b.state s b.vars c.self.invariant c.make_room.ensures.wider in
    base-vars s b.vars (b.vars + 1) base c.in_ok-make_room.ensures.room (within-more b.vars (b.vars + 1) (given s.clauses s.chains) (omega arith) base.within)
