use Rattle.std.proofs.Common.{arith}
use Rattle.std.proofs.lemmas.List.{drop_all}
use Rattle.mcs_system.proofs.GatherLemmas.{goes_on, goes_cut, gathers_nothing, next_read}
use Rattle.mcs_system.proofs.variables.add_reads.Goals as goal

pub returns-in_err-add_read : goal.returns-in_err-add_read
returns-in_err-add_read c = goes_cut _ _ _ _ _ _ _ _ _ _ _ c.loop-read.invariant
    (next_read c.args.context c.args.reads.now c.loop-read.read-index c.read-item.result c.loop-read-test.true c.read-item.is) c.from_residual.ensures.1 c.in_err-add_read.ensures

pub loop-read-preserved : goal.loop-read-preserved
loop-read-preserved c = goes_on _ _ _ _ _ _ _ _ _ _ c.loop-read.invariant
    (next_read c.args.context c.args.reads.now c.loop-read.read-index c.read-item.result c.loop-read-test.true c.read-item.is) c.in_ok-add_read.ensures

pub returns : goal.returns
returns c =
    let none = drop_all c.loop-read.read-index c.args.reads.now (omega arith) in
    c.loop-read.invariant _ _ (rw none (gathers_nothing _ _ _ _))
