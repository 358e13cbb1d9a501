use Rattle.std.proofs.Common.{arith}
use Rattle.std.proofs.lemmas.List.{drop_all}
use Rattle.mcs_system.specs.Gathered.{head_atoms}
use Rattle.mcs_system.specs.Seen.{bridge_of}
use Rattle.mcs_system.proofs.GatherLemmas.{goes_on, goes_cut, gathers_nothing}
use Rattle.mcs_system.proofs.atoms.add_heads.Goals as goal
use Rattle.mcs_base.proofs.Ranges.{next_seen}

pub returns-in_err-add_head : goal.returns-in_err-add_head
returns-in_err-add_head c = goes_cut _ _ _ _ _ _ _ _ _ _ _ c.loop-bridge.invariant
    (next_seen bridge_of (head_atoms c.args.context) c.args.bridges.now c.loop-bridge.bridge-index c.bridge-item.result c.loop-bridge-test.true c.bridge-item.is) c.from_residual.ensures.1 c.in_err-add_head.ensures

pub loop-bridge-preserved : goal.loop-bridge-preserved
loop-bridge-preserved c = goes_on _ _ _ _ _ _ _ _ _ _ c.loop-bridge.invariant
    (next_seen bridge_of (head_atoms c.args.context) c.args.bridges.now c.loop-bridge.bridge-index c.bridge-item.result c.loop-bridge-test.true c.bridge-item.is) c.in_ok-add_head.ensures

pub returns : goal.returns
returns c =
    let none = drop_all c.loop-bridge.bridge-index c.args.bridges.now (omega arith) in
    c.loop-bridge.invariant _ _ (rw none (gathers_nothing _ _ _ _))
