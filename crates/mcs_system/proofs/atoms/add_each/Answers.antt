use Rattle.std.proofs.Common.{arith}
use Rattle.std.proofs.lemmas.List.{drop_all}
use Rattle.mcs_system.proofs.GatherLemmas.{goes_on, goes_cut, gathers_nothing}
use Rattle.mcs_system.proofs.atoms.add_each.Goals as goal
use Rattle.mcs_base.proofs.Ranges.{next_seen}

pub returns-in_err-add_atoms : goal.returns-in_err-add_atoms
returns-in_err-add_atoms g c = goes_cut _ _ _ _ _ _ _ _ _ _ _ c.loop-part.invariant
    (next_seen g.T.HasAtoms.seen g.T.HasAtoms.atoms c.args.parts.now c.loop-part.part-index c.part-item.result c.loop-part-test.true c.part-item.is) c.from_residual.ensures.1 c.in_err-add_atoms.ensures

pub loop-part-preserved : goal.loop-part-preserved
loop-part-preserved g c = goes_on _ _ _ _ _ _ _ _ _ _ c.loop-part.invariant
    (next_seen g.T.HasAtoms.seen g.T.HasAtoms.atoms c.args.parts.now c.loop-part.part-index c.part-item.result c.loop-part-test.true c.part-item.is) c.in_ok-add_atoms.ensures

pub returns : goal.returns
returns g c =
    let none = drop_all c.loop-part.part-index c.args.parts.now (omega arith) in
    c.loop-part.invariant _ _ (rw none (gathers_nothing _ _ _ _))
