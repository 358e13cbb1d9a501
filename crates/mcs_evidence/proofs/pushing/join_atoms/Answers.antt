use Rattle.std.proofs.Common.{◌++◌, arith}
use Rattle.mcs_system.specs.Plain.{Atom}
use Rattle.mcs_evidence.specs.Programs.{atoms_as}
use Rattle.mcs_base.proofs.Mapped.{map-drop_more, all_drop_parts}
use Rattle.mcs_evidence.proofs.PushingLemmas.{conjoining}
use Rattle.mcs_evidence.proofs.pushing.join_atoms.Goals as goal

pub loop-name-preserved : goal.loop-name-preserved
loop-name-preserved c =
    let names = c.args.names.now in
    let i = c.loop-name.name-index in
    let name = c.name-item.result in
    let before = c.loop-name.invariant in
    let last = c.in_ok-n.ensures in
    record {
      grows = omega (arith, before.grows, last.grows);
      over = (all_drop_parts _ names i name c.loop-name-test.true c.name-item.is before.over).1;
      part = last.number;
      joined = λ start fs h. conjoining c.args.atoms.now (fs ++ atoms_as names) _ _ (Atom name) start c.loop-name.cnf c.loop-name.cnf c.join.new.cnf c.loop-name.all c.atom_of-x.result c.in_ok-n.n
          (map-drop_more Atom names i name c.loop-name-test.true c.name-item.is) (before.joined start fs h) c.atom_of-x.ensures.occurs last.joined;
    }
