use Rattle.std.specs.List.Sorted.{IsPermutation}
use Rattle.std.proofs.lemmas.List.Sorted.{length_permutation}
use Rattle.mcs_base.proofs.Written.{written_back}
use Rattle.mcs_joint.proofs.Reducing.{reduced-trans, reduced_moved}
use Rattle.mcs_joint.proofs.reduce.reduced.Goals.{else-loop-test, then-loop-test+in_ok-reduce_each+then-not-branch}
use Rattle.mcs_joint.proofs.reduce.reduced.Goals as goal

pub loop-init : goal.loop-init
loop-init c =
    let all = c.args.tables in
    let ordered = c.put_in_order.new.tables in
    let moved : IsPermutation all.items ordered = rw c.deref_mut.ensures.value at c.put_in_order.ensures in
    rw (written_back all.items ordered all.len (length_permutation all.items ordered moved) all.ok.0) (reduced_moved c.args.level all.items ordered moved c.requires)

pub loop-preserved : goal.loop-preserved
loop-preserved c = reduced-trans c.args.level c.args.tables.items c.loop.tables.items c.reduce_each.new.tables.items c.loop.invariant c.in_ok-reduce_each.ensures

pub returns : goal.returns
returns c = elim c.loop-test.branch [
  | else-loop-test w ↦ rw w.tables-is c.loop.invariant
  | then-loop-test+in_ok-reduce_each+then-not-branch w ↦ rw w.tables-is (reduced-trans c.args.level c.args.tables.items c.loop.tables.items w.reduce_each.new.tables.items c.loop.invariant w.in_ok-reduce_each.ensures)
]
