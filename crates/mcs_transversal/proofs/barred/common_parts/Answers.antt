use Rattle.std.proofs.Common.{arith}
use Rattle.mcs_transversal.proofs.BarredLemmas.{none_narrowed, all_narrowed, nothing_narrowed, narrowed_with}
use Rattle.mcs_transversal.proofs.barred.common_parts.Goals as goal
use Rattle.mcs_transversal.proofs.barred.common_parts.Goals.{in-Some, in_default}

pub loop-edge-init : goal.loop-edge-init
loop-edge-init c = none_narrowed c.args.edges.now c.args.t c.args.most

pub loop-edge-preserved : goal.loop-edge-preserved
loop-edge-preserved c = elim c.match-only_common.branch [
  | in-Some w ↦ rw (w.parts-is, w.common-part.ensures) (narrowed_with c.args.edges.now c.args.t _ _ _ c.loop-edge-test.true c.edge-item.is c.loop-edge.invariant w.index-parts-mark.result w.in-Some.mark w.in-Some.ensures.below w.in-Some.ensures.value)
  | in_default w ↦ rw (w.parts-is) (nothing_narrowed c.args.edges.now c.args.t _ _ _ c.loop-edge-test.true c.edge-item.is c.loop-edge.invariant w.in_default.ensures.value)
]

pub returns : goal.returns
returns c = all_narrowed c.args.edges.now c.args.t _ _ (omega arith) c.loop-edge.invariant
