use Rattle.std.proofs.Common.{arith}
use Rattle.std.proofs.lemmas.Bool.Decides.{nat_tests}
use Rattle.mcs_transversal.proofs.FirstLemmas.{none_noted, none_left, all_seen, nothing_new, one_noted}
use Rattle.mcs_transversal.proofs.critical_edges.first_critical_edges.Goals as goal
use Rattle.mcs_transversal.proofs.critical_edges.first_critical_edges.Goals.{in-Some, in_default}

pub loop-index-init : goal.loop-index-init
loop-index-init c = none_noted c.args.edges.now c.args.t

pub returns-then-eq : goal.returns-then-eq
returns-then-eq c = none_left c.args.edges.now c.args.t c.loop-index.index c.loop-index.left c.loop-index.firsts (let e = c.empty.ensures in let yes = c.if-eq.true in grind (arith, nat_tests)) c.loop-index.invariant

pub loop-index-preserved : goal.loop-index-preserved
loop-index-preserved c = elim c.match-new_mark.branch [
  | in-Some w ↦ rw (w.firsts-is, w.left-is, w.without-left.ensures) (one_noted c.args.edges.now c.args.t _ _ _ _ c.loop-index-test.true c.index-edges-index.is c.loop-index.invariant w.in-Some.mark w.in-Some.ensures.below w.in-Some.ensures.value.0 w.in-Some.ensures.value.1)
  | in_default w ↦ rw (w.firsts-is, w.left-is) (nothing_new c.args.edges.now c.args.t _ _ _ _ c.loop-index-test.true c.index-edges-index.is c.loop-index.invariant w.in_default.ensures.value)
]

pub returns : goal.returns
returns c = all_seen c.args.edges.now c.args.t c.loop-index.index c.loop-index.left c.loop-index.firsts (omega arith) c.loop-index.invariant
