use Rattle.std.proofs.Common.{ℕ, sym, subst, ◌∙◌}
use Rattle.mcs_classical.specs.Consequences.{with_assumed, DoFollow}
use Rattle.mcs_classical.proofs.ConsequenceLemmas.{entailed_none, entailed_more}
use Rattle.mcs_classical.proofs.bounds.entailed_with.Goals as goal
use Rattle.mcs_classical.proofs.bounds.entailed_with.Goals.{then-within, else-within}

pub loop-found-init : goal.loop-found-init
loop-found-init c fs xs goals all = entailed_none (with_assumed fs xs c.args.set) goals c.empty-entailed.result c.empty-entailed.ensures

pub loop-found-preserved : goal.loop-found-preserved
loop-found-preserved c fs xs goals all = elim c.if-within.branch [
  | then-within w ↦ entailed_more fs xs goals c.args.set c.loop-found.entailed c.if-within.entailed c.loop-found.found-index c.args.lower.now c.found-item.result c.loop-found-test.true c.found-item.is (c.within.ensures.0 w.if-within.true)
      (w.entailed-is ∙ w.union-entailed.ensures) all (c.loop-found.invariant fs xs goals all)
  | else-within w ↦ subst (λ (s : ℕ). DoFollow (with_assumed fs xs c.args.set) goals s) (sym w.entailed-is) (c.loop-found.invariant fs xs goals all)
]

pub returns : goal.returns
returns c = c.loop-found.invariant
