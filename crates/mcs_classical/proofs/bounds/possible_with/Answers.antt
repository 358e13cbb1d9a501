use Rattle.std.proofs.Common.{ℕ, sym, subst, ◌∙◌}
use Rattle.mcs_classical.specs.Consequences.{with_assumed, NoOthersFollow}
use Rattle.mcs_classical.proofs.ConsequenceLemmas.{possible_fewer}
use Rattle.mcs_classical.proofs.bounds.possible_with.Goals as goal
use Rattle.mcs_classical.proofs.bounds.possible_with.Goals.{then-within, else-within}

pub loop-found-init : goal.loop-found-init
loop-found-init c fs xs all first found = first

pub loop-found-preserved : goal.loop-found-preserved
loop-found-preserved c fs xs all first found = elim c.if-within.branch [
  | then-within w ↦ possible_fewer fs xs all c.args.set c.loop-found.possible c.if-within.possible c.loop-found.found-index c.args.upper.now c.found-item.result c.loop-found-test.true c.found-item.is (c.within.ensures.0 w.if-within.true)
      (w.possible-is ∙ w.common-possible.ensures) found (c.loop-found.invariant fs xs all first found)
  | else-within w ↦ subst (λ (s : ℕ). NoOthersFollow (with_assumed fs xs c.args.set) all s) (sym w.possible-is) (c.loop-found.invariant fs xs all first found)
]

pub returns : goal.returns
returns c = c.loop-found.invariant
