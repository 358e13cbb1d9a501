use Rattle.std.proofs.Common.{◌∙◌}
use Rattle.std.proofs.lemmas.List.Sorted.{IsPermutation-trans}
use Rattle.mcs_joint.proofs.order.move_up.Goals as goal

pub loop-k-preserved : goal.loop-k-preserved
loop-k-preserved c = (IsPermutation-trans c.args.tables.now c.loop-k.tables c.swap.new.self c.loop-k.invariant.0 c.swap.ensures.permutation, c.swap.ensures.len ∙ c.loop-k.invariant.1)
