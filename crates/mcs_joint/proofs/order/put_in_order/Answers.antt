use Rattle.std.proofs.Common.{◌∙◌}
use Rattle.std.proofs.lemmas.List.Sorted.{IsPermutation-trans, length_permutation}
use Rattle.mcs_joint.proofs.order.put_in_order.Goals as goal

pub loop-k-preserved : goal.loop-k-preserved
loop-k-preserved c = (IsPermutation-trans c.args.tables.now c.loop-k.tables c.move_up.new.tables c.loop-k.invariant.0 c.move_up.ensures, length_permutation c.loop-k.tables c.move_up.new.tables c.move_up.ensures ∙ c.loop-k.invariant.1)
