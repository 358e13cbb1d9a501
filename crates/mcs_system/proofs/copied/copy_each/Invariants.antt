use Rattle.std.proofs.Common.{◌≡◌, map, take}
use Rattle.mcs_system.proofs.copied.copy_each.Given as goal

abbrev pub invariant-loop-item : goal.invariant-loop-item
invariant-loop-item g l = map g.T.Copied.seen l.copies.items ≡ map g.T.Copied.seen (take l.item-index l.items)
