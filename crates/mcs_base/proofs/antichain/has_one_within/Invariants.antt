use Rattle.std.proofs.Common.{◌↔◌, drop}
use Rattle.mcs_base.specs.Antichains.{HasOneWithin}
use Rattle.mcs_base.proofs.antichain.has_one_within.Given as goal

abbrev pub invariant-loop-set : goal.invariant-loop-set
invariant-loop-set l = HasOneWithin l.sets l.m ↔ HasOneWithin (drop l.set-index l.sets) l.m
