use Rattle.std.proofs.Common.{◌↔◌, drop}
use Rattle.mcs_base.specs.Antichains.{HasOneWithin}
use Rattle.mcs_table.proofs.known.holds_one.Given as goal

abbrev pub invariant-loop-set : goal.invariant-loop-set
invariant-loop-set l = HasOneWithin l.sets l.marks ↔ HasOneWithin (drop l.set-index l.sets) l.marks
