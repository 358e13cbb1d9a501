use Rattle.std.proofs.Common.{◌≡◌, map}
use Rattle.std.specs.List.{range_with_len}
use Rattle.mcs_import.specs.Plans.{part, part_of}
use Rattle.mcs_import.proofs.share.shares.Given as goal

abbrev pub invariant-loop-i : goal.invariant-loop-i
invariant-loop-i l = map part_of l.shares.items ≡ map (part l.system l.order) (range_with_len 0 l.i)
