use Rattle.std.proofs.Common.{◌≡◌, length}
use Rattle.mcs_table.proofs.MinimalLemmas.{KeptInPlace}
use Rattle.mcs_table.proofs.minimal.minimal_table.Given as goal

abbrev pub invariant-loop-i : goal.invariant-loop-i
invariant-loop-i l = KeptInPlace l.initial.rows.items l.rows.items l.i l.kept × (l.i-end ≡ length l.initial.rows.items)
