use Rattle.std.proofs.Common.{◌≡◌}
use Rattle.mcs_import.specs.Fewest.{picked}
use Rattle.mcs_import.proofs.fewest.picked.Given as goal

abbrev pub invariant-loop-place : goal.invariant-loop-place
invariant-loop-place l = l.near.items ≡ picked l.all l.fewest l.most l.place
