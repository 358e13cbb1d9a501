use Rattle.std.proofs.Common.{◌≡◌, ℕ, Some, slice_get, length}
use Rattle.mcs_grounded.specs.Parts.{IsConeFor}
use Rattle.mcs_grounded.specs.declared.cone.Cone.{Cone}
use Rattle.mcs_grounded.proofs.cone.cones_of.Given as goal

-- so many of the contexts have one
abbrev pub invariant-loop-context : goal.invariant-loop-context
invariant-loop-context l = record {
  one_each : length l.cones.items ≡ l.context;
  own : (i : ℕ) (c : Cone) → slice_get l.cones.items i ≡ Some c → IsConeFor l.system i c;
}
