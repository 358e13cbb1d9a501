use Rattle.std.proofs.Common.{◌≡◌, ℕ, length, map, slice_get, Some}
use Rattle.mcs_system.specs.Seen.{bridge_of}
use Rattle.mcs_script.specs.declared.share.Share.{Share}
use Rattle.mcs_script.specs.Found.{IsShare}
use Rattle.mcs_script.proofs.draft.shares_of.Given as goal

abbrev pub invariant-loop-context : goal.invariant-loop-context
invariant-loop-context l = record {
  so_far : length l.shares.items ≡ l.context;
  each : (i : ℕ) (s : Share) → slice_get l.shares.items i ≡ Some s → IsShare i l.bare.contexts (map bridge_of l.rules) s;
}
