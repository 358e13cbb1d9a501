use Rattle.std.proofs.Common.{◌++◌, ◌∷◌, [], map}
use Rattle.mcs_system.specs.Seen.{bridge_of}
use Rattle.mcs_script.proofs.ShareLemmas.{AreMixed}
use Rattle.mcs_script.proofs.draft.add_shares.Given as goal

abbrev pub invariant-loop-context : goal.invariant-loop-context
invariant-loop-context l = AreMixed l.bare.contexts (map bridge_of l.rules) (map bridge_of l.rules ++ bridge_of l.rule ∷ []) l.context l.shares
