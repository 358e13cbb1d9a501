use Rattle.std.proofs.Common.{map, drop}
use Rattle.mcs_system.specs.Seen.{bridge_of}
use Rattle.mcs_script.proofs.ShareLemmas.{GoesBy}
use Rattle.mcs_script.proofs.share.find_all.Given as goal

abbrev pub invariant-loop-rule : goal.invariant-loop-rule
invariant-loop-rule l = GoesBy l.context l.fn.share (map bridge_of l.rules) l.share (map bridge_of (drop l.rule-index l.rules))
