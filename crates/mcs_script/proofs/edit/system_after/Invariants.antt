use Rattle.std.proofs.Common.{◌≡◌, map, take}
use Rattle.mcs_script.specs.Drafts.{drafted}
use Rattle.mcs_script.specs.Edits.{system_after}
use Rattle.mcs_script.specs.Seen.{edit_of}
use Rattle.mcs_script.proofs.edit.system_after.Given as goal

abbrev pub invariant-loop-edit : goal.invariant-loop-edit
invariant-loop-edit l = drafted l.system l.rules.items ≡ system_after l.system (map edit_of (take l.edit-index l.edits))
