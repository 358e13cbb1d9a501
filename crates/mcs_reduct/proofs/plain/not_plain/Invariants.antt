use Rattle.std.proofs.Common.{ℕ, ◌<◌, Some, slice_get, IsTrue, ◌≡◌}
use Rattle.mcs_system.specs.Plain.{Context}
use Rattle.mcs_reduct.specs.Plain.{is_plain}
use Rattle.mcs_reduct.proofs.plain.not_plain.Given as goal

-- each context before is plain
abbrev pub invariant-loop-number : goal.invariant-loop-number
invariant-loop-number l = (j : ℕ) (c : Context) → j < l.number → slice_get l.system.contexts j ≡ Some c → IsTrue (is_plain c.kb)
