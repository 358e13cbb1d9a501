use Rattle.std.proofs.Common.{◌≤◌, ◌-◌, ◌++◌, List, length}
use Rattle.mcs_tokens.specs.Tokens.{AreTokens}
use Rattle.mcs_tokens.specs.declared.scan.Span.{Span}
use Rattle.mcs_tokens.proofs.scan.token_list.Given as goal

abbrev pub invariant-loop-spans : goal.invariant-loop-spans
invariant-loop-spans l = (l.at ≤ length l.bytes) × ((rest : List Span) → AreTokens l.bytes l.at rest → AreTokens l.bytes 0 (l.spans.items ++ rest))

abbrev pub decreases-loop-spans : goal.decreases-loop-spans
decreases-loop-spans l = length l.bytes - l.at
