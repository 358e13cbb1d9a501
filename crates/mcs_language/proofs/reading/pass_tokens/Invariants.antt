use Rattle.std.proofs.Common.{◌≤◌, ◌-◌, List, length}
use Rattle.mcs_tokens.specs.Tokens.{AreTokens}
use Rattle.mcs_tokens.specs.declared.scan.Span.{Span}
use Rattle.mcs_language.proofs.reading.pass_tokens.Given as goal

abbrev pub invariant-loop-start : goal.invariant-loop-start
invariant-loop-start l = record {
  inside : l.at ≤ length l.bytes;
  before : (rest : List Span) → AreTokens l.bytes l.at rest → (spans : List Span) × AreTokens l.bytes l.start spans;
}

abbrev pub decreases-loop-start : goal.decreases-loop-start
decreases-loop-start l = length l.bytes - l.at
