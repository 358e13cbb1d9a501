use Rattle.std.proofs.Common.{◌≡◌, ℕ, ◌<◌, get_or}
use Rattle.mcs_base.specs.Words.{keyword_bytes}
use Rattle.mcs_base.specs.declared.keyword.Keyword.{Keyword}
use Rattle.mcs_tokens.proofs.kind.keyword_of.Given as goal

abbrev pub invariant-loop-keyword : goal.invariant-loop-keyword
invariant-loop-keyword l = (i : ℕ) (d : Keyword) → i < l.keyword-index → ¬ (l.word ≡ keyword_bytes (get_or l.keyword-items i d))
