use Rattle.std.proofs.Common.{sym, ap, ◌∙◌, arith}
use Rattle.mcs_base.specs.Words.{keyword_bytes}
use Rattle.mcs_base.proofs.KeywordLemmas.{keyword_place, keyword_listed}
use Rattle.mcs_base.proofs.keyword.Keyword.of.Goals as goal

pub returns : goal.returns
returns c = λ k e. c.loop-keyword.invariant (keyword_place k) k (omega (arith, (keyword_listed k).0)) (e ∙ ap keyword_bytes (sym (keyword_listed k).1))
