use Rattle.std.proofs.Common.{arith}
use Rattle.mcs_tokens.proofs.KindLemmas.{keyword_no_candidate}
use Rattle.mcs_tokens.proofs.kind.keyword_of.Goals as goal

pub returns : goal.returns
returns c = λ k e.
    keyword_no_candidate k c.args.word.now c.keywords_of-keyword-items.result.now c.keywords_of-keyword-items.ensures e (λ i d less. c.loop-keyword.invariant i d (omega (arith, less)))
