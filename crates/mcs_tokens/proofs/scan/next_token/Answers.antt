use Rattle.std.proofs.Common.{arith}
use Rattle.mcs_tokens.proofs.Gaps.{next_there}
use Rattle.mcs_tokens.proofs.scan.next_token.Goals as goal

pub returns : goal.returns
returns c =
    let e = c.gap_end-from.ensures in
    next_there c.args.bytes.now c.args.at c.gap_end-from.result c.token_len.result e.inside.0 (omega arith) e.gap (e.ended (omega arith)) c.token_len.ensures.inside.0 c.token_len.ensures.inside.1 c.token_len.ensures.token
