use Rattle.std.proofs.Common.{[], ◌∷◌, arith}
use Rattle.mcs_tokens.proofs.Gaps.{ended_there}
use Rattle.mcs_language.proofs.SpanLemmas.{inside}
use Rattle.mcs_language.proofs.reading.pass_tokens.Goals as goal

pub loop-start-init : goal.loop-start-init
loop-start-init c = record { inside = c.requires; before = λ rest are. (rest, are) }

pub returns-then-from-bytes : goal.returns-then-from-bytes
returns-then-from-bytes c =
    c.loop-start.invariant.before [] (ended_there c.args.bytes.now c.loop-start.at c.next_token-from.result.0 c.next_token-from.result.1 c.next_token-from.ensures c.if-from-bytes.true)

pub loop-start-preserved : goal.loop-start-preserved
loop-start-preserved c =
    let there = inside c.args.bytes.now c.loop-start.at c.next_token-from.result.0 c.next_token-from.result.1 c.next_token-from.ensures c.if-from-bytes.false in
    record {
      inside = there.2;
      before = λ rest are. c.loop-start.invariant.before (record { from = c.next_token-from.result.0; to = c.next_token-from.result.1 } ∷ rest) (c.next_token-from.ensures, there.0, are);
    }

pub loop-start-smaller : goal.loop-start-smaller
loop-start-smaller c =
    let there = inside c.args.bytes.now c.loop-start.at c.next_token-from.result.0 c.next_token-from.result.1 c.next_token-from.ensures c.if-from-bytes.false in
    omega (arith, there, c.next_token-from.ensures.after)
