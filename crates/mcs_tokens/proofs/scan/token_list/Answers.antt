use Rattle.std.proofs.Common.{subst, [], append-nil, arith}
use Rattle.std.proofs.lemmas.Grind.{common_steps}
use Rattle.std.proofs.lemmas.List.Elements.{All-from_recursion}
use Rattle.mcs_tokens.specs.Tokens.{AreTokens, IsSpanOf}
use Rattle.mcs_tokens.proofs.Gaps.{ended_there, are_spans}
use Rattle.mcs_tokens.proofs.scan.token_list.Goals as goal

pub returns-then-from-bytes : goal.returns-then-from-bytes
returns-then-from-bytes c =
    let whole =
    subst (AreTokens c.args.bytes.now 0) (append-nil c.loop-spans.spans.items)
    (c.loop-spans.invariant.1 [] (ended_there c.args.bytes.now c.loop-spans.at c.next_token-from.result.0 c.next_token-from.result.1 c.next_token-from.ensures c.if-from-bytes.true)) in
    record {
      tokens = whole;
      inside = All-from_recursion (IsSpanOf c.args.bytes.now) c.loop-spans.spans.items (are_spans c.args.bytes.now 0 c.loop-spans.spans.items whole);
    }

pub loop-spans-preserved : goal.loop-spans-preserved
loop-spans-preserved c = grind (arith, common_steps)
