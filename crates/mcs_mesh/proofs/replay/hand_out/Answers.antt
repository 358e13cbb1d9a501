use Rattle.std.proofs.Common.{◌∙◌, ◌++◌, List, ap}
use Rattle.mcs_node.specs.Letters.{LetterData}
use Rattle.mcs_mesh.specs.Players.{as_new}
use Rattle.mcs_mesh.proofs.ReplayLemmas.{fewer_out, gathered, gathered_same, gathering_begun, gathering_more}
use Rattle.mcs_mesh.proofs.replay.hand_out.Goals as goal

pub loop-letter-init : goal.loop-letter-init
loop-letter-init g c = gathering_begun c.args.node.now c.new-out.result.items c.new-out.ensures.items

pub loop-letter-preserved : goal.loop-letter-preserved
loop-letter-preserved g c = gathering_more c.args.node.now c.loop-letter.node c.next_out.new.self c.loop-letter.out.items c.push.new.self.items c.in-Some.letter c.loop-letter.invariant c.in-Some.ensures c.in_ok-push.ensures.items

pub loop-letter-smaller : goal.loop-letter-smaller
loop-letter-smaller g c = fewer_out c.loop-letter.node c.next_out.new.self c.in-Some.letter c.in-Some.ensures

pub returns-in_err-push-clause-same : goal.returns-in_err-push-clause-same
returns-in_err-push-clause-same g c = ap as_new c.in-Some.ensures.rest ∙ gathered_same c.args.node.now c.loop-letter.node c.loop-letter.out.items c.loop-letter.invariant

pub returns-in_err-append-clause-same : goal.returns-in_err-append-clause-same
returns-in_err-append-clause-same g c = ap as_new c.in_default.ensures.1 ∙ gathered_same c.args.node.now c.loop-letter.node c.loop-letter.out.items c.loop-letter.invariant

pub returns-clause-out : goal.returns-clause-out
returns-clause-out g c = gathered c.args.node.now c.loop-letter.node c.next_out.new.self c.loop-letter.out.items c.args.letters.now.items c.append.new.self.items c.loop-letter.invariant c.in_default.ensures.0 c.in_default.ensures.1
    (c.in_ok-append.ensures.items ∙ ap (λ (ls : List LetterData). c.args.letters.now.items ++ ls) c.reverse.ensures.items)

pub returns-clause-same : goal.returns-clause-same
returns-clause-same g c = ap as_new c.in_default.ensures.1 ∙ gathered_same c.args.node.now c.loop-letter.node c.loop-letter.out.items c.loop-letter.invariant
