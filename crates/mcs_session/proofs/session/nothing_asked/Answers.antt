use Rattle.std.proofs.Common.{◌≡◌, ◌∙◌, length, sym, ap, arith}
use Rattle.std.proofs.lemmas.List.{length-map}
use Rattle.mcs_system.specs.Seen.{context_of}
use Rattle.mcs_session.proofs.AskedLemmas.{nothing_yet}
use Rattle.mcs_session.proofs.session.nothing_asked.Goals as goal

pub returns : goal.returns
returns c =
    let many : length c.contexts-end.result.now ≡ length c.args.system.now.contexts = sym (length-map c.contexts-end.result.now context_of) ∙ ap length c.contexts-end.ensures.value in
    nothing_yet c.args.system.now c.loop.asked.items (let t = c.loop-test.false in let e = c.loop.auto.counter-end in omega (arith, t, e, c.loop.invariant.many, many)) c.loop.invariant.empty
