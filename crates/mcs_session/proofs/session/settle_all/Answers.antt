use Rattle.std.proofs.Common.{◌≡◌, ◌∙◌, get_or, length, slice_get, Some, sym, ap, arith}
use Rattle.std.proofs.lemmas.List.{length-map}
use Rattle.std.proofs.lemmas.Option.{slice_get-get_or}
use Rattle.std.specs.Global.{Vec}
use Rattle.mcs_system.specs.Seen.{context_of}
use Rattle.mcs_states.specs.Oracles.{OracleState}
use Rattle.mcs_session.specs.declared.asked.Asked.{Asked}
use Rattle.mcs_session.proofs.SettlingLemmas.{none_settled, one_more}
use Rattle.mcs_session.proofs.session.settle_all.Goals as goal

pub loop-context-init : goal.loop-context-init
loop-context-init g c = none_settled c.args.system.now c.args.asked.now c.args.oracles.now

pub loop-context-preserved : goal.loop-context-preserved
loop-context-preserved g c =
    let n = c.loop-context.context in
    let lists = c.loop-context.asked in
    let oracles = c.loop-context.oracles in
    let h = c.loop-context.invariant in
    let many : length c.contexts-context-end.result.now ≡ length c.args.system.now.contexts = sym (length-map c.contexts-context-end.result.now context_of) ∙ ap length c.contexts-context-end.ensures.value in
    let own : Vec Asked = get_or lists n c.index-asked-context.result in
    let o : OracleState = get_or oracles n c.index-oracles-context.result in
    let test = c.loop-context-test.true in
    let own_there : slice_get lists n ≡ Some own = slice_get-get_or lists n c.index-asked-context.result (omega (arith, test, many, h.same_asked, c.requires.many)) in
    let o_there : slice_get oracles n ≡ Some o = slice_get-get_or oracles n c.index-oracles-context.result (omega (arith, test, many, h.same_oracles, c.requires.one_each)) in
    one_more n c.args.system.now c.args.asked.now c.args.oracles.now c.requires c.contexts-context-end.ensures.valid lists oracles c.loop-context.answers.new c.loop-context.answers.kept h own c.close.new.asked o c.settle-settled.new.self
    c.settle-settled.result.solved.items c.settle-settled.result.kept own_there o_there c.settle-settled.ensures c.close.ensures c.len.result (c.len.ensures ∙ c.settle-settled.result.solved.ok.0)

pub returns-clause-few : goal.returns-clause-few
returns-clause-few g c =
    let few = c.contexts-context-end.ensures.few in
    let end = c.loop-context.auto.context-end in
    let new = c.loop-context.invariant.few_new in
    omega (arith, few, end, new)
