use Rattle.std.proofs.Common.{◌≡◌, ◌∙◌, ℕ, [], length, get_or, slice_get, Some, sym, ap, arith}
use Rattle.std.proofs.lemmas.List.{length-map}
use Rattle.std.proofs.lemmas.Option.{slice_get-get_or}
use Rattle.mcs_base.proofs.Written.{image_kept}
use Rattle.mcs_system.specs.Imports.{rules_into}
use Rattle.mcs_system.specs.Plain.{System}
use Rattle.mcs_system.specs.Seen.{context_of}
use Rattle.mcs_states.specs.Oracles.{with_journal, OracleState}
use Rattle.mcs_session_tests.proofs.SessionLemmas.{still_own}
use Rattle.mcs_session_tests.proofs.sessions.ask_all.Goals as goal

pub ask_each-requires : goal.ask_each-requires
ask_each-requires c =
    let oracles = c.loop-context.oracles in
    let i = c.loop-context.context in
    let own = still_own c.args.system.now c.args.oracles.now oracles c.requires c.loop-context.invariant in
    let o : OracleState = get_or oracles i c.index-oracles-context.result in
    let many : length c.contexts-context-end.result.now ≡ length c.args.system.now.contexts = sym (length-map c.contexts-context-end.result.now context_of) ∙ ap length c.contexts-context-end.ensures.value in
    let there : slice_get oracles i ≡ Some o = slice_get-get_or oracles i c.index-oracles-context.result (let t = c.loop-context-test.true in let l = own.one_each in omega (arith, t, l, many)) in
    let its = own.own i o there in
    c.rules_of-rules.ensures ∙ sym (ap (λ (m : System). rules_into m i) its.0) ∙ sym (ap (λ (k : ℕ). rules_into o.system k) its.1)

pub loop-context-preserved : goal.loop-context-preserved
loop-context-preserved c =
    let oracles = c.loop-context.oracles in
    let i = c.loop-context.context in
    let own = still_own c.args.system.now c.args.oracles.now oracles c.requires c.loop-context.invariant in
    let o : OracleState = get_or oracles i c.index-oracles-context.result in
    let many : length c.contexts-context-end.result.now ≡ length c.args.system.now.contexts = sym (length-map c.contexts-context-end.result.now context_of) ∙ ap length c.contexts-context-end.ensures.value in
    let there : slice_get oracles i ≡ Some o = slice_get-get_or oracles i c.index-oracles-context.result (let t = c.loop-context-test.true in let l = own.one_each in omega (arith, t, l, many)) in
    image_kept (with_journal []) oracles i o c.ask_each.new.oracle there c.ask_each.ensures ∙ c.loop-context.invariant
