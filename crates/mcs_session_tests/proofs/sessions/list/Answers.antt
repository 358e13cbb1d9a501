use Rattle.std.proofs.Common.{◌≡◌, ◌∙◌, [], List, length, map, sym, ap, subst}
use Rattle.mcs_states.specs.Oracles.{with_journal, OracleState}
use Rattle.mcs_system.specs.Plain.{System}
use Rattle.mcs_session.specs.Sessions.{SessionState, MayComeBack}
use Rattle.mcs_session_tests.specs.Sessions.{AreOwn}
use Rattle.mcs_session_tests.proofs.SessionLemmas.{as_many, lent_own, come_back, whole_written}
use Rattle.mcs_session_tests.proofs.sessions.list.Goals as goal

pub ask_all-are_answered-requires : goal.ask_all-are_answered-requires
ask_all-are_answered-requires c =
    let own = lent_own c.args.session.now c.in-Ok.oracles.items c.in-Ok.ensures.oracles in
    subst (λ (m : System). AreOwn m c.deref_mut.result.now) (sym (c.deref.ensures ∙ c.system.ensures ∙ ap (λ (s : SessionState). s.system) c.in-Ok.ensures.lent))
    (subst (λ (os : List OracleState). AreOwn c.args.session.now.system os) (sym c.deref_mut.ensures.value) own)

pub give_back-answers-requires-clause-own : goal.give_back-answers-requires-clause-own
give_back-answers-requires-clause-own c =
    let now : List OracleState = c.ask_all-are_answered.new.oracles in
    let first : List OracleState = c.in-Ok.oracles.items in
    let same : map (with_journal []) now ≡ map (with_journal []) first = c.ask_all-are_answered.ensures ∙ ap (map (with_journal [])) c.deref_mut.ensures.value in
    let long : length now ≡ c.in-Ok.oracles.len = as_many first now same ∙ sym (ap length c.deref_mut.ensures.value) ∙ c.deref_mut.ensures.len in
    subst (λ (os : List OracleState). MayComeBack c.lend.new.self os) (sym (whole_written c.in-Ok.oracles.len now first long))
    (come_back c.args.session.now c.lend.new.self first now c.in-Ok.ensures.lent c.in-Ok.ensures.oracles same)
