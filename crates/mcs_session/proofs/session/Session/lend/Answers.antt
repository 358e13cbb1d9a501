use Rattle.std.proofs.Common.{◌≡◌, ◌∙◌, ◌++◌, List, map, length, take, drop, refl, sym, ap, subst}
use Rattle.std.proofs.lemmas.Result.{err_from_is_err_and}
use Rattle.std.specs.Arc.{arc_value}
use Rattle.std.specs.Global.{Vec}
use Rattle.mcs_base.proofs.Written.{written_back}
use Rattle.mcs_system.specs.Plain.{System}
use Rattle.mcs_states.specs.Oracles.{OracleState}
use Rattle.mcs_session.specs.Asked.{all_keys}
use Rattle.mcs_session.specs.Inside.{AreOpen}
use Rattle.mcs_session.specs.Keys.{Key}
use Rattle.mcs_session.specs.Sessions.{of_system, session_of, AreLent, HasRenewedSome, SessionState}
use Rattle.mcs_session.specs.declared.asked.Asked.{Asked}
use Rattle.mcs_session.proofs.LendingLemmas.{as_many_lists, lent_ones, none_asked, not_lent, still_home, while_lent}
use Rattle.mcs_session.proofs.session.Session.lend.Goals as goal

pub renew_all-requires : goal.renew_all-requires
renew_all-requires g c =
    let m : System = arc_value c.self.inside.system in
    let asked : List (Vec Asked) = c.self.inside.asked.items in
    let home = c.self.invariant.home (ap (λ (s : SessionState). s.lent) c.self.view_is ∙ c.requires) in
    rw c.deref_mut-2.ensures.value (none_asked m (all_keys asked) c.self.inside.oracles.items home (as_many_lists asked ∙ c.self.invariant.many))

pub invariant_of-self-in_err-renew_all : goal.invariant_of-self-in_err-renew_all
invariant_of-self-in_err-renew_all g c =
    let m : System = arc_value c.self.inside.system in
    let asked : List (Vec Asked) = c.self.inside.asked.items in
    let asked' : List (Vec Asked) = c.open_all.new.asked in
    let back : List (Vec Asked) = take c.self.inside.asked.len (asked' ++ drop (length asked') asked) in
    let asked_is : back ≡ asked' = written_back asked asked' c.self.inside.asked.len (c.open_all.auto.asked ∙ ap length c.deref_mut.ensures.value) c.self.inside.asked.ok.0 in
    let same : all_keys back ≡ all_keys asked = ap all_keys asked_is ∙ c.in_ok-open_all.ensures.same ∙ ap all_keys c.deref_mut.ensures.value in
    let oracles : List OracleState = c.self.inside.oracles.items in
    let oracles' : List OracleState = c.renew_all.new.oracles in
    let oracles_are : take c.self.inside.oracles.len (oracles' ++ drop (length oracles') oracles) ≡ oracles' = written_back oracles oracles' c.self.inside.oracles.len (c.renew_all.auto.oracles ∙ ap length c.deref_mut-2.ensures.value) c.self.inside.oracles.ok.0 in
    let some : HasRenewedSome m oracles oracles' = subst (λ (os : List OracleState). HasRenewedSome m os oracles') c.deref_mut-2.ensures.value c.in_err-renew_all.ensures.err in
    not_lent m oracles (take c.self.inside.oracles.len (oracles' ++ drop (length oracles') oracles)) asked back c.self.inside.lent c.self.invariant (ap (λ (s : SessionState). s.lent) c.self.view_is ∙ c.requires) same
    (λ home. still_home m (all_keys asked) oracles home (as_many_lists asked ∙ c.self.invariant.many) (take c.self.inside.oracles.len (oracles' ++ drop (length oracles') oracles)) (subst (HasRenewedSome m oracles) (sym oracles_are) some))

pub returns-in_err-renew_all-clause-err : goal.returns-in_err-renew_all-clause-err
returns-in_err-renew_all-clause-err g c =
    let m : System = arc_value c.self.inside.system in
    let asked : List (Vec Asked) = c.self.inside.asked.items in
    let asked' : List (Vec Asked) = c.open_all.new.asked in
    let back : List (Vec Asked) = take c.self.inside.asked.len (asked' ++ drop (length asked') asked) in
    let asked_is : back ≡ asked' = written_back asked asked' c.self.inside.asked.len (c.open_all.auto.asked ∙ ap length c.deref_mut.ensures.value) c.self.inside.asked.ok.0 in
    let same : all_keys back ≡ all_keys asked = ap all_keys asked_is ∙ c.in_ok-open_all.ensures.same ∙ ap all_keys c.deref_mut.ensures.value in
    let p = err_from_is_err_and c.from_residual-in_err-renew_all.result c.from_residual-in_err-renew_all.ensures.1 in
    rw (p.1) (ap (λ (keys : List (List Key)). session_of m keys c.self.inside.lent) same ∙ c.self.view_is)

pub invariant_of-self-2 : goal.invariant_of-self-2
invariant_of-self-2 g c =
    let m : System = arc_value c.self.inside.system in
    let asked : List (Vec Asked) = c.self.inside.asked.items in
    let asked' : List (Vec Asked) = c.open_all.new.asked in
    let back : List (Vec Asked) = take c.self.inside.asked.len (asked' ++ drop (length asked') asked) in
    let asked_is : back ≡ asked' = written_back asked asked' c.self.inside.asked.len (c.open_all.auto.asked ∙ ap length c.deref_mut.ensures.value) c.self.inside.asked.ok.0 in
    let same : all_keys back ≡ all_keys asked = ap all_keys asked_is ∙ c.in_ok-open_all.ensures.same ∙ ap all_keys c.deref_mut.ensures.value in
    while_lent m c.self.inside.oracles.items c.replace.new.dest.items asked back c.self.inside.lent _ c.self.invariant same (subst (AreOpen m) (sym asked_is) c.in_ok-open_all.ensures.open) refl

pub returns-clause-oracles : goal.returns-clause-oracles
returns-clause-oracles g c =
    let m : System = arc_value c.self.inside.system in
    let asked : List (Vec Asked) = c.self.inside.asked.items in
    let oracles : List OracleState = c.self.inside.oracles.items in
    let oracles' : List OracleState = c.renew_all.new.oracles in
    let oracles_are : take c.self.inside.oracles.len (oracles' ++ drop (length oracles') oracles) ≡ oracles' = written_back oracles oracles' c.self.inside.oracles.len (c.renew_all.auto.oracles ∙ ap length c.deref_mut-2.ensures.value) c.self.inside.oracles.ok.0 in
    let are : c.replace.result.items ≡ map (of_system m) oracles = ap (λ (v : Vec OracleState). v.items) c.replace.ensures.value ∙ oracles_are ∙ c.in_ok-renew_all.ensures.ok ∙ ap (map (of_system m)) c.deref_mut-2.ensures.value in
    let home = c.self.invariant.home (ap (λ (s : SessionState). s.lent) c.self.view_is ∙ c.requires) in
    subst (λ (s : SessionState). AreLent s c.replace.result.items) c.self.view_is
    (subst (AreLent (session_of m (all_keys asked) c.self.inside.lent)) (sym are) (lent_ones m (all_keys asked) oracles home (as_many_lists asked ∙ c.self.invariant.many) c.self.inside.lent))
