use Rattle.std.proofs.Common.{◌≡◌, ◌∙◌, ◌++◌, List, length, take, drop, false, sym, ap, subst}
use Rattle.std.specs.Arc.{arc_value}
use Rattle.std.specs.Global.{Vec}
use Rattle.mcs_base.proofs.Written.{written_back}
use Rattle.mcs_system.specs.Plain.{System}
use Rattle.mcs_states.specs.Oracles.{OracleState}
use Rattle.mcs_session.specs.Asked.{all_keys}
use Rattle.mcs_session.specs.Inside.{AreReturned, AreSettled, IsSession}
use Rattle.mcs_session.specs.Sessions.{session_of, HasBack, SessionState}
use Rattle.mcs_session.specs.declared.asked.Asked.{Asked}
use Rattle.mcs_session.proofs.SettlingLemmas.{came_back, home_again, may_settle}
use Rattle.mcs_session.proofs.session.Session.give_back.Given.{Over}
use Rattle.mcs_session.proofs.session.Session.give_back.Goals as goal

pub settle_all-answers-requires : goal.settle_all-answers-requires
settle_all-answers-requires g c = rw (c.deref.ensures, c.deref_mut.ensures.value, c.deref_mut-2.ensures.value)
    (may_settle (arc_value c.self.inside.system) c.self.inside.oracles.items c.args.oracles.items c.self.inside.asked.items c.self.inside.lent c.args.self.now c.self.invariant c.self.view_is c.requires.lent c.requires.own)

returned : (g : Over) (c : goal.After-drop g) → AreReturned (arc_value c.self.inside.system) c.self.inside.asked.items c.args.oracles.items
returned g c = may_settle (arc_value c.self.inside.system) c.self.inside.oracles.items c.args.oracles.items c.self.inside.asked.items c.self.inside.lent c.args.self.now c.self.invariant c.self.view_is c.requires.lent c.requires.own

settled : (g : Over) (c : goal.After-drop g) → AreSettled (length (arc_value c.self.inside.system).contexts) (arc_value c.self.inside.system) c.self.inside.asked.items c.args.oracles.items c.settle_all-answers.new.asked c.settle_all-answers.new.oracles
    c.settle_all-answers.result.new c.settle_all-answers.result.kept
settled g c = rw (c.deref.ensures, c.deref_mut.ensures.value, c.deref_mut-2.ensures.value) at c.settle_all-answers.ensures.settled

asked_are : (g : Over) (c : goal.After-drop g) → take c.self.inside.asked.len (c.settle_all-answers.new.asked ++ drop (length c.settle_all-answers.new.asked) c.self.inside.asked.items) ≡ c.settle_all-answers.new.asked
asked_are g c = written_back c.self.inside.asked.items c.settle_all-answers.new.asked c.self.inside.asked.len (c.settle_all-answers.auto.asked ∙ ap length c.deref_mut.ensures.value) c.self.inside.asked.ok.0

pub invariant_of-self : goal.invariant_of-self
invariant_of-self g c =
    let m : System = arc_value c.self.inside.system in
    let oracles : List OracleState = c.args.oracles.items in
    let asked' : List (Vec Asked) = c.settle_all-answers.new.asked in
    let oracles' : List OracleState = c.settle_all-answers.new.oracles in
    let are : c.replace.new.dest.items ≡ oracles' = ap (λ (v : Vec OracleState). v.items) c.replace.ensures.after ∙ written_back oracles oracles' c.args.oracles.len (c.settle_all-answers.auto.oracles ∙ ap length c.deref_mut-2.ensures.value) c.args.oracles.ok.0 in
    let home = home_again m c.self.inside.asked.items asked' oracles oracles' c.settle_all-answers.result.new c.settle_all-answers.result.kept (returned g c) (settled g c) in
    subst (λ (os : List OracleState). IsSession m os (take c.self.inside.asked.len (asked' ++ drop (length asked') c.self.inside.asked.items)) false) (sym are)
    (subst (λ (lists : List (Vec Asked)). IsSession m oracles' lists false) (sym (asked_are g c)) home)

pub returns-clause-back : goal.returns-clause-back
returns-clause-back g c =
    let m : System = arc_value c.self.inside.system in
    let asked : List (Vec Asked) = c.self.inside.asked.items in
    let oracles : List OracleState = c.args.oracles.items in
    let asked' : List (Vec Asked) = c.settle_all-answers.new.asked in
    let new = c.settle_all-answers.result.new in
    let kept = c.settle_all-answers.result.kept in
    let back = came_back m asked asked' oracles c.settle_all-answers.new.oracles new kept (returned g c) (settled g c) c.self.inside.lent false in
    subst (λ (s : SessionState). HasBack s oracles (session_of m (all_keys (take c.self.inside.asked.len (asked' ++ drop (length asked') asked))) false) new kept) c.self.view_is
    (subst (λ (lists : List (Vec Asked)). HasBack (session_of m (all_keys asked) c.self.inside.lent) oracles (session_of m (all_keys lists) false) new kept) (sym (asked_are g c)) back)
