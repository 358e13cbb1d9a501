use Rattle.std.proofs.Common.{◌∙◌, ap}
use Rattle.std.specs.Prelude.{◌≡◌, Bool}
use Rattle.std.specs.Arc.{arc_value}
use Rattle.mcs_system.specs.Plain.{System}
use Rattle.mcs_script.specs.Edits.{edited, Edit}
use Rattle.mcs_script.specs.Seen.{edit_of}
use Rattle.mcs_script.proofs.ScriptLemmas.{edited_contexts}
use Rattle.mcs_session.specs.Asked.{all_keys}
use Rattle.mcs_session.specs.Sessions.{SessionState, session_of}
use Rattle.mcs_session.proofs.LendingLemmas.{edited_session}
use Rattle.mcs_session.proofs.session.Session.edit.Goals as goal

pub invariant_of-self : goal.invariant_of-self
invariant_of-self g c =
    let e : Edit = edit_of c.args.edit.now in
    let next : arc_value c.in_ok-self-inside.field-0 ≡ edited (arc_value c.self.inside.system) e
    = c.in_ok-self-inside.ensures.ok ∙ c.in_ok-next.ensures.ok.0 ∙ ap (λ (m : System). edited m e) (c.in_ok-copy.ensures ∙ c.deref.ensures) in
    edited_session (arc_value c.self.inside.system) (arc_value c.in_ok-self-inside.field-0) c.self.inside.oracles.items c.self.inside.asked.items c.self.inside.lent c.self.invariant
    (ap (λ (s : SessionState). s.lent) c.self.view_is ∙ c.requires.home) (ap (λ (m : System). m.contexts) next ∙ edited_contexts (arc_value c.self.inside.system) e)

pub returns-clause-ok : goal.returns-clause-ok
returns-clause-ok g c =
    let e : Edit = edit_of c.args.edit.now in
    let next : arc_value c.in_ok-self-inside.field-0 ≡ edited c.args.self.now.system e
    = c.in_ok-self-inside.ensures.ok ∙ c.in_ok-next.ensures.ok.0 ∙ ap (λ (m : System). edited m e) (c.in_ok-copy.ensures ∙ c.deref.ensures ∙ ap (λ (s : SessionState). s.system) c.self.view_is) in
    ap (λ (m : System). session_of m (all_keys c.self.inside.asked.items) c.self.inside.lent) next
    ∙ ap (λ (s : SessionState). session_of (edited c.args.self.now.system e) s.journals s.lent) c.self.view_is
    ∙ ap (λ (lent : Bool). session_of (edited c.args.self.now.system e) c.args.self.now.journals lent) c.requires.home
