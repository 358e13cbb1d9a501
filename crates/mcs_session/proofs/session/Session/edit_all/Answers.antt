use Rattle.std.proofs.Common.{◌∙◌, ap, map, List}
use Rattle.std.specs.Prelude.{◌≡◌, Bool}
use Rattle.std.specs.Arc.{arc_value}
use Rattle.mcs_system.specs.Plain.{System}
use Rattle.mcs_script.specs.Edits.{system_after, Edit}
use Rattle.mcs_script.specs.Seen.{edit_of}
use Rattle.mcs_script.proofs.EditLemmas.{after_contexts}
use Rattle.mcs_session.specs.Asked.{all_keys}
use Rattle.mcs_session.specs.Sessions.{SessionState, session_of}
use Rattle.mcs_session.proofs.LendingLemmas.{edited_session}
use Rattle.mcs_session.proofs.session.Session.edit_all.Goals as goal

pub invariant_of-self : goal.invariant_of-self
invariant_of-self g c =
    let es : List Edit = map edit_of c.args.edits.now in
    let next : arc_value c.in_ok-self-inside.field-0 ≡ system_after (arc_value c.self.inside.system) es
    = c.in_ok-self-inside.ensures.ok ∙ c.in_ok-next.ensures ∙ ap (λ (m : System). system_after m es) c.deref.ensures in
    edited_session (arc_value c.self.inside.system) (arc_value c.in_ok-self-inside.field-0) c.self.inside.oracles.items c.self.inside.asked.items c.self.inside.lent c.self.invariant
    (ap (λ (s : SessionState). s.lent) c.self.view_is ∙ c.requires.home) (ap (λ (m : System). m.contexts) next ∙ after_contexts (arc_value c.self.inside.system) es)

pub returns-clause-ok : goal.returns-clause-ok
returns-clause-ok g c =
    let es : List Edit = map edit_of c.args.edits.now in
    let next : arc_value c.in_ok-self-inside.field-0 ≡ system_after c.args.self.now.system es
    = c.in_ok-self-inside.ensures.ok ∙ c.in_ok-next.ensures ∙ ap (λ (m : System). system_after m es) (c.deref.ensures ∙ ap (λ (s : SessionState). s.system) c.self.view_is) in
    ap (λ (m : System). session_of m (all_keys c.self.inside.asked.items) c.self.inside.lent) next
    ∙ ap (λ (s : SessionState). session_of (system_after c.args.self.now.system es) s.journals s.lent) c.self.view_is
    ∙ ap (λ (lent : Bool). session_of (system_after c.args.self.now.system es) c.args.self.now.journals lent) c.requires.home
