use Rattle.std.proofs.Common.{◌∙◌, ap, length, map, refl, subst, sym}
use Rattle.mcs_base.proofs.Results.{err_told}
use Rattle.mcs_mesh.specs.Rounds.{AreFresh}
use Rattle.mcs_system.specs.Plain.{System}
use Rattle.mcs_states.specs.Oracles.{OracleState}
use Rattle.mcs_listing.specs.Listings.{AreSure}
use Rattle.mcs_listing.proofs.DeviceLemmas.{still, sink_cut, sink_err, sink_then, sink_wrote}
use Rattle.mcs_session.specs.Sessions.{SessionState}
use Rattle.mcs_editing.proofs.CourseLemmas.{StopsSo, as_they_are, back_home, come_back, cut_before_work, cut_in_answers, cut_in_line, cut_in_work, lent_fresh, lent_sure, listed_next, printed_as}
use Rattle.mcs_editing.proofs.course.list_next.Goals as goal

-- ---- the line
pub returns-in_err-print_list_line-clause-sink : goal.returns-in_err-print_list_line-clause-sink
returns-in_err-print_list_line-clause-sink g c = sink_cut _ _ _ _ _ c.from_residual.ensures.1 c.in_err-print_list_line.ensures

pub returns-in_err-print_list_line-clause-stop : goal.returns-in_err-print_list_line-clause-stop
returns-in_err-print_list_line-clause-stop g c =
    let before = g.K.Sink.device c.args.sink.now in
    let mid = g.K.Sink.device c.print_list_line.new.sink in
    err_told (λ stop. StopsSo c.args.budget c.args.many c.args.session.now before stop mid) _ _ c.from_residual.ensures.1
    (cut_in_line c.args.budget c.args.many c.args.session.now before _ _ (c.deref.ensures ∙ c.system.ensures) refl _ mid c.in_err-print_list_line.ensures)

-- ---- the oracles are lent
pub returns-in_err-lent-clause-sink : goal.returns-in_err-lent-clause-sink
returns-in_err-lent-clause-sink g c = sink_then _ _ _ _ _ (sink_wrote _ _ _ _ (tt {0}) c.in_ok-print_list_line.ensures) (still (g.K.Sink.device c.print_list_line.new.sink) _)

pub returns-in_err-lent-clause-stop : goal.returns-in_err-lent-clause-stop
returns-in_err-lent-clause-stop g c =
    let before = g.K.Sink.device c.args.sink.now in
    let mid = g.K.Sink.device c.print_list_line.new.sink in
    err_told (λ stop. StopsSo c.args.budget c.args.many c.args.session.now before stop mid) _ _ c.from_residual-in_err-lent.ensures.1
    (cut_before_work c.args.budget c.args.many c.args.session.now before _ _ (c.deref.ensures ∙ c.system.ensures) refl mid _ c.in_ok-print_list_line.ensures)

-- ---- the listing
pub solve-requires-clause-one_each : goal.solve-requires-clause-one_each
solve-requires-clause-one_each g c =
    let same = c.system-2.ensures ∙ ap (λ (t : SessionState). t.system) c.in_ok-lent.ensures.lent in
    c.in_ok-lent.ensures.oracles.one_each ∙ sym (ap (λ (m : System). length m.contexts) same)

pub solve-requires-clause-own : goal.solve-requires-clause-own
solve-requires-clause-own g c =
    let lent = c.in_ok-lent.lent.items in
    let same = c.system-2.ensures ∙ ap (λ (t : SessionState). t.system) c.in_ok-lent.ensures.lent in
    subst (λ (m : System). AreFresh m (map (λ (o : OracleState). o) lent)) (sym same)
    (subst (AreFresh c.args.session.now.system) (sym (as_they_are lent)) (lent_fresh c.args.session.now lent c.in_ok-lent.ensures.oracles))

pub solve-requires-clause-sure : goal.solve-requires-clause-sure
solve-requires-clause-sure g c =
    let lent = c.in_ok-lent.lent.items in
    subst AreSure (sym (as_they_are lent)) (lent_sure c.args.session.now lent c.in_ok-lent.ensures.oracles)

pub returns-in_err-back-clause-sink : goal.returns-in_err-back-clause-sink
returns-in_err-back-clause-sink g c = sink_then _ _ _ _ _ (sink_wrote _ _ _ _ (tt {0}) c.in_ok-print_list_line.ensures) (sink_err _ _ _ _ c.from_residual-in_err-back.ensures.1 c.in_err-back.ensures.sink)

pub returns-in_err-back-clause-stop : goal.returns-in_err-back-clause-stop
returns-in_err-back-clause-stop g c =
    let before = g.K.Sink.device c.args.sink.now in
    let mid = g.K.Sink.device c.print_list_line.new.sink in
    let now = g.K.Sink.device c.solve.new.sink in
    let same = c.system-2.ensures ∙ ap (λ (t : SessionState). t.system) c.in_ok-lent.ensures.lent in
    err_told (λ stop. StopsSo c.args.budget c.args.many c.args.session.now before stop now) _ _ c.from_residual-in_err-back.ensures.1
    (cut_in_work c.args.budget c.args.many c.args.session.now before _ _ (c.deref.ensures ∙ c.system.ensures) refl mid _ c.in_ok-print_list_line.ensures _ same _ now c.in_err-back.ensures.stop)

-- ---- the oracles come back
pub give_back-answers-requires-clause-lent : goal.give_back-answers-requires-clause-lent
give_back-answers-requires-clause-lent g c = ap (λ (t : SessionState). t.lent) c.in_ok-lent.ensures.lent

pub give_back-answers-requires-clause-own : goal.give_back-answers-requires-clause-own
give_back-answers-requires-clause-own g c =
    let lent = c.in_ok-lent.lent.items in
    let back = c.in_ok-back.back.items in
    let same = c.system-2.ensures ∙ ap (λ (t : SessionState). t.system) c.in_ok-lent.ensures.lent in
    let printed = printed_as c.args.budget _ c.args.session.now.system same lent back _ _ c.in_ok-back.ensures.ok in
    come_back c.args.session.now lent c.in_ok-lent.ensures.oracles c.lend.new.self c.in_ok-lent.ensures.lent back printed.asked

-- ---- the answers
pub returns-in_err-print_answers_line-clause-sink : goal.returns-in_err-print_answers_line-clause-sink
returns-in_err-print_answers_line-clause-sink g c =
    sink_then _ _ _ _ _ (sink_then _ _ _ _ _ (sink_wrote _ _ _ _ (tt {0}) c.in_ok-print_list_line.ensures) c.in_ok-back.ensures.sink) (sink_cut _ _ _ _ _ c.from_residual-in_err-print_answers_line.ensures.1 c.in_err-print_answers_line.ensures)

pub returns-in_err-print_answers_line-clause-stop : goal.returns-in_err-print_answers_line-clause-stop
returns-in_err-print_answers_line-clause-stop g c =
    let s = c.args.session.now in
    let lent = c.in_ok-lent.lent.items in
    let back = c.in_ok-back.back.items in
    let before = g.K.Sink.device c.args.sink.now in
    let mid = g.K.Sink.device c.print_list_line.new.sink in
    let after = g.K.Sink.device c.solve.new.sink in
    let now = g.K.Sink.device c.print_answers_line.new.sink in
    let same = c.system-2.ensures ∙ ap (λ (t : SessionState). t.system) c.in_ok-lent.ensures.lent in
    let printed = printed_as c.args.budget _ s.system same lent back mid.written after.written c.in_ok-back.ensures.ok in
    let home = back_home s c.lend.new.self c.in_ok-lent.ensures.lent back c.give_back-answers.new.self _ _ c.give_back-answers.ensures.back in
    err_told (λ stop. StopsSo c.args.budget c.args.many s before stop now) _ _ c.from_residual-in_err-print_answers_line.ensures.1
    (cut_in_answers c.args.budget c.args.many s before _ _ (c.deref.ensures ∙ c.system.ensures) refl mid _ c.in_ok-print_list_line.ensures lent back after c.in_ok-back.ensures.sink.later printed
    c.give_back-answers.new.self _ _ home _ now c.in_err-print_answers_line.ensures)

-- ---- the end
pub returns-clause-sink : goal.returns-clause-sink
returns-clause-sink g c =
    sink_then _ _ _ _ _ (sink_then _ _ _ _ _ (sink_wrote _ _ _ _ (tt {0}) c.in_ok-print_list_line.ensures) c.in_ok-back.ensures.sink) (sink_wrote _ _ _ _ _ c.in_ok-print_answers_line.ensures)

pub returns-clause-ok : goal.returns-clause-ok
returns-clause-ok g c =
    let s = c.args.session.now in
    let lent = c.in_ok-lent.lent.items in
    let back = c.in_ok-back.back.items in
    let before = g.K.Sink.device c.args.sink.now in
    let mid = g.K.Sink.device c.print_list_line.new.sink in
    let after = g.K.Sink.device c.solve.new.sink in
    let now = g.K.Sink.device c.print_answers_line.new.sink in
    let same = c.system-2.ensures ∙ ap (λ (t : SessionState). t.system) c.in_ok-lent.ensures.lent in
    let printed = printed_as c.args.budget _ s.system same lent back mid.written after.written c.in_ok-back.ensures.ok in
    let home = back_home s c.lend.new.self c.in_ok-lent.ensures.lent back c.give_back-answers.new.self _ _ c.give_back-answers.ensures.back in
    listed_next c.args.budget c.args.many s before _ _ (c.deref.ensures ∙ c.system.ensures) refl mid _ c.in_ok-print_list_line.ensures lent back after c.in_ok-back.ensures.sink.later printed
    c.give_back-answers.new.self _ _ home _ now c.in_ok-print_answers_line.ensures (c.give_back-answers.ensures.same.0 ∙ ap (λ (t : SessionState). t.system) c.in_ok-lent.ensures.lent) c.give_back-answers.ensures.same.1 c.give_back-answers.ensures.few
