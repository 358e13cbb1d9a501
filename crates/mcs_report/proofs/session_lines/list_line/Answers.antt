use Rattle.std.proofs.Common.{◌≡◌, length, sym, ap, append_assoc, ◌∙◌}
use Rattle.std.proofs.lemmas.List.{length-map}
use Rattle.std.proofs.lemmas.Result.{on_ok_weaker}
use Rattle.mcs_system.specs.Seen.{bridge_of}
use Rattle.mcs_report.specs.Sessions.{list_line}
use Rattle.mcs_report.proofs.session_lines.list_line.Goals as goal

pub returns-clause-ok : goal.returns-clause-ok
unfolding list_line
returns-clause-ok c =
    let bridges : length c.bridges.result.now ≡ length c.args.system.now.bridges = sym (length-map c.bridges.result.now bridge_of) ∙ ap length c.bridges.ensures.value in
    rw (← bridges) (on_ok_weaker c.push-4.result
    (λ e. e ∙ rw (c.bytes.ensures, c.in_ok-push-3.ensures.ok, c.in_ok-push_number-2.ensures.ok, c.in_ok-push-2.ensures.ok, c.in_ok-push_number.ensures.ok, c.in_ok-push.ensures.ok, c.empty_like-line.ensures) (simp append_assoc))
    c.push-4.ensures.ok)
