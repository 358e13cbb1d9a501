use Rattle.std.proofs.Common.{◌≡◌, length, sym, ap, append_assoc, ◌∙◌}
use Rattle.std.proofs.lemmas.List.{length-map}
use Rattle.std.proofs.lemmas.Result.{on_ok_weaker}
use Rattle.mcs_system.specs.Seen.{context_of, bridge_of, read_of}
use Rattle.mcs_system.specs.Systems.{variables}
use Rattle.mcs_listing.specs.Listings.{number_line}
use Rattle.mcs_listing.proofs.number.push_number_line.Goals as goal

pub returns : goal.returns
unfolding number_line
returns c =
    let contexts : length c.contexts.result.now ≡ length c.args.system.now.contexts = sym (length-map c.contexts.result.now context_of) ∙ ap length c.contexts.ensures.value in
    let bridges : length c.bridges.result.now ≡ length c.args.system.now.bridges = sym (length-map c.bridges.result.now bridge_of) ∙ ap length c.bridges.ensures.value in
    let vars : length c.variables.result.now ≡ length (variables c.args.system.now) = sym (length-map c.variables.result.now read_of) ∙ ap length c.variables.ensures.value in
    rw (← contexts, ← bridges, ← vars) (on_ok_weaker c.push-5.result
    (λ e. e ∙ rw (c.in_ok-push_number-4.ensures.ok, c.in_ok-push-4.ensures.ok, c.in_ok-push_number-3.ensures.ok, c.in_ok-push-3.ensures.ok, c.in_ok-push_number-2.ensures.ok, c.in_ok-push-2.ensures.ok, c.in_ok-push_number.ensures.ok, c.in_ok-push.ensures.ok) (simp append_assoc))
    c.push-5.ensures.ok)
