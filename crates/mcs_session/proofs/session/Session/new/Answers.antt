use Rattle.std.proofs.Common.{◌∙◌, ap}
use Rattle.std.specs.Arc.{arc_value}
use Rattle.mcs_session.specs.Inside.{no_keys}
use Rattle.mcs_session.proofs.LendingLemmas.{new_session}
use Rattle.mcs_session.proofs.session.Session.new.Goals as goal

pub invariant_of-result : goal.invariant_of-result
invariant_of-result g c = new_session (arc_value c.in_ok-system.system) c.in_ok-oracles.oracles.items c.in_ok-asked.asked.items c.in_ok-oracles.ensures (c.in_ok-asked.ensures ∙ ap no_keys c.deref.ensures)
