use Rattle.std.proofs.Common.{subst}
use Rattle.mcs_base.specs.Listings.{IsAmong}
use Rattle.mcs_base.proofs.Among.{among_at}
use Rattle.mcs_syntax.specs.declared.part.Event.{Event}
use Rattle.mcs_productions.specs.declared.class.Class.{Class}
use Rattle.mcs_productions.specs.declared.production.Action.{Action}
use Rattle.mcs_account.proofs.reader.hear.Goals as goal

pub took-requires : goal.took-requires
took-requires c = record { named = c.requires.names c.if-not-is_long.true c.in-Took.class (subst (λ (e : Event Class Action). IsAmong e c.args.events.now) c.in-Took.is (among_at c.args.events.now c.loop-event.event-index _ c.loop-event-test.true)) }
