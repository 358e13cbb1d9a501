use Rattle.std.proofs.Common.{◌∙◌, ap}
use Rattle.crossbeam_channel.specs.Ends.{receives_on}
use Rattle.mcs_wire.specs.Ends.{inbox_of, with_taken}
use Rattle.mcs_wire.proofs.EndLemmas.{inbox_takes}
use Rattle.mcs_wire.proofs.inbox.Inbox.take.Goals as goal

pub take_on-requires-clause-at : goal.take_on-requires-clause-at
take_on-requires-clause-at g c = c.self.invariant.at

pub take_on-requires-clause-reads : goal.take_on-requires-clause-reads
take_on-requires-clause-reads g c = c.self.invariant.reads

pub invariant_of-self : goal.invariant_of-self
invariant_of-self g c = inbox_takes _ _ _ _ c.self.invariant c.take_on.ensures.at c.take_on.ensures.taken

pub returns-clause-taken : goal.returns-clause-taken
returns-clause-taken g c = ap (inbox_of (receives_on c.self.inside.receiver)) c.take_on.ensures.taken ∙ ap (with_taken c.take_on.result) c.self.view_is

pub returns-clause-plan : goal.returns-clause-plan
returns-clause-plan g c = c.take_on.ensures.plan ∙ ap (λ i. i.wire.plan) c.self.view_is
