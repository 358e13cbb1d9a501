use Rattle.std.proofs.Common.{arith}
use Rattle.std.proofs.lemmas.List.{length-map}
use Rattle.mcs_faults.specs.declared.watch.ContextSeen.{ContextSeen}
use Rattle.mcs_faults.specs.Watching.{names_seen}
use Rattle.mcs_faults.proofs.TellLemmas.{told-there}
use Rattle.mcs_faults.proofs.watch.Watch.is_context.Goals as goal

pub returns : goal.returns
returns c = told-there (names_seen c.args.self.now) c.args.name.now c.number_of.result c.len.result c.number_of.ensures (omega (arith, c.args.self.now.contexts.ok.0, length-map c.args.self.now.contexts.items (λ (s : ContextSeen). s.name)))
