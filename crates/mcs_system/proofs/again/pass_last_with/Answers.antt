use Rattle.std.proofs.Common.{sym}
use Rattle.mcs_system.specs.Seen.{system_of}
use Rattle.mcs_system.proofs.BuildLemmas.{last_told, none_told}
use Rattle.mcs_system.proofs.again.pass_last_with.Goals as goal

pub returns-in-Some-clause-fault : goal.returns-in-Some-clause-fault
returns-in-Some-clause-fault c = rw c.exceeded.ensures (last_told (system_of c.args.contexts.now c.args.bridges.now) c.in-Some.limit c.requires.passes.first c.requires.passes.limited (sym c.in-Some.ensures))

pub returns-clause-ok : goal.returns-clause-ok
returns-clause-ok c = none_told (system_of c.args.contexts.now c.args.bridges.now) c.requires.passes.first c.requires.passes.limited (sym c.in_default.ensures)
