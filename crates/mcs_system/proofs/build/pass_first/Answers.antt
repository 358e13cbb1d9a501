use Rattle.std.proofs.Common.{sym, ◌∙◌}
use Rattle.mcs_system.specs.Seen.{system_of}
use Rattle.mcs_system.proofs.BuildLemmas.{flaw_told, limit_told}
use Rattle.mcs_system.proofs.build.pass_first.Goals as goal

pub returns-in-Some-clause-fault : goal.returns-in-Some-clause-fault
returns-in-Some-clause-fault c = rw c.flawed.ensures (flaw_told (system_of c.args.contexts.now c.args.bridges.now) c.in-Some.flaw (sym c.in_ok-flaw.ensures ∙ c.in-Some.is))

pub returns-in-Some-first_limit-clause-fault : goal.returns-in-Some-first_limit-clause-fault
returns-in-Some-first_limit-clause-fault c = rw c.exceeded.ensures
    (limit_told (system_of c.args.contexts.now c.args.bridges.now) c.in-Some-first_limit.limit (sym c.in_ok-flaw.ensures ∙ c.in_default.is) (sym c.in-Some-first_limit.ensures))

pub returns-clause-ok : goal.returns-clause-ok
returns-clause-ok c = record { flaws = sym c.in_ok-flaw.ensures ∙ c.in_default.is; limits = sym c.in_default-first_limit.ensures }
