use Rattle.mcs_system.specs.Built.{made_of}
use Rattle.mcs_system.proofs.BuildLemmas.{first_passed, not_told}
use Rattle.mcs_system.proofs.KnownLemmas.{kept_known}
use Rattle.mcs_system.proofs.again.keep_valid_again.Goals as goal

pub gather_again-requires-clause-first : goal.gather_again-requires-clause-first
gather_again-requires-clause-first c = first_passed (made_of c.args.contexts.now c.args.bridges.now) c.requires.valid

pub returns-in-Ok : goal.returns-in-Ok
returns-in-Ok c = kept_known c.args.contexts.now c.args.bridges.now c.in-Ok.kept c.requires.known c.in-Ok.ensures.ok c.requires.valid c.are_named.ensures

pub unreachable-requires : goal.unreachable-requires
unreachable-requires c =
    let told = rw c.in-Err-Fault.field-0-is at c.in-Err-Fault.ensures in
    not_told (made_of c.args.contexts.now c.args.bridges.now) c.in-Err-Fault.field-0-0 c.in-Err-Fault.field-0-1 c.requires.valid told.fault
