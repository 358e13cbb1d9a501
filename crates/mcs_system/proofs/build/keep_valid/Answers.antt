use Rattle.mcs_system.specs.Seen.{system_of}
use Rattle.mcs_system.proofs.BuildLemmas.{first_passed, not_told, system_built_valid}
use Rattle.mcs_system.proofs.build.keep_valid.Goals as goal

pub gather-requires : goal.gather-requires
gather-requires c = first_passed (system_of c.args.contexts.items c.args.bridges.now) c.requires

pub returns-in-Ok : goal.returns-in-Ok
returns-in-Ok c = system_built_valid c.args.contexts.items c.args.bridges.now c.in-Ok.built c.in-Ok.ensures.ok c.requires (rw c.deref.ensures.value at c.system_is_named.ensures)

pub unreachable-requires : goal.unreachable-requires
unreachable-requires c =
    let told = rw c.in-Err-Fault.field-0-is at c.in-Err-Fault.ensures in
    not_told (system_of c.args.contexts.items c.args.bridges.now) c.in-Err-Fault.field-0-0 c.in-Err-Fault.field-0-1 c.requires told.fault
