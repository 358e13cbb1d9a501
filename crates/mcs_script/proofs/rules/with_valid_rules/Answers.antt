use Rattle.mcs_system.proofs.BuildLemmas.{not_told}
use Rattle.mcs_script.specs.Drafts.{drafted}
use Rattle.mcs_script.proofs.rules.with_valid_rules.Goals as goal

pub unreachable-requires : goal.unreachable-requires
unreachable-requires c =
    let told = rw (c.in-Err-Fault.field-0-is, c.in_ok-bare.ensures) at c.in-Err-Fault.ensures in
    not_told (drafted c.args.bare.now c.args.rules.items) c.in-Err-Fault.field-0-0 c.in-Err-Fault.field-0-1 c.requires told.fault
