use Rattle.std.proofs.Common.{subst}
use Rattle.std.specs.Arc.{arc_value}
use Rattle.mcs_system.specs.Naming.{IsSystemNamed}
use Rattle.mcs_system.specs.Faults.{IsValid}
use Rattle.mcs_check.proofs.OneFinding.{only_finding}
use Rattle.mcs_check.proofs.checking.certify.Goals as goal

pub returns-clause-only : goal.returns-clause-only
returns-clause-only c = only_finding (arc_value c.args.system) (subst IsValid c.deref.ensures c.contexts.ensures.valid) (subst IsSystemNamed c.deref.ensures c.contexts.ensures.named) c.args.bytes.now _ c.checked_in.ensures
