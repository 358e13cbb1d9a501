use Rattle.std.proofs.Common.{refl}
use Rattle.mcs_system.proofs.Equality.{systems_tell}
use Rattle.mcs_system.proofs.system.System.is.Goals as goal

pub returns-then-eq : goal.returns-then-eq
returns-then-eq c = systems_tell _ _ _ _ _ _ c.eq.result c.eq-then-eq.result c.eq-then-eq.result c.self.view_is c.other.view_is (rw (c.deref.ensures, c.deref-2.ensures) at c.eq.ensures) c.eq-then-eq.ensures (rw c.if-eq.true refl)

pub returns-else-eq : goal.returns-else-eq
returns-else-eq c = systems_tell _ _ _ _ _ _ c.eq.result _ c.eq.result c.self.view_is c.other.view_is (rw (c.deref.ensures, c.deref-2.ensures) at c.eq.ensures) refl (rw c.if-eq.false refl)
