use Rattle.std.proofs.Common.{refl, arith}
use Rattle.mcs_base.proofs.Booleans.{false_tells, decides_false}
use Rattle.mcs_base.proofs.Lists.{slice_get_read_as, slice_get_past_as}
use Rattle.mcs_faults.proofs.InputLemmas.{few-atoms, atoms-told, no-atoms}
use Rattle.mcs_faults.proofs.LimitLemmas.{atoms-beyond}
use Rattle.mcs_faults.proofs.watch.Watch.exceeds_atoms.Goals as goal

pub returns-in_default : goal.returns-in_default
returns-in_default c = λ before m a asked. decides_false _ refl (λ h. absurd (no-atoms c.args.self.now before m a c.args.said.now asked (slice_get_past_as c.args.self.now.contexts.items c.deref.result.now c.args.said.now.subject.context c.deref.ensures.value c.in_default.ensures.lookup.3) h))

pub returns-then-len-most : goal.returns-then-len-most
returns-then-len-most c = λ before m a asked. decides_false _ refl (λ h. absurd (few-atoms c.args.self.now before m a c.args.said.now asked c.in-Some.context.now (slice_get_read_as c.args.self.now.contexts.items c.deref.result.now c.args.said.now.subject.context c.in-Some.context.now c.deref.ensures.value c.in-Some.ensures.lookup.3.0 c.in-Some.ensures.lookup.1) (omega (arith, c.len.ensures)) h))

pub returns-in-Atom : goal.returns-in-Atom
returns-in-Atom c = λ before m a asked. atoms-told c.args.self.now before m a c.args.said.now asked c.in-Some.context.now (slice_get_read_as c.args.self.now.contexts.items c.deref.result.now c.args.said.now.subject.context c.in-Some.context.now c.deref.ensures.value c.in-Some.ensures.lookup.3.0 c.in-Some.ensures.lookup.1) c.in-Atom.number c.has.result c.in-Atom.is c.has.ensures (omega (arith, c.len.ensures))

pub returns-in_default-role : goal.returns-in_default-role
returns-in_default-role c = λ before m a asked. false_tells (λ h. let atom = ((atoms-beyond c.args.self.now before m a c.args.said.now asked).0 h).0 in c.in_default-role.not-Atom atom.0 atom.1)
