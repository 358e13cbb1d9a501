use Rattle.std.proofs.Common.{inl, inr}
use Rattle.std.proofs.lemmas.Bool.Decides.{Decides-like}
use Rattle.mcs_base.proofs.Booleans.{false_tells}
use Rattle.mcs_faults.proofs.LimitLemmas.{sizes-beyond}
use Rattle.mcs_faults.proofs.TellLemmas.{told-atom, told-counted}
use Rattle.mcs_faults.proofs.watch.Watch.exceeds_size.Goals as goal

pub returns-in-Atom : goal.returns-in-Atom
returns-in-Atom c = λ before m a asked. rw c.most.ensures (Decides-like _ (sizes-beyond c.args.self.now before m a c.args.said.now asked).1 (sizes-beyond c.args.self.now before m a c.args.said.now asked).0 (told-atom c.args.said.now.uses.role c.in-Atom.number 513 c.in-Atom.is))

pub returns-in-Counted : goal.returns-in-Counted
returns-in-Counted c = λ before m a asked. rw c.most-in-Counted.ensures (Decides-like _ (sizes-beyond c.args.self.now before m a c.args.said.now asked).1 (sizes-beyond c.args.self.now before m a c.args.said.now asked).0 (told-counted c.args.said.now.uses.role c.in-Counted.number 513 c.in-Counted.is))

pub returns-in_default : goal.returns-in_default
returns-in_default c = λ before m a asked. false_tells (λ h. elim ((sizes-beyond c.args.self.now before m a c.args.said.now asked).0 h) [ inl e ↦ c.in_default.not-Atom 513 e | inr e ↦ c.in_default.not-Counted 513 e ])
