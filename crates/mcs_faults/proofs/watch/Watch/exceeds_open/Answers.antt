use Rattle.std.proofs.lemmas.Bool.Decides.{Decides-like}
use Rattle.mcs_base.proofs.Booleans.{false_tells}
use Rattle.mcs_faults.proofs.LimitLemmas.{opens-beyond}
use Rattle.mcs_faults.proofs.TellLemmas.{told-opens}
use Rattle.mcs_faults.proofs.watch.Watch.exceeds_open.Goals as goal

pub returns-in-Opens : goal.returns-in-Opens
returns-in-Opens c = λ before m a asked. rw c.most.ensures (Decides-like _ (opens-beyond c.args.self.now before m a c.args.said.now asked).1 (opens-beyond c.args.self.now before m a c.args.said.now asked).0 (told-opens c.args.said.now.uses.role c.in-Opens.within 512 c.in-Opens.is))

pub returns-in_default : goal.returns-in_default
returns-in_default c = λ before m a asked. false_tells (λ h. c.in_default.not-Opens 512 ((opens-beyond c.args.self.now before m a c.args.said.now asked).0 h))
