use Rattle.std.proofs.Common.{inl, inr}
use Rattle.std.proofs.lemmas.Bool.Decides.{Decides-not}
use Rattle.mcs_base.proofs.Booleans.{decides_both, false_tells}
use Rattle.mcs_faults.proofs.LimitLemmas.{no-context-is}
use Rattle.mcs_faults.proofs.WatchFacts.{named-there}
use Rattle.mcs_faults.proofs.watch.Watch.names_no_context.Goals as goal

pub returns-in-NamesTarget : goal.returns-in-NamesTarget
returns-in-NamesTarget c = λ before m a asked.
    let named = named-there c.args.self.now before asked.watch c.args.said.now.token.now in
    decides_both _ (no-context-is c.args.self.now before m a c.args.said.now asked) c.in-NamesTarget.is (Decides-not c.is_context.result (λ h. named.0 (c.is_context.ensures.0 h), λ h. c.is_context.ensures.1 (named.1 h)))

pub returns-in_default : goal.returns-in_default
returns-in_default c = λ before m a asked. false_tells (λ h. elim ((no-context-is c.args.self.now before m a c.args.said.now asked).0 h).0 [ inl e ↦ c.in_default.not-NamesTarget e | inr e ↦ c.in_default.not-NamesSource e ])
