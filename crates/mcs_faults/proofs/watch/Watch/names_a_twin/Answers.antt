use Rattle.std.proofs.Common.{◌≡◌, inl, inr, sym, ◌∙◌}
use Rattle.std.proofs.lemmas.Bool.Decides.{Decides-like}
use Rattle.mcs_base.proofs.Booleans.{false_tells}
use Rattle.mcs_account.specs.declared.place.Role.TheVariants as roles
use Rattle.mcs_faults.proofs.LimitLemmas.{twin-is}
use Rattle.mcs_faults.proofs.WatchFacts.{named-there, bridge-there}
use Rattle.mcs_faults.proofs.watch.Watch.names_a_twin.Goals as goal

pub returns-in-NamesContext : goal.returns-in-NamesContext
returns-in-NamesContext c = λ before m a asked.
    let named = named-there c.args.self.now before asked.watch c.args.said.now.token.now in
    Decides-like _ (twin-is c.args.self.now before m a c.args.said.now asked).1 (twin-is c.args.self.now before m a c.args.said.now asked).0 (
      λ h. inl (c.in-NamesContext.is, named.0 (c.is_context.ensures.0 h)),
      λ h. elim h [ inl e ↦ c.is_context.ensures.1 (named.1 e.1) | inr e ↦ let no-such : roles.NamesContext ≡ roles.NamesBridge = sym c.in-NamesContext.is ∙ e.0 in cc ],
    )

pub returns-in-NamesBridge : goal.returns-in-NamesBridge
returns-in-NamesBridge c = λ before m a asked.
    let named = bridge-there c.args.self.now before asked.watch c.args.said.now.token.now in
    let same = c.has.ensures in
    Decides-like _ (twin-is c.args.self.now before m a c.args.said.now asked).1 (twin-is c.args.self.now before m a c.args.said.now asked).0 (
      λ h. inr (c.in-NamesBridge.is, named.0 (same.0 h)),
      λ h. elim h [ inl e ↦ let no-such : roles.NamesBridge ≡ roles.NamesContext = sym c.in-NamesBridge.is ∙ e.0 in cc | inr e ↦ same.1 (named.1 e.1) ],
    )

pub returns-in_default : goal.returns-in_default
returns-in_default c = λ before m a asked. false_tells (λ h. elim ((twin-is c.args.self.now before m a c.args.said.now asked).0 h) [ inl e ↦ c.in_default.not-NamesContext e.0 | inr e ↦ c.in_default.not-NamesBridge e.0 ])
