use Rattle.std.proofs.Common.{refl}
use Rattle.mcs_base.proofs.Booleans.{true_tells, false_tells}
use Rattle.mcs_default.proofs.questions.is_believed.Goals as goal

pub returns-then-is_consequent : goal.returns-then-is_consequent
returns-then-is_consequent c = record { kept = (refl, refl); exact = λ items parts. true_tells (c.is_consequent.ensures items parts.0 c.if-is_consequent.true) }

pub returns-then-is_denied : goal.returns-then-is_denied
returns-then-is_denied c = record {
  kept = (refl, refl);
  exact = λ items parts. false_tells (c.is_denied.ensures items (rw c.deref.ensures.value ((c.args.search.now.ready.right items parts).1)) c.if-is_denied.true);
}
