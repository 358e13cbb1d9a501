use Rattle.std.proofs.Common.{refl, subst}
use Rattle.mcs_faults.specs.Watching.{IsUnseenContext}
use Rattle.mcs_faults.proofs.ReadSteps.{step-names_context}
use Rattle.mcs_faults.proofs.watch.Watch.name_context.Goals as goal

pub returns-in_ok-push : goal.returns-in_ok-push
returns-in_ok-push c = λ before watch word allowed.
    step-names_context c.args.self.now before watch c.args.token.now allowed c.fresh.result (subst (IsUnseenContext c.fresh.result) (rw c.in-Some.is at c.in_ok-name.ensures.some) c.fresh.ensures) _ refl refl refl refl c.in_ok-push.ensures.items
