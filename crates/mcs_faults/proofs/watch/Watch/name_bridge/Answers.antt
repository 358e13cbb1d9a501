use Rattle.std.proofs.Common.{refl}
use Rattle.mcs_faults.proofs.PlainSteps.{step-names_bridge}
use Rattle.mcs_faults.proofs.WatchFacts.{bridge-there}
use Rattle.mcs_faults.proofs.watch.Watch.name_bridge.Goals as goal

pub returns : goal.returns
returns c = λ before watch word allowed.
    step-names_bridge c.args.self.now before watch _ refl refl c.args.token.now allowed refl refl (c.in_ok-add.ensures.new (λ h. allowed ((bridge-there c.args.self.now before watch c.args.token.now).0 h)))
