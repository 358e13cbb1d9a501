use Rattle.std.proofs.Common.{List, ap, refl}
use Rattle.mcs_system.specs.Plain as plain
use Rattle.mcs_system.specs.Seen.{bridge_of}
use Rattle.mcs_account.specs.Account.{weight_of, with_weight}
use Rattle.mcs_account.specs.Images.{account_of}
use Rattle.mcs_account.proofs.AccountLemmas.{last-image}
use Rattle.mcs_account.proofs.account.Account.set_weight.Goals as goal

pub returns-in-Some : goal.returns-in-Some
returns-in-Some c =
    ap (λ (l : List plain.Bridge). record (account_of c.args.self.now) { bridges = l })
    (last-image bridge_of (with_weight (weight_of c.args.digits.now)) c.args.self.now.bridges.items c.args.self.now.bridges.len c.in-Some.bridge.now (record c.in-Some.bridge.now { weight = c.weight_of-weight.result }) c.args.self.now.bridges.ok.0 (c.in-Some.ensures.variant.0 refl) c.in-Some.ensures.value
    (ap (λ k. record (bridge_of c.in-Some.bridge.now) { weight = k }) c.weight_of-weight.ensures))
