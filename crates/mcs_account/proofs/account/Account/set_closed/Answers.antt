use Rattle.std.proofs.Common.{List, ap, refl, true}
use Rattle.mcs_system.specs.Plain as plain
use Rattle.mcs_system.specs.Seen.{bridge_of}
use Rattle.mcs_account.specs.Account.{with_closed}
use Rattle.mcs_account.specs.Images.{account_of}
use Rattle.mcs_account.proofs.AccountLemmas.{last-image}
use Rattle.mcs_account.proofs.account.Account.set_closed.Goals as goal

pub returns-in-Some : goal.returns-in-Some
returns-in-Some c =
    ap (λ (l : List plain.Bridge). record (account_of c.args.self.now) { bridges = l })
    (last-image bridge_of with_closed c.args.self.now.bridges.items c.args.self.now.bridges.len c.in-Some.bridge.now (record c.in-Some.bridge.now { closed = true }) c.args.self.now.bridges.ok.0 (c.in-Some.ensures.variant.0 refl) c.in-Some.ensures.value refl)
