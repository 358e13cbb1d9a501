use Rattle.std.proofs.Common.{List, ap, refl}
use Rattle.mcs_system.specs.Plain as plain
use Rattle.mcs_system.specs.Seen.{context_of, kb_of}
use Rattle.mcs_account.specs.Account.{with_kb}
use Rattle.mcs_account.specs.Images.{account_of}
use Rattle.mcs_account.proofs.AccountLemmas.{last-image}
use Rattle.mcs_account.proofs.account.Account.set_kb.Goals as goal

pub returns-in-Some : goal.returns-in-Some
returns-in-Some c =
    ap (λ (l : List plain.Context). record (account_of c.args.self.now) { contexts = l })
    (last-image context_of (with_kb (kb_of c.args.kb)) c.args.self.now.contexts.items c.args.self.now.contexts.len c.in-Some.context.now (record { name = c.in-Some.context.now.name; kb = c.args.kb }) c.args.self.now.contexts.ok.0 (c.in-Some.ensures.variant.0 refl) c.in-Some.ensures.value refl)
