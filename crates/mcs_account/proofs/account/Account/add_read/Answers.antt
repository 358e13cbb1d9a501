use Rattle.std.proofs.Common.{Bool, List, ap, refl, ◌∙◌}
use Rattle.mcs_system.specs.Plain as plain
use Rattle.mcs_system.specs.Seen.{bridge_of, formula_of}
use Rattle.mcs_productions.specs.declared.production.Action.TheVariants as action
use Rattle.mcs_account.specs.Account.{Account, pushed, told, the_read, with_read}
use Rattle.mcs_account.specs.Images.{account_of}
use Rattle.mcs_account.proofs.AccountLemmas.{last-image}
use Rattle.mcs_account.proofs.account.Account.add_read.Goals as goal

pub returns-in_ok-add_read : goal.returns-in_ok-add_read
returns-in_ok-add_read c =
    let a : Account = account_of c.args.self.now in
    let read : plain.Read = the_read a.source (formula_of c.args.belief) in
    let last = last-image bridge_of (with_read a.denied read) c.args.self.now.bridges.items c.args.self.now.bridges.len c.in-Some.bridge.now c.add_read.new.bridge c.args.self.now.bridges.ok.0 (c.in-Some.ensures.variant.0 refl) c.in-Some.ensures.value
    (c.in_ok-add_read.ensures ∙ ap (λ (d : Bool). with_read d read (bridge_of c.in-Some.bridge.now)) c.replace-denied.ensures.value) in
    ap (λ (l : List plain.Bridge). record a { bridges = l; denied = c.replace-denied.new.dest }) last
    ∙ ap (λ (d : Bool). record (told (pushed a (formula_of c.args.belief)) action.EndsRead) { denied = d }) c.replace-denied.ensures.after
