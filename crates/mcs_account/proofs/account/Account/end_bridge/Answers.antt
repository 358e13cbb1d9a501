use Rattle.std.proofs.Common.{◌≡◌, List, [], ap, sym, ◌∙◌, refl}
use Rattle.mcs_system.specs.Plain as plain
use Rattle.mcs_system.specs.Seen.{bridge_of}
use Rattle.mcs_productions.specs.declared.class.Class.TheVariants as class
use Rattle.mcs_account.specs.Account.{with_head, took}
use Rattle.mcs_account.specs.Images.{account_of, operands_of}
use Rattle.mcs_account.proofs.AccountLemmas.{last-image, none-image, popped-image, no-head}
use Rattle.mcs_account.proofs.account.Account.end_bridge.Goals as goal

pub returns-in_default : goal.returns-in_default
returns-in_default c =
    let empty : operands_of c.replace-formulas.new.dest.items ≡ [] = ap (λ v. operands_of v.items) c.replace-formulas.ensures.after ∙ ap operands_of c.new.ensures.items in
    let none : operands_of c.args.self.now.operands.items ≡ [] = ap (λ v. operands_of v.items) (sym c.replace-formulas.ensures.value) ∙ none-image c.replace-formulas.result.items (sym c.replace-formulas.result.ok.0 ∙ c.in_default.ensures.cases.0) in
    ap (λ (l : List plain.Formula). record (account_of c.args.self.now) { operands = l }) empty ∙ no-head (account_of c.args.self.now) none

pub returns-in-Some-last_mut : goal.returns-in-Some-last_mut
returns-in-Some-last_mut c =
    let empty : operands_of c.replace-formulas.new.dest.items ≡ [] = ap (λ v. operands_of v.items) c.replace-formulas.ensures.after ∙ ap operands_of c.new.ensures.items in
    let popped = ap (λ v. operands_of v.items) (sym c.replace-formulas.ensures.value) ∙ popped-image c.replace-formulas.result.items c.pop.new.self.items c.in-Some.head c.in-Some.ensures.items in
    let now = record c.in-Some-last_mut.bridge.now { head = c.in-Some.head } in
    let last = last-image bridge_of (with_head (operands_of c.args.self.now.operands.items)) c.args.self.now.bridges.items c.args.self.now.bridges.len c.in-Some-last_mut.bridge.now now c.args.self.now.bridges.ok.0 (c.in-Some-last_mut.ensures.variant.0 refl) c.in-Some-last_mut.ensures.value
    (ap (λ (fs : List plain.Formula). with_head fs (bridge_of c.in-Some-last_mut.bridge.now)) (sym popped)) in
    ap (λ (l : List plain.Bridge). record (account_of c.args.self.now) { bridges = l; operands = operands_of c.replace-formulas.new.dest.items }) last
    ∙ ap (λ (l : List plain.Formula). record (took (account_of c.args.self.now) class.EndsBridge []) { operands = l }) empty
