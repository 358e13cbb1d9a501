use Rattle.std.proofs.Common.{◌≡◌, ◌<◌, List, [], ◌∷◌, refl, sym, ap, ◌∙◌, length, arith}
use Rattle.std.proofs.lemmas.Bool.Decides.{nat_tests}
use Rattle.mcs_system.specs.Plain as plain
use Rattle.mcs_system.specs.Seen.{formula_of}
use Rattle.mcs_account.specs.Account.{item_of}
use Rattle.mcs_account.specs.Images.{operands_of}
use Rattle.mcs_account.proofs.AccountLemmas.{popped-image, none-image, item-image, first-and-rest}
use Rattle.mcs_account.proofs.items.item.Goals as goal

pub returns-then-is_empty : goal.returns-then-is_empty
returns-then-is_empty c =
    let empty : length c.pop.new.self.items ≡ 0 = grind (arith, nat_tests, c.is_empty.ensures, c.if-is_empty.true, c.pop.new.self.ok.0) in
    (formula_of c.in_ok-conclusion.conclusion, [], popped-image c.args.formulas.items c.pop.new.self.items c.in_ok-conclusion.conclusion c.in_ok-conclusion.ensures.items ∙ ap (λ (l : List plain.Formula). formula_of c.in_ok-conclusion.conclusion ∷ l) (none-image c.pop.new.self.items empty), refl)

pub returns : goal.returns
returns c =
    let f : plain.Formula = formula_of c.in_ok-conclusion.conclusion in
    let some : 0 < length c.pop.new.self.items = grind (arith, nat_tests, c.is_empty.ensures, c.if-is_empty.false, c.pop.new.self.ok.0) in
    let all : c.pop.new.self.items ≡ c.remove-pre.result ∷ c.remove-pre.new.self.items = first-and-rest c.pop.new.self.items c.remove-pre.new.self.items c.remove-pre.result some c.remove-pre.ensures.value c.remove-pre.ensures.items in (
      f,
      operands_of c.pop.new.self.items,
      popped-image c.args.formulas.items c.pop.new.self.items c.in_ok-conclusion.conclusion c.in_ok-conclusion.ensures.items,
      sym (ap (λ l. item_of f (operands_of l) []) all ∙ item-image c.remove-pre.result c.remove-pre.new.self.items f),
    )
