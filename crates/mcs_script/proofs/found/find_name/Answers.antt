use Rattle.std.proofs.Common.{◌++◌, ◌∷◌, [], sym, ap, ◌∙◌}
use Rattle.mcs_system.specs.Logic.{is_in}
use Rattle.mcs_script.proofs.FoundLemmas.{name_found, finds_new}
use Rattle.mcs_script.proofs.found.find_name.Goals as goal

pub returns-then-is_name_found : goal.returns-then-is_name_found
returns-then-is_name_found c = name_found c.args.found.now.items c.args.name.now (ap (is_in c.args.name.now) (sym c.deref.ensures.value) ∙ sym c.is_name_found.ensures ∙ c.if-is_name_found.true)

pub returns : goal.returns
returns c = finds_new c.args.found.now.items c.push.new.self.items c.args.name.now (c.in_ok-push.ensures.items ∙ ap (λ n. c.args.found.now.items ++ n ∷ []) c.in_ok-copy.ensures)
