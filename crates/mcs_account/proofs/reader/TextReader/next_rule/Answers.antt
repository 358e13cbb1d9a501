use Rattle.std.proofs.Common.{◌≡◌, true, List, length, sym, ap, subst, ◌∙◌}
use Rattle.mcs_syntax.specs.declared.part.Part.{Part}
use Rattle.mcs_syntax.specs.Prompt.{are_prompt}
use Rattle.mcs_system.specs.Plain as plain
use Rattle.mcs_productions.specs.Productions.{grammar}
use Rattle.mcs_productions.specs.declared.class.Class.{Class}
use Rattle.mcs_productions.specs.declared.production.Action.{Action}
use Rattle.mcs_productions.specs.declared.production.Production.{Production}
use Rattle.mcs_account.specs.Account.{no_account}
use Rattle.mcs_account.proofs.RuleFronts.{first-rule-read}
use Rattle.mcs_account.proofs.reader.TextReader.next_rule.Goals as goal

pub returns : goal.returns
returns c names are =
    let all : are_prompt grammar c.start.new.self.0 (length c.start.new.self.0) ≡ true = subst (λ (ps : List (Part Class Action Production)). are_prompt grammar ps (length ps) ≡ true) (sym c.in_ok-start.ensures.parts) c.requires.prompt in
    record {
      parts = all;
      read = first-rule-read c.start.new.self _ _ all c.in_ok-start.ensures.goes;
      account = c.forget.ensures ∙ ap (λ (cs : List plain.Context). record no_account { contexts = cs }) are;
      place = c.new.ensures.place;
    }
