use Rattle.std.proofs.Common.{◌≡◌, true, List, length, sym, ap, subst, ◌∙◌}
use Rattle.mcs_syntax.specs.declared.part.Part.{Part}
use Rattle.mcs_syntax.specs.Prompt.{are_prompt}
use Rattle.mcs_productions.specs.Productions.{grammar}
use Rattle.mcs_productions.specs.declared.class.Class.{Class}
use Rattle.mcs_productions.specs.declared.production.Action.{Action}
use Rattle.mcs_productions.specs.declared.production.Production.{Production}
use Rattle.mcs_account.proofs.ReaderSteps.{first-read}
use Rattle.mcs_account.proofs.reader.TextReader.new.Goals as goal

pub returns-clause-read : goal.returns-clause-read
returns-clause-read c =
    let parts = c.in_ok-start.ensures.parts ∙ ap (λ r. r.0) c.in_ok-reader.ensures in
    let all : are_prompt grammar c.start.new.self.0 (length c.start.new.self.0) ≡ true = subst (λ (ps : List (Part Class Action Production)). are_prompt grammar ps (length ps) ≡ true) (sym parts) c.productions.ensures.prompt in
    record { parts = all; read = first-read c.start.new.self c.new-events.result.items c.start.new.events.items all c.in_ok-start.ensures.goes; account = c.new-2.ensures; place = c.new-3.ensures.place }
