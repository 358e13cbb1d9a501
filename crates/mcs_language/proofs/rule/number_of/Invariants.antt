use Rattle.std.proofs.Common.{map, take}
use Rattle.mcs_base.specs.Listings.{IsAmong}
use Rattle.mcs_system.specs.declared.knowledge.Context as code_context
use Rattle.mcs_language.proofs.rule.number_of.Given as goal

abbrev pub invariant-loop-number : goal.invariant-loop-number
invariant-loop-number l = ¬ IsAmong l.name (map (λ (c : code_context.Context). c.name) (take l.number l.reader.account.contexts.items))
