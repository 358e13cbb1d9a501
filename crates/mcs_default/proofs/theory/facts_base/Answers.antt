use Rattle.std.proofs.Common.{◌∙◌, map, ap}
use Rattle.mcs_system.specs.Seen.{item_of}
use Rattle.mcs_trace.specs.Clauses.{ClauseList}
use Rattle.mcs_cnf.specs.ClauseLists.{with_formulas}
use Rattle.mcs_evidence.specs.Defaults.{facts_of}
use Rattle.mcs_default.proofs.theory.facts_base.Goals as goal

pub returns-in-Ok : goal.returns-in-Ok
returns-in-Ok c = c.settle.ensures ∙ c.in_ok-known.ensures ∙ c.in_ok-push_facts.ensures ∙ ap (λ (x : ClauseList). with_formulas c.args.atoms.now x (facts_of (map item_of c.args.items.now))) c.new-cnf.ensures
