use Rattle.std.proofs.Common.{sym, ◌∙◌}
use Rattle.mcs_steps.proofs.StepLemmas.{clause_end}
use Rattle.mcs_steps.proofs.line.is_clause.Goals as goal

pub returns : goal.returns
returns c = sym (clause_end c.loop-left.last c.loop-left.left.now (sym c.is_empty.ensures ∙ c.loop-left-test.false)) ∙ c.loop-left.invariant
