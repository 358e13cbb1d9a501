use Rattle.std.proofs.Common.{◌≡◌, true, false, arith, subst}
use Rattle.std.proofs.lemmas.Grind.{common_steps}
use Rattle.mcs_trace.specs.Clauses.{IsClause}
use Rattle.mcs_spelling.specs.Words.{step_of, ascend_from}
use Rattle.mcs_spelling.proofs.ClauseTests.{ascends, ascends_not}
use Rattle.mcs_spelling.proofs.steps.step_in.Goals as goal

pub returns-in_default-new : goal.returns-in_default-new
unfolding step_of
returns-in_default-new c =
    let no : ascend_from 0 c.in-Some-2.literals.items ≡ false = ascends_not c.in-Some-2.literals.items c.in_default-new.ensures in
    grind (arith, common_steps)

pub returns-in-Some-3 : goal.returns-in-Some-3
unfolding step_of
returns-in-Some-3 c =
    let is = c.in-Some-new.ensures.0 in
    let yes : ascend_from 0 c.in-Some-2.literals.items ≡ true = ascends c.in-Some-2.literals.items (subst IsClause is c.in-Some-new.ensures.1) in
    grind (arith, common_steps)
