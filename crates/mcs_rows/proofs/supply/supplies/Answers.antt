use Rattle.std.proofs.Common.{arith}
use Rattle.mcs_rows.proofs.MakingLemmas.{supplies_listed, parts_listed}
use Rattle.mcs_rows.proofs.supply.supplies.Goals as goal

pub returns-clause-supplied : goal.returns-clause-supplied
returns-clause-supplied c = λ m level i answered. supplies_listed m level i c.args.answers.now answered c.loop-answer.states.items c.list_states.new.states.items c.loop-answer.answer-index c.loop-answer.invariant (omega arith) c.list_states.ensures

pub returns-clause-parts : goal.returns-clause-parts
returns-clause-parts c = parts_listed c.args.answers.now c.loop-answer.states.items c.list_states.new.states.items c.loop-answer.answer-index c.loop-answer.invariant (omega arith) c.list_states.ensures
