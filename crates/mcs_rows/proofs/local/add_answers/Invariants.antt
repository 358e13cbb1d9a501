use Rattle.std.proofs.Common.{◌≡◌, ◌++◌, take}
use Rattle.std.specs.List.{flat_map}
use Rattle.mcs_rows.specs.Making.{rows_with}
use Rattle.mcs_rows.proofs.local.add_answers.Given as goal

abbrev pub invariant-loop-answer : goal.invariant-loop-answer
invariant-loop-answer l = l.rows.items ≡ l.fn.rows.items ++ flat_map (rows_with l.system l.i l.reach.level l.reach.known.now l.state) (take l.answer-index l.answers)
