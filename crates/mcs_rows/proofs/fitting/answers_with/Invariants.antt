use Rattle.std.proofs.Common.{take}
use Rattle.std.specs.List.{AllZip}
use Rattle.mcs_rows.specs.Fitting.{HasProjectedParts}
use Rattle.mcs_rows.proofs.fitting.answers_with.Given as goal

abbrev pub invariant-loop-answer : goal.invariant-loop-answer
invariant-loop-answer l = AllZip (HasProjectedParts l.projections l.set) (take l.answer-index l.answers) l.all.items
