use Rattle.std.proofs.Common.{take}
use Rattle.std.specs.List.{AllZip}
use Rattle.mcs_rows.specs.Fitting.{HasSameParts}
use Rattle.mcs_rows.proofs.fitting.copies.Given as goal

abbrev pub invariant-loop-answer : goal.invariant-loop-answer
invariant-loop-answer l = AllZip HasSameParts (take l.answer-index l.answers) l.all.items
