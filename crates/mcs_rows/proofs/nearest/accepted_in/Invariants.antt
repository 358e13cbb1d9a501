use Rattle.std.proofs.Common.{◌↔◌, take}
use Rattle.mcs_base.specs.Listings.{IsAmong}
use Rattle.mcs_rows.specs.Nearest.{IsAnswered}
use Rattle.mcs_rows.specs.declared.nearest.Accepted as accepted
use Rattle.mcs_rows.proofs.nearest.accepted_in.Given as goal

abbrev pub invariant-loop-answer : goal.invariant-loop-answer
invariant-loop-answer l = (a : accepted.Accepted) → IsAmong a l.all.items ↔ IsAnswered (take l.answer-index l.answers) a.part a.question
