use Rattle.std.proofs.Common.{◌≡◌, ◌++◌, ℕ, Bool, take}
use Rattle.mcs_system.specs.Plain.{System}
use Rattle.mcs_keeping.specs.Keeping.{AreAnswersKept, AreAnswersLeft}
use Rattle.mcs_keeping.proofs.keeping.absorb_answers.Given as goal

-- the questions so far were appended, their answers are kept, and those to the others are still to be moved
abbrev pub invariant-loop-question : goal.invariant-loop-question
invariant-loop-question l = record {
  journal : l.journal.items ≡ l.initial.journal.items ++ take l.question-index l.asked;
  kept : (m : System) (i : ℕ) (keep : Bool) → AreAnswersKept m i keep l.initial.journal.items l.initial.kept → AreAnswersKept m i keep l.asked l.initial.others
      → AreAnswersKept m i keep l.journal.items l.kept × AreAnswersLeft m i keep l.journal.items l.asked l.others;
}
