use Rattle.std.proofs.Common.{◌≡◌, ◌++◌, ℕ, List, length}
use Rattle.mcs_crew.specs.Parts.{IsAsked}
use Rattle.mcs_crew.proofs.parts.ask_alone.Given as goal

abbrev pub invariant-loop-left : goal.invariant-loop-left
invariant-loop-left g l = (front : List ℕ) × (front ++ l.left ≡ l.fn.questions)
    × IsAsked l.context (g.O.Oracle.stands l.fn.oracle) (g.O.Oracle.stands l.asked.oracle) front l.asked.answers

abbrev pub decreases-loop-left : goal.decreases-loop-left
decreases-loop-left g l = length l.left
