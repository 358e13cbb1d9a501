use Rattle.std.proofs.Common.{◌≡◌, ◌++◌, ℕ, List, length}
use Rattle.mcs_proof_lines.specs.Walks.{At}
use Rattle.mcs_proof_reader.specs.Questions.{states_at}
use Rattle.mcs_proof_reader.proofs.question.take_states.Given as goal

-- the states so far, and those that come after the last one
abbrev pub invariant-loop-state : goal.invariant-loop-state
invariant-loop-state l = ◌≡◌ {A = List ℕ × At} (l.states.items ++ (states_at l.system l.allowed l.last l.lines).0, (states_at l.system l.allowed l.last l.lines).1) (states_at l.system l.allowed l.initial.last l.fn.lines)

abbrev pub decreases-loop-state : goal.decreases-loop-state
decreases-loop-state l = length l.lines.rest
