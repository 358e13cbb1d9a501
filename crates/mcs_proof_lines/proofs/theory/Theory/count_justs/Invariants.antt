use Rattle.std.proofs.Common.{◌≡◌, ◌+◌}
use Rattle.mcs_proof_lines.specs.Verdicts.{just_total}
use Rattle.mcs_proof_lines.proofs.theory.Theory.count_justs.Given as goal

abbrev pub invariant-loop-place : goal.invariant-loop-place
invariant-loop-place l = l.count + just_total l.self.justs.now l.place-iterator ≡ just_total l.self.justs.now l.fn.places
