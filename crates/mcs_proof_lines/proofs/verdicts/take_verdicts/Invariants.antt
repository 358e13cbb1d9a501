use Rattle.std.proofs.Common.{◌≡◌, ◌+◌, ◌^◌, ◌≤◌, map, length}
use Rattle.mcs_evidence.specs.Defaults.{verdict_of}
use Rattle.mcs_proof_lines.specs.Walks.{after_front}
use Rattle.mcs_proof_lines.specs.Verdicts.{terms_of, sets_from}
use Rattle.mcs_proof_lines.proofs.verdicts.take_verdicts.Given as goal

abbrev pub invariant-loop-left : goal.invariant-loop-left
invariant-loop-left l = record {
  read : after_front (map verdict_of l.sets.items) (sets_from (terms_of l.theory) l.set l.left l.lines) ≡ sets_from (terms_of l.theory) 0 (2 ^ length l.theory.justs.now) l.fn.lines;
  few : l.set + l.left ≤ 1024;
}

abbrev pub decreases-loop-left : goal.decreases-loop-left
decreases-loop-left l = l.left
