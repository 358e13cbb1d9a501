use Rattle.std.proofs.Common.{◌≡◌, ◌<◌, map}
use Rattle.std.specs.List.{AllByRecursion}
use Rattle.mcs_evidence.specs.Defaults.{absence_of}
use Rattle.mcs_proof_lines.specs.Walks.{absence_of_place, each_at, after_front}
use Rattle.mcs_proof_lines.proofs.absences.take_absences.Given as goal

abbrev pub invariant-loop-place : goal.invariant-loop-place
invariant-loop-place l = record {
  read : after_front (map absence_of l.outside.items) (each_at (absence_of_place l.atoms l.justs) l.place-iterator l.lines) ≡ each_at (absence_of_place l.atoms l.justs) l.fn.places l.fn.lines;
  known : AllByRecursion (λ k. k < 64) l.place-iterator;
}
