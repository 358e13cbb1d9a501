use Rattle.std.proofs.Common.{◌≡◌, ◌<◌, map}
use Rattle.std.specs.List.{AllByRecursion}
use Rattle.mcs_system.specs.Seen.{formula_of}
use Rattle.mcs_extensions.specs.Checks.{AreAbsent}
use Rattle.mcs_proof_lines.specs.Walks.{absence_of_place, each_at}
use Rattle.mcs_asked.specs.Questions.{theory_names, theory_items}
use Rattle.mcs_judging.proofs.Ways.{IsOnTheWay}
use Rattle.mcs_judging.proofs.absences.judge_absences.Given as goal

abbrev pub invariant-loop-place : goal.invariant-loop-place
invariant-loop-place l = record {
  kept : l.known ≡ l.fn.known;
  below : AllByRecursion (λ k. k < 64) l.place-iterator;
  way : IsOnTheWay (AreAbsent (theory_names l.reading.theory.now) (theory_items l.reading.theory.now) (map (λ f. formula_of f.now) l.premises) l.fn.places) (AreAbsent (theory_names l.reading.theory.now) (theory_items l.reading.theory.now) (map (λ f. formula_of f.now) l.premises) l.place-iterator) l.are_right
      (each_at (absence_of_place l.reading.terms.now.atoms.now l.reading.terms.now.justs.now) l.fn.places l.fn.lines) (each_at (absence_of_place l.reading.terms.now.atoms.now l.reading.terms.now.justs.now) l.place-iterator l.lines);
}
