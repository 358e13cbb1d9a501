use Rattle.std.proofs.Common.{◌≡◌, ℕ, ◌+◌, map}
use Rattle.mcs_system.specs.Seen.{formula_of}
use Rattle.mcs_evidence.specs.Defaults.{absence_of, IsAbsent}
use Rattle.mcs_entailment.proofs.General.{GoFrom}
use Rattle.mcs_asked.specs.Questions.{theory_names, theory_items}
use Rattle.mcs_extensions.proofs.absence.are_absent_at.Given as goal

abbrev pub invariant-loop-index : goal.invariant-loop-index
invariant-loop-index l = record {
  kept : l.known ≡ l.fn.known;
  rest : GoFrom (λ k absence. IsAbsent (theory_names l.theory) (theory_items l.theory) (map (λ f. formula_of f.now) l.premises) (k + 1) absence) (λ (k : ℕ). k) absence_of l.places l.absences l.index;
}
