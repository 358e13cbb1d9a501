use Rattle.std.proofs.Common.{◌≡◌, ◌++◌, map, codes}
use Rattle.std.specs.List.{AllByRecursion}
use Rattle.mcs_sets.specs.Sets.{members}
use Rattle.mcs_report.proofs.RepairLemmas.{AreMarks}
use Rattle.mcs_text.specs.Separated.{separated}
use Rattle.mcs_transversal.specs.Transversals.{HasCriticalEdge}
use Rattle.mcs_report.specs.Repairs.{reason_text}
use Rattle.mcs_text.proofs.Members.{left}
use Rattle.mcs_report.proofs.repair_lines.push_reasons.Given as goal
use Rattle.mcs_base.proofs.SetParts.{AreBelow}

abbrev pub invariant-loop-mark : goal.invariant-loop-mark
invariant-loop-mark l = record {
  written : l.text ++ left l.is_first (map (reason_text l.system l.edges l.fn.t) l.mark-iterator) ≡ l.fn.text ++ (codes "{" ++ separated (map (reason_text l.system l.edges l.fn.t) (members l.fn.t)));
  below : AreBelow 128 l.mark-iterator;
  known : AreMarks l.system l.mark-iterator;
  critical : AllByRecursion (HasCriticalEdge l.edges l.fn.t) l.mark-iterator;
}
