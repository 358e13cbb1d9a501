use Rattle.std.proofs.Common.{◌≡◌, ◌++◌, map, codes}
use Rattle.mcs_report.proofs.RepairLemmas.{AreMarks}
use Rattle.mcs_text.specs.Separated.{separated}
use Rattle.mcs_report.specs.Repairs.{mark_text}
use Rattle.mcs_text.proofs.Members.{left}
use Rattle.mcs_report.proofs.repair_lines.push_marks.Given as goal

abbrev pub invariant-loop-mark : goal.invariant-loop-mark
invariant-loop-mark l = record {
  written : l.text ++ left l.is_first (map (mark_text l.system) l.mark-iterator) ≡ l.fn.text ++ (codes "{" ++ separated (map (mark_text l.system) l.fn.marks));
  known : AreMarks l.system l.mark-iterator;
}
