use Rattle.std.proofs.Common.{◌≡◌, ◌<◌, ◌++◌, map, codes}
use Rattle.std.specs.List.{AllByRecursion}
use Rattle.mcs_text.specs.Separated.{separated}
use Rattle.mcs_report.specs.Members.{member_text, member_count}
use Rattle.mcs_text.proofs.Members.{left}
use Rattle.mcs_report.proofs.members.push_braced.Given as goal

abbrev pub invariant-loop-number : goal.invariant-loop-number
invariant-loop-number l = record {
  written : l.text ++ left l.is_first (map (member_text l.kind l.system) l.number-iterator) ≡ l.fn.text ++ (codes "{" ++ separated (map (member_text l.kind l.system) l.fn.set));
  known : AllByRecursion (λ k. k < member_count l.kind l.system) l.number-iterator;
}
