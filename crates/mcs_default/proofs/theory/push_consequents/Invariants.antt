use Rattle.std.proofs.Common.{◌≡◌, ◌≤◌, take, map, length}
use Rattle.mcs_system.specs.Seen.{default_of}
use Rattle.mcs_cnf.specs.ClauseLists.{with_formulas}
use Rattle.mcs_grounding.specs.Theories.{consequents}
use Rattle.mcs_default.proofs.theory.push_consequents.Given as goal

abbrev pub invariant-loop-index : goal.invariant-loop-index
invariant-loop-index l = record {
  all : l.known ≡ with_formulas l.theory.asked.now.atoms.now l.fn.known (consequents (map (λ d. default_of d.now) (take l.index l.theory.defaults.now)) l.set);
  room : length l.theory.asked.now.atoms.now ≤ l.known.vars;
}
