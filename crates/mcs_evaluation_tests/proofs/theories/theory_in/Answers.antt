use Rattle.std.proofs.Common.{◌≤◌, map, subst, arith}
use Rattle.mcs_system.specs.Faults.{default_count}
use Rattle.mcs_system.specs.Seen.{item_of, kb_of}
use Rattle.mcs_system.specs.declared.knowledge.Kb as code
use Rattle.mcs_asking.proofs.KindLemmas.{defaults_counted}
use Rattle.mcs_evaluation_tests.proofs.theories.theory_in.Goals as goal

pub returns-in-DefaultTheory-clause-few : goal.returns-in-DefaultTheory-clause-few
returns-in-DefaultTheory-clause-few c =
    let few = subst (λ (k : code.Kb). default_count (kb_of k) ≤ 10) c.in-DefaultTheory.is c.requires.few in
    rw c.as_slice.ensures.value (omega (arith, few, defaults_counted (map item_of c.in-DefaultTheory.items.items)))
