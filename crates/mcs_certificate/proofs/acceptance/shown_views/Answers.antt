use Rattle.std.proofs.Common.{◌≤◌, IsTrue, map, subst, arith}
use Rattle.mcs_system.specs.Plain.{Formula}
use Rattle.mcs_system.specs.Faults.{is_atom}
use Rattle.mcs_system.specs.Seen.{formula_of, item_of, kb_of}
use Rattle.mcs_system.specs.declared.knowledge.Kb as code
use Rattle.mcs_base.proofs.Mapped.{all_from_map}
use Rattle.mcs_asking.specs.Kinds.{part_count, AreOfKind}
use Rattle.mcs_asking.proofs.KindLemmas.{defaults_counted}
use Rattle.mcs_certificate.proofs.acceptance.shown_views.Goals as goal

pub default_views-requires-clause-few_defaults : goal.default_views-requires-clause-few_defaults
default_views-requires-clause-few_defaults c =
    let few = subst (λ (k : code.Kb). part_count (kb_of k) ≤ 10) c.in-DefaultTheory.is c.args.question.now.few_parts in
    rw c.deref-in-DefaultTheory.ensures.value (omega (arith, few, defaults_counted (map item_of c.in-DefaultTheory.items.items)))

pub program_views-requires-clause-belief_atoms : goal.program_views-requires-clause-belief_atoms
program_views-requires-clause-belief_atoms c =
    all_from_map (λ (f : Formula). IsTrue (is_atom f)) (λ f. formula_of f.now) c.args.question.now.asked.now.beliefs.now (subst (λ (k : code.Kb). AreOfKind (kb_of k) (map (λ f. formula_of f.now) c.args.question.now.asked.now.beliefs.now)) c.in-Program.is c.args.question.now.kinds)
