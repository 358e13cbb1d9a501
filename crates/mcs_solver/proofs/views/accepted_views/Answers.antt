use Rattle.std.proofs.Common.{List, ◌≤◌, map, sym, subst, arith}
use Rattle.mcs_system.specs.Plain.{Classical, DefaultTheory}
use Rattle.mcs_system.specs.Seen.{formula_of, item_of, kb_of}
use Rattle.mcs_system.specs.declared.formula.Formula.{Formula}
use Rattle.mcs_system.specs.declared.knowledge.Kb as code
use Rattle.mcs_system.specs.declared.knowledge.TheoryItem.{TheoryItem}
use Rattle.mcs_asking.specs.Kinds.{part_count, AreOfKind}
use Rattle.mcs_asking.proofs.KindLemmas.{defaults_counted}
use Rattle.mcs_solver.specs.Questions.{asked_beliefs, asked_heads, IsMadeFor}
use Rattle.mcs_solver.proofs.views.accepted_views.Goals as goal

pub classical_views-requires-clause-made : goal.classical_views-requires-clause-made
classical_views-requires-clause-made c =
    subst
    (λ (fs : List Formula). IsMadeFor c.args.question.now (Classical (map formula_of fs)) c.args.known.now)
    (sym c.deref.ensures.value)
    (subst (λ (k : code.Kb). IsMadeFor c.args.question.now (kb_of k) c.args.known.now) c.in-Classical.is c.requires.made)

pub theory_views-requires-clause-few_defaults : goal.theory_views-requires-clause-few_defaults
theory_views-requires-clause-few_defaults c =
    let few = subst (λ (k : code.Kb). part_count (kb_of k) ≤ 10) c.in-DefaultTheory.is c.requires.few_parts in
    rw c.deref-in-DefaultTheory.ensures.value (omega (arith, few, defaults_counted (map item_of c.in-DefaultTheory.items.items)))

pub theory_views-requires-clause-made : goal.theory_views-requires-clause-made
theory_views-requires-clause-made c =
    subst
    (λ (is : List TheoryItem). IsMadeFor c.args.question.now (DefaultTheory (map item_of is)) c.args.known.now)
    (sym c.deref-in-DefaultTheory.ensures.value)
    (subst (λ (k : code.Kb). IsMadeFor c.args.question.now (kb_of k) c.args.known.now) c.in-DefaultTheory.is c.requires.made)

pub program_views-requires-clause-heads : goal.program_views-requires-clause-heads
program_views-requires-clause-heads c = subst (λ (k : code.Kb). AreOfKind (kb_of k) (asked_heads c.args.question.now)) c.in-Program.is c.requires.heads

pub program_views-requires-clause-beliefs : goal.program_views-requires-clause-beliefs
program_views-requires-clause-beliefs c = subst (λ (k : code.Kb). AreOfKind (kb_of k) (asked_beliefs c.args.question.now)) c.in-Program.is c.requires.beliefs

pub returns-in-Classical-clause-made : goal.returns-in-Classical-clause-made
returns-in-Classical-clause-made c =
    subst (λ (k : code.Kb). IsMadeFor c.args.question.now (kb_of k) c.classical_views.new.known) (sym c.in-Classical.is)
    (subst
    (λ (fs : List Formula). IsMadeFor c.args.question.now (Classical (map formula_of fs)) c.classical_views.new.known)
    c.deref.ensures.value
    c.classical_views.ensures.made)

pub returns-in-DefaultTheory-clause-made : goal.returns-in-DefaultTheory-clause-made
returns-in-DefaultTheory-clause-made c =
    subst (λ (k : code.Kb). IsMadeFor c.args.question.now (kb_of k) c.theory_views.new.known) (sym c.in-DefaultTheory.is)
    (subst
    (λ (is : List TheoryItem). IsMadeFor c.args.question.now (DefaultTheory (map item_of is)) c.theory_views.new.known)
    c.deref-in-DefaultTheory.ensures.value
    c.theory_views.ensures.made)
