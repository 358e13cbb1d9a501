use Rattle.std.proofs.Common.{Err, refl, arith}
use Rattle.std.proofs.lemmas.List.{drop_all}
use Rattle.mcs_system.proofs.GatherLemmas.{goes_on, goes_cut, gathers_nothing, due_from_nothing, all_from_nothing, due_handed, occurrences-drop, context_variables-gathered}
use Rattle.mcs_system.proofs.variables.variables_of_context.Goals as goal

pub returns-in_err-add_reads-clause-many : goal.returns-in_err-add_reads-clause-many
returns-in_err-add_reads-clause-many c = due_handed _ _ _ _ _ c.from_residual.ensures.1 (λ h. h) (due_from_nothing _ _ _ _ _ _ (Err _) refl (context_variables-gathered c.args.bridges.now c.args.context)
    (goes_cut _ _ _ _ _ _ _ _ _ _ _ c.loop-bridge.invariant (occurrences-drop c.args.context c.args.bridges.now c.loop-bridge.bridge-index c.bridge-item.result c.loop-bridge-test.true c.bridge-item.is) refl (rw c.deref.ensures.value at c.in_err-add_reads.ensures)))

pub returns-in_err-add_reads-2-clause-many : goal.returns-in_err-add_reads-2-clause-many
returns-in_err-add_reads-2-clause-many c = due_handed _ _ _ _ _ c.from_residual-in_err-add_reads-2.ensures.1 (λ h. h) (due_from_nothing _ _ _ _ _ _ (Err _) refl (context_variables-gathered c.args.bridges.now c.args.context)
    (goes_cut _ _ _ _ _ _ _ _ _ _ _ (goes_on _ _ _ _ _ _ _ _ _ _ c.loop-bridge.invariant (occurrences-drop c.args.context c.args.bridges.now c.loop-bridge.bridge-index c.bridge-item.result c.loop-bridge-test.true c.bridge-item.is) (rw c.deref.ensures.value at c.in_ok-add_reads.ensures))
    refl refl (rw c.deref-in-loop-bridge.ensures.value at c.in_err-add_reads-2.ensures)))

pub loop-bridge-preserved : goal.loop-bridge-preserved
loop-bridge-preserved c = goes_on _ _ _ _ _ _ _ _ _ _ (goes_on _ _ _ _ _ _ _ _ _ _ c.loop-bridge.invariant (occurrences-drop c.args.context c.args.bridges.now c.loop-bridge.bridge-index c.bridge-item.result c.loop-bridge-test.true c.bridge-item.is) (rw c.deref.ensures.value at c.in_ok-add_reads.ensures))
    refl (rw c.deref-in-loop-bridge.ensures.value at c.in_ok-add_reads-2.ensures)

pub returns-clause-variables : goal.returns-clause-variables
returns-clause-variables c =
    let none = drop_all c.loop-bridge.bridge-index c.args.bridges.now (omega arith) in
    (all_from_nothing _ _ _ _ _ _ tt refl (context_variables-gathered c.args.bridges.now c.args.context) (c.loop-bridge.invariant _ _ (rw none (gathers_nothing _ _ _ _)))).0
