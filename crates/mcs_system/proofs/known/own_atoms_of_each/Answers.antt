use Rattle.std.proofs.Common.{List, subst, refl, arith}
use Rattle.std.proofs.lemmas.List.{take_all}
use Rattle.mcs_system.specs.declared.knowledge.Context as code
use Rattle.mcs_system.specs.Built.{AreOwnAtoms}
use Rattle.mcs_system.proofs.GatherLemmas.{due_handed}
use Rattle.mcs_system.proofs.KnownLemmas.{none_own, own_more, own_many}
use Rattle.mcs_system.proofs.known.own_atoms_of_each.Goals as goal

pub loop-context-init : goal.loop-context-init
loop-context-init c = none_own _ _ refl c.new-own.ensures.items

pub returns-in_err-atoms-clause-many : goal.returns-in_err-atoms-clause-many
returns-in_err-atoms-clause-many c = due_handed _ _ _ _ _ c.from_residual.ensures.1
    (own_many c.args.contexts.now c.loop-context.context-index c.context-item.result c.loop-context-test.true c.context-item.is)
    c.in_err-atoms.ensures.many

pub loop-context-preserved : goal.loop-context-preserved
loop-context-preserved c = own_more c.args.contexts.now c.loop-context.context-index c.context-item.result c.loop-context-test.true c.context-item.is _ _ _ c.in_ok-push.ensures.items c.in_ok-atoms.ensures.own c.loop-context.invariant

pub returns-clause-own : goal.returns-clause-own
returns-clause-own c = subst (λ (cs : List code.Context). AreOwnAtoms cs c.loop-context.own.items) (take_all c.loop-context.context-index c.args.contexts.now (omega arith)) c.loop-context.invariant
