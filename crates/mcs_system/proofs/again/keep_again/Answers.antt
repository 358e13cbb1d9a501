use Rattle.mcs_system.proofs.BuildLemmas.{fault_handed}
use Rattle.mcs_system.proofs.KnownLemmas.{kept_known}
use Rattle.mcs_system.proofs.again.keep_again.Goals as goal

pub pass_first_with-requires : goal.pass_first_with-requires
pass_first_with-requires c = rw c.deref.ensures.value c.requires.tested

pub returns-in_err-pass_first_with-clause-fault : goal.returns-in_err-pass_first_with-clause-fault
returns-in_err-pass_first_with-clause-fault c = fault_handed _ _ c.args.bridges.now _ _ c.from_residual.ensures.1 c.deref.ensures.value c.in_err-pass_first_with.ensures.fault

pub gather_again-requires-clause-first : goal.gather_again-requires-clause-first
gather_again-requires-clause-first c = rw c.deref.ensures.value at c.in_ok-pass_first_with.ensures.ok

pub pass_last_with-requires-clause-tested : goal.pass_last_with-requires-clause-tested
pass_last_with-requires-clause-tested c = rw c.deref-2.ensures.value c.requires.tested

pub pass_last_with-requires-clause-passes : goal.pass_last_with-requires-clause-passes
pass_last_with-requires-clause-passes c = rw c.deref-2.ensures.value (record { first = rw c.deref.ensures.value at c.in_ok-pass_first_with.ensures.ok; limited = c.in_ok-kept.ensures.ok.limited })

pub returns-in_err-pass_last_with-clause-fault : goal.returns-in_err-pass_last_with-clause-fault
returns-in_err-pass_last_with-clause-fault c = fault_handed _ _ c.args.bridges.now _ _ c.from_residual-in_err-pass_last_with.ensures.1 c.deref-2.ensures.value c.in_err-pass_last_with.ensures.fault

pub returns-clause-ok : goal.returns-clause-ok
returns-clause-ok c = kept_known c.args.contexts.now c.args.bridges.now c.in_ok-kept.kept c.requires c.in_ok-kept.ensures.ok (rw c.deref-2.ensures.value at c.in_ok-pass_last_with.ensures.ok) c.are_named.ensures
