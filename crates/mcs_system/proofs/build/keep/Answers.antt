use Rattle.std.proofs.Common.{◌∙◌}
use Rattle.mcs_system.proofs.BuildLemmas.{fault_handed, passes_built, system_built}
use Rattle.mcs_system.proofs.build.keep.Goals as goal

pub returns-in_err-pass_first-clause-fault : goal.returns-in_err-pass_first-clause-fault
returns-in_err-pass_first-clause-fault c = fault_handed _ _ c.args.bridges.now _ _ c.from_residual.ensures.1 c.deref.ensures.value c.in_err-pass_first.ensures.fault

pub gather-requires : goal.gather-requires
gather-requires c = rw c.deref.ensures.value at c.in_ok-pass_first.ensures.ok

pub pass_last-requires : goal.pass_last-requires
pass_last-requires c = rw c.deref-2.ensures.value (passes_built c.args.contexts.items c.args.bridges.now c.in_ok-built.built c.in_ok-built.ensures.ok (rw c.deref.ensures.value at c.in_ok-pass_first.ensures.ok))

pub returns-in_err-pass_last-clause-fault : goal.returns-in_err-pass_last-clause-fault
returns-in_err-pass_last-clause-fault c = fault_handed _ _ c.args.bridges.now _ _ c.from_residual-in_err-pass_last.ensures.1 (c.deref-2.ensures.value ∙ c.in_ok-built.ensures.ok.contexts_are) c.in_err-pass_last.ensures.fault

pub returns-clause-ok : goal.returns-clause-ok
returns-clause-ok c = system_built c.args.contexts.items c.args.bridges.now c.in_ok-built.built c.in_ok-built.ensures.ok (rw c.deref-2.ensures.value at c.in_ok-pass_last.ensures.ok) (rw c.deref-3.ensures.value at c.system_is_named.ensures)
