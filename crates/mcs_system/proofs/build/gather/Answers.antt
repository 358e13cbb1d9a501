use Rattle.std.proofs.Common.{List, sym, subst}
use Rattle.mcs_system.specs.declared.knowledge.Context as code
use Rattle.mcs_system.specs.Built.{PassesFirst, AreFewReads}
use Rattle.mcs_system.specs.Seen.{system_of}
use Rattle.mcs_system.proofs.AtomLemmas.{own_exceed}
use Rattle.mcs_system.proofs.BuildLemmas.{due_told, atoms_told, few_reads, fault_handed}
use Rattle.mcs_system.proofs.build.gather.Goals as goal

pub returns-in_err-contexts-clause-fault : goal.returns-in_err-contexts-clause-fault
returns-in_err-contexts-clause-fault c =
    let vs : AreFewReads (system_of c.args.contexts.items c.args.bridges.now) c.in_ok-reads.reads = rw c.deref.ensures.value at c.in_ok-reads.ensures.ok in
    due_told (system_of c.args.contexts.items c.args.bridges.now) _ _ _ _ c.from_residual-in_err-contexts.ensures.1
    (λ has. atoms_told (system_of c.args.contexts.items c.args.bridges.now) c.requires (few_reads (system_of c.args.contexts.items c.args.bridges.now) c.in_ok-reads.reads vs) vs.inputs (own_exceed c.args.contexts.items c.args.bridges.now has))
    c.in_err-contexts.ensures.many

pub kept_of-requires-clause-first : goal.kept_of-requires-clause-first
kept_of-requires-clause-first c = subst (λ (cs : List code.Context). PassesFirst (system_of cs c.args.bridges.now)) (sym c.in_ok-contexts.ensures.own.0) c.requires

pub kept_of-requires-clause-reads : goal.kept_of-requires-clause-reads
kept_of-requires-clause-reads c = subst (λ (cs : List code.Context). AreFewReads (system_of cs c.args.bridges.now) c.in_ok-reads.reads) (sym c.in_ok-contexts.ensures.own.0) (rw c.deref.ensures.value at c.in_ok-reads.ensures.ok)

pub returns-in_err-kept-clause-fault : goal.returns-in_err-kept-clause-fault
returns-in_err-kept-clause-fault c = fault_handed _ _ c.args.bridges.now _ _ c.from_residual-in_err-kept.ensures.1 c.in_ok-contexts.ensures.own.0 c.in_err-kept.ensures.fault

pub returns-clause-ok : goal.returns-clause-ok
returns-clause-ok c = record { contexts_are = c.in_ok-contexts.ensures.own.0; own = c.in_ok-contexts.ensures.own.1; gathered = c.in_ok-kept.ensures.ok }
