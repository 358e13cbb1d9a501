use Rattle.std.proofs.Common.{inl, refl}
use Rattle.mcs_ports.specs.Causes.{Rose}
use Rattle.mcs_base.proofs.Results.{err_told}
use Rattle.mcs_listing.specs.Listings.{StopsAnswers}
use Rattle.mcs_listing.proofs.LineLemmas.{answers_stopped, asked_also}
use Rattle.mcs_listing.proofs.LineLemmas.{line_unfailed}
use Rattle.mcs_listing.proofs.answers.write_answers.Goals as goal

pub write_proof-requires : goal.write_proof-requires
write_proof-requires g c = (c.requires.0, (rw c.deref.ensures.value (asked_also c.args.system.now c.requires.0 c.in_ok-solvers.solvers.items _ c.in_ok-solvers.ensures c.requires.1)))

pub returns-in_err-solvers-clause-stop : goal.returns-in_err-solvers-clause-stop
returns-in_err-solvers-clause-stop g c level asked =
    let at = (g.K.Sink.device c.args.sink.now).written in
    err_told (λ stop. StopsAnswers stop c.args.system.now level (Rose (g.K.Sink.device c.args.sink.now).faults (g.K.Sink.device c.args.sink.now).faults) at at) _ _ c.from_residual.ensures.1 (inl refl)

pub returns-in_err-write_proof-clause-later : goal.returns-in_err-write_proof-clause-later
returns-in_err-write_proof-clause-later g c = (c.in_err-write_proof.ensures c.requires.0 (rw c.deref.ensures.value (asked_also c.args.system.now c.requires.0 c.in_ok-solvers.solvers.items _ c.in_ok-solvers.ensures c.requires.1))).later

pub returns-in_err-write_proof-clause-notes : goal.returns-in_err-write_proof-clause-notes
returns-in_err-write_proof-clause-notes g c = (c.in_err-write_proof.ensures c.requires.0 (rw c.deref.ensures.value (asked_also c.args.system.now c.requires.0 c.in_ok-solvers.solvers.items _ c.in_ok-solvers.ensures c.requires.1))).notes

pub returns-in_err-write_proof-clause-stop : goal.returns-in_err-write_proof-clause-stop
returns-in_err-write_proof-clause-stop g c level asked =
    let before = g.K.Sink.device c.args.sink.now in
    let now = g.K.Sink.device c.write_proof.new.sink in
    err_told (λ stop. StopsAnswers stop c.args.system.now level (Rose before.faults now.faults) before.written now.written) _ _ c.from_residual-in_err-write_proof.ensures.1
    (answers_stopped c.args.system.now level before now _ (c.in_err-write_proof.ensures level (rw c.deref.ensures.value (asked_also c.args.system.now level c.in_ok-solvers.solvers.items _ c.in_ok-solvers.ensures asked))))

pub returns-clause-later : goal.returns-clause-later
returns-clause-later g c = (c.in_ok-write_proof.ensures c.requires.0 (rw c.deref.ensures.value (asked_also c.args.system.now c.requires.0 c.in_ok-solvers.solvers.items _ c.in_ok-solvers.ensures c.requires.1))).later

pub returns-clause-notes : goal.returns-clause-notes
returns-clause-notes g c = (c.in_ok-write_proof.ensures c.requires.0 (rw c.deref.ensures.value (asked_also c.args.system.now c.requires.0 c.in_ok-solvers.solvers.items _ c.in_ok-solvers.ensures c.requires.1))).notes

pub returns-clause-ok : goal.returns-clause-ok
returns-clause-ok g c level asked = (c.in_ok-write_proof.ensures level (rw c.deref.ensures.value (asked_also c.args.system.now level c.in_ok-solvers.solvers.items _ c.in_ok-solvers.ensures asked))).whole

pub returns-in_err-write_proof-clause-unfailed : goal.returns-in_err-write_proof-clause-unfailed
returns-in_err-write_proof-clause-unfailed g c = line_unfailed _ _ _ _ c.from_residual-in_err-write_proof.ensures.1 (c.in_err-write_proof.ensures c.requires.0 (rw c.deref.ensures.value (asked_also c.args.system.now c.requires.0 c.in_ok-solvers.solvers.items _ c.in_ok-solvers.ensures c.requires.1))).due

pub returns-clause-unfailed : goal.returns-clause-unfailed
returns-clause-unfailed g c other = (c.in_ok-write_proof.ensures c.requires.0 (rw c.deref.ensures.value (asked_also c.args.system.now c.requires.0 c.in_ok-solvers.solvers.items _ c.in_ok-solvers.ensures c.requires.1))).quiet
