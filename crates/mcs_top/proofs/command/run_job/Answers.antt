use Rattle.std.proofs.Common.{◌≤◌, ◌∙◌, ℕ, List, Option, sym, subst, inl, inr, arith}
use Rattle.mcs_ports.specs.Causes.{Rose}
use Rattle.mcs_words.specs.Reading.{texts_of, request_of}
use Rattle.mcs_listing.specs.Jobs.{told_all}
use Rattle.mcs_top.specs.Meaning.{files_in, meaning}
use Rattle.mcs_top.specs.Promise.{IsStopCause, LeavesText}
use Rattle.mcs_top.proofs.PromiseLemmas.{told_since, words_kept, done_kept, rejected_kept, stop_kept}
use Rattle.mcs_crew.specs.Trails.{trail_of}
use Rattle.mcs_top.proofs.JobTrails as trails
use Rattle.mcs_top.proofs.EndingLemmas.{words_told}
use Rattle.mcs_top.proofs.command.run_job.Goals as goal

-- ---- words that are no job
pub returns-in-Err-clause-kept : goal.returns-in-Err-clause-kept
returns-in-Err-clause-kept g c =
    let same : ℕ = g.H.Shelf.faults c.args.shelf.now in
    words_kept (texts_of c.args.words.now) (g.H.Shelf.held c.args.shelf.now) same same (g.H.Shelf.failures c.args.shelf.now) (g.H.Shelf.failures c.args.shelf.now)
    (g.K.Sink.device c.args.sink.now) (g.K.Sink.device c.tell.new.sink) (omega arith) c.tell.ensures.written c.tell.ensures.faults c.in-Err.fault c.into.result c.tell.result c.into.ensures (λ is. c.in-Err.ensures is) c.tell.ensures.told

-- ---- a job that was done
pub returns-in-Ok-Done-clause-kept : goal.returns-in-Ok-Done-clause-kept
returns-in-Ok-Done-clause-kept g c =
    done_kept (texts_of c.args.words.now) (g.H.Shelf.held c.args.shelf.now) (g.H.Shelf.faults c.args.shelf.now) (g.H.Shelf.faults c.do_job.new.shelf) (g.H.Shelf.failures c.args.shelf.now) (g.H.Shelf.failures c.do_job.new.shelf)
    (g.K.Sink.device c.args.sink.now) (g.K.Sink.device c.do_job.new.sink) c.in-Ok-Done.ensures.does.shelf_later (request_of c.in-Ok.job) c.in-Ok.ensures c.in-Ok-Done.ensures.does.sink.notes (c.in-Ok-Done.ensures.does.sink.unfailed (λ is. cc))
    (rw c.in-Ok-Done.field-0-is at c.in-Ok-Done.ensures.does.ok)

pub returns-in-Ok-Done-clause-unread : goal.returns-in-Ok-Done-clause-unread
returns-in-Ok-Done-clause-unread g c none = c.in-Ok-Done.ensures.unread (none (request_of c.in-Ok.job) c.in-Ok.ensures)

-- ---- a job that found a report not valid
pub returns-in-Ok-NotValid-clause-kept : goal.returns-in-Ok-NotValid-clause-kept
returns-in-Ok-NotValid-clause-kept g c =
    rejected_kept (texts_of c.args.words.now) (g.H.Shelf.held c.args.shelf.now) (g.H.Shelf.faults c.args.shelf.now) (g.H.Shelf.faults c.do_job.new.shelf) (g.H.Shelf.failures c.args.shelf.now) (g.H.Shelf.failures c.do_job.new.shelf)
    (g.K.Sink.device c.args.sink.now) (g.K.Sink.device c.do_job.new.sink) c.in-Ok-NotValid.ensures.does.shelf_later (request_of c.in-Ok.job) c.in-Ok.ensures c.in-Ok-NotValid.ensures.does.sink.notes (c.in-Ok-NotValid.ensures.does.sink.unfailed (λ is. cc))
    (rw c.in-Ok-NotValid.field-0-is at c.in-Ok-NotValid.ensures.does.ok)

pub returns-in-Ok-NotValid-clause-unread : goal.returns-in-Ok-NotValid-clause-unread
returns-in-Ok-NotValid-clause-unread g c none = c.in-Ok-NotValid.ensures.unread (none (request_of c.in-Ok.job) c.in-Ok.ensures)

-- ---- a job that stopped
pub returns-clause-kept : goal.returns-clause-kept
returns-clause-kept g c =
    let before = g.K.Sink.device c.args.sink.now in
    let mid = g.K.Sink.device c.do_job.new.sink in
    let now = g.K.Sink.device c.tell-in-Err-do_job.new.sink in
    let job = request_of c.in-Ok.job in
    let files = told_all (g.H.Shelf.held c.args.shelf.now) (files_in job) in
    let rose = Rose (g.H.Shelf.faults c.args.shelf.now) (g.H.Shelf.faults c.do_job.new.shelf) in
    let failed = Rose (g.H.Shelf.failures c.args.shelf.now) (g.H.Shelf.failures c.do_job.new.shelf) in
    let stop = c.in-Err-do_job.stop in
    stop_kept (texts_of c.args.words.now) (g.H.Shelf.held c.args.shelf.now) (g.H.Shelf.faults c.args.shelf.now) (g.H.Shelf.faults c.do_job.new.shelf) (g.H.Shelf.failures c.args.shelf.now) (g.H.Shelf.failures c.do_job.new.shelf)
    before now c.in-Err-do_job.ensures.does.shelf_later job c.in-Ok.ensures stop c.tell-in-Err-do_job.result
    (told_since stop c.tell-in-Err-do_job.result before mid now c.in-Err-do_job.ensures.does.sink.notes c.tell-in-Err-do_job.ensures.told)
    (subst (λ (n : ℕ). IsStopCause stop rose failed (Rose before.faults n) (meaning job) files) (sym c.tell-in-Err-do_job.ensures.faults) c.in-Err-do_job.ensures.does.cause)
    (subst (λ (w : Option (List ℕ)). LeavesText stop (meaning job) files before.written w) (sym c.tell-in-Err-do_job.ensures.written) c.in-Err-do_job.ensures.does.leaves)
    (subst (λ (n : ℕ). before.faults ≤ n) (sym c.tell-in-Err-do_job.ensures.faults) c.in-Err-do_job.ensures.does.sink.later)
    (λ other. c.tell-in-Err-do_job.ensures.faults ∙ c.in-Err-do_job.ensures.does.sink.unfailed (λ is. other (c.tell-in-Err-do_job.ensures.fault (cc is))))

pub returns-clause-unread : goal.returns-clause-unread
returns-clause-unread g c none = c.in-Err-do_job.ensures.unread (none (request_of c.in-Ok.job) c.in-Ok.ensures)

-- ---- what is left to be seen
pub returns-in-Err-clause-trail : goal.returns-in-Err-clause-trail
returns-in-Err-clause-trail g c =
    let told = words_told c.in-Err.fault c.into.result c.tell.result (g.K.Sink.device c.args.sink.now) (g.K.Sink.device c.tell.new.sink) c.into.ensures c.tell.ensures.told in
    trails.nothing_kept (texts_of c.args.words.now) (g.H.Shelf.held c.args.shelf.now) (g.K.Sink.device c.args.sink.now).notes (g.K.Sink.device c.tell.new.sink).notes (trail_of c.args.trail.now) c.tell.result c.requires
    (λ is. elim told [ inl usage ↦ (let no = usage.0 in cc) | inr want ↦ cc ]) (λ is. elim told [ inl usage ↦ (let no = usage.0 in cc) | inr want ↦ cc ])

pub returns-in-Ok-Done-clause-trail : goal.returns-in-Ok-Done-clause-trail
returns-in-Ok-Done-clause-trail g c =
    trails.done_kept (texts_of c.args.words.now) (g.H.Shelf.held c.args.shelf.now) (g.K.Sink.device c.args.sink.now).notes (g.K.Sink.device c.do_job.new.sink).notes (trail_of c.do_job.new.trail) (request_of c.in-Ok.job) c.in-Ok.ensures
    (rw c.in-Ok-Done.field-0-is at c.in-Ok-Done.ensures.trail c.requires)

pub returns-in-Ok-NotValid-clause-trail : goal.returns-in-Ok-NotValid-clause-trail
returns-in-Ok-NotValid-clause-trail g c =
    trails.rejected_kept (texts_of c.args.words.now) (g.H.Shelf.held c.args.shelf.now) (g.K.Sink.device c.args.sink.now).notes (g.K.Sink.device c.do_job.new.sink).notes (trail_of c.do_job.new.trail) (request_of c.in-Ok.job) c.in-Ok.ensures
    (rw c.in-Ok-NotValid.field-0-is at c.in-Ok-NotValid.ensures.trail c.requires)

pub returns-clause-trail : goal.returns-clause-trail
returns-clause-trail g c =
    let before = g.K.Sink.device c.args.sink.now in
    let mid = g.K.Sink.device c.do_job.new.sink in
    let now = g.K.Sink.device c.tell-in-Err-do_job.new.sink in
    trails.stop_kept (texts_of c.args.words.now) (g.H.Shelf.held c.args.shelf.now) before now (trail_of c.do_job.new.trail) (request_of c.in-Ok.job) c.in-Ok.ensures c.in-Err-do_job.stop c.tell-in-Err-do_job.result
    (told_since c.in-Err-do_job.stop c.tell-in-Err-do_job.result before mid now c.in-Err-do_job.ensures.does.sink.notes c.tell-in-Err-do_job.ensures.told) _ _ _ c.in-Err-do_job.ensures.does.cause (c.in-Err-do_job.ensures.trail c.requires)
