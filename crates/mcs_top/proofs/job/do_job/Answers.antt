use Rattle.std.proofs.Common.{arith}
use Rattle.mcs_words.specs.Commands.{make}
use Rattle.mcs_top.proofs.StageLemmas.{made_output, made_causes, made_leaves}
use Rattle.mcs_top.proofs.DoingLemmas.{does_done}
use Rattle.mcs_crew.specs.Trails.{trail_of}
use Rattle.mcs_top.specs.Meaning.{IsToldCheapest, IsToldValid, meaning}
use Rattle.mcs_top.proofs.JobTrails.{check_left, made_left, session_left}
use Rattle.mcs_top.proofs.job.do_job.Goals as goal

pub returns-in-Equilibria-clause-does : goal.returns-in-Equilibria-clause-does
returns-in-Equilibria-clause-does g c = rw (c.in-Equilibria.is, ← c.deref.ensures, c.done.ensures) (rw (c.plain-assignment.ensures.task, c.plain-assignment.ensures.budget, c.plain-assignment.ensures.workers) at c.evaluate.ensures.does)

pub returns-then-proof-clause-does : goal.returns-then-proof-clause-does
returns-then-proof-clause-does g c = rw (c.in-Solve.is, c.if-proof.true, ← c.deref-then-proof.ensures, c.done-then-proof.ensures) (c.prove.ensures.does)

pub returns-else-proof-clause-does : goal.returns-else-proof-clause-does
returns-else-proof-clause-does g c = rw (c.in-Solve.is, c.if-proof.false, ← c.deref-else-proof.ensures, c.done-else-proof.ensures)
    (rw (c.plain-assignment-else-proof.ensures.task, c.plain-assignment-else-proof.ensures.budget, c.plain-assignment-else-proof.ensures.workers) at c.evaluate-else-proof.ensures.does)

pub returns-in-Grounded-clause-does : goal.returns-in-Grounded-clause-does
returns-in-Grounded-clause-does g c = rw (c.in-Grounded.is, ← c.deref-in-Grounded.ensures, c.done-in-Grounded.ensures)
    (rw (c.plain-assignment-in-Grounded.ensures.task, c.plain-assignment-in-Grounded.ensures.budget, c.plain-assignment-in-Grounded.ensures.workers) at c.evaluate-in-Grounded.ensures.does)

pub returns-in-None-clause-does : goal.returns-in-None-clause-does
returns-in-None-clause-does g c = rw (c.in-Cheapest.is, c.in-None.is, ← c.deref-in-None.ensures, c.done-in-None.ensures)
    (rw (c.plain-assignment-in-None.ensures.task, c.plain-assignment-in-None.ensures.budget, c.plain-assignment-in-None.ensures.workers) at c.evaluate-in-None.ensures.does)

pub returns-in-Make-clause-does : goal.returns-in-Make-clause-does
returns-in-Make-clause-does g c = rw (c.in-Make.is, c.done-in-Make.ensures) (does_done (meaning (make c.in-Make.number c.in-Make.budget c.in-Make.workers)) (g.H.Shelf.held c.args.shelf.now) _ _ _ _ _ _ (λ fs h. h) (omega arith) c.generated.result c.generated.ensures.sink
    (made_output _ _ c.in-Make.workers _ _ c.generated.result c.generated.ensures.ok)
    (made_causes _ _ c.in-Make.workers _ _ _ _ _ c.generated.result c.generated.ensures.stop)
    (made_leaves _ _ c.in-Make.workers _ _ _ c.generated.result c.generated.ensures.stop))

-- ---- a job that names a file
pub returns-in-Equilibria-clause-unread : goal.returns-in-Equilibria-clause-unread
returns-in-Equilibria-clause-unread g c none = absurd (let no = rw c.in-Equilibria.is at none in cc)

pub returns-then-proof-clause-unread : goal.returns-then-proof-clause-unread
returns-then-proof-clause-unread g c none = absurd (let no = rw c.in-Solve.is at none in cc)

pub returns-else-proof-clause-unread : goal.returns-else-proof-clause-unread
returns-else-proof-clause-unread g c none = absurd (let no = rw c.in-Solve.is at none in cc)

pub returns-in-Grounded-clause-unread : goal.returns-in-Grounded-clause-unread
returns-in-Grounded-clause-unread g c none = absurd (let no = rw c.in-Grounded.is at none in cc)

pub returns-in-None-clause-unread : goal.returns-in-None-clause-unread
returns-in-None-clause-unread g c none = absurd (let no = rw (c.in-Cheapest.is, c.in-None.is) at none in cc)

pub returns-in-Some-clause-unread : goal.returns-in-Some-clause-unread
returns-in-Some-clause-unread g c none = absurd (let no = rw (c.in-Cheapest.is, c.in-Some.is) at none in cc)

pub returns-in-Check-clause-unread : goal.returns-in-Check-clause-unread
returns-in-Check-clause-unread g c none = absurd (let no = rw c.in-Check.is at none in cc)

-- ---- what is left to be seen
pub returns-in-Equilibria-clause-trail : goal.returns-in-Equilibria-clause-trail
returns-in-Equilibria-clause-trail g c none = rw (c.in-Equilibria.is, ← c.deref.ensures, c.done.ensures)
    (rw (c.plain-assignment.ensures.task, c.plain-assignment.ensures.budget, c.plain-assignment.ensures.workers) at c.evaluate.ensures.trail none)

pub returns-then-proof-clause-trail : goal.returns-then-proof-clause-trail
returns-then-proof-clause-trail g c none = rw (c.in-Solve.is, c.if-proof.true, ← c.deref-then-proof.ensures, c.done-then-proof.ensures) (c.prove.ensures.trail none)

pub returns-else-proof-clause-trail : goal.returns-else-proof-clause-trail
returns-else-proof-clause-trail g c none = rw (c.in-Solve.is, c.if-proof.false, ← c.deref-else-proof.ensures, c.done-else-proof.ensures)
    (rw (c.plain-assignment-else-proof.ensures.task, c.plain-assignment-else-proof.ensures.budget, c.plain-assignment-else-proof.ensures.workers) at c.evaluate-else-proof.ensures.trail none)

pub returns-in-Grounded-clause-trail : goal.returns-in-Grounded-clause-trail
returns-in-Grounded-clause-trail g c none = rw (c.in-Grounded.is, ← c.deref-in-Grounded.ensures, c.done-in-Grounded.ensures)
    (rw (c.plain-assignment-in-Grounded.ensures.task, c.plain-assignment-in-Grounded.ensures.budget, c.plain-assignment-in-Grounded.ensures.workers) at c.evaluate-in-Grounded.ensures.trail none)

pub returns-in-None-clause-trail : goal.returns-in-None-clause-trail
returns-in-None-clause-trail g c none = rw (c.in-Cheapest.is, c.in-None.is, ← c.deref-in-None.ensures, c.done-in-None.ensures)
    (rw (c.plain-assignment-in-None.ensures.task, c.plain-assignment-in-None.ensures.budget, c.plain-assignment-in-None.ensures.workers) at c.evaluate-in-None.ensures.trail none)

pub returns-in-Some-clause-trail : goal.returns-in-Some-clause-trail
returns-in-Some-clause-trail g c none = rw (c.in-Cheapest.is, c.in-Some.is) (check_left IsToldCheapest _ _ _ (trail_of c.args.trail.now) none c.cheapest_by_report.result)

pub returns-in-Check-clause-trail : goal.returns-in-Check-clause-trail
returns-in-Check-clause-trail g c none = rw c.in-Check.is (check_left IsToldValid _ _ _ (trail_of c.args.trail.now) none c.check.result)

pub returns-in-Make-clause-trail : goal.returns-in-Make-clause-trail
returns-in-Make-clause-trail g c none = rw (c.in-Make.is, c.done-in-Make.ensures) (made_left _ _ _ (trail_of c.generated.new.trail) c.generated.result (c.generated.ensures.trail none))

-- ---- a session
pub returns-in-Session-clause-does : goal.returns-in-Session-clause-does
returns-in-Session-clause-does g c = rw (c.in-Session.is, ← c.deref-in-Session.ensures, ← c.deref-in-Session-2.ensures, c.done-in-Session.ensures) c.list_session.ensures

pub returns-in-Session-clause-unread : goal.returns-in-Session-clause-unread
returns-in-Session-clause-unread g c none = absurd (let no = rw c.in-Session.is at none in cc)

pub returns-in-Session-clause-trail : goal.returns-in-Session-clause-trail
returns-in-Session-clause-trail g c none = rw c.in-Session.is (session_left _ _ _ _ (trail_of c.args.trail.now) none c.done-in-Session.result)
