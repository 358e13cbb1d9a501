use Rattle.std.proofs.Common.{ℕ, ◌+◌, ◌↔◌, List, ℤ, Option, Some, None, is_some, IsTrue, true≢false, refl, sym, subst}
use Rattle.mcs_base.proofs.Results.{IfOk-from_ok, IfOk-from_is_err}
use Rattle.mcs_engine.specs.declared.state.State.{State}
use Rattle.mcs_sat.specs.Solvers.{GoesOn, IsUnitRun, LeadsToConflict, SolverView, trues}
use Rattle.mcs_engine.specs.Trails.{levels_of}
use Rattle.mcs_search.specs.Searches.{IsRun}
use Rattle.mcs_sat.proofs.SolverLemmas.{false-number, grown-conflict, grown-goes_on, grown-no_conflict, opens-under}
use Rattle.mcs_sat.proofs.solver.Solver.propagate.Goals as goal
use Rattle.mcs_sat.proofs.solver.Solver.propagate.Goals.{in-Ok-Some+else-prove, in-Ok-None, in-Err}

-- the literals that follow on the levels of what is seen
abbrev IsRunOn : State → SolverView → Type 0
IsRunOn new v = (more : List ℤ) × GoesOn v.levels (levels_of new.trail.entries.items) more × IsUnitRun v.clauses (trues v) more

pub returns-clause-run : goal.returns-clause-run
returns-clause-run c =
    let s : State = c.self.inside.state in
    let new : State = c.run_or_restore.new.state in
    elim c.match-run_or_restore.branch [
      | in-Ok-Some+else-prove w ↦ IfOk-from_ok (λ o. IsRunOn new c.args.self.now) c.match-run_or_restore.result (Some (w.in-Ok-Some.index + 1)) w.result-is (subst (IsRunOn new) c.self.view_is (grown-goes_on s new (w.in-Ok-Some.ensures.same.state, w.in-Ok-Some.ensures.same.clauses, w.in-Ok-Some.ensures.grows)))
      | in-Ok-None w ↦ IfOk-from_ok (λ o. IsRunOn new c.args.self.now) c.match-run_or_restore.result None w.result-is (subst (IsRunOn new) c.self.view_is (grown-goes_on s new (w.in-Ok-None.ensures.same.state, w.in-Ok-None.ensures.same.clauses, w.in-Ok-None.ensures.grows)))
      | in-Err w ↦ IfOk-from_is_err (λ o. IsRunOn new c.args.self.now) c.match-run_or_restore.result w.in-Err.error w.result-is
    ]

pub returns-clause-open : goal.returns-clause-open
returns-clause-open c =
    let s : State = c.self.inside.state in
    let new : State = c.run_or_restore.new.state in
    elim c.match-run_or_restore.branch [
      | in-Ok-Some+else-prove w ↦ IfOk-from_ok _ c.match-run_or_restore.result (Some (w.in-Ok-Some.index + 1)) w.result-is tt
      | in-Ok-None w ↦ IfOk-from_ok _ c.match-run_or_restore.result None w.result-is (opens-under new (subst (IsRun new) w.in-Ok-None.field-0-is w.in-Ok-None.ensures.run))
      | in-Err w ↦ IfOk-from_is_err _ c.match-run_or_restore.result w.in-Err.error w.result-is
    ]

pub returns-clause-conflict : goal.returns-clause-conflict
returns-clause-conflict c =
    let new : State = c.run_or_restore.new.state in
    elim c.match-run_or_restore.branch [
      | in-Ok-Some+else-prove w ↦ IfOk-from_ok _ c.match-run_or_restore.result (Some (w.in-Ok-Some.index + 1)) w.result-is (false-number new w.in-Ok-Some.index (w.in-Ok-Some.index + 1) refl (subst (IsRun new) w.in-Ok-Some.field-0-is w.in-Ok-Some.ensures.run))
      | in-Ok-None w ↦ IfOk-from_ok _ c.match-run_or_restore.result None w.result-is tt
      | in-Err w ↦ IfOk-from_is_err _ c.match-run_or_restore.result w.in-Err.error w.result-is
    ]

-- a clause that is false was found exactly where the clauses lead to one
abbrev IsExactly : SolverView → Option ℕ → Type 0
IsExactly v found = IsTrue (is_some found) ↔ LeadsToConflict v.clauses (trues v)

pub returns-clause-exact : goal.returns-clause-exact
returns-clause-exact c =
    let s : State = c.self.inside.state in
    let new : State = c.run_or_restore.new.state in
    elim c.match-run_or_restore.branch [
      | in-Ok-Some+else-prove w ↦ IfOk-from_ok (IsExactly c.args.self.now) c.match-run_or_restore.result (Some (w.in-Ok-Some.index + 1)) w.result-is (
        λ yes. subst (λ (v : SolverView). LeadsToConflict v.clauses (trues v)) c.self.view_is (grown-conflict s new w.in-Ok-Some.index (w.in-Ok-Some.ensures.same.state, w.in-Ok-Some.ensures.same.clauses, w.in-Ok-Some.ensures.grows)
            (subst (IsRun new) w.in-Ok-Some.field-0-is w.in-Ok-Some.ensures.run)),
        λ leads. refl,
      )
      | in-Ok-None w ↦ IfOk-from_ok (IsExactly c.args.self.now) c.match-run_or_restore.result None w.result-is (
        λ yes. absurd (true≢false (sym yes)),
        λ leads. absurd (grown-no_conflict s new (w.in-Ok-None.ensures.same.state, w.in-Ok-None.ensures.same.clauses, w.in-Ok-None.ensures.grows)
            (subst (IsRun new) w.in-Ok-None.field-0-is w.in-Ok-None.ensures.run)
            (subst (λ (v : SolverView). LeadsToConflict v.clauses (trues v)) (sym c.self.view_is) leads)),
      )
      | in-Err w ↦ IfOk-from_is_err (IsExactly c.args.self.now) c.match-run_or_restore.result w.in-Err.error w.result-is
    ]
