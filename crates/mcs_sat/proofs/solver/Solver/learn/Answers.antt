use Rattle.std.proofs.Common.{ℕ, ℤ, List, sym, subst}
use Rattle.mcs_trace.specs.declared.trace.Step.{Step}
use Rattle.mcs_engine.specs.declared.state.State.{State}
use Rattle.mcs_sat.specs.Solvers.{IsAsserting, IsLearned, SolverView, view_of}
use Rattle.mcs_engine.specs.States.{IsLearntBack, IsOfLastLevel}
use Rattle.mcs_engine.specs.Trails.{IsFalse}
use Rattle.mcs_sat.proofs.AssertingLemmas.{asserting-false, asserting-last, learned, some-levels}
use Rattle.mcs_sat.proofs.solver.Solver.learn.Goals as goal

pub learn-requires-clause-all_false : goal.learn-requires-clause-all_false
learn-requires-clause-all_false c =
    let s : State = c.self.inside.state in
    let step : Step = c.args.step.now in
    let a : IsAsserting (view_of s) step = subst (λ (v : SolverView). IsAsserting v step) (sym c.self.view_is) c.requires.step in
    subst (IsFalse s.trail.entries.items) (sym c.literals.ensures.value) (asserting-false s step a)

pub learn-requires-clause-single : goal.learn-requires-clause-single
learn-requires-clause-single c =
    let s : State = c.self.inside.state in
    let step : Step = c.args.step.now in
    let a : IsAsserting (view_of s) step = subst (λ (v : SolverView). IsAsserting v step) (sym c.self.view_is) c.requires.step in
    subst (IsOfLastLevel s) (sym c.literals.ensures.value)
    (asserting-last s step c.self.invariant.state (some-levels s c.args.self.now c.self.invariant.state c.self.view_is c.requires.level) a)

pub returns-clause-learnt : goal.returns-clause-learnt
returns-clause-learnt c =
    let s : State = c.self.inside.state in
    let new : State = c.learn.new.state in
    let step : Step = c.args.step.now in
    let a : IsAsserting (view_of s) step = subst (λ (v : SolverView). IsAsserting v step) (sym c.self.view_is) c.requires.step in
    let back : IsLearntBack s new step.clause step.chain.items = subst (λ (ns : List ℕ). IsLearntBack s new step.clause ns) c.deref.ensures.value (subst (λ (k : List ℤ). IsLearntBack s new k c.deref.result.now) c.literals.ensures.value c.in_ok-learn.ensures.learnt) in
    subst (λ (v : SolverView). IsLearned v (view_of new) step) c.self.view_is
    (learned s new step c.self.invariant.state a (some-levels s c.args.self.now c.self.invariant.state c.self.view_is c.requires.level) back)
