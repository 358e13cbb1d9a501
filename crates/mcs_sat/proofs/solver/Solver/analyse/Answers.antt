use Rattle.std.proofs.Common.{◌≡◌, ℕ, ◌∷◌, ◌+◌, ◌-◌, ◌<◌, ◌≤◌, List, None, length, slice_get, sym, ap, ◌∙◌, subst, arith}
use Rattle.std.specs.List.{AllByRecursion}
use Rattle.std.proofs.lemmas.Result.{IfOk-weaker}
use Rattle.std.specs.Option.{option_copied}
use Rattle.mcs_base.proofs.Among.{among_get}
use Rattle.mcs_base.proofs.Lists.{slice_get_none}
use Rattle.mcs_base.proofs.Results.{IfOk-both}
use Rattle.mcs_trace.specs.declared.trace.Step.{Step}
use Rattle.mcs_engine.specs.declared.state.Reach.{Reach}
use Rattle.mcs_engine.specs.declared.state.State.{State}
use Rattle.mcs_engine.specs.Learning.{IsLearnt, IsSingle}
use Rattle.mcs_sat.specs.Solvers.{IsAsserting, IsFalseNumber, IsOpenUnder, SolverView, last_level, trues_below}
use Rattle.mcs_engine.specs.States.{IsLastLevel}
use Rattle.mcs_sat.proofs.AssertingLemmas.{asserting, last-implied, last-late, some-levels}
use Rattle.mcs_sat.proofs.SeenLemmas.{rest-seen}
use Rattle.mcs_sat.proofs.SolverLemmas.{number-false}
use Rattle.mcs_engine.proofs.TurnLemmas.{last-found}
use Rattle.mcs_sat.proofs.solver.Solver.analyse.Goals as goal

pub unreachable-requires : goal.unreachable-requires
unreachable-requires c =
    let s : State = c.self.inside.state in
    let none : slice_get s.levels.items (length s.levels.items - 1) ≡ None = subst (λ (xs : List Reach). slice_get xs (length xs - 1) ≡ None) c.deref.ensures.value (sym c.last.ensures.value ∙ ap option_copied c.in-None.is) in
    omega (arith, slice_get_none s.levels.items (length s.levels.items - 1) none, some-levels s c.args.self.now c.self.invariant.state c.self.view_is c.requires.level)

pub analyse-requires-clause-conflict : goal.analyse-requires-clause-conflict
analyse-requires-clause-conflict c = (number-false c.self.inside.state c.args.conflict (subst (λ (v : SolverView). IsFalseNumber v c.args.conflict) (sym c.self.view_is) c.requires.conflict)).1

pub analyse-requires-clause-late : goal.analyse-requires-clause-late
analyse-requires-clause-late c = λ clause at.
    let s : State = c.self.inside.state in
    let some : 0 < length s.levels.items = some-levels s c.args.self.now c.self.invariant.state c.self.view_is c.requires.level in
    let last : IsLastLevel s.levels.items c.in-Some.reach.now = last-found s.levels.items c.deref.result.now c.last.result c.in-Some.reach c.deref.ensures.value c.last.ensures.value c.in-Some.is in
    last-late s c.in-Some.reach.now c.self.invariant.state some last clause
    (subst (λ (v : SolverView). AllByRecursion (IsOpenUnder (trues_below v.levels (last_level v))) v.clauses) (sym c.self.view_is) c.requires.before)
    (among_get clause s.clauses (c.args.conflict - 1) at)

pub analyse-requires-clause-implied : goal.analyse-requires-clause-implied
analyse-requires-clause-implied c =
    let s : State = c.self.inside.state in
    let some : 0 < length s.levels.items = some-levels s c.args.self.now c.self.invariant.state c.self.view_is c.requires.level in
    let last : IsLastLevel s.levels.items c.in-Some.reach.now = last-found s.levels.items c.deref.result.now c.last.result c.in-Some.reach c.deref.ensures.value c.last.ensures.value c.in-Some.is in
    last-implied s c.in-Some.reach.now c.self.invariant.state some last

pub returns-clause-step : goal.returns-clause-step
returns-clause-step c =
    let s : State = c.self.inside.state in
    let some : 0 < length s.levels.items = some-levels s c.args.self.now c.self.invariant.state c.self.view_is c.requires.level in
    let last : IsLastLevel s.levels.items c.in-Some.reach.now = last-found s.levels.items c.deref.result.now c.last.result c.in-Some.reach c.deref.ensures.value c.last.ensures.value c.in-Some.is in
    let r : Reach = c.in-Some.reach.now in
    IfOk-both (IsLearnt s.clauses s.trail.entries.items) (λ (step : Step). r.entries + 1 ≤ length s.trail.entries.items → IsSingle s.trail.entries.items r.entries step.clause) (IsAsserting c.args.self.now)
    (λ step learnt single. subst (λ (v : SolverView). IsAsserting v step) c.self.view_is (asserting s r step c.self.invariant.state some last learnt single))
    c.analyse.result c.analyse.ensures.learnt c.analyse.ensures.single

pub returns-clause-begins : goal.returns-clause-begins
returns-clause-begins c =
    let some : 0 < c.args.conflict = (number-false c.self.inside.state c.args.conflict (subst (λ (v : SolverView). IsFalseNumber v c.args.conflict) (sym c.self.view_is) c.requires.conflict)).0 in
    let same : c.args.conflict - 1 + 1 ≡ c.args.conflict = omega arith in
    IfOk-weaker c.analyse.result _ _ (λ step g. (g.more, g.is ∙ ap (λ (n : ℕ). n ∷ g.more) same)) c.analyse.ensures.chain

pub returns-clause-reasons : goal.returns-clause-reasons
returns-clause-reasons c = IfOk-weaker c.analyse.result _ _ (λ step g. rest-seen c.self.inside.state c.args.self.now _ step.chain.items c.self.view_is g) c.analyse.ensures.chain
