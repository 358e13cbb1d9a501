use Rattle.std.proofs.Common.{◌≡◌, ◌-◌, ◌∙◌, List, ℕ, ℤ, length, sym, subst, arith}
use Rattle.std.proofs.lemmas.Option.{slice_get_within}
use Rattle.mcs_base.proofs.Each.{all_get}
use Rattle.mcs_trace.specs.Traces.{IsChainResolvent}
use Rattle.mcs_engine.specs.States.{IsLastLevel, IsOfLastLevel}
use Rattle.mcs_search.proofs.BackLemmas.{gone-back, less-learnt, search-learnt, single-last}
use Rattle.mcs_engine.proofs.LevelLemmas.{implied-last}
use Rattle.mcs_search.proofs.SearchLemmas.{open-late, search-run}
use Rattle.mcs_engine.proofs.StoreLemmas.{later-learnt, later-same, later-then}
use Rattle.mcs_engine.proofs.TurnLemmas.{last-found}
use Rattle.mcs_search.proofs.searching.turn_back.Goals.{After-deref-3, In_ok-step}
use Rattle.mcs_search.proofs.searching.turn_back.Goals as goal

pub analyse-requires-clause-late : goal.analyse-requires-clause-late
analyse-requires-clause-late c = λ clause at.
    let s = c.args.state.now in
    let last : IsLastLevel s.levels.items c.in-Some.reach.now = last-found s.levels.items c.deref.result.now c.last.result c.in-Some.reach c.deref.ensures.value c.last.ensures.value c.in-Some.is in
    let (below, none, count) = c.requires.search.state.starts.start (length s.levels.items - 1) c.in-Some.reach.now last in
    open-late s.trail.entries.items s.trail.positions.items c.in-Some.reach.now.entries clause s.trail.placed (omega arith)
    (all_get _ s.clauses c.args.index clause (c.requires.search.before (length s.levels.items - 1) c.in-Some.reach.now last) at)

pub analyse-requires-clause-implied : goal.analyse-requires-clause-implied
analyse-requires-clause-implied c =
    let s = c.args.state.now in
    let last : IsLastLevel s.levels.items c.in-Some.reach.now = last-found s.levels.items c.deref.result.now c.last.result c.in-Some.reach c.deref.ensures.value c.last.ensures.value c.in-Some.is in
    let within = slice_get_within s.levels.items (length s.levels.items - 1) c.in-Some.reach.now last in
    implied-last s.trail.entries.items s.levels.items (length s.levels.items - 1) c.in-Some.reach.now c.requires.search.state.starts last (omega arith)

-- the clause that is learnt is one of the last level
single : (c : In_ok-step) → IsOfLastLevel c.args.state.now c.in_ok-step.step.clause
single c =
    let s = c.args.state.now in
    let last : IsLastLevel s.levels.items c.in-Some.reach.now = last-found s.levels.items c.deref.result.now c.last.result c.in-Some.reach c.deref.ensures.value c.last.ensures.value c.in-Some.is in
    single-last s c.in-Some.reach.now c.in_ok-step.step.clause c.requires.search.state last c.in_ok-step.ensures.single

pub learn-requires-clause-single : goal.learn-requires-clause-single
learn-requires-clause-single c = subst (IsOfLastLevel c.args.state.now) (sym c.literals-2.ensures.value) (single (goal.at.learn-requires-clause-single c).In_ok-step)

pub returns-clause-turn : goal.returns-clause-turn
returns-clause-turn c =
    let s = c.args.state.now in
    let cl : List ℤ = c.literals-2.result.now in
    let ns : List ℕ = c.deref-3.result.now in
    let one : IsOfLastLevel s cl = subst (IsOfLastLevel s) (sym c.literals-2.ensures.value) (single (goal.at.returns-clause-turn c).In_ok-step) in
    let b = c.in_default-learn.ensures.learnt in
    let g = gone-back s c.learn.new.state cl ns c.requires.search.state b one in
    let r = c.in_ok-run.ensures in (
      record { search = search-run c.learn.new.state c.run.new.state (search-learnt s c.learn.new.state cl ns c.requires.search c.learn.ensures.ready b g) r.same r.grows; run = r.run },
      less-learnt s c.learn.new.state c.run.new.state cl ns c.in_ok-run.field-0 c.requires.search b g r.same.same.clauses r.grows r.run (r.same.same.positions ∙ b.positions),
    )

-- the chain is right
right : (c : After-deref-3) → c.literals-2.result.now ≡ c.in_ok-step.step.clause → IsChainResolvent c.args.state.now.clauses c.deref-3.result.now c.literals-2.result.now
right c same = subst (IsChainResolvent c.args.state.now.clauses c.deref-3.result.now) (sym same) (subst (λ (xs : List ℕ). IsChainResolvent c.args.state.now.clauses xs c.in_ok-step.step.clause) (sym c.deref-3.ensures.value) c.in_ok-step.ensures.learnt.chain)

pub learn-requires-clause-chain : goal.learn-requires-clause-chain
learn-requires-clause-chain c = right (goal.at.learn-requires-clause-chain c).After-deref-3 c.literals-2.ensures.value

-- ---- what comes later
pub returns-in_err-run-clause-later : goal.returns-in_err-run-clause-later
returns-in_err-run-clause-later c =
    let b = c.in_default-learn.ensures.learnt in
    later-then c.args.state.now c.learn.new.state c.run.new.state (later-learnt c.args.state.now c.learn.new.state c.literals-2.result.now c.deref-3.result.now c.learn.ensures.ready.state b.positions b.clauses b.chains (right (goal.at.returns-in_err-run-clause-later c).After-deref-3 c.literals-2.ensures.value)) (later-same c.learn.new.state c.run.new.state c.run.ensures.same.same)

pub returns-clause-later : goal.returns-clause-later
returns-clause-later c =
    let b = c.in_default-learn.ensures.learnt in
    later-then c.args.state.now c.learn.new.state c.run.new.state (later-learnt c.args.state.now c.learn.new.state c.literals-2.result.now c.deref-3.result.now c.learn.ensures.ready.state b.positions b.clauses b.chains (right (goal.at.returns-clause-later c).After-deref-3 c.literals-2.ensures.value)) (later-same c.learn.new.state c.run.new.state c.run.ensures.same.same)
