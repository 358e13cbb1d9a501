use Rattle.std.proofs.Common.{◌≡◌, ◌≤◌, ℕ, List, refl, sym, ap, ◌∙◌, subst, arith, length, Option, Some, None, MatchOption, true, false}
use Rattle.std.specs.List.{AllByRecursion}
use Rattle.std.specs.Option.{is_some}
use Rattle.mcs_engine.specs.declared.state.State.{State}
use Rattle.mcs_engine.specs.Extending.{Extends}
use Rattle.mcs_engine.specs.States.{KeepsLevels, reach_of}
use Rattle.mcs_engine.specs.Trails.{GrowsOnLevel, IsFalseAt, IsOpen}
use Rattle.mcs_engine.specs.Watching.{AreSettled}
use Rattle.mcs_engine.proofs.GrowLemmas.{grows-more}
use Rattle.mcs_search.specs.Searches.{CanBeTakenBack, IsRun}
use Rattle.mcs_search.proofs.RunLemmas.{all-open, before-visited, state-settled, state-visited}
use Rattle.mcs_search.proofs.running.run.Goals.{After-settle_from, After-visit_from}
use Rattle.mcs_search.proofs.running.run.Goals as goal

-- the level of the calls is the last one
level : (c : After-settle_from) → c.len-level.result ≡ length c.args.state.now.levels.items
level c = let ok = c.args.state.now.levels.ok.0 in omega (arith, c.len-level.ensures)

first : (c : After-settle_from) → Extends c.args.state.now.clauses (length c.args.state.now.levels.items) c.args.state.now.trail c.settle_from.new.trail
first c = subst (λ (n : ℕ). Extends c.args.state.now.clauses n c.args.state.now.trail c.settle_from.new.trail) (level c) c.settle_from.ensures.extends

-- what is kept when the short clauses are settled
abbrev between : After-settle_from → State
between c = let s = c.args.state.now in record { clauses = s.clauses; chains = s.chains; trail = c.settle_from.new.trail; watches = s.watches; levels = s.levels; visited = s.visited; settled = c.settle_from.new.from; kept = s.kept }

settled : (c : After-settle_from) → KeepsLevels c.args.state.now (between c)
settled c =
    let s = c.args.state.now in
    let e = c.settle_from.ensures in
    record {
      same = record {
        state = state-settled s c.settle_from.new.trail c.settle_from.new.from c.requires.state (first c)
            (subst (λ (xs : List ℕ). AreSettled s.clauses xs c.settle_from.new.trail.entries.items s.settled c.settle_from.new.from) c.deref.ensures.value e.settled)
            (subst (λ (xs : List ℕ). c.settle_from.new.from ≤ length xs) c.deref.ensures.value (e.bound (let b = c.requires.state.short_bound in omega (arith, ap length c.deref.ensures.value))));
        clauses = refl;
        chains = refl;
        positions = e.extends.positions;
        full = λ full. full;
      };
      levels = refl;
    }

-- and when the clauses are visited then
abbrev after : After-visit_from → State
after c = let s = c.args.state.now in record { clauses = s.clauses; chains = s.chains; trail = c.visit_from.new.trail; watches = c.visit_from.new.watches; levels = s.levels; visited = c.visit_from.new.from; settled = c.settle_from.new.from; kept = s.kept }

abbrev halfway : After-visit_from → State
halfway c = let s = c.args.state.now in record { clauses = s.clauses; chains = s.chains; trail = c.settle_from.new.trail; watches = s.watches; levels = s.levels; visited = s.visited; settled = c.settle_from.new.from; kept = s.kept }

visited : (c : After-visit_from) → KeepsLevels c.args.state.now (halfway c) → c.len-level.result ≡ length c.args.state.now.levels.items → KeepsLevels c.args.state.now (after c)
visited c half same =
    let s = c.args.state.now in
    let e = c.visit_from.ensures in
    record {
      same = record {
        state = state-visited (halfway c) c.visit_from.new.trail c.visit_from.new.watches c.visit_from.new.from half.same.state
            (subst (λ (n : ℕ). Extends s.clauses n c.settle_from.new.trail c.visit_from.new.trail) same e.extends) e.kept e.bound e.now;
        clauses = refl;
        chains = refl;
        positions = e.extends.positions ∙ half.same.positions;
        full = λ full. e.kept.sized ∙ full;
      };
      levels = refl;
    }

grown : (c : After-visit_from) → GrowsOnLevel (length c.args.state.now.levels.items) c.args.state.now.trail.entries.items c.settle_from.new.trail.entries.items → c.len-level.result ≡ length c.args.state.now.levels.items
    → GrowsOnLevel (length c.args.state.now.levels.items) c.args.state.now.trail.entries.items c.visit_from.new.trail.entries.items
grown c half same =
    let s = c.args.state.now in
    grows-more (length s.levels.items) s.trail.entries.items c.settle_from.new.trail.entries.items c.visit_from.new.trail.entries.items half
    (subst (λ (n : ℕ). GrowsOnLevel n c.settle_from.new.trail.entries.items c.visit_from.new.trail.entries.items) same c.visit_from.ensures.extends.grows)

-- it can be taken back
back : (c : After-visit_from) → GrowsOnLevel (length c.args.state.now.levels.items) c.args.state.now.trail.entries.items c.settle_from.new.trail.entries.items → CanBeTakenBack c.args.state.now (after c)
back c half =
    let s = c.args.state.now in
    let is = c.requires.state in
    record {
      short = c.visit_from.ensures.kept.short;
      marked = refl;
      before = before-visited (length s.levels.items) s.clauses s.watches c.visit_from.new.watches s.trail.entries.items c.settle_from.new.trail.entries.items (reach_of s) half (omega arith) is.bound is.now c.visit_from.ensures.kept.reached;
    }

-- ---- where it ends among the short clauses
pub returns-in_err-found-clause-same : goal.returns-in_err-found-clause-same
returns-in_err-found-clause-same c = settled (goal.at.returns-in_err-found-clause-same c).After-settle_from

pub returns-then-is_some-clause-same : goal.returns-then-is_some-clause-same
returns-then-is_some-clause-same c = settled (goal.at.returns-then-is_some-clause-same c).After-settle_from

pub returns-in_err-found-clause-grows : goal.returns-in_err-found-clause-grows
returns-in_err-found-clause-grows c = (first (goal.at.returns-in_err-found-clause-grows c).After-settle_from).grows

pub returns-then-is_some-clause-grows : goal.returns-then-is_some-clause-grows
returns-then-is_some-clause-grows c = (first (goal.at.returns-then-is_some-clause-grows c).After-settle_from).grows

pub returns-then-is_some-clause-run : goal.returns-then-is_some-clause-run
returns-then-is_some-clause-run c = some-found (between (goal.at.returns-then-is_some-clause-run c).After-settle_from) _ c.in_ok-found.found (sym c.is_some.ensures ∙ c.if-is_some.true) c.in_ok-found.ensures.found
  where
    some-found : (s : State) (P : Type 0) (o : Option ℕ) → is_some o ≡ true → MatchOption o P (IsFalseAt s.clauses s.trail.entries.items) → IsRun s o
    some-found s P None e h = cc
    some-found s P (Some i) e h = h

-- ---- where it goes on
pub returns-in_err-found-2-clause-same : goal.returns-in_err-found-2-clause-same
returns-in_err-found-2-clause-same c = let at = goal.at.returns-in_err-found-2-clause-same c in visited at.After-visit_from (settled at.After-settle_from) (level at.After-settle_from)

pub returns-clause-same : goal.returns-clause-same
returns-clause-same c = let at = goal.at.returns-clause-same c in visited at.After-visit_from (settled at.After-settle_from) (level at.After-settle_from)

pub returns-in_err-found-2-clause-grows : goal.returns-in_err-found-2-clause-grows
returns-in_err-found-2-clause-grows c = let at = goal.at.returns-in_err-found-2-clause-grows c in grown at.After-visit_from (first at.After-settle_from).grows (level at.After-settle_from)

pub returns-clause-grows : goal.returns-clause-grows
returns-clause-grows c = let at = goal.at.returns-clause-grows c in grown at.After-visit_from (first at.After-settle_from).grows (level at.After-settle_from)

pub returns-in_err-found-2-clause-back : goal.returns-in_err-found-2-clause-back
returns-in_err-found-2-clause-back c = let at = goal.at.returns-in_err-found-2-clause-back c in back at.After-visit_from (first at.After-settle_from).grows

pub returns-clause-back : goal.returns-clause-back
returns-clause-back c = let at = goal.at.returns-clause-back c in back at.After-visit_from (first at.After-settle_from).grows

pub returns-clause-run : goal.returns-clause-run
returns-clause-run c =
    let at = goal.at.returns-clause-run c in
    let is = visited at.After-visit_from (settled at.After-settle_from) (level at.After-settle_from) in
    let done : length c.deref.result.now ≤ c.settle_from.new.from = none-found _ _ c.in_ok-found.found (sym c.is_some.ensures ∙ c.if-is_some.false) c.in_ok-found.ensures.found in
    let kept = c.visit_from.ensures.kept in
    all-visited (after at.After-visit_from) _ c.in_ok-found-2.found c.in_ok-found-2.ensures.found (λ whole. all-open (after at.After-visit_from) is.same.state (is.same.full c.requires.full) whole (omega (arith, ap length kept.short, ap length c.deref.ensures.value)))
  where
    none-found : (P : Type 0) (Q : ℕ → Type 0) (o : Option ℕ) → is_some o ≡ false → MatchOption o P Q → P
    none-found P Q None e h = h
    none-found P Q (Some i) e h = cc

    all-visited : (s : State) (P : Type 0) (o : Option ℕ) → MatchOption o P (IsFalseAt s.clauses s.trail.entries.items) → (P → AllByRecursion (IsOpen s.trail.entries.items) s.clauses) → IsRun s o
    all-visited s P None h f = f h
    all-visited s P (Some i) h f = h
