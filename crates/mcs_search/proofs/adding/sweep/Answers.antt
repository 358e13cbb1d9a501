use Rattle.std.proofs.Common.{◌≡◌, ◌∙◌, ℕ, refl, ap, sym, subst, length}
use Rattle.mcs_engine.specs.declared.state.State.{State}
use Rattle.mcs_engine.specs.Extending.{Extends}
use Rattle.mcs_engine.specs.States.{KeepsLevels}
use Rattle.mcs_engine.proofs.GrowLemmas.{settled-none}
use Rattle.mcs_engine.proofs.StateLemmas.{levels-then}
use Rattle.mcs_search.proofs.RunLemmas.{state-settled}
use Rattle.mcs_search.proofs.adding.sweep.Goals.{After-settle}
use Rattle.mcs_search.proofs.adding.sweep.Goals as goal

-- what is kept when a clause is settled
abbrev after : After-settle → State
after c = let s = c.loop-index.state in record { clauses = s.clauses; chains = s.chains; trail = c.settle.new.trail; watches = s.watches; levels = s.levels; visited = s.visited; settled = s.settled; kept = s.kept }

settled : (c : After-settle) → KeepsLevels c.args.state.now (after c)
settled c =
    let s = c.loop-index.state in
    let is = c.loop-index.invariant.same.state in
    let e = c.settle.ensures.extends in
    let none : length s.levels.items ≡ 0 = ap length (c.loop-index.invariant.levels ∙ c.requires.base) in
    levels-then c.args.state.now s (after c) c.loop-index.invariant (record {
      same = record {
        state = state-settled s c.settle.new.trail s.settled is (subst (λ (n : ℕ). Extends s.clauses n s.trail c.settle.new.trail) (sym none) e) (settled-none s.clauses s.watches.short.items c.settle.new.trail.entries.items s.settled) is.short_bound;
        clauses = refl;
        chains = refl;
        positions = e.positions;
        full = λ full. full;
      };
      levels = refl;
    })

pub returns-in_err-settle : goal.returns-in_err-settle
returns-in_err-settle c = settled (goal.at.returns-in_err-settle c).After-settle

pub returns-then-branch : goal.returns-then-branch
returns-then-branch c = settled (goal.at.returns-then-branch c).After-settle

pub loop-index-preserved : goal.loop-index-preserved
loop-index-preserved c = settled (goal.at.loop-index-preserved c).After-settle
