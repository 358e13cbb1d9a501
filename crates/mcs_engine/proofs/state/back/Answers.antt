use Rattle.std.proofs.Common.{◌≡◌, ◌<◌, ◌≤◌, sym, refl, ap, ◌∙◌, arith, length, take, Some, slice_get}
use Rattle.std.proofs.lemmas.List.{take_all}
use Rattle.std.proofs.lemmas.Option.{same_Some, slice_get_within}
use Rattle.mcs_base.proofs.Lists.{slice_get_read_as}
use Rattle.mcs_engine.specs.declared.state.Reach.{Reach}
use Rattle.mcs_engine.proofs.StateLemmas.{keeps-none, state-back}
use Rattle.mcs_engine.proofs.state.back.Goals as goal
use Rattle.mcs_engine.proofs.state.back.Goals.{After-index-reach}

here : (c : After-index-reach) → c.args.level < length c.args.state.now.levels.items
here c = let ok = c.args.state.now.levels.ok.0 in omega (arith, c.len.ensures, c.if-level-len.true)

at : (c : After-index-reach) → slice_get c.args.state.now.levels.items c.args.level ≡ Some c.index-reach.result.now
at c = slice_get_read_as c.args.state.now.levels.items c.args.state.now.levels.items c.args.level c.index-reach.result.now refl (here c) c.index-reach.ensures

pub returns-then-level-len-clause-same : goal.returns-then-level-len-clause-same
returns-then-level-len-clause-same c = record {
  state = state-back c.args.state.now c.back.new.self c.truncate.new.self c.args.level c.index-reach.result.now c.requires (at (goal.at.returns-then-level-len-clause-same c).After-index-reach) c.back.ensures.entries c.back.ensures.positions c.truncate.ensures.items;
  clauses = refl;
  chains = refl;
  positions = ap length c.back.ensures.positions;
  full = λ full. full;
}

pub returns-then-level-len-clause-back : goal.returns-then-level-len-clause-back
returns-then-level-len-clause-back c =
    let s = c.args.state.now in
    let after = (goal.at.returns-then-level-len-clause-back c).After-index-reach in
    let less = here after in
    record {
      entries = λ r is. c.back.ensures.entries ∙ ap (λ (r : Reach). take r.entries s.trail.entries.items) (same_Some c.index-reach.result.now r (sym (at after) ∙ is));
      levels = c.truncate.ensures.items;
      stays = λ past. absurd {A = c.back.new.self.entries.items ≡ s.trail.entries.items} (omega arith);
    }

pub returns-else-level-len-clause-same : goal.returns-else-level-len-clause-same
returns-else-level-len-clause-same c = keeps-none c.args.state.now c.requires

pub returns-else-level-len-clause-back : goal.returns-else-level-len-clause-back
returns-else-level-len-clause-back c =
    let s = c.args.state.now in
    let past : length s.levels.items ≤ c.args.level = (let ok = s.levels.ok.0 in omega (arith, c.len.ensures, c.if-level-len.false)) in
    record {
      entries = λ r is. absurd (let less = slice_get_within s.levels.items c.args.level r is in omega arith);
      levels = sym (take_all c.args.level s.levels.items past);
      stays = λ _. refl;
    }
