use Rattle.std.proofs.Common.{◌≡◌, ◌<◌, refl, sym, ap, ◌∙◌, arith, length, take, Some, slice_get}
use Rattle.std.proofs.lemmas.Option.{same_Some}
use Rattle.mcs_base.proofs.Lists.{slice_get_read_as}
use Rattle.mcs_engine.specs.declared.state.Reach.{Reach}
use Rattle.mcs_engine.proofs.KnownLemmas.{chain-clause}
use Rattle.mcs_engine.proofs.StateLemmas.{fits-literals, full-pushed, state-same}
use Rattle.mcs_engine.proofs.TurnLemmas.{level-there, single-some, state-learnt, turn-fits}
use Rattle.mcs_engine.proofs.state.learn.Goals as goal
use Rattle.mcs_engine.proofs.state.learn.Goals.{After-turn_of-turn, After-index-reach}

there : (c : After-turn_of-turn) → c.turn_of-turn.result.level < length c.args.state.now.levels.items
there c = level-there c.args.state.now c.args.literals.now c.in-Some.latest c.turn_of-turn.result c.requires.ready.state c.requires.single c.in-Some.ensures c.turn_of-turn.ensures

at : (c : After-index-reach) → c.turn_of-turn.result.level < length c.args.state.now.levels.items → slice_get c.args.state.now.levels.items c.turn_of-turn.result.level ≡ Some c.index-reach.result.now
at c less = slice_get_read_as c.args.state.now.levels.items c.args.state.now.levels.items c.turn_of-turn.result.level c.index-reach.result.now refl less c.index-reach.ensures

pub unreachable-requires : goal.unreachable-requires
unreachable-requires c = single-some c.args.state.now.trail.entries.items c.requires.single.last.entries c.args.literals.now c.requires.single.single c.in_default.ensures

pub returns-in_err-push_clause-clause-ready : goal.returns-in_err-push_clause-clause-ready
returns-in_err-push_clause-clause-ready c =
    let s = c.args.state.now in
    let e = c.in_err-push_clause.ensures in
    record {
      state = state-same s _ c.requires.ready.state e.err_clauses e.err_chains refl refl c.push_clause.ensures.watches e.err_watches.pairs e.err_watches.short refl refl refl refl;
      full = ap length e.err_watches.pairs ∙ c.requires.ready.full ∙ sym (ap length e.err_clauses);
    }

pub push_clause-requires-clause-literals : goal.push_clause-requires-clause-literals
push_clause-requires-clause-literals c =
    let t = c.args.state.now.trail in
    let clause = chain-clause c.args.state.now.clauses c.args.chain.now c.args.literals.now c.requires.ready.state.trail.clauses c.requires.chain in
    fits-literals c.args.literals.now c.turn_of-turn.result.pair clause (turn-fits t.entries.items t.positions.items c.args.literals.now c.in-Some.latest c.turn_of-turn.result t.placed clause c.in-Some.ensures c.turn_of-turn.ensures)

pub index-reach-requires : goal.index-reach-requires
index-reach-requires c =
    let less = there (goal.at.index-reach-requires c).After-turn_of-turn in
    let ok = c.args.state.now.levels.ok.0 in
    omega arith

pub returns-clause-ready : goal.returns-clause-ready
returns-clause-ready c =
    let s = c.args.state.now in
    let e = c.in_ok-push_clause.ensures in
    let less = there (goal.at.returns-clause-ready c).After-turn_of-turn in
    let here = at (goal.at.returns-clause-ready c).After-index-reach less in
    record {
      state = state-learnt s c.back.new.self c.truncate.new.self c.push_clause.new.clauses c.push_clause.new.chains c.push_clause.new.watches c.args.literals.now c.args.chain.now c.in-Some.latest c.turn_of-turn.result c.index-reach.result.now c.min-state.result
          c.requires.ready.state c.requires.all_false c.requires.chain c.requires.single c.in-Some.ensures c.turn_of-turn.ensures here c.requires.ready.full
          e.clauses e.chains c.push_clause.ensures.watches e.pushed c.back.ensures.entries c.back.ensures.positions c.truncate.ensures.items (omega (arith, c.min-state.ensures)) (omega (arith, c.min-state.ensures));
      full = full-pushed s.clauses c.push_clause.new.clauses s.watches c.push_clause.new.watches c.args.literals.now c.turn_of-turn.result.pair c.requires.ready.full e.clauses e.pushed;
    }

pub returns-clause-learnt : goal.returns-clause-learnt
returns-clause-learnt c =
    let s = c.args.state.now in
    let e = c.in_ok-push_clause.ensures in
    let turn = c.turn_of-turn.result in
    let r : Reach = c.index-reach.result.now in
    let less = there (goal.at.returns-clause-learnt c).After-turn_of-turn in
    let here = at (goal.at.returns-clause-learnt c).After-index-reach less in
    record {
      positions = ap length c.back.ensures.positions;
      clauses = e.clauses;
      chains = e.chains;
      latest = c.in-Some.latest;
      is_latest = c.in-Some.ensures;
      level = turn.level;
      below = less;
      none = λ empty. (c.turn_of-turn.ensures.0 empty).0;
      some = λ others. (c.turn_of-turn.ensures.1 others).0;
      back = record {
        entries = λ q is. c.back.ensures.entries ∙ ap (λ (x : Reach). take x.entries s.trail.entries.items) (same_Some r q (sym here ∙ is));
        levels = c.truncate.ensures.items;
        stays = λ past. absurd {A = c.back.new.self.entries.items ≡ s.trail.entries.items} (omega arith);
      };
    }
