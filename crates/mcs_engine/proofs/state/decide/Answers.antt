use Rattle.mcs_engine.specs.Trails.{IsFree}
use Rattle.mcs_trace.proofs.OrderLemmas.{read_literal}
use Rattle.std.proofs.Common.{◌≡◌, ◌+◌, ◌-◌, ◌∷◌, ◌++◌, [], ℕ, List, refl, ap, ◌∙◌, arith, length, take, w64, to_z, of_z, sym, subst}
use Rattle.std.proofs.Math.Seq.{take-append_seam}
use Rattle.mcs_engine.proofs.StateLemmas.{state-same, state-decided}
use Rattle.mcs_engine.specs.declared.state.Reach.{Reach}
use Rattle.mcs_engine.specs.declared.trail.Entry.{Entry}
use Rattle.mcs_engine.proofs.state.decide.Goals as goal

pub push-requires-2 : goal.push-requires-2
push-requires-2 c = subst (IsFree c.args.state.now.trail.entries.items c.args.state.now.trail.positions.items) (sym (read_literal c.args.literal c.requires.free.0)) c.requires.free

pub returns-in_err-push-clause-same : goal.returns-in_err-push-clause-same
returns-in_err-push-clause-same c = record {
  state = state-same c.args.state.now _ c.requires.state refl refl refl refl (record { listed = λ l i h. h }) refl refl c.in_err-push.ensures.items refl refl refl;
  clauses = refl;
  chains = refl;
  positions = refl;
  full = λ full. full;
}

pub returns-in-Err-clause-same : goal.returns-in-Err-clause-same
returns-in-Err-clause-same c =
    let ls = c.args.state.now.levels.items in
    let count : c.len-level.result + 1 - 1 ≡ length ls = (let ok = c.args.state.now.levels.ok.0 in omega (arith, c.len-level.ensures)) in
    record {
      state = state-same c.args.state.now _ c.requires.state refl refl c.in-Err.ensures.err c.push-2.ensures.positions (record { listed = λ l i h. h }) refl refl
          (c.truncate.ensures.items ∙ ap (λ (n : ℕ). take n c.push.new.self.items) count ∙ ap (take (length ls)) c.in_ok-push.ensures.items ∙ take-append_seam ls _) refl refl refl;
      clauses = refl;
      chains = refl;
      positions = c.push-2.ensures.positions;
      full = λ full. full;
    }

pub returns-clause-same : goal.returns-clause-same
returns-clause-same c =
    let s = c.args.state.now in
    let es : List Entry = s.trail.entries.items in
    let count : c.len-level.result ≡ length s.levels.items = (let ok = s.levels.ok.0 in omega (arith, c.len-level.ensures)) in
    let size : c.len.result ≡ length es = (let ok = s.trail.entries.ok.0 in omega (arith, c.len.ensures)) in
    record {
      state = state-decided s c.push-2.new.self c.push.new.self (to_z w64 (of_z w64 c.args.literal)) c.requires.state
          (c.in_default.ensures.entries ∙ ap (λ (n : ℕ). let e : Entry = record { literal = to_z w64 (of_z w64 c.args.literal); reason = 0; level = n + 1 } in es ++ e ∷ []) count)
          c.push-2.ensures.positions
          (c.in_ok-push.ensures.items ∙ ap (λ (n : ℕ). let r : Reach = record { entries = n; visited = s.visited; settled = s.settled } in s.levels.items ++ r ∷ []) size);
      clauses = refl;
      chains = refl;
      positions = c.push-2.ensures.positions;
      full = λ full. full;
    }

pub returns-in-Err-clause-err : goal.returns-in-Err-clause-err
returns-in-Err-clause-err c = c.in-Err.ensures.err
