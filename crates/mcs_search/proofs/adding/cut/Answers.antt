use Rattle.std.proofs.Common.{◌≡◌, ◌≤◌, ◌⊎◌, ℕ, inl, inr, ap, ◌∙◌, refl, arith, length, max, take}
use Rattle.std.proofs.lemmas.Bool.{cases_lt}
use Rattle.std.proofs.lemmas.List.{length-take-le}
use Rattle.mcs_engine.specs.declared.state.Kept.{Kept}
use Rattle.mcs_search.proofs.CutLemmas.{cut-kept, now-kept, now-most, now-visited, reached-none, shorts-first, shorts-none, state-cut, watched-first, watched-none}
use Rattle.mcs_engine.proofs.KeptLemmas.{kept-none}
use Rattle.mcs_search.proofs.adding.cut.Goals as goal

one_of : (a b v : ℕ) → v ≡ max a b → (v ≡ a) ⊎ (v ≡ b)
one_of a b v is = elim (cases_lt a b) [ inl less ↦ inr (omega (arith, is)) | inr more ↦ inl (omega (arith, is)) ]

still-below : (a n most visited : ℕ) → visited ≤ most → (a ≡ 0) ⊎ ((most ≤ n) × (a ≡ visited)) → a ≤ n
still-below a n most visited bound (inl none) = omega arith
still-below a n most visited bound (inr (all, same)) = omega arith

pub returns-then-state-stays-clause-ground : goal.returns-then-state-stays-clause-ground
returns-then-state-stays-clause-ground c =
    let s = c.args.state.now in
    let k : ℕ = c.args.count in
    let t = c.leave-visited.new.trail in
    let w = c.clear.new.self in
    let l = c.leave-visited.ensures in
    let cs = c.truncate.new.self in
    record {
      base = c.requires.base;
      state = state-cut s cs c.truncate-2.new.self t w k c.explained_within-stays.result 0 (record { count = 0; entries = 0; visited = 0 }) c.requires.state c.requires.base c.truncate.ensures c.truncate-2.ensures l.entries l.positions c.explained_within-stays.ensures.bound c.explained_within-stays.ensures.reasons
          (watched-none (take k s.clauses) w c.clear.ensures.pairs) (shorts-none (length (take k s.clauses)) w c.clear.ensures.short) (omega arith) (reached-none (take k s.clauses) w t.entries.items (length t.entries.items)) (kept-none cs w t.entries.items s.levels.items _ refl c.clear.ensures.pairs);
    }

pub returns-clause-ground : goal.returns-clause-ground
returns-clause-ground c =
    let s = c.args.state.now in
    let k : ℕ = c.args.count in
    let n : ℕ = c.explained_within-stays.result in
    let m : Kept = record { count = c.min-state.result; entries = s.kept.entries; visited = s.kept.visited } in
    let t = c.leave-visited.new.trail in
    let w = c.cut.new.self in
    let cs = c.truncate.new.self in
    let a : ℕ = c.leave-visited.result in
    let b : ℕ = c.still_visited.result in
    let e = c.cut.ensures in
    let l = c.leave-visited.ensures in
    let bound : n ≤ length s.trail.entries.items = c.explained_within-stays.ensures.bound in
    let stays = c.if-state-stays.false in
    let kept = cut-kept s k n b m t w c.requires.state c.requires.base bound l.entries e.pairs cs c.truncate.ensures (omega arith) (ap (λ (x : ℕ). record { count = x; entries = s.kept.entries; visited = s.kept.visited }) c.min-state.ensures) in
    let first = now-visited s k n a m t w c.requires.state c.requires.base bound l.entries e.pairs l.visited in
    let second = now-kept s k n b m t w c.requires.state c.requires.base bound l.entries e.pairs cs c.truncate.ensures kept c.still_visited.ensures.low c.still_visited.ensures.fresh in
    let size : length t.entries.items ≡ n = ap length l.entries ∙ length-take-le n s.trail.entries.items bound in
    let few = still-below a n (length s.trail.entries.items) s.visited c.requires.state.bound l.visited in
    let low : c.max-state.result ≤ length t.entries.items = (let x = c.still_visited.ensures.low in let y = kept.bound in let z = kept.within in omega (arith, c.max-state.ensures, size)) in
    record {
      base = c.requires.base;
      state = state-cut s cs c.truncate-2.new.self t w k n c.max-state.result m c.requires.state c.requires.base c.truncate.ensures c.truncate-2.ensures l.entries l.positions bound c.explained_within-stays.ensures.reasons
          (watched-first k s.clauses s.watches w e.pairs e.lists e.short c.requires.state.watched) (shorts-first s k w c.requires.state e.short) low (now-most _ w t.entries.items a b c.max-state.result (one_of a b c.max-state.result c.max-state.ensures) first second) kept;
    }
