use Rattle.std.proofs.Common.{◌≡◌, ◌∙◌, ◌∷◌, ◌++◌, [], ℕ, ℤ, List, refl, ap, length, take}
use Rattle.std.proofs.Math.Seq.{take-append_seam}
use Rattle.mcs_engine.proofs.StateLemmas.{state-added, state-same}
use Rattle.mcs_search.proofs.adding.push_unwatched.Goals as goal

pub returns-clause-kept : goal.returns-clause-kept
returns-clause-kept c = record {
  state = state-added c.args.state.now c.push.new.self c.push-2.new.self c.args.literals.now c.args.chain.now c.requires.state c.in_ok-push.ensures.ok c.in_default.ensures.ok c.requires.clause.0 c.requires.clause.1 c.requires.chain;
  positions = refl;
  entries = refl;
  levels = refl;
}

-- the clause is taken off again
back : (known new cut : List (List ℤ)) (c : List ℤ) (n : ℕ) → n ≡ length known → new ≡ known ++ c ∷ [] → cut ≡ take n new → cut ≡ known
back known new cut c n size push is = is ∙ ap (λ (k : ℕ). take k new) size ∙ ap (take (length known)) push ∙ take-append_seam known (c ∷ [])

pub returns-in-Err-clause-kept : goal.returns-in-Err-clause-kept
returns-in-Err-clause-kept c =
    let s = c.args.state.now in
    record {
      state = state-same s _ c.requires.state (back s.clauses c.push.new.self c.truncate.new.self c.args.literals.now c.len-count.result c.len-count.ensures c.in_ok-push.ensures.ok c.truncate.ensures) c.in-Err.ensures.err refl refl (record { listed = λ l i h. h }) refl refl refl refl refl refl;
      positions = refl;
      entries = refl;
      levels = refl;
    }
