use Rattle.std.proofs.Common.{◌≡◌, ◌∙◌, ◌++◌, ◌∷◌, [], List, ℕ, inr, map, subst, sym, ap, arith, Some, length, slice_get}
use Rattle.mcs_trace.specs.Traces.{IsChainResolvent}
use Rattle.mcs_search.specs.Numbering.{NameBelow, number_now}
use Rattle.mcs_engine.specs.Stores.{IsLaterGround}
use Rattle.mcs_search.proofs.PartLemmas.{next-below, next-over, next-right, part-adopted}
use Rattle.mcs_engine.proofs.StoreLemmas.{keeps-store, later-learnt, later-same}
use Rattle.mcs_search.proofs.part.adopt_next.Goals.{After-deref-2, After-row, After-row-2, In_ok-learnt}
use Rattle.mcs_search.proofs.part.adopt_next.Goals as goal

-- the next row, and its chain by the other numbers
chain_at : (c : After-row) → slice_get c.args.part.now.chains (length c.args.numbers.now.items) ≡ Some c.row.result.now
chain_at c =
    let ok = c.args.numbers.now.ok.0 in
    let size : length c.args.numbers.now.items ≡ c.len-index.result = omega arith in
    ap (slice_get c.args.part.now.chains) size ∙ c.row.ensures

row_at : (c : After-row-2) → slice_get c.args.part.now.clauses (length c.args.numbers.now.items) ≡ Some c.row-2.result.now
row_at c =
    let ok = c.args.numbers.now.ok.0 in
    let size : length c.args.numbers.now.items ≡ c.len-index.result = omega arith in
    ap (slice_get c.args.part.now.clauses) size ∙ c.row-2.ensures

right : (c : After-deref-2) → slice_get c.args.part.now.clauses (length c.args.numbers.now.items) ≡ Some c.row-2.result.now → slice_get c.args.part.now.chains (length c.args.numbers.now.items) ≡ Some c.row.result.now
    → IsChainResolvent c.args.state.now.clauses c.deref-2.result.now c.row-2.result.now
right c row chain =
    let renumbered = c.in_ok-chain.ensures ∙ ap (λ (ns : List ℕ). map (number_now ns) c.row.result.now) c.deref.ensures.value in
    subst (λ (ns : List ℕ). IsChainResolvent c.args.state.now.clauses ns c.row-2.result.now) (sym (c.deref-2.ensures.value ∙ renumbered))
    (next-right c.args.state.now c.args.part.now c.args.numbers.now.items c.row-2.result.now c.row.result.now c.requires.part row chain)

later : (c : In_ok-learnt) → IsChainResolvent c.args.state.now.clauses c.deref-2.result.now c.row-2.result.now → IsLaterGround c.args.state.now c.push_unwatched-learnt.new.state
later c right =
    let k = c.push_unwatched-learnt.ensures.kept in
    let e = c.in_ok-learnt.ensures.ok in
    record {
      later = later-learnt c.args.state.now c.push_unwatched-learnt.new.state c.row-2.result.now c.deref-2.result.now k.state k.positions e.clauses e.chains right;
      base = k.levels ∙ c.requires.ground.base;
    }

pub renumbered-requires : goal.renumbered-requires
renumbered-requires c =
    subst (λ (ns : List ℕ). NameBelow (length ns) c.row.result.now) (sym c.deref.ensures.value)
    (next-below c.args.state.now c.args.part.now c.args.numbers.now.items c.row.result.now c.requires.part (chain_at c))

pub push_unwatched-learnt-requires-clause-clause : goal.push_unwatched-learnt-requires-clause-clause
push_unwatched-learnt-requires-clause-clause c =
    let at = goal.at.push_unwatched-learnt-requires-clause-clause c in
    next-over c.args.state.now c.args.part.now c.args.numbers.now.items c.row-2.result.now c.row.result.now c.requires.part (row_at at.After-row-2) (chain_at at.After-row)

pub push_unwatched-learnt-requires-clause-chain : goal.push_unwatched-learnt-requires-clause-chain
push_unwatched-learnt-requires-clause-chain c = let at = goal.at.push_unwatched-learnt-requires-clause-chain c in inr (right c (row_at at.After-row-2) (chain_at at.After-row))

pub returns-in_err-learnt-clause-later : goal.returns-in_err-learnt-clause-later
returns-in_err-learnt-clause-later c =
    let k = c.push_unwatched-learnt.ensures.kept in
    let e = c.in_err-learnt.ensures.err in
    record {
      later = later-same c.args.state.now c.push_unwatched-learnt.new.state (keeps-store c.args.state.now c.push_unwatched-learnt.new.state k e c.push_unwatched-learnt.ensures.pairs);
      base = k.levels ∙ c.requires.ground.base;
    }

pub returns-in_err-push-clause-later : goal.returns-in_err-push-clause-later
returns-in_err-push-clause-later c =
    let at = goal.at.returns-in_err-push-clause-later c in
    later at.In_ok-learnt (right at.After-deref-2 (row_at at.After-row-2) (chain_at at.After-row))

pub returns-clause-later : goal.returns-clause-later
returns-clause-later c =
    let at = goal.at.returns-clause-later c in
    later at.In_ok-learnt (right at.After-deref-2 (row_at at.After-row-2) (chain_at at.After-row))

pub returns-clause-part : goal.returns-clause-part
returns-clause-part c =
    let new = c.push_unwatched-learnt.new.state in
    let numbers : c.push.new.self.items ≡ c.args.numbers.now.items ++ length new.clauses ∷ [] = c.in_ok-push.ensures.items ∙ ap (λ (n : ℕ). c.args.numbers.now.items ++ n ∷ []) c.len.ensures in
    part-adopted c.args.state.now new c.args.part.now c.args.numbers.now.items c.push.new.self.items c.row-2.result.now c.deref-2.result.now c.requires.part c.push_unwatched-learnt.ensures.kept c.in_ok-learnt.ensures.ok (row_at (goal.at.returns-clause-part c).After-row-2) numbers
