use Rattle.std.proofs.Common.{◌∙◌, List, ℕ, ℤ, subst, sym}
use Rattle.mcs_trace.specs.Traces.{IsChainResolvent}
use Rattle.mcs_engine.specs.Stores.{IsLaterGround}
use Rattle.mcs_engine.proofs.StoreLemmas.{later-learnt, later-levels}
use Rattle.mcs_sat.proofs.flatten.learn_flat.Goals.{After-attach_next, In_ok-push_unwatched}
use Rattle.mcs_sat.proofs.flatten.learn_flat.Goals as goal

-- the clause was learnt
learnt : (c : In_ok-push_unwatched) → IsLaterGround c.args.state.now c.push_unwatched.new.state
learnt c =
    let s = c.args.state.now in
    let k = c.push_unwatched.ensures.kept in
    let e = c.in_ok-push_unwatched.ensures.ok in
    let right : IsChainResolvent s.clauses c.deref-3.result.now c.deref-2.result.now = subst (λ (xs : List ℤ). IsChainResolvent s.clauses c.deref-3.result.now xs) (sym c.deref-2.ensures.value) (subst (λ (ns : List ℕ). IsChainResolvent s.clauses ns c.args.flat.now.literals.items) (sym c.deref-3.ensures.value) c.requires.flat.right) in
    record { later = later-learnt s c.push_unwatched.new.state c.deref-2.result.now c.deref-3.result.now k.state k.positions e.clauses e.chains right; base = k.levels ∙ c.requires.ground.base }

attached : (c : After-attach_next) → IsLaterGround c.args.state.now c.push_unwatched.new.state → IsLaterGround c.args.state.now c.attach_next.new.state
attached c before = later-levels c.args.state.now c.push_unwatched.new.state c.attach_next.new.state before c.attach_next.ensures.same.same

pub returns-in_err-attach_next-clause-later : goal.returns-in_err-attach_next-clause-later
returns-in_err-attach_next-clause-later c =
    let at = goal.at.returns-in_err-attach_next-clause-later c in
    attached at.After-attach_next (learnt at.In_ok-push_unwatched)

pub returns-clause-later : goal.returns-clause-later
returns-clause-later c =
    let at = goal.at.returns-clause-later c in
    attached at.After-attach_next (learnt at.In_ok-push_unwatched)
