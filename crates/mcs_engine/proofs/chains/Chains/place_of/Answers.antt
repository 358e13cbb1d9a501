use Rattle.std.proofs.Common.{◌+◌, ◌<◌, ℕ, List, ap, arith, length, subst, sym, take}
use Rattle.mcs_engine.specs.Chains.{AreSpaced, IsCut}
use Rattle.mcs_engine.specs.Stores.{given_count}
use Rattle.mcs_engine.proofs.ChainLemmas.{given_count-cut, learnt-spaced, length-spread, spread-given}
use Rattle.mcs_engine.proofs.chains.Chains.place_of.Goals.{After-before_given}
use Rattle.mcs_engine.proofs.chains.Chains.place_of.Goals as goal

pub before_given-requires : goal.before_given-requires
before_given-requires c = let s = c.self.inside in subst AreSpaced (sym c.deref.ensures.value) (learnt-spaced 0 s.count s.learnt.items s.rows c.self.invariant.1)

-- where the search ends
cut : (c : After-before_given) → IsCut c.self.inside.learnt.items c.before_given.result (c.args.number + c.before_given.result)
cut c = subst (λ (xs : List ℕ). IsCut xs c.before_given.result (c.args.number + c.before_given.result)) c.deref.ensures.value c.before_given.ensures

below : (c : After-before_given) → c.args.number + c.before_given.result < c.self.inside.count
below c =
    let s = c.self.inside in
    let few = (cut c).within in
    omega (arith, c.requires, spread-given 0 s.count s.learnt.items s.rows c.self.invariant.1, ap given_count c.self.view_is)

pub overflow_add-result : goal.overflow_add-result
overflow_add-result c = let b = below c in let fits = c.self.invariant.0 in omega arith

pub returns-clause-within : goal.returns-clause-within
returns-clause-within c =
    let s = c.self.inside in
    omega (arith, below c, length-spread 0 s.count s.learnt.items s.rows c.self.invariant.1, ap length c.self.view_is)

pub returns-clause-number : goal.returns-clause-number
returns-clause-number c =
    let s = c.self.inside in
    let place : ℕ = c.args.number + c.before_given.result in
    let b = below c in
    omega (arith, given_count-cut s.count s.learnt.items s.rows c.before_given.result place c.self.invariant.1 (cut c) (omega arith) (omega arith), ap (λ xs. given_count (take place xs)) c.self.view_is)
