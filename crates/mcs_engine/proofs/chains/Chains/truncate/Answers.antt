use Rattle.std.proofs.Common.{◌≡◌, ◌-◌, ◌∙◌, ℕ, List, ap, arith, length, subst, sym, take}
use Rattle.std.proofs.lemmas.List.{take_all}
use Rattle.mcs_engine.specs.Chains.{AreLearnt, AreSpaced, IsCut, spread}
use Rattle.mcs_engine.proofs.ChainLemmas.{learnt-cut, learnt-spaced, length-spread, spread-cut}
use Rattle.mcs_engine.proofs.chains.Chains.truncate.Goals as goal

pub before-stays-requires : goal.before-stays-requires
before-stays-requires c = let s = c.self.inside in subst AreSpaced (sym c.deref.ensures.value) (learnt-spaced 0 s.count s.learnt.items s.rows c.self.invariant.1)

pub invariant_of-self : goal.invariant_of-self
invariant_of-self c =
    let s = c.self.inside in
    let n : ℕ = c.args.count in
    let stays : ℕ = c.before-stays.result in
    let cut = subst (λ (xs : List ℕ). IsCut xs stays n) c.deref.ensures.value c.before-stays.ensures in
    let kept : AreLearnt 0 n (take stays s.learnt.items) (take stays s.rows) = learnt-cut 0 s.count s.learnt.items s.rows stays n c.self.invariant.1 cut (omega arith) in (
      let fits = c.self.invariant.0 in omega arith,
      subst (λ (xs : List ℕ). AreLearnt 0 n xs c.truncate-then-count-self.new.self) (sym c.truncate.ensures.items) (subst (AreLearnt 0 n (take stays s.learnt.items)) (sym c.truncate-then-count-self.ensures) kept),
    )

pub returns-then-count-self : goal.returns-then-count-self
returns-then-count-self c =
    let s = c.self.inside in
    let n : ℕ = c.args.count in
    let stays : ℕ = c.before-stays.result in
    let cut = subst (λ (xs : List ℕ). IsCut xs stays n) c.deref.ensures.value c.before-stays.ensures in
    let whole : n - 0 ≡ n = omega arith in
    ap (λ xs. spread 0 n xs c.truncate-then-count-self.new.self) c.truncate.ensures.items ∙ ap (spread 0 n (take stays s.learnt.items)) c.truncate-then-count-self.ensures
    ∙ spread-cut 0 s.count s.learnt.items s.rows stays n c.self.invariant.1 cut (omega arith) (omega arith)
    ∙ ap (λ (k : ℕ). take k (spread 0 s.count s.learnt.items s.rows)) whole ∙ ap (take n) c.self.view_is

pub returns-else-count-self : goal.returns-else-count-self
returns-else-count-self c =
    let s = c.self.inside in
    sym (take_all c.args.count c.args.self.now (omega (arith, length-spread 0 s.count s.learnt.items s.rows c.self.invariant.1, ap length c.self.view_is)))
