use Rattle.std.proofs.Common.{◌≡◌, ◌+◌, ◌<◌, ◌++◌, ◌∷◌, [], ◌∙◌, ℕ, List, ap, arith, length, rules, subst, sym}
use Rattle.std.proofs.lemmas.List.{nil_from_length}
use Rattle.mcs_engine.specs.Chains.{AreLearnt, spread}
use Rattle.mcs_engine.proofs.ChainLemmas.{learnt-longer, learnt-more, spread-longer, spread-more}
use Rattle.mcs_engine.proofs.chains.Chains.push.Goals as goal

pub invariant_of-self : goal.invariant_of-self
invariant_of-self c =
    let s = c.self.inside in (
      let fits = c.in-Some.ensures.0 in let next = c.in-Some.ensures.1 in omega arith,
      subst (λ (n : ℕ). AreLearnt 0 n s.learnt.items s.rows) (sym c.in-Some.ensures.1) (learnt-longer 0 s.count s.learnt.items s.rows c.self.invariant.1),
    )

pub returns-then-is_empty-clause-ok : goal.returns-then-is_empty-clause-ok
returns-then-is_empty-clause-ok c =
    let s = c.self.inside in
    let none : length c.args.chain.now ≡ 0 = search rules in
    ap (λ (n : ℕ). spread 0 n s.learnt.items s.rows) c.in-Some.ensures.1 ∙ spread-longer 0 s.count s.learnt.items s.rows c.self.invariant.1
    ∙ ap (λ (chain : List ℕ). spread 0 s.count s.learnt.items s.rows ++ chain ∷ []) (sym (nil_from_length c.args.chain.now none)) ∙ ap (λ rows. rows ++ c.args.chain.now ∷ []) c.self.view_is

pub invariant_of-self-in-Ok : goal.invariant_of-self-in-Ok
invariant_of-self-in-Ok c =
    let s = c.self.inside in
    let row = c.args.chain.now in
    let some : 0 < length row = search rules in
    let kept = learnt-more 0 s.count s.learnt.items s.rows row c.self.invariant.1 (λ none. let e = ap length none in omega arith) in (
      let fits = c.in-Some.ensures.0 in let next = c.in-Some.ensures.1 in omega arith,
      subst (λ (n : ℕ). AreLearnt 0 n c.push.new.self.items c.push-2.new.self) (sym c.in-Some.ensures.1)
          (subst (λ (xs : List ℕ). AreLearnt 0 (s.count + 1) xs c.push-2.new.self) (sym c.in_ok-push.ensures.items) (subst (AreLearnt 0 (s.count + 1) (s.learnt.items ++ s.count ∷ [])) (sym c.in-Ok.ensures.ok) kept)),
    )

pub returns-in-Ok-clause-ok : goal.returns-in-Ok-clause-ok
returns-in-Ok-clause-ok c =
    let s = c.self.inside in
    let row = c.args.chain.now in
    ap (λ (n : ℕ). spread 0 n c.push.new.self.items c.push-2.new.self) c.in-Some.ensures.1 ∙ ap (λ (xs : List ℕ). spread 0 (s.count + 1) xs c.push-2.new.self) c.in_ok-push.ensures.items
    ∙ ap (spread 0 (s.count + 1) (s.learnt.items ++ s.count ∷ [])) c.in-Ok.ensures.ok
    ∙ spread-more 0 s.count s.learnt.items s.rows row c.self.invariant.1 ∙ ap (λ rows. rows ++ row ∷ []) c.self.view_is
