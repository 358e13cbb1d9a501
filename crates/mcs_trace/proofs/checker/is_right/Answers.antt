use Rattle.std.proofs.Common.{◌≡◌, ◌++◌, ◌↔◌, IsTrue, IfOk, Bool, Result, Ok, Err, ℕ, ℤ, List, ◌∷◌, sym, ap, ◌∙◌, subst}
use Rattle.mcs_base.specs.declared.memory.Memory.{Memory}
use Rattle.mcs_trace.specs.Traces.{ResolvesTo, clauses_of, IsChainResolvent}
use Rattle.mcs_trace.proofs.TraceLemmas.{chain-first}
use Rattle.mcs_trace.proofs.checker.is_right.Goals as goal

told : (r : Result Bool Memory) (P Q : Type 0) → P ↔ Q → IfOk r (λ b. IsTrue b ↔ Q) → IfOk r (λ b. IsTrue b ↔ P)
told (Ok b) P Q same h = (λ e. same.1 (h.0 e), λ p. h.1 (same.0 p))
told (Err e) P Q same h = h

pub returns : goal.returns
returns c =
    let known : List (List ℤ) = c.args.clauses.now ++ clauses_of c.args.steps.now in
    let first : List ℤ = c.in-Some-numbered.first.now in
    let last : List ℤ = c.args.step.now.clause in
    let numbers : List ℕ = c.in-Some.numbers.now in
    let chain : c.args.step.now.chain.items ≡ c.in-Some.number.now ∷ numbers = sym c.deref.ensures.value ∙ c.in-Some.ensures.cases.0 in
    let copied : c.extend_from_slice.new.self.items ≡ first = c.in_ok-extend_from_slice.ensures.items ∙ ap (λ xs. xs ++ c.literals.result.now) c.clear.ensures.items ∙ c.literals.ensures.value in
    let resolves : IfOk c.resolves_to.result (λ b. IsTrue b ↔ ResolvesTo known c.extend_from_slice.new.self.items numbers c.literals-2.result.now) = c.resolves_to.ensures in
    told c.resolves_to.result (IsChainResolvent known c.args.step.now.chain.items last) (ResolvesTo known first numbers last)
    (chain-first known c.args.step.now.chain.items c.in-Some.number.now numbers first last chain (sym c.in-Some-numbered.ensures))
    (subst (λ (x : List ℤ). IfOk c.resolves_to.result (λ b. IsTrue b ↔ ResolvesTo known x numbers last)) copied
    (subst (λ (x : List ℤ). IfOk c.resolves_to.result (λ b. IsTrue b ↔ ResolvesTo known c.extend_from_slice.new.self.items numbers x)) c.literals-2.ensures.value resolves))
