use Rattle.std.proofs.Common.{◌≡◌, ◌∷◌, [], ◌++◌, ◌+◌, ◌<◌, refl, sym, ap, ◌∙◌, subst, arith, length, map, rules, ℕ, List}
use Rattle.std.proofs.lemmas.List.{length_push}
use Rattle.mcs_trace.specs.Traces.{Inference, inference_of}
use Rattle.mcs_search.specs.Numbering.{NameBelow, number_now}
use Rattle.mcs_search.proofs.NumberingLemmas.{read-step}
use Rattle.mcs_search.proofs.trace.Numbering.take.Goals as goal

pub step_of-requires-clause-chain : goal.step_of-requires-clause-chain
step_of-requires-clause-chain c = subst (λ (xs : List ℕ). NameBelow (length xs) c.args.chain.now) (sym c.deref.ensures.value) c.requires.chain

pub returns : goal.returns
returns c =
    let some : 0 < length c.args.chain.now = search rules in
    let old = c.args.self.now in
    let s = c.in_ok-step.step in
    let step : inference_of s ≡ record { clause = c.args.literals.now; chain = map (number_now old.numbers.items) c.args.chain.now } = c.in_ok-step.ensures ∙ ap (λ (xs : List ℕ). (let i : Inference = record { clause = c.args.literals.now; chain = map (number_now xs) c.args.chain.now } in i)) c.deref.ensures.value in
    let number : c.args.count + c.len.result ≡ c.args.count + length old.steps.items + 1 = (let ok = c.push-2.new.self.ok.0 in omega (arith, c.len.ensures, ap length c.in_ok-push-3.ensures.items, length_push old.steps.items s)) in
    read-step old (record { steps = c.push-2.new.self; given = old.given; numbers = c.push-3.new.self }) c.args.literals.now c.args.chain.now c.args.is_needed c.args.count s some c.if-not-is_needed.false step c.in_ok-push-3.ensures.items refl
    (c.in_ok-push-4.ensures.items ∙ ap (λ (n : ℕ). old.numbers.items ++ n ∷ []) number)
