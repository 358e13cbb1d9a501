use Rattle.std.proofs.Common.{◌≡◌, ℕ, ◌-◌, List, length, take, drop, codes, Option, Some, None, refl, sym, ap, ◌∙◌, arith, length-drop}
use Rattle.std.proofs.lemmas.List.{take_all}
use Rattle.mcs_spelling.specs.Words.{after_prefix, step_of}
use Rattle.mcs_steps.proofs.StepLemmas.{no_front, no_by, no_chain, no_clause, no_numbers, parted}
use Rattle.mcs_steps.proofs.line.split_step.Goals as goal
use Rattle.mcs_steps.proofs.line.split_step.Goals.{else-is_clause-via-then-is_clause+else-are_numbers, else-is_clause-via-else-is_clause}

after_by : (rest : List ℕ) (by : ℕ) (o : Option (List ℕ)) → o ≡ after_prefix (codes "by ") (take (length rest - by) (drop by rest)) → o ≡ after_prefix (codes "by ") (drop by rest)
after_by rest by o e =
    let whole : take (length rest - by) (drop by rest) ≡ drop by rest = take_all _ _ (omega (arith, length-drop by rest)) in
    e ∙ ap (after_prefix (codes "by ")) whole

pub returns-in_err-rest : goal.returns-in_err-rest
returns-in_err-rest c = let none : step_of c.args.line.now ≡ None = no_front c.args.line.now c.in_err-rest.ensures in rw c.from_residual.ensures none

pub returns-in_err-by : goal.returns-in_err-by
returns-in_err-by c =
    let none : step_of c.args.line.now ≡ None = no_by c.args.line.now c.in_ok-rest.rest.now c.in_ok-rest.ensures c.in_err-by.ensures.value in
    rw c.from_residual-in_err-by.ensures none

pub returns-in_err-chain : goal.returns-in_err-chain
returns-in_err-chain c =
    let rest = c.in_ok-rest.rest.now in
    let by = c.in_ok-by.by in
    let none : step_of c.args.line.now ≡ None = no_chain c.args.line.now rest c.in_ok-rest.ensures by c.in_ok-by.ensures.value (after_by rest by None c.in_err-chain.ensures) in
    rw c.from_residual-in_err-chain.ensures none

pub returns-then-are_numbers : goal.returns-then-are_numbers
returns-then-are_numbers c =
    let rest = c.in_ok-rest.rest.now in
    let by = c.in_ok-by.by in
    parted c.args.line.now rest c.in_ok-rest.ensures by c.in_ok-by.ensures.value c.in_ok-chain.chain.now (after_by rest by (Some c.in_ok-chain.chain.now) c.in_ok-chain.ensures)
    (sym c.is_clause.ensures ∙ c.if-is_clause.true) (sym c.are_numbers.ensures ∙ c.if-are_numbers.true) _ refl refl

pub returns-else-is_clause : goal.returns-else-is_clause
returns-else-is_clause c =
    let rest = c.in_ok-rest.rest.now in
    let by = c.in_ok-by.by in
    let after = after_by rest by (Some c.in_ok-chain.chain.now) c.in_ok-chain.ensures in
    elim c.else-is_clause.branch [
      | else-is_clause-via-then-is_clause+else-are_numbers w ↦ no_numbers c.args.line.now rest c.in_ok-rest.ensures by c.in_ok-by.ensures.value c.in_ok-chain.chain.now after (sym w.are_numbers.ensures ∙ w.if-are_numbers.false)
      | else-is_clause-via-else-is_clause w ↦ no_clause c.args.line.now rest c.in_ok-rest.ensures by c.in_ok-by.ensures.value c.in_ok-chain.chain.now after (sym c.is_clause.ensures ∙ w.if-is_clause.false)
    ]
