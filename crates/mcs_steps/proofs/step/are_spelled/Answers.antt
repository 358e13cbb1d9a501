use Rattle.std.proofs.Common.{◌≡◌, ℤ, List, [], length, drop, Some, sym, ap, ◌∙◌, arith, length-drop, true≢false}
use Rattle.std.proofs.Math.ListN.{drop_of_length-le}
use Rattle.mcs_steps.proofs.ChainLemmas.{no_bytes, none_spelled, spells_none, nothing_left}
use Rattle.mcs_steps.proofs.step.are_spelled.Goals as goal

pub returns-then-is_empty : goal.returns-then-is_empty
returns-then-is_empty c =
    let rest = drop c.loop-literal.literal-index c.args.literals.now in
    let empty = no_bytes c.loop-literal.left.now (sym c.is_empty.ensures ∙ c.if-is_empty.true) in (
      λ h. absurd (true≢false (sym h)),
      λ h. absurd (let short = ap length (none_spelled c.loop-literal.left.now rest empty (c.loop-literal.invariant.0 h)) in let long = length-drop c.loop-literal.literal-index c.args.literals.now in omega (arith, short, long)),
    )

pub returns : goal.returns
returns c =
    let left = c.loop-literal.left.now in
    let none : drop c.loop-literal.literal-index c.args.literals.now ≡ [] = drop_of_length-le c.args.literals.now (omega arith) in (
      λ h. c.loop-literal.invariant.1 (spells_none left (no_bytes left (sym c.is_empty-2.ensures ∙ h)) ∙ ap (λ (ls : List ℤ). Some ls) (sym none)),
      λ h. c.is_empty-2.ensures ∙ nothing_left left (c.loop-literal.invariant.0 h ∙ ap (λ (ls : List ℤ). Some ls) none),
    )
