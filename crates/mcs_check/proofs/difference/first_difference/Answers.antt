use Rattle.std.proofs.Common.{◌≡◌, ℕ, ◌+◌, ◌-◌, ◌++◌, List, [], length, take, drop, sym, ap, ◌∙◌, subst, arith, length-drop}
use Rattle.std.proofs.lemmas.List.{take_all}
use Rattle.mcs_spelling.specs.Lines.{complete_lines}
use Rattle.mcs_check.specs.Collected.{common, feeds}
use Rattle.mcs_check.specs.Validity.{DifferFirst}
use Rattle.mcs_check.proofs.Differences.{differ_early, differ_late, same_pieces}
use Rattle.mcs_check.proofs.difference.first_difference.Goals as goal
use Rattle.mcs_check.proofs.difference.first_difference.Goals.{else-same-more-via-then-same-more+else-more-rest, else-same-more-via-else-same-more}

-- how much more is the same
more_is : (text front rest : List ℕ) (same more : ℕ) → same ≡ common text front → more ≡ common (take (length text - same) (drop same text)) rest → more ≡ common (drop (common text front) text) rest
more_is text front rest same more is e =
    let left : take (length text - same) (drop same text) ≡ drop same text = take_all _ _ (omega (arith, length-drop same text)) in
    e ∙ ap (λ (xs : List ℕ). common xs rest) left ∙ ap (λ (n : ℕ). common (drop n text) rest) is

pub returns-then-same-front : goal.returns-then-same-front
returns-then-same-front c =
    let text = c.args.text.now in
    let front = c.args.front.now in
    let rest = c.args.rest.now in
    let is : c.common-same.result ≡ common text front = c.common-same.ensures.value in
    let e : c.line_after.result ≡ feeds (take (common text front) text) + 1 = c.line_after.ensures ∙ ap (λ (n : ℕ). feeds (take n text) + 1) is in
    subst (λ (n : ℕ). DifferFirst (complete_lines text) (complete_lines (front ++ rest)) n) (sym e) (differ_early text front rest c.requires.text c.requires.pieces (omega (arith, is)))

pub returns-then-more-rest : goal.returns-then-more-rest
returns-then-more-rest c =
    let text = c.args.text.now in
    let front = c.args.front.now in
    let rest = c.args.rest.now in
    let is : c.common-same.result ≡ common text front = c.common-same.ensures.value in
    let is' = more_is text front rest c.common-same.result c.common-more.result is c.common-more.ensures.value in
    ap complete_lines (same_pieces text front rest (omega (arith, is)) (omega (arith, is, is')) (omega (arith, is')))

pub returns : goal.returns
returns c =
    let text = c.args.text.now in
    let front = c.args.front.now in
    let rest = c.args.rest.now in
    let n = common text front in
    let k = common (drop n text) rest in
    let is : c.common-same.result ≡ n = c.common-same.ensures.value in
    let is' : c.common-more.result ≡ k = more_is text front rest c.common-same.result c.common-more.result is c.common-more.ensures.value in
    let e : c.line_after-2.result ≡ feeds (take (n + k) text) + 1 =
    c.line_after-2.ensures ∙ ap (λ (j : ℕ). feeds (take (j + c.common-more.result) text) + 1) is ∙ ap (λ (j : ℕ). feeds (take (n + j) text) + 1) is' in
    let some : ¬ ((drop k (drop n text) ≡ []) × (drop k rest ≡ [])) = elim c.else-same-more.branch [
      | else-same-more-via-then-same-more+else-more-rest w ↦ λ none. (let short = ap length none.1 in let long = length-drop k rest in w.if-more-rest.false (omega (arith, short, long, is')))
      | else-same-more-via-else-same-more w ↦ λ none. (let short = ap length none.0 in let long = length-drop k (drop n text) in let long' = length-drop n text in w.if-same-more.false (omega (arith, short, long, long', is, is')))
    ] in
    subst (λ (j : ℕ). DifferFirst (complete_lines text) (complete_lines (front ++ rest)) j) (sym e) (differ_late text front rest c.requires.text c.requires.pieces (omega (arith, is)) some)
