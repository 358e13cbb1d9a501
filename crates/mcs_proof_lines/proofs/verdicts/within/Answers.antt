use Rattle.std.proofs.Common.{◌≡◌, ◌∙◌, ◌++◌, ◌∷◌, [], ◌+◌, ◌<◌, ◌≤◌, ℕ, Bool, List, Option, Some, None, drop, get_or, sym, ap, cond, arith}
use Rattle.std.proofs.lemmas.Bool.{le-leb, lt-leb}
use Rattle.std.proofs.lemmas.List.{at_drop_more, at_drop_all}
use Rattle.mcs_proof_lines.specs.Verdicts.{within_from}
use Rattle.mcs_proof_lines.proofs.verdicts.within.Goals as goal

-- ---- what the next number does
goes_on : (most : ℕ) (taken : List ℕ) (n : ℕ) (ns : List ℕ) → n ≤ most → within_from most taken (n ∷ ns) ≡ within_from most (taken ++ n ∷ []) ns
goes_on most taken n ns low = ap (λ (v : Bool). cond v (within_from most (taken ++ n ∷ []) ns) None) (le-leb n most low)

ends_at : (most : ℕ) (taken : List ℕ) (n : ℕ) (ns : List ℕ) → most < n → within_from most taken (n ∷ ns) ≡ None
ends_at most taken n ns high = ap (λ (v : Bool). cond v (within_from most (taken ++ n ∷ []) ns) None) (lt-leb n most high)

pub returns-then-number-from : goal.returns-then-number-from
returns-then-number-from c =
    let numbers = c.args.numbers.now in
    let i = c.loop-number.number-index in
    let taken = c.loop-number.order.items in
    sym (ends_at c.args.most taken (get_or numbers i 0) (drop (i + 1) numbers) (omega (arith, c.if-number-from.true, c.from.ensures)))
    ∙ sym (at_drop_more (within_from c.args.most taken) numbers i 0 c.loop-number-test.true) ∙ c.loop-number.invariant

pub loop-number-init : goal.loop-number-init
loop-number-init c = ap (λ (xs : List ℕ). within_from c.args.most xs c.args.numbers.now) c.new-order.ensures.items

pub loop-number-preserved : goal.loop-number-preserved
loop-number-preserved c =
    let numbers = c.args.numbers.now in
    let i = c.loop-number.number-index in
    let taken = c.loop-number.order.items in
    let rest = drop (i + 1) numbers in
    ap (λ (xs : List ℕ). within_from c.args.most xs rest) c.in_ok-push.ensures.items
    ∙ sym (goes_on c.args.most taken (get_or numbers i 0) rest (omega (arith, c.if-number-from.false, c.from.ensures)))
    ∙ sym (at_drop_more (within_from c.args.most taken) numbers i 0 c.loop-number-test.true) ∙ c.loop-number.invariant

pub returns : goal.returns
returns c = sym (at_drop_all (within_from c.args.most c.loop-number.order.items) c.args.numbers.now c.loop-number.number-index c.loop-number-test.false) ∙ c.loop-number.invariant
