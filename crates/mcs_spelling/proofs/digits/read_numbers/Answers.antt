use Rattle.std.proofs.Common.{◌≡◌, ◌∙◌, ◌++◌, ◌∷◌, [], ◌+◌, ℕ, Bool, List, Option, Some, None, Vec, Global, drop, get_or, sym, ap, ap₂, cond, nat_eq}
use Rattle.std.specs.Option.{option_and_then}
use Rattle.std.proofs.lemmas.Bool.{ne_eqb}
use Rattle.std.proofs.lemmas.List.{at_drop_more, at_drop_all}
use Rattle.mcs_spelling.specs.Words.{with_digit, numbers_from, numbers_of}
use Rattle.mcs_spelling.proofs.digits.read_numbers.Goals as goal
use Rattle.mcs_spelling.proofs.digits.read_numbers.Goals.{then-byte-eq32+else-number-eq0+in_ok-push, else-byte-eq32+in-Some}

-- ---- what the next byte does
space_goes : (taken : List ℕ) (n b : ℕ) (bytes : List ℕ) → b ≡ 32 → ¬ (n ≡ 0) → numbers_from taken n (b ∷ bytes) ≡ numbers_from (taken ++ n ∷ []) 0 bytes
space_goes taken n b bytes space some =
    let rest : Option (List ℕ) = option_and_then (λ next. numbers_from taken next bytes) (with_digit n b) in
    let more : Option (List ℕ) = numbers_from (taken ++ n ∷ []) 0 bytes in
    ap (λ (x : ℕ). cond (nat_eq x 32) (cond (nat_eq n 0) None more) rest) space ∙ ap (λ (v : Bool). cond v None more) (ne_eqb n 0 some)

space_ends : (taken : List ℕ) (n b : ℕ) (bytes : List ℕ) → b ≡ 32 → n ≡ 0 → numbers_from taken n (b ∷ bytes) ≡ None
space_ends taken n b bytes space zero =
    let rest : Option (List ℕ) = option_and_then (λ next. numbers_from taken next bytes) (with_digit n b) in
    let more : Option (List ℕ) = numbers_from (taken ++ n ∷ []) 0 bytes in
    ap (λ (x : ℕ). cond (nat_eq x 32) (cond (nat_eq n 0) None more) rest) space ∙ ap (λ (x : ℕ). cond (nat_eq x 0) None more) zero

digit_gives : (taken : List ℕ) (n b : ℕ) (bytes : List ℕ) (o : Option ℕ) → ¬ (b ≡ 32) → o ≡ with_digit n b → numbers_from taken n (b ∷ bytes) ≡ option_and_then (λ next. numbers_from taken next bytes) o
digit_gives taken n b bytes o other digit =
    let go : Option ℕ → Option (List ℕ) = option_and_then (λ next. numbers_from taken next bytes) in
    let more : Option (List ℕ) = numbers_from (taken ++ n ∷ []) 0 bytes in
    ap (λ (v : Bool). cond v (cond (nat_eq n 0) None more) (go (with_digit n b))) (ne_eqb b 32 other) ∙ ap go (sym digit)

pub returns-then-number-eq0 : goal.returns-then-number-eq0
unfolding numbers_of
returns-then-number-eq0 c =
    let bytes = c.args.bytes.now in
    let i = c.loop-byte.byte-index in
    let taken = c.loop-byte.numbers.items in
    let n = c.loop-byte.number in
    sym (space_ends taken n (get_or bytes i 0) (drop (i + 1) bytes) c.if-byte-eq32.true c.if-number-eq0.true)
    ∙ sym (at_drop_more (numbers_from taken n) bytes i 0 c.loop-byte-test.true) ∙ c.loop-byte.invariant

pub returns-in_default : goal.returns-in_default
unfolding numbers_of
returns-in_default c =
    let bytes = c.args.bytes.now in
    let i = c.loop-byte.byte-index in
    let taken = c.loop-byte.numbers.items in
    let n = c.loop-byte.number in
    sym (digit_gives taken n (get_or bytes i 0) (drop (i + 1) bytes) None c.if-byte-eq32.false c.in_default.ensures.value)
    ∙ sym (at_drop_more (numbers_from taken n) bytes i 0 c.loop-byte-test.true) ∙ c.loop-byte.invariant

pub loop-byte-init : goal.loop-byte-init
loop-byte-init c = ap (λ (xs : List ℕ). numbers_from xs 0 c.args.bytes.now) c.new-numbers.ensures.items

pub loop-byte-preserved : goal.loop-byte-preserved
loop-byte-preserved c =
    let bytes = c.args.bytes.now in
    let i = c.loop-byte.byte-index in
    let taken = c.loop-byte.numbers.items in
    let n = c.loop-byte.number in
    let b = get_or bytes i 0 in
    let rest = drop (i + 1) bytes in
    let items = λ (v : Vec ℕ Global). v.items in
    let begun = sym (at_drop_more (numbers_from taken n) bytes i 0 c.loop-byte-test.true) ∙ c.loop-byte.invariant in
    elim c.if-byte-eq32.branch [
      | then-byte-eq32+else-number-eq0+in_ok-push w ↦ ap₂ (λ (xs : List ℕ) (m : ℕ). numbers_from xs m rest) (ap items w.numbers-is ∙ w.in_ok-push.ensures.items) w.number-is
          ∙ sym (space_goes taken n b rest w.if-byte-eq32.true w.if-number-eq0.false) ∙ begun
      | else-byte-eq32+in-Some w ↦ ap₂ (λ (xs : List ℕ) (m : ℕ). numbers_from xs m rest) (ap items w.numbers-is) w.number-is
          ∙ sym (digit_gives taken n b rest (Some w.in-Some.next) w.if-byte-eq32.false w.in-Some.ensures.value) ∙ begun
    ]

pub returns-then-number-eq0-2 : goal.returns-then-number-eq0-2
unfolding numbers_of
returns-then-number-eq0-2 c =
    let taken = c.loop-byte.numbers.items in
    let n = c.loop-byte.number in
    sym (ap (λ (x : ℕ). cond (nat_eq x 0) None (Some (taken ++ n ∷ []))) c.if-number-eq0-2.true)
    ∙ sym (at_drop_all (numbers_from taken n) c.args.bytes.now c.loop-byte.byte-index c.loop-byte-test.false) ∙ c.loop-byte.invariant

pub returns : goal.returns
unfolding numbers_of
returns c =
    let taken = c.loop-byte.numbers.items in
    let n = c.loop-byte.number in
    ap Some c.in_ok-push-2.ensures.items ∙ sym (ap (λ (v : Bool). cond v None (Some (taken ++ n ∷ []))) (ne_eqb n 0 c.if-number-eq0-2.false))
    ∙ sym (at_drop_all (numbers_from taken n) c.args.bytes.now c.loop-byte.byte-index c.loop-byte-test.false) ∙ c.loop-byte.invariant
