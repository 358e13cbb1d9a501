use Rattle.std.proofs.Common.{◌≡◌, ◌∙◌, ◌++◌, ◌∷◌, [], ◌+◌, ◌<◌, ◌^◌, ◌&&◌, ℕ, ℤ, Bool, true, false, not, List, Option, Some, None, Vec, Global, drop, get_or, sym, ap, ap₂, cond, nat_eq, subst, arith, rules, w64, SFits, to_z-of_z}
use Rattle.std.specs.Option.{option_and_then}
use Rattle.std.proofs.lemmas.Bool.{ne_eqb}
use Rattle.std.proofs.lemmas.List.{at_drop_more, at_drop_all}
use Rattle.mcs_spelling.specs.Words.{with_digit, signed, literals_before, literals_of_bytes}
use Rattle.mcs_spelling.proofs.digits.read_literals.Goals as goal
use Rattle.mcs_spelling.proofs.digits.read_literals.Goals.{then-byte-eq32+else-size-eq0+in_ok-push, else-byte-eq32+then-byte-eq45+else-size-ne0+else-is_negative, else-byte-eq32+else-byte-eq45+in-Some, then-size-ne0-via-then-size-ne0, then-size-ne0-via-else-size-ne0+then-is_negative, then-size-ne0-2-via-then-size-ne0-2, then-size-ne0-2-via-else-size-ne0-2+then-is_negative-2}

-- ---- what the next byte does: a space, a sign, or another one
module _ (taken : List ℤ) (n : ℕ) (is_negative : Bool) (b : ℕ) (bytes : List ℕ) where
  abbrev at_space : Option (List ℤ)
  at_space = cond (nat_eq n 0) None (literals_before (taken ++ signed n is_negative ∷ []) 0 false bytes)

  abbrev at_sign : Option (List ℤ)
  at_sign = cond (nat_eq n 0 && not is_negative) (literals_before taken 0 true bytes) None

  abbrev at_digit : Option ℕ → Option (List ℤ)
  at_digit = option_and_then (λ next. literals_before taken next is_negative bytes)

  given_space : b ≡ 32 → literals_before taken n is_negative (b ∷ bytes) ≡ at_space
  given_space space = ap (λ (x : ℕ). cond (nat_eq x 32) at_space (cond (nat_eq b 45) at_sign (at_digit (with_digit n b)))) space

  given_sign : ¬ (b ≡ 32) → b ≡ 45 → literals_before taken n is_negative (b ∷ bytes) ≡ at_sign
  given_sign other sign =
      ap (λ (v : Bool). cond v at_space (cond (nat_eq b 45) at_sign (at_digit (with_digit n b)))) (ne_eqb b 32 other)
      ∙ ap (λ (x : ℕ). cond (nat_eq x 45) at_sign (at_digit (with_digit n b))) sign

  given_digit : (o : Option ℕ) → ¬ (b ≡ 32) → ¬ (b ≡ 45) → o ≡ with_digit n b → literals_before taken n is_negative (b ∷ bytes) ≡ at_digit o
  given_digit o other neither digit =
      ap (λ (v : Bool). cond v at_space (cond (nat_eq b 45) at_sign (at_digit (with_digit n b)))) (ne_eqb b 32 other)
      ∙ ap (λ (v : Bool). cond v at_sign (at_digit (with_digit n b))) (ne_eqb b 45 neither) ∙ ap at_digit (sym digit)

same_state : (xs ys : List ℤ) (n m : ℕ) (u v : Bool) (bytes : List ℕ) → xs ≡ ys → n ≡ m → u ≡ v → literals_before xs n u bytes ≡ literals_before ys m v bytes
same_state xs ys n m u v bytes p q r = ap (λ (zs : List ℤ). literals_before zs n u bytes) p ∙ ap₂ (λ (k : ℕ) (w : Bool). literals_before ys k w bytes) q r

pub returns-then-size-eq0 : goal.returns-then-size-eq0
unfolding literals_of_bytes
returns-then-size-eq0 c =
    let bytes = c.args.bytes.now in
    let i = c.loop-byte.byte-index in
    let taken = c.loop-byte.literals.items in
    let n = c.loop-byte.size in
    let sign = c.loop-byte.is_negative in
    let rest = drop (i + 1) bytes in
    sym (ap (λ (x : ℕ). cond (nat_eq x 0) None (literals_before (taken ++ signed n sign ∷ []) 0 false rest)) c.if-size-eq0.true)
    ∙ sym (given_space taken n sign (get_or bytes i 0) rest c.if-byte-eq32.true) ∙ sym (at_drop_more (literals_before taken n sign) bytes i 0 c.loop-byte-test.true)
    ∙ c.loop-byte.invariant.rest

pub signed-requires : goal.signed-requires
signed-requires c = c.loop-byte.invariant.fits

pub returns-then-size-ne0 : goal.returns-then-size-ne0
unfolding literals_of_bytes
returns-then-size-ne0 c =
    let bytes = c.args.bytes.now in
    let i = c.loop-byte.byte-index in
    let taken = c.loop-byte.literals.items in
    let n = c.loop-byte.size in
    let sign = c.loop-byte.is_negative in
    let rest = drop (i + 1) bytes in
    let more = literals_before taken 0 true rest in
    let begun = sym (given_sign taken n sign (get_or bytes i 0) rest c.if-byte-eq32.false c.if-byte-eq45.true)
    ∙ sym (at_drop_more (literals_before taken n sign) bytes i 0 c.loop-byte-test.true) ∙ c.loop-byte.invariant.rest in
    elim c.then-size-ne0.branch [
      | then-size-ne0-via-then-size-ne0 w ↦ sym (ap (λ (v : Bool). cond (v && not sign) more None) (ne_eqb n 0 w.if-size-ne0.true)) ∙ begun
      | then-size-ne0-via-else-size-ne0+then-is_negative w ↦ sym (ap₂ (λ (x : ℕ) (v : Bool). cond (nat_eq x 0 && not v) more None) w.if-size-ne0.false w.if-is_negative.true) ∙ begun
    ]

pub returns-in_default : goal.returns-in_default
unfolding literals_of_bytes
returns-in_default c =
    let bytes = c.args.bytes.now in
    let i = c.loop-byte.byte-index in
    let taken = c.loop-byte.literals.items in
    let n = c.loop-byte.size in
    let sign = c.loop-byte.is_negative in
    sym (given_digit taken n sign (get_or bytes i 0) (drop (i + 1) bytes) None c.if-byte-eq32.false c.if-byte-eq45.false c.in_default.ensures.value)
    ∙ sym (at_drop_more (literals_before taken n sign) bytes i 0 c.loop-byte-test.true) ∙ c.loop-byte.invariant.rest

pub loop-byte-init : goal.loop-byte-init
loop-byte-init c = record { rest = ap (λ (xs : List ℤ). literals_before xs 0 false c.args.bytes.now) c.new-literals.ensures.items; fits = omega arith }

pub loop-byte-preserved : goal.loop-byte-preserved
loop-byte-preserved c =
    let bytes = c.args.bytes.now in
    let i = c.loop-byte.byte-index in
    let taken = c.loop-byte.literals.items in
    let n = c.loop-byte.size in
    let sign = c.loop-byte.is_negative in
    let b = get_or bytes i 0 in
    let rest = drop (i + 1) bytes in
    let items = λ (v : Vec ℤ Global). v.items in
    let now = c.if-byte-eq32 in
    let begun = sym (at_drop_more (literals_before taken n sign) bytes i 0 c.loop-byte-test.true) ∙ c.loop-byte.invariant.rest in
    elim c.if-byte-eq32.branch [
      | then-byte-eq32+else-size-eq0+in_ok-push w ↦ record {
        rest =
            same_state now.literals.items (taken ++ signed n sign ∷ []) now.size 0 now.is_negative false rest
            (let fits : SFits w64 w.signed.result = search rules in
            ap items w.literals-is ∙ w.in_ok-push.ensures.items ∙ ap (λ (l : ℤ). taken ++ l ∷ []) (to_z-of_z fits ∙ w.signed.ensures)) w.size-is w.is_negative-is
            ∙ sym (ap (λ (v : Bool). cond v None (literals_before (taken ++ signed n sign ∷ []) 0 false rest)) (ne_eqb n 0 w.if-size-eq0.false))
            ∙ sym (given_space taken n sign b rest w.if-byte-eq32.true) ∙ begun;
        fits = subst (λ (k : ℕ). k < 2 ^ 63) (sym w.size-is) (omega arith);
      }
      | else-byte-eq32+then-byte-eq45+else-size-ne0+else-is_negative w ↦ record {
        rest =
            same_state now.literals.items taken now.size 0 now.is_negative true rest (ap items w.literals-is) (w.size-is ∙ w.if-size-ne0.false) w.is_negative-is
            ∙ sym (ap₂ (λ (x : ℕ) (v : Bool). cond (nat_eq x 0 && not v) (literals_before taken 0 true rest) None) w.if-size-ne0.false w.if-is_negative.false)
            ∙ sym (given_sign taken n sign b rest w.if-byte-eq32.false w.if-byte-eq45.true) ∙ begun;
        fits = subst (λ (k : ℕ). k < 2 ^ 63) (sym w.size-is) c.loop-byte.invariant.fits;
      }
      | else-byte-eq32+else-byte-eq45+in-Some w ↦ record {
        rest =
            same_state now.literals.items taken now.size w.in-Some.next now.is_negative sign rest (ap items w.literals-is) w.size-is w.is_negative-is
            ∙ sym (given_digit taken n sign b rest (Some w.in-Some.next) w.if-byte-eq32.false w.if-byte-eq45.false w.in-Some.ensures.value) ∙ begun;
        fits = subst (λ (k : ℕ). k < 2 ^ 63) (sym w.size-is) w.in-Some.ensures.fits;
      }
    ]

pub returns-then-size-ne0-2 : goal.returns-then-size-ne0-2
unfolding literals_of_bytes
returns-then-size-ne0-2 c =
    let taken = c.loop-byte.literals.items in
    let n = c.loop-byte.size in
    let sign = c.loop-byte.is_negative in
    let over = sym (at_drop_all (literals_before taken n sign) c.args.bytes.now c.loop-byte.byte-index c.loop-byte-test.false) ∙ c.loop-byte.invariant.rest in
    elim c.then-size-ne0-2.branch [
      | then-size-ne0-2-via-then-size-ne0-2 w ↦ sym (ap (λ (v : Bool). cond (v && not sign) (Some taken) None) (ne_eqb n 0 w.if-size-ne0-2.true)) ∙ over
      | then-size-ne0-2-via-else-size-ne0-2+then-is_negative-2 w ↦ sym (ap₂ (λ (x : ℕ) (v : Bool). cond (nat_eq x 0 && not v) (Some taken) None) w.if-size-ne0-2.false w.if-is_negative-2.true) ∙ over
    ]

pub returns : goal.returns
unfolding literals_of_bytes
returns c =
    let taken = c.loop-byte.literals.items in
    sym (ap₂ (λ (x : ℕ) (v : Bool). cond (nat_eq x 0 && not v) (Some taken) None) c.if-size-ne0-2.false c.if-is_negative-2.false)
    ∙ sym (at_drop_all (literals_before taken c.loop-byte.size c.loop-byte.is_negative) c.args.bytes.now c.loop-byte.byte-index c.loop-byte-test.false) ∙ c.loop-byte.invariant.rest
