-- What the first word of bytes says of the numbers and literals that they spell.
use Rattle.std.proofs.Common.{◌≡◌, ℕ, ◌+◌, ◌<◌, ◌≤◌, zero, suc, Bool, true, false, not, ◌&&◌, cond, nat_eq, List, [], ◌∷◌, ◌++◌, length, take, drop, codes, Option, Some, None, ℤ, pos, refl, sym, ap, ◌∙◌, subst, arith, append_assoc, true≢false}
use Rattle.std.proofs.Math.Seq.{drop-length}
use Rattle.std.proofs.lemmas.Bool.{eqb-true, ne_eqb}
use Rattle.std.proofs.lemmas.Iterator.Adapters.{position_from-zero}
use Rattle.std.proofs.lemmas.List.{take_all, take-append-drop, append-nil}
use Rattle.std.proofs.lemmas.Option.{same_Some, none-some}
use Rattle.std.specs.List.{position_from}
use Rattle.std.specs.Option.{option_and_then, option_map}
use Rattle.mcs_base.proofs.Numbers.{zero-minus}
use Rattle.mcs_trace.specs.Clauses.{IsLiteral}
use Rattle.mcs_spelling.specs.Parts.{IsSmallNumber}
use Rattle.mcs_spelling.specs.Words.{after_prefix, place_of_byte, with_digit, number_from, number_of_bytes, numbers_from, numbers_of, signed, literals_before, literals_of_bytes}
use Rattle.mcs_spelling.proofs.LiteralTexts.{after_front, after_is}
use Rattle.mcs_spelling.proofs.NumberTexts.{more_of}
use Rattle.mcs_steps.specs.Words.{IsSpaceless, BeginsSpaced, IsWordEnd, spaced_numbers, with_front, literal_from, literal_of}

-- ---- where the first word ends
Ends : List ℕ → ℕ → ℕ → Type 0
Ends bytes k i = (j : ℕ) × (i ≡ k + j) × IsWordEnd bytes j

found_from : (k i : ℕ) (bytes : List ℕ) → position_from (λ b. nat_eq b 32) k bytes ≡ Some i → Ends bytes k i
unfolding Ends
found_from k i [] e = absurd (cc)
found_from k i (b ∷ bytes) e = at (nat_eq b 32) refl (λ e'. found_from (k + 1) i bytes e') e
  where
    at : (v : Bool) → nat_eq b 32 ≡ v → (position_from (λ b. nat_eq b 32) (k + 1) bytes ≡ Some i → (j : ℕ) × (i ≡ k + 1 + j) × IsWordEnd bytes j)
        → cond v (Some k) (position_from (λ b. nat_eq b 32) (k + 1) bytes) ≡ Some i → (j : ℕ) × (i ≡ k + j) × IsWordEnd (b ∷ bytes) j
    at true v again e = (0, (let same = same_Some k i e in omega arith), record { within = omega arith; word = tt; next = eqb-true b 32 v })
    at false v again e = let (j, is, h) = again e in (suc j, omega (arith, is), record { within = (let low = h.within in omega (arith, low)); word = (v, h.word); next = h.next })

none_from : (k : ℕ) (bytes : List ℕ) → position_from (λ b. nat_eq b 32) k bytes ≡ None → IsSpaceless bytes
none_from k [] e = tt
none_from k (b ∷ bytes) e = at (nat_eq b 32) refl (λ e'. none_from (k + 1) bytes e') e
  where
    at : (v : Bool) → nat_eq b 32 ≡ v → (position_from (λ b. nat_eq b 32) (k + 1) bytes ≡ None → IsSpaceless bytes) → cond v (Some k) (position_from (λ b. nat_eq b 32) (k + 1) bytes) ≡ None → IsSpaceless (b ∷ bytes)
    at true v again e = absurd (cc)
    at false v again e = (v, again e)

pub ends_at_space : (bytes : List ℕ) (end : ℕ) → place_of_byte 32 bytes ≡ Some end → IsWordEnd bytes end
unfolding Ends
ends_at_space bytes end e =
    let (j, is, h) = found_from 0 end bytes (sym (position_from-zero (λ b. nat_eq b 32) bytes) ∙ e) in
    let same : j ≡ end = omega (arith, is) in
    subst (IsWordEnd bytes) same h

pub ends_last : (bytes : List ℕ) → place_of_byte 32 bytes ≡ None → IsWordEnd bytes (length bytes)
ends_last bytes e = record {
  within = omega arith;
  word = subst IsSpaceless (sym (take_all (length bytes) bytes (omega arith))) (none_from 0 bytes (sym (position_from-zero (λ b. nat_eq b 32) bytes) ∙ e));
  next = subst BeginsSpaced (sym (drop-length bytes)) tt;
}

-- ---- numbers
module _ (a : List ℕ) where
  abbrev fronted : Option (List ℕ) → Option (List ℕ)
  fronted o = option_map (λ ns. a ++ ns) o

  abbrev NumbersFront : List ℕ → Type 0
  NumbersFront bytes = (t : List ℕ) (n : ℕ) → numbers_from (a ++ t) n bytes ≡ fronted (numbers_from t n bytes)

  numbers_front : (t : List ℕ) (n : ℕ) (bytes : List ℕ) → numbers_from (a ++ t) n bytes ≡ fronted (numbers_from t n bytes)
  numbers_front t n [] = by (nat_eq n 0)
    where
      by : (v : Bool) → cond v None (Some ((a ++ t) ++ n ∷ [])) ≡ fronted (cond v None (Some (t ++ n ∷ [])))
      by true = refl
      by false = ap (λ (ns : List ℕ). Some ns) (append_assoc a t (n ∷ []))
  numbers_front t n (b ∷ bytes) = by (λ t' n'. numbers_front t' n' bytes) (nat_eq b 32) (nat_eq n 0) (with_digit n b)
    where
      digit : NumbersFront bytes → (o : Option ℕ) → option_and_then (λ next. numbers_from (a ++ t) next bytes) o ≡ fronted (option_and_then (λ next. numbers_from t next bytes) o)
      digit again None = refl
      digit again (Some next) = again t next

      space : NumbersFront bytes → (u : Bool) → cond u None (numbers_from ((a ++ t) ++ n ∷ []) 0 bytes) ≡ fronted (cond u None (numbers_from (t ++ n ∷ []) 0 bytes))
      space again true = refl
      space again false = ap (λ (ns : List ℕ). numbers_from ns 0 bytes) (append_assoc a t (n ∷ [])) ∙ again (t ++ n ∷ []) 0

      by : NumbersFront bytes → (v u : Bool) (o : Option ℕ) → cond v (cond u None (numbers_from ((a ++ t) ++ n ∷ []) 0 bytes)) (option_and_then (λ next. numbers_from (a ++ t) next bytes) o)
          ≡ fronted (cond v (cond u None (numbers_from (t ++ n ∷ []) 0 bytes)) (option_and_then (λ next. numbers_from t next bytes) o))
      by again true u o = space again u
      by again false u o = digit again o

abbrev followed : List ℕ → List ℕ → ℕ → Option (List ℕ)
followed taken [] m = Some (taken ++ m ∷ [])
followed taken (b ∷ rest) m = numbers_from (taken ++ m ∷ []) 0 rest

word_read : (taken : List ℕ) (n : ℕ) (word rest : List ℕ) → IsSpaceless word → BeginsSpaced rest → numbers_from taken n (word ++ rest) ≡ option_and_then (followed taken rest) (number_from n word)
word_read taken n [] [] spaceless begins = by (nat_eq n 0)
  where
    by : (v : Bool) → cond v None (Some (taken ++ n ∷ [])) ≡ option_and_then (followed taken []) (cond v None (Some n))
    by true = refl
    by false = refl
word_read taken n [] (b ∷ rest) spaceless begins = ap (λ (v : Bool). cond v (cond (nat_eq n 0) None (numbers_from (taken ++ n ∷ []) 0 rest)) (option_and_then (λ next. numbers_from taken next rest) (with_digit n b))) space ∙ by (nat_eq n 0)
  where
    space : nat_eq b 32 ≡ true
    space = ap (λ (x : ℕ). nat_eq x 32) begins

    by : (v : Bool) → cond v None (numbers_from (taken ++ n ∷ []) 0 rest) ≡ option_and_then (followed taken (b ∷ rest)) (cond v None (Some n))
    by true = refl
    by false = refl
word_read taken n (c ∷ word) rest spaceless begins =
    ap (λ (v : Bool). cond v (cond (nat_eq n 0) None (numbers_from (taken ++ n ∷ []) 0 (word ++ rest))) (option_and_then (λ next. numbers_from taken next (word ++ rest)) (with_digit n c))) spaceless.0 ∙ by (λ k. word_read taken k word rest spaceless.1 begins) (with_digit n c)
  where
    by : ((k : ℕ) → numbers_from taken k (word ++ rest) ≡ option_and_then (followed taken rest) (number_from k word)) → (o : Option ℕ) → option_and_then (λ next. numbers_from taken next (word ++ rest)) o ≡ option_and_then (followed taken rest) (option_and_then (λ next. number_from next word) o)
    by again None = refl
    by again (Some next) = again next

followed_none : (rest : List ℕ) (m : ℕ) → followed [] rest m ≡ with_front m (spaced_numbers rest)
unfolding numbers_of
followed_none [] m = refl
followed_none (b ∷ rest) m = numbers_front (m ∷ []) [] 0 rest

bind_same : {A : Type 0} (f g : ℕ → Option A) → ((m : ℕ) → f m ≡ g m) → (o : Option ℕ) → option_and_then f o ≡ option_and_then g o
bind_same f g same None = refl
bind_same f g same (Some m) = same m

pub first_number_is : (bytes : List ℕ) (end : ℕ) → IsWordEnd bytes end → numbers_of bytes ≡ option_and_then (λ m. with_front m (spaced_numbers (drop end bytes))) (number_of_bytes (take end bytes))
unfolding numbers_of number_of_bytes
first_number_is bytes end h =
    ap (numbers_from [] 0) (sym (take-append-drop end bytes)) ∙ word_read [] 0 (take end bytes) (drop end bytes) h.word h.next
    ∙ bind_same (followed [] (drop end bytes)) (λ m. with_front m (spaced_numbers (drop end bytes))) (followed_none (drop end bytes)) (number_from 0 (take end bytes))

-- a number has a digit
pub none_of_nothing : (bytes : List ℕ) (end n : ℕ) → end ≤ length bytes → number_of_bytes (take end bytes) ≡ Some n → 0 < end
unfolding number_of_bytes
none_of_nothing bytes zero n within e = absurd (cc)
none_of_nothing bytes (suc end) n within e = omega arith

-- ---- literals
module _ (a : List ℤ) where
  abbrev fronted_ℤ : Option (List ℤ) → Option (List ℤ)
  fronted_ℤ o = option_map (λ ls. a ++ ls) o

  abbrev LiteralsFront : List ℕ → Type 0
  LiteralsFront bytes = (t : List ℤ) (n : ℕ) (neg : Bool) → literals_before (a ++ t) n neg bytes ≡ fronted_ℤ (literals_before t n neg bytes)

  literals_front : (t : List ℤ) (n : ℕ) (neg : Bool) (bytes : List ℕ) → literals_before (a ++ t) n neg bytes ≡ fronted_ℤ (literals_before t n neg bytes)
  literals_front t n neg [] = by (nat_eq n 0 && not neg)
    where
      by : (v : Bool) → cond v (Some (a ++ t)) None ≡ fronted_ℤ (cond v (Some t) None)
      by true = refl
      by false = refl
  literals_front t n neg (b ∷ bytes) = by (λ t' n' neg'. literals_front t' n' neg' bytes) (nat_eq b 32) (nat_eq b 45)
    where
      space : LiteralsFront bytes → (u : Bool) → cond u None (literals_before ((a ++ t) ++ signed n neg ∷ []) 0 false bytes) ≡ fronted_ℤ (cond u None (literals_before (t ++ signed n neg ∷ []) 0 false bytes))
      space again true = refl
      space again false = ap (λ (ls : List ℤ). literals_before ls 0 false bytes) (append_assoc a t (signed n neg ∷ [])) ∙ again (t ++ signed n neg ∷ []) 0 false

      sign : LiteralsFront bytes → (u : Bool) → cond u (literals_before (a ++ t) 0 true bytes) None ≡ fronted_ℤ (cond u (literals_before t 0 true bytes) None)
      sign again true = again t 0 true
      sign again false = refl

      digit : LiteralsFront bytes → (o : Option ℕ) → option_and_then (λ next. literals_before (a ++ t) next neg bytes) o ≡ fronted_ℤ (option_and_then (λ next. literals_before t next neg bytes) o)
      digit again None = refl
      digit again (Some next) = again t next neg

      by : LiteralsFront bytes → (v w : Bool) → cond v (cond (nat_eq n 0) None (literals_before ((a ++ t) ++ signed n neg ∷ []) 0 false bytes)) (cond w (cond (nat_eq n 0 && not neg) (literals_before (a ++ t) 0 true bytes) None) (option_and_then (λ next. literals_before (a ++ t) next neg bytes) (with_digit n b)))
          ≡ fronted_ℤ (cond v (cond (nat_eq n 0) None (literals_before (t ++ signed n neg ∷ []) 0 false bytes)) (cond w (cond (nat_eq n 0 && not neg) (literals_before t 0 true bytes) None) (option_and_then (λ next. literals_before t next neg bytes) (with_digit n b))))
      by again true w = space again (nat_eq n 0)
      by again false true = sign again (nat_eq n 0 && not neg)
      by again false false = digit again (with_digit n b)

module _ (taken : List ℤ) (rest : List ℕ) where
  abbrev then_literal : ℤ → Option (List ℤ)
  then_literal l = literals_before (taken ++ l ∷ []) 0 false rest

  abbrev LiteralRead : List ℕ → Type 0
  LiteralRead word = (n : ℕ) (neg : Bool) → literals_before taken n neg (word ++ 32 ∷ rest) ≡ option_and_then then_literal (literal_from n neg word)

  literal_read : (n : ℕ) (neg : Bool) (word : List ℕ) → IsSpaceless word → literals_before taken n neg (word ++ 32 ∷ rest) ≡ option_and_then then_literal (literal_from n neg word)
  literal_read n neg [] spaceless = by (nat_eq n 0)
    where
      by : (v : Bool) → cond v None (literals_before (taken ++ signed n neg ∷ []) 0 false rest) ≡ option_and_then then_literal (cond v None (Some (signed n neg)))
      by true = refl
      by false = refl
  literal_read n neg (c ∷ word) spaceless =
      let other : Option (List ℤ) = cond (nat_eq c 45) (cond (nat_eq n 0 && not neg) (literals_before taken 0 true (word ++ 32 ∷ rest)) None) (option_and_then (λ next. literals_before taken next neg (word ++ 32 ∷ rest)) (with_digit n c)) in
      ap (λ (v : Bool). cond v (cond (nat_eq n 0) None (literals_before (taken ++ signed n neg ∷ []) 0 false (word ++ 32 ∷ rest))) other) spaceless.0 ∙ by (λ k g. literal_read k g word spaceless.1) (nat_eq c 45)
    where
      sign : LiteralRead word → (u : Bool) → cond u (literals_before taken 0 true (word ++ 32 ∷ rest)) None ≡ option_and_then then_literal (cond u (literal_from 0 true word) None)
      sign again true = again 0 true
      sign again false = refl

      digit : LiteralRead word → (o : Option ℕ) → option_and_then (λ next. literals_before taken next neg (word ++ 32 ∷ rest)) o ≡ option_and_then then_literal (option_and_then (λ next. literal_from next neg word) o)
      digit again None = refl
      digit again (Some next) = again next neg

      by : LiteralRead word → (w : Bool) → cond w (cond (nat_eq n 0 && not neg) (literals_before taken 0 true (word ++ 32 ∷ rest)) None) (option_and_then (λ next. literals_before taken next neg (word ++ 32 ∷ rest)) (with_digit n c))
          ≡ option_and_then then_literal (cond w (cond (nat_eq n 0 && not neg) (literal_from 0 true word) None) (option_and_then (λ next. literal_from next neg word) (with_digit n c)))
      by again true = sign again (nat_eq n 0 && not neg)
      by again false = digit again (with_digit n c)

-- a word that no space follows is no literal
positive_more : (n b m : ℕ) → with_digit n b ≡ Some m → nat_eq m 0 ≡ false
positive_more n b m e = ne_eqb m 0 (λ z. (let h = (more_of n b m e).readable.0 in omega (arith, h, z)))

begun_and : (neg : Bool) (v : Bool) → v ≡ false → (v && not neg) ≡ false
begun_and neg true e = absurd (true≢false e)
begun_and neg false e = refl

literal_cut : (taken : List ℤ) (n : ℕ) (neg : Bool) (word : List ℕ) → IsSpaceless word → (nat_eq n 0 && not neg) ≡ false → literals_before taken n neg word ≡ None
literal_cut taken n neg [] spaceless begun = ap (λ (v : Bool). cond v (Some taken) None) begun
literal_cut taken n neg (c ∷ word) spaceless begun =
    let other : Option (List ℤ) = cond (nat_eq c 45) (cond (nat_eq n 0 && not neg) (literals_before taken 0 true word) None) (option_and_then (λ next. literals_before taken next neg word) (with_digit n c)) in
    ap (λ (v : Bool). cond v (cond (nat_eq n 0) None (literals_before (taken ++ signed n neg ∷ []) 0 false word)) other) spaceless.0 ∙ by (λ k begun'. literal_cut taken k neg word spaceless.1 begun') (nat_eq c 45) (with_digit n c) refl
  where
    by : ((k : ℕ) → (nat_eq k 0 && not neg) ≡ false → literals_before taken k neg word ≡ None) → (w : Bool) (o : Option ℕ) → with_digit n c ≡ o → cond w (cond (nat_eq n 0 && not neg) (literals_before taken 0 true word) None) (option_and_then (λ next. literals_before taken next neg word) o) ≡ None
    by again true o e = ap (λ (v : Bool). cond v (literals_before taken 0 true word) None) begun
    by again false None e = refl
    by again false (Some next) e = again next (begun_and neg (nat_eq next 0) (positive_more n c next e))

literal_cut_first : (word : List ℕ) → IsSpaceless word → ¬ (word ≡ []) → literals_before [] 0 false word ≡ None
literal_cut_first [] spaceless some = absurd (some refl)
literal_cut_first (c ∷ word) spaceless some =
    let other : Option (List ℤ) = cond (nat_eq c 45) (literals_before [] 0 true word) (option_and_then (λ next. literals_before [] next false word) (with_digit 0 c)) in
    ap (λ (v : Bool). cond v None other) spaceless.0 ∙ by (nat_eq c 45) (with_digit 0 c) refl
  where
    by : (w : Bool) (o : Option ℕ) → with_digit 0 c ≡ o → cond w (literals_before [] 0 true word) (option_and_then (λ next. literals_before [] next false word) o) ≡ None
    by true o e = literal_cut [] 0 true word spaceless.1 refl
    by false None e = refl
    by false (Some next) e = literal_cut [] next false word spaceless.1 (begun_and false (nat_eq next 0) (positive_more 0 c next e))

bind_same_ℤ : {A : Type 0} (f g : ℤ → Option A) → ((m : ℤ) → f m ≡ g m) → (o : Option ℤ) → option_and_then f o ≡ option_and_then g o
bind_same_ℤ f g same None = refl
bind_same_ℤ f g same (Some m) = same m

pub first_literal_is : (bytes rest : List ℕ) (end : ℕ) → IsWordEnd bytes end → after_prefix (codes " ") (drop end bytes) ≡ Some rest
    → literals_of_bytes bytes ≡ option_and_then (λ l. with_front l (literals_of_bytes rest)) (literal_of (take end bytes))
unfolding literals_of_bytes
first_literal_is bytes rest end h e =
    let later : drop end bytes ≡ 32 ∷ rest = after_is (codes " ") (drop end bytes) rest e in
    ap (literals_before [] 0 false) (sym (take-append-drop end bytes) ∙ ap (λ (xs : List ℕ). take end bytes ++ xs) later)
    ∙ literal_read [] rest 0 false (take end bytes) h.word
    ∙ bind_same_ℤ (λ l. literals_before (l ∷ []) 0 false rest) (λ l. with_front l (literals_before [] 0 false rest)) (λ l. literals_front (l ∷ []) [] 0 false rest) (literal_of (take end bytes))

none_spaced : (rest : List ℕ) → BeginsSpaced rest → after_prefix (codes " ") rest ≡ None → rest ≡ []
none_spaced [] begins e = refl
none_spaced (b ∷ rest) begins e = absurd (none-some rest (sym e ∙ ap (λ (x : ℕ). after_prefix (codes " ") (x ∷ rest)) begins ∙ after_front (codes " ") rest))

pub first_literal_cut : (bytes : List ℕ) (end : ℕ) → IsWordEnd bytes end → ¬ (bytes ≡ []) → after_prefix (codes " ") (drop end bytes) ≡ None → literals_of_bytes bytes ≡ None
unfolding literals_of_bytes
first_literal_cut bytes end h some e =
    let none = none_spaced (drop end bytes) h.next e in
    let same : bytes ≡ take end bytes = sym (take-append-drop end bytes) ∙ ap (λ (xs : List ℕ). take end bytes ++ xs) none ∙ append-nil (take end bytes) in
    literal_cut_first bytes (subst IsSpaceless (sym same) h.word) some

-- ---- one literal: a sign, and digits
digits_only : (neg : Bool) (n : ℕ) (word : List ℕ) → (nat_eq n 0 && not neg) ≡ false → literal_from n neg word ≡ option_map (λ k. signed k neg) (number_from n word)
digits_only neg n [] begun = by (nat_eq n 0)
  where
    by : (v : Bool) → cond v None (Some (signed n neg)) ≡ option_map (λ k. signed k neg) (cond v None (Some n))
    by true = refl
    by false = refl
digits_only neg n (b ∷ word) begun = by (λ k begun'. digits_only neg k word begun') (nat_eq b 45) refl (with_digit n b) refl
  where
    no_digit : nat_eq b 45 ≡ true → with_digit n b ≡ None
    no_digit e = at (with_digit n b) refl
      where
        at : (o : Option ℕ) → with_digit n b ≡ o → o ≡ None
        at None is = refl
        at (Some m) is = absurd (let low = (more_of n b m is).low in let same = eqb-true b 45 e in omega (arith, low, same))

    by : ((k : ℕ) → (nat_eq k 0 && not neg) ≡ false → literal_from k neg word ≡ option_map (λ m. signed m neg) (number_from k word)) → (v : Bool) → nat_eq b 45 ≡ v → (o : Option ℕ) → with_digit n b ≡ o
        → cond v (cond (nat_eq n 0 && not neg) (literal_from 0 true word) None) (option_and_then (λ next. literal_from next neg word) o) ≡ option_map (λ k. signed k neg) (option_and_then (λ next. number_from next word) o)
    by again true e o is = ap (λ (v : Bool). cond v (literal_from 0 true word) None) begun ∙ ap (λ (p : Option ℕ). option_map (λ k. signed k neg) (option_and_then (λ next. number_from next word) p)) (sym (no_digit e) ∙ is)
    by again false e None is = refl
    by again false e (Some next) is = again next (begun_and neg (nat_eq next 0) (positive_more n b next is))

pub with_sign : (word digits : List ℕ) → after_prefix (codes "-") word ≡ Some digits → literal_of word ≡ option_map (λ k. signed k true) (number_of_bytes digits)
unfolding number_of_bytes
with_sign word digits e = ap literal_of (after_is (codes "-") word digits e) ∙ digits_only true 0 digits refl

pub without_sign : (word : List ℕ) → after_prefix (codes "-") word ≡ None → literal_of word ≡ option_map (λ k. signed k false) (number_of_bytes word)
unfolding number_of_bytes
without_sign [] e = refl
without_sign (b ∷ word) e = by (nat_eq b 45) refl (with_digit 0 b) refl
  where
    by : (v : Bool) → nat_eq b 45 ≡ v → (o : Option ℕ) → with_digit 0 b ≡ o
        → cond v (literal_from 0 true word) (option_and_then (λ next. literal_from next false word) o) ≡ option_map (λ k. signed k false) (option_and_then (λ next. number_from next word) o)
    by true v o is = absurd (none-some word (sym e ∙ ap (λ (x : ℕ). after_prefix (codes "-") (x ∷ word)) (eqb-true b 45 v) ∙ after_front (codes "-") word))
    by false v None is = refl
    by false v (Some next) is = digits_only false next word (begun_and false (nat_eq next 0) (positive_more 0 b next is))

pub signed_literal : (n : ℕ) (neg : Bool) → IsSmallNumber n → IsLiteral (signed n neg)
signed_literal zero neg h = absurd (let some = h.0 in omega (arith, some))
signed_literal (suc n) true h = subst IsLiteral (sym (zero-minus (pos (suc n)))) (omega arith, h.1)
signed_literal (suc n) false h = (omega arith, h.1)
