-- The first difference of two texts is in the first line that differs.
use Rattle.std.proofs.Common.{◌≡◌, ℕ, ◌+◌, ◌≤◌, zero, suc, Bool, true, false, cond, nat_eq, List, [], ◌∷◌, ◌++◌, length, take, drop, slice_get, Some, None, refl, sym, ap, ◌∙◌, subst, arith, append_assoc, length-drop, ◌<◌}
use Rattle.std.proofs.Math.Seq.{take-add}
use Rattle.std.proofs.lemmas.Bool.Decides.{nat_tests}
use Rattle.std.proofs.lemmas.List.{append-nil, take-append-drop, drop-drop, take_all}
use Rattle.mcs_base.proofs.Sums.{count_by-cons}
use Rattle.mcs_spelling.specs.Lines.{is_empty, line_onto, complete_lines, incomplete}
use Rattle.mcs_check.specs.Validity.{DifferFirst}
use Rattle.mcs_check.specs.Collected.{PartFrom, feeds, common, met}

-- the first k lines are the same, and the next ones differ
abbrev Differ : ℕ → List (List ℕ) → List (List ℕ) → Type 0
Differ k ls ms = (take k ls ≡ take k ms) × ¬ (slice_get ls k ≡ slice_get ms k)

-- ---- the first line of whole lines
abbrev begun : Bool → ℕ → List ℕ → List ℕ
begun true b line = []
begun false b line = b ∷ line

pub record HasFirst (v : Bool) (b : ℕ) (lines : List (List ℕ)) : Type 0 where
  pub line : List ℕ
  pub later : List (List ℕ)
  pub is : lines ≡ begun v b line ∷ later

first_of : (b : ℕ) (bytes : List ℕ) → incomplete (b ∷ bytes) ≡ [] → HasFirst (nat_eq b 10) b (complete_lines (b ∷ bytes))
first_of b bytes none = by (nat_eq b 10) (complete_lines bytes) none
  where
    by : (v : Bool) (ls : List (List ℕ)) → cond v (incomplete bytes) (cond (is_empty ls) (b ∷ bytes) (incomplete bytes)) ≡ [] → HasFirst v b (cond v ([] ∷ ls) (line_onto b ls))
    by true ls none = record { line = []; later = ls; is = refl }
    by false [] none = absurd (cc)
    by false (l ∷ ls) none = record { line = l; later = ls; is = refl }

first_get : (v : Bool) (b : ℕ) (lines : List (List ℕ)) (h : HasFirst v b lines) → slice_get lines 0 ≡ Some (begun v b h.line)
first_get v b lines h = ap (λ (ls : List (List ℕ)). slice_get ls 0) h.is

-- lines that begin alike have the same first byte
same_begun : (x y : ℕ) (l m : List ℕ) (u v : Bool) → nat_eq x 10 ≡ u → nat_eq y 10 ≡ v → begun u x l ≡ begun v y m → x ≡ y
same_begun x y l m true true e e' same = grind (arith, nat_tests)
same_begun x y l m true false e e' same = absurd (cc)
same_begun x y l m false true e e' same = absurd (cc)
same_begun x y l m false false e e' same = cc

-- the texts part at once
part_now : (xs ys : List ℕ) → PartFrom xs ys → ¬ ((xs ≡ []) × (ys ≡ [])) → incomplete xs ≡ [] → incomplete ys ≡ [] → ¬ (slice_get (complete_lines xs) 0 ≡ slice_get (complete_lines ys) 0)
part_now [] [] part some none none' same = some (refl, refl)
part_now [] (y ∷ ys) part some none none' same = (let h = first_of y ys none' in let wrong : None ≡ Some (begun (nat_eq y 10) y h.line) = same ∙ first_get (nat_eq y 10) y (complete_lines (y ∷ ys)) h in cc)
part_now (x ∷ xs) [] part some none none' same = (let h = first_of x xs none in let wrong : None ≡ Some (begun (nat_eq x 10) x h.line) = sym same ∙ first_get (nat_eq x 10) x (complete_lines (x ∷ xs)) h in cc)
part_now (x ∷ xs) (y ∷ ys) part some none none' same =
    let h = first_of x xs none in
    let h' = first_of y ys none' in
    let alike : Some (begun (nat_eq x 10) x h.line) ≡ Some (begun (nat_eq y 10) y h'.line) =
    sym (first_get (nat_eq x 10) x (complete_lines (x ∷ xs)) h) ∙ same ∙ first_get (nat_eq y 10) y (complete_lines (y ∷ ys)) h' in
    let lines : begun (nat_eq x 10) x h.line ≡ begun (nat_eq y 10) y h'.line = cc in
    part (same_begun x y h.line h'.line (nat_eq x 10) (nat_eq y 10) refl refl lines)

-- ---- a byte before both
onto : (b k : ℕ) (l m : List ℕ) (ls ms : List (List ℕ)) → Differ k (l ∷ ls) (m ∷ ms) → Differ k ((b ∷ l) ∷ ls) ((b ∷ m) ∷ ms)
onto b zero l m ls ms d = (refl, λ same. d.1 (let lines : b ∷ l ≡ b ∷ m = cc in let rest : l ≡ m = cc in ap (λ (line : List ℕ). Some line) rest))
onto b (suc k) l m ls ms d = (let same : l ∷ take k ls ≡ m ∷ take k ms = d.0 in let first : l ≡ m = cc in let later : take k ls ≡ take k ms = cc in cc, d.1)

module _ (b : ℕ) (xs ys : List ℕ) (n : ℕ) (again : incomplete xs ≡ [] → incomplete ys ≡ [] → Differ n (complete_lines xs) (complete_lines ys)) where
  by_byte : (v : Bool) → (ls ms : List (List ℕ)) → complete_lines xs ≡ ls → complete_lines ys ≡ ms
      → cond v (incomplete xs) (cond (is_empty ls) (b ∷ xs) (incomplete xs)) ≡ [] → cond v (incomplete ys) (cond (is_empty ms) (b ∷ ys) (incomplete ys)) ≡ []
      → Differ (cond v 1 0 + n) (cond v ([] ∷ ls) (line_onto b ls)) (cond v ([] ∷ ms) (line_onto b ms))
  by_byte true ls ms is is' none none' =
      let d : Differ n ls ms = subst (λ (k : List (List ℕ)). Differ n ls k) is' (subst (λ (k : List (List ℕ)). Differ n k (complete_lines ys)) is (again none none')) in
      let e : 1 + n ≡ suc n = omega arith in
      subst (λ (k : ℕ). Differ k ([] ∷ ls) ([] ∷ ms)) (sym e) (ap (λ (k : List (List ℕ)). [] ∷ k) d.0, d.1)
  by_byte false [] ms is is' none none' = absurd (cc)
  by_byte false (l ∷ ls) [] is is' none none' = absurd (cc)
  by_byte false (l ∷ ls) (m ∷ ms) is is' none none' =
      let d : Differ n (l ∷ ls) (m ∷ ms) = subst (λ (k : List (List ℕ)). Differ n (l ∷ ls) k) is' (subst (λ (k : List (List ℕ)). Differ n k (complete_lines ys)) is (again none none')) in
      let e : 0 + n ≡ n = omega arith in
      subst (λ (k : ℕ). Differ k ((b ∷ l) ∷ ls) ((b ∷ m) ∷ ms)) (sym e) (onto b n l m ls ms d)

differ_after : (front xs ys : List ℕ) → PartFrom xs ys → ¬ ((xs ≡ []) × (ys ≡ [])) → incomplete (front ++ xs) ≡ [] → incomplete (front ++ ys) ≡ []
    → Differ (feeds front) (complete_lines (front ++ xs)) (complete_lines (front ++ ys))
differ_after [] xs ys part some none none' = (refl, part_now xs ys part some none none')
differ_after (b ∷ front) xs ys part some none none' =
    subst (λ (k : ℕ). Differ k (complete_lines (b ∷ (front ++ xs))) (complete_lines (b ∷ (front ++ ys)))) (sym (count_by-cons (λ c. nat_eq c 10) b front))
    (by_byte b (front ++ xs) (front ++ ys) (feeds front) (λ e e'. differ_after front xs ys part some e e') (nat_eq b 10) (complete_lines (front ++ xs)) (complete_lines (front ++ ys)) refl refl none none')

-- two texts that go on in different ways after the same bytes
pub differ_first : (front xs ys told text : List ℕ) → told ≡ front ++ xs → text ≡ front ++ ys → PartFrom xs ys → ¬ ((xs ≡ []) × (ys ≡ [])) → incomplete told ≡ [] → incomplete text ≡ []
    → DifferFirst (complete_lines told) (complete_lines text) (feeds front + 1)
differ_first front xs ys told text is is' part some none none' =
    let d = differ_after front xs ys part some (ap incomplete (sym is) ∙ none) (ap incomplete (sym is') ∙ none') in
    let k = feeds front in
    let at_told : complete_lines told ≡ complete_lines (front ++ xs) = ap complete_lines is in
    let at_text : complete_lines text ≡ complete_lines (front ++ ys) = ap complete_lines is' in
    record {
      index = k;
      line_is = refl;
      same = ap (take k) at_told ∙ d.0 ∙ sym (ap (take k) at_text);
      differ = λ same. d.1 (sym (ap (λ (ls : List (List ℕ)). slice_get ls k) at_told) ∙ same ∙ ap (λ (ls : List (List ℕ)). slice_get ls k) at_text);
    }

-- ---- the bytes that two texts have in common
common_front : (xs ys : List ℕ) → take (common xs ys) xs ≡ take (common xs ys) ys
common_front [] [] = refl
common_front [] (y ∷ ys) = refl
common_front (x ∷ xs) [] = refl
common_front (x ∷ xs) (y ∷ ys) = by (nat_eq x y) refl (common_front xs ys)
  where
    by : (v : Bool) → nat_eq x y ≡ v → take (common xs ys) xs ≡ take (common xs ys) ys → take (cond v (common xs ys + 1) 0) (x ∷ xs) ≡ take (cond v (common xs ys + 1) 0) (y ∷ ys)
    by false e again = refl
    by true e again =
        let same : x ≡ y = grind (arith, nat_tests) in
        let n : common xs ys + 1 ≡ suc (common xs ys) = omega arith in
        subst (λ (k : ℕ). take k (x ∷ xs) ≡ take k (y ∷ ys)) (sym n) (cc)

pub common_none : (xs : List ℕ) → common xs [] ≡ 0
common_none [] = refl
common_none (x ∷ xs) = refl

common_part : (xs ys : List ℕ) → PartFrom (drop (common xs ys) xs) (drop (common xs ys) ys)
common_part [] [] = tt
common_part [] (y ∷ ys) = tt
common_part (x ∷ xs) [] = tt
common_part (x ∷ xs) (y ∷ ys) = by (nat_eq x y) refl (common_part xs ys)
  where
    by : (v : Bool) → nat_eq x y ≡ v → PartFrom (drop (common xs ys) xs) (drop (common xs ys) ys) → PartFrom (drop (cond v (common xs ys + 1) 0) (x ∷ xs)) (drop (cond v (common xs ys + 1) 0) (y ∷ ys))
    by false e again = λ same. (let is : nat_eq x y ≡ true = grind (arith, nat_tests) in let wrong : ◌≡◌ {A = Bool} true false = sym is ∙ e in cc)
    by true e again =
        let n : common xs ys + 1 ≡ suc (common xs ys) = omega arith in
        subst (λ (k : ℕ). PartFrom (drop k (x ∷ xs)) (drop k (y ∷ ys))) (sym n) again

-- ---- what a sink holds after a piece
pub text_more : (expected : List ℕ) (same : ℕ) (other bytes : List ℕ) → let n = met (drop same expected) other bytes in (take same expected ++ other) ++ bytes ≡ take (same + n) expected ++ (other ++ drop n bytes)
text_more expected same [] bytes =
    let n = common (drop same expected) bytes in
    ap (λ (xs : List ℕ). xs ++ bytes) (append-nil (take same expected))
    ∙ ap (λ (xs : List ℕ). take same expected ++ xs) (sym (take-append-drop n bytes))
    ∙ sym (append_assoc (take same expected) (take n bytes) (drop n bytes))
    ∙ ap (λ (xs : List ℕ). (take same expected ++ xs) ++ drop n bytes) (sym (common_front (drop same expected) bytes))
    ∙ ap (λ (xs : List ℕ). xs ++ drop n bytes) (sym (take-add same n expected))
text_more expected same (y ∷ ys) bytes =
    let e : same + 0 ≡ same = omega arith in
    append_assoc (take same expected) (y ∷ ys) bytes ∙ ap (λ (k : ℕ). take k expected ++ ((y ∷ ys) ++ bytes)) (sym e)

-- ---- a text, and one in two pieces
part_more : (xs ys zs : List ℕ) → ¬ (ys ≡ []) → PartFrom xs ys → PartFrom xs (ys ++ zs)
part_more xs [] zs some part = absurd (some refl)
part_more [] (y ∷ ys) zs some part = part
part_more (x ∷ xs) (y ∷ ys) zs some part = part

module _ (text front rest : List ℕ) (none : incomplete text ≡ []) (none' : incomplete (front ++ rest) ≡ []) where
  -- they part within the first piece
  pub differ_early : let n = common text front in n < length front → DifferFirst (complete_lines text) (complete_lines (front ++ rest)) (feeds (take n text) + 1)
  differ_early less =
      let n = common text front in
      let some : ¬ (drop n front ≡ []) = λ e. (let short = ap length e in let long = length-drop n front in omega (arith, less, short, long)) in
      let is : front ++ rest ≡ take n text ++ (drop n front ++ rest) =
      ap (λ (xs : List ℕ). xs ++ rest) (sym (take-append-drop n front)) ∙ append_assoc (take n front) (drop n front) rest
      ∙ ap (λ (xs : List ℕ). xs ++ (drop n front ++ rest)) (sym (common_front text front)) in
      differ_first (take n text) (drop n text) (drop n front ++ rest) text (front ++ rest) (sym (take-append-drop n text)) is
      (part_more (drop n text) (drop n front) rest some (common_part text front)) (λ both. some (none_left (drop n front) rest both.1)) none none'
    where
      none_left : (xs ys : List ℕ) → xs ++ ys ≡ [] → xs ≡ []
      none_left [] ys e = refl
      none_left (x ∷ xs) ys e = absurd (cc)

  pub differ_late : let n = common text front in let k = common (drop n text) rest in length front ≤ n → ¬ ((drop k (drop n text) ≡ []) × (drop k rest ≡ []))
      → DifferFirst (complete_lines text) (complete_lines (front ++ rest)) (feeds (take (n + k) text) + 1)
  differ_late all some =
      let n = common text front in
      let k = common (drop n text) rest in
      let begins : take n text ≡ front = common_front text front ∙ take_all n front all in
      let both : take (n + k) text ≡ front ++ take k rest = take-add n k text ∙ ap (λ (xs : List ℕ). xs ++ take k (drop n text)) begins ∙ ap (λ (xs : List ℕ). front ++ xs) (common_front (drop n text) rest) in
      let is : text ≡ take (n + k) text ++ drop k (drop n text) = sym (take-append-drop (n + k) text) ∙ ap (λ (xs : List ℕ). take (n + k) text ++ xs) (sym (drop-drop k n text)) in
      let is' : front ++ rest ≡ take (n + k) text ++ drop k rest =
      ap (λ (xs : List ℕ). front ++ xs) (sym (take-append-drop k rest)) ∙ sym (append_assoc front (take k rest) (drop k rest)) ∙ ap (λ (xs : List ℕ). xs ++ drop k rest) (sym both) in
      differ_first (take (n + k) text) (drop k (drop n text)) (drop k rest) text (front ++ rest) is is' (common_part (drop n text) rest) some none none'

-- they are the same
pub same_pieces : (text front rest : List ℕ) → let n = common text front in let k = common (drop n text) rest in length front ≤ n → n + k ≡ length text → k ≡ length rest → text ≡ front ++ rest
same_pieces text front rest all end end' =
    let n = common text front in
    let k = common (drop n text) rest in
    let begins : take n text ≡ front = common_front text front ∙ take_all n front all in
    let long = length-drop n text in
    sym (take-append-drop n text) ∙ ap (λ (xs : List ℕ). xs ++ drop n text) begins
    ∙ ap (λ (xs : List ℕ). front ++ xs) (sym (take_all k (drop n text) (omega (arith, end, long))) ∙ common_front (drop n text) rest ∙ take_all k rest (omega (arith, end')))
