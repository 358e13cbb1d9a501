-- Bytes as lines, and lines as bytes.
use Rattle.std.proofs.Common.{◌≡◌, ℕ, ◌+◌, ◌-◌, ◌≤◌, Bool, true, false, cond, nat_eq, List, [], ◌∷◌, ◌++◌, length, take, refl, sym, ap, ◌∙◌, subst, arith, append_assoc, length-append}
use Rattle.std.proofs.lemmas.Bool.{false_from_ne_true}
use Rattle.std.proofs.lemmas.Bool.Decides.{nat_tests}
use Rattle.std.proofs.lemmas.List.{take_at}
use Rattle.std.proofs.lemmas.List.Concat.{flat_map-append}
use Rattle.std.specs.List.{AllByRecursion}
use Rattle.mcs_base.proofs.Each.{all_left}
use Rattle.mcs_spelling.specs.Lines.{is_empty, line_onto, complete_lines, incomplete}
use Rattle.mcs_proof_text.specs.Lines.{with_feed, text_of_lines}
use Rattle.mcs_proof_text.specs.Reports.{IsLineFeedFree}
use Rattle.mcs_proof_reader.specs.Listings.{IsFrontOf}

-- the bytes are those of their lines, and what follows the last line feed
pub lines_text : (bytes : List ℕ) → bytes ≡ text_of_lines (complete_lines bytes) ++ incomplete bytes
lines_text [] = refl
lines_text (b ∷ bytes) = by (nat_eq b 10) refl (complete_lines bytes) refl (lines_text bytes)
  where
    by : (v : Bool) → nat_eq b 10 ≡ v → (ls : List (List ℕ)) → complete_lines bytes ≡ ls → bytes ≡ text_of_lines (complete_lines bytes) ++ incomplete bytes
        → b ∷ bytes ≡ text_of_lines (cond v ([] ∷ complete_lines bytes) (line_onto b (complete_lines bytes))) ++ cond v (incomplete bytes) (cond (is_empty (complete_lines bytes)) (b ∷ bytes) (incomplete bytes))
    by true e ls is again = let feed : b ≡ 10 = grind (arith, nat_tests) in ap (λ (x : ℕ). x ∷ bytes) feed ∙ ap (λ (xs : List ℕ). 10 ∷ xs) again
    by false e [] is again = ap (λ (ks : List (List ℕ)). text_of_lines (line_onto b ks) ++ cond (is_empty ks) (b ∷ bytes) (incomplete bytes)) (sym is)
    by false e (l ∷ ls) is again =
        ap (λ (xs : List ℕ). b ∷ xs) (again ∙ ap (λ (ks : List (List ℕ)). text_of_lines ks ++ incomplete bytes) is)
        ∙ ap (λ (ks : List (List ℕ)). text_of_lines (line_onto b ks) ++ cond (is_empty ks) (b ∷ bytes) (incomplete bytes)) (sym is)

no_feed : (b : ℕ) → ¬ (b ≡ 10) → nat_eq b 10 ≡ false
no_feed b other = false_from_ne_true (nat_eq b 10) (λ e. other (grind (arith, nat_tests)))

-- a line in front
first_line : (line rest : List ℕ) → IsLineFeedFree line → (complete_lines (with_feed line ++ rest) ≡ line ∷ complete_lines rest) × (incomplete (with_feed line ++ rest) ≡ incomplete rest)
first_line [] rest free = (refl, refl)
first_line (b ∷ line) rest free =
    let again = first_line line rest free.1 in
    let other = no_feed b free.0 in (
      ap (λ (v : Bool). cond v ([] ∷ complete_lines (with_feed line ++ rest)) (line_onto b (complete_lines (with_feed line ++ rest)))) other ∙ ap (line_onto b) again.0,
      ap (λ (v : Bool). cond v (incomplete (with_feed line ++ rest)) (cond (is_empty (complete_lines (with_feed line ++ rest))) (b ∷ (with_feed line ++ rest)) (incomplete (with_feed line ++ rest)))) other
          ∙ (ap (λ (ks : List (List ℕ)). cond (is_empty ks) (b ∷ (with_feed line ++ rest)) (incomplete (with_feed line ++ rest))) again.0 ∙ again.1),
    )

pub text_lines : (ls : List (List ℕ)) → AllByRecursion IsLineFeedFree ls → (complete_lines (text_of_lines ls) ≡ ls) × (incomplete (text_of_lines ls) ≡ [])
text_lines [] free = (refl, refl)
text_lines (l ∷ ls) free =
    let first = first_line l (text_of_lines ls) free.0 in
    let again = text_lines ls free.1 in
    (first.0 ∙ ap (λ (ks : List (List ℕ)). l ∷ ks) again.0, first.1 ∙ again.1)

pub free_lines : (bytes : List ℕ) → AllByRecursion IsLineFeedFree (complete_lines bytes)
free_lines [] = tt
free_lines (b ∷ bytes) = by (nat_eq b 10) refl (complete_lines bytes) (free_lines bytes)
  where
    by : (v : Bool) → nat_eq b 10 ≡ v → (ls : List (List ℕ)) → AllByRecursion IsLineFeedFree ls → AllByRecursion IsLineFeedFree (cond v ([] ∷ ls) (line_onto b ls))
    by true e ls free = (tt, free)
    by false e [] free = tt
    by false e (l ∷ ls) free = (((λ feed. (let is : nat_eq b 10 ≡ true = grind (arith, nat_tests) in (let wrong : ◌≡◌ {A = Bool} true false = sym is ∙ e in cc))), free.0), free.1)

-- ---- what precedes the rest of the bytes
module _ (front : List (List ℕ)) (bytes rest : List ℕ) (h : IsFrontOf front bytes rest) where
  front_text : bytes ≡ text_of_lines front ++ rest
  front_text =
      lines_text bytes ∙ ap (λ (t : List ℕ). text_of_lines (complete_lines bytes) ++ t) h.tail ∙ ap (λ (ls : List (List ℕ)). text_of_lines ls ++ incomplete rest) h.lines
      ∙ ap (λ (t : List ℕ). t ++ incomplete rest) (flat_map-append with_feed front (complete_lines rest))
      ∙ append_assoc (text_of_lines front) (text_of_lines (complete_lines rest)) (incomplete rest)
      ∙ ap (λ (t : List ℕ). text_of_lines front ++ t) (sym (lines_text rest))

  front_long : length bytes ≡ length (text_of_lines front) + length rest
  front_long = ap length front_text ∙ length-append (text_of_lines front) rest

  pub rest_short : length rest ≤ length bytes
  rest_short = let long = front_long in omega arith

  front_taken : take (length bytes - length rest) bytes ≡ text_of_lines front
  front_taken =
      let long = front_long in
      let n : length bytes - length rest ≡ length (text_of_lines front) = omega arith in
      ap (λ (t : List ℕ). take (length bytes - length rest) t) front_text ∙ take_at (text_of_lines front) rest (length bytes - length rest) (sym n)

  front_free : AllByRecursion IsLineFeedFree front
  front_free = all_left IsLineFeedFree front (complete_lines rest) (subst (AllByRecursion IsLineFeedFree) h.lines (free_lines bytes))

  -- it is these lines, and ends with the last of them
  pub front_lines : complete_lines (take (length bytes - length rest) bytes) ≡ front
  front_lines = ap complete_lines front_taken ∙ (text_lines front front_free).0

  pub front_whole : incomplete (take (length bytes - length rest) bytes) ≡ []
  front_whole = ap incomplete front_taken ∙ (text_lines front front_free).1
