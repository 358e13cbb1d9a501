-- Lines of bytes, split off one by one.
use Rattle.std.proofs.Common.{◌≡◌, ℕ, ◌+◌, suc, Bool, true, false, cond, nat_eq, List, [], ◌∷◌, length, take, drop, Some, None, refl, sym, ap, ◌∙◌, ◌&&◌, ◌==◌, subst, arith}
use Rattle.std.specs.List.{position_from}
use Rattle.std.proofs.lemmas.Bool.Decides.{nat_tests}
use Rattle.std.proofs.lemmas.Iterator.Adapters.{position_from-zero}
use Rattle.std.proofs.lemmas.Option.{same_Some}
use Rattle.mcs_spelling.specs.Words.{place_of_byte}
use Rattle.mcs_proof_lines.specs.Walks.{At, head_line, advanced_by}
use Rattle.mcs_spelling.specs.Lines.{line_onto, complete_lines, is_empty, incomplete}

abbrev Found : List ℕ → ℕ → Type 0
Found bytes j = (complete_lines bytes ≡ take j bytes ∷ complete_lines (drop (suc j) bytes)) × (incomplete bytes ≡ incomplete (drop (suc j) bytes))

module _ (b : ℕ) (bytes : List ℕ) where
  feed : nat_eq b 10 ≡ true → Found (b ∷ bytes) 0
  feed v = (ap (λ (u : Bool). cond u ([] ∷ complete_lines bytes) (line_onto b (complete_lines bytes))) v, ap (λ (u : Bool). cond u (incomplete bytes) (cond (is_empty (complete_lines bytes)) (b ∷ bytes) (incomplete bytes))) v)

  other : (j : ℕ) → nat_eq b 10 ≡ false → Found bytes j → Found (b ∷ bytes) (suc j)
  other j v h = (
    ap (λ (u : Bool). cond u ([] ∷ complete_lines bytes) (line_onto b (complete_lines bytes))) v ∙ ap (line_onto b) h.0,
    ap (λ (u : Bool). cond u (incomplete bytes) (cond (is_empty (complete_lines bytes)) (b ∷ bytes) (incomplete bytes))) v ∙ (ap (λ ls. cond (is_empty ls) (b ∷ bytes) (incomplete bytes)) h.0 ∙ h.1),
  )

  none_more : nat_eq b 10 ≡ false → (complete_lines bytes ≡ []) × (incomplete bytes ≡ bytes) → (complete_lines (b ∷ bytes) ≡ []) × (incomplete (b ∷ bytes) ≡ b ∷ bytes)
  none_more v h = (
    ap (λ (u : Bool). cond u ([] ∷ complete_lines bytes) (line_onto b (complete_lines bytes))) v ∙ ap (line_onto b) h.0,
    ap (λ (u : Bool). cond u (incomplete bytes) (cond (is_empty (complete_lines bytes)) (b ∷ bytes) (incomplete bytes))) v ∙ ap (λ ls. cond (is_empty ls) (b ∷ bytes) (incomplete bytes)) h.0,
  )

step : (k i b : ℕ) (bytes : List ℕ) → (position_from (λ b. nat_eq b 10) (k + 1) bytes ≡ Some i → (j : ℕ) × (i ≡ k + 1 + j) × Found bytes j) → (v : Bool) → nat_eq b 10 ≡ v
    → cond v (Some k) (position_from (λ b. nat_eq b 10) (k + 1) bytes) ≡ Some i → (j : ℕ) × (i ≡ k + j) × Found (b ∷ bytes) j
step k i b bytes again true v e = (0, (let same = same_Some k i e in omega arith), feed b bytes v)
step k i b bytes again false v e = let (j, is, found) = again e in (suc j, omega (arith, is), other b bytes j v found)

none_step : (k b : ℕ) (bytes : List ℕ) → (position_from (λ b. nat_eq b 10) (k + 1) bytes ≡ None → (complete_lines bytes ≡ []) × (incomplete bytes ≡ bytes)) → (v : Bool) → nat_eq b 10 ≡ v
    → cond v (Some k) (position_from (λ b. nat_eq b 10) (k + 1) bytes) ≡ None → (complete_lines (b ∷ bytes) ≡ []) × (incomplete (b ∷ bytes) ≡ b ∷ bytes)
none_step k b bytes again true v e = absurd (cc)
none_step k b bytes again false v e = none_more b bytes v (again e)

-- a line feed at this place, counted from k
found_from : (k i : ℕ) (bytes : List ℕ) → position_from (λ b. nat_eq b 10) k bytes ≡ Some i → (j : ℕ) × (i ≡ k + j) × Found bytes j
found_from k i [] e = absurd (cc)
found_from k i (b ∷ bytes) e = step k i b bytes (λ e'. found_from (k + 1) i bytes e') (nat_eq b 10) refl e

none_from : (k : ℕ) (bytes : List ℕ) → position_from (λ b. nat_eq b 10) k bytes ≡ None → (complete_lines bytes ≡ []) × (incomplete bytes ≡ bytes)
none_from k [] e = (refl, refl)
none_from k (b ∷ bytes) e = none_step k b bytes (λ e'. none_from (k + 1) bytes e') (nat_eq b 10) refl e

-- the first line feed stands at this place
pub first_line : (bytes : List ℕ) (place : ℕ) → place_of_byte 10 bytes ≡ Some place
    → (complete_lines bytes ≡ take place bytes ∷ complete_lines (drop (place + 1) bytes)) × (incomplete bytes ≡ incomplete (drop (place + 1) bytes))
first_line bytes place e =
    let (j, is, found) = found_from 0 place bytes (sym (position_from-zero (λ b. nat_eq b 10) bytes) ∙ e) in
    let same : j ≡ place = omega (arith, is) in
    let next : suc place ≡ place + 1 = omega arith in
    let P : ℕ → ℕ → Type 0 = λ a b. (complete_lines bytes ≡ take a bytes ∷ complete_lines (drop b bytes)) × (incomplete bytes ≡ incomplete (drop b bytes)) in
    subst (P place) next (subst (λ a. P a (suc a)) same found)

pub no_line : (bytes : List ℕ) → place_of_byte 10 bytes ≡ None → (complete_lines bytes ≡ []) × (incomplete bytes ≡ bytes)
no_line bytes e = none_from 0 bytes (sym (position_from-zero (λ b. nat_eq b 10) bytes) ∙ e)

-- the line that is next
pub next_is : (bytes : List ℕ) (place : ℕ) → Some place ≡ place_of_byte 10 bytes → head_line (complete_lines bytes) ≡ Some (take place bytes)
next_is bytes place e = ap head_line (first_line bytes place (sym e)).0

pub none_next : (bytes : List ℕ) → None ≡ place_of_byte 10 bytes → head_line (complete_lines bytes) ≡ None
none_next bytes e = ap head_line (no_line bytes (sym e)).0

-- one line more is taken
pub one_taken : (n place : ℕ) (bytes : List ℕ) → Some place ≡ place_of_byte 10 bytes
    → record { taken = n + 1; rest = complete_lines (drop (place + 1) bytes); tail = incomplete (drop (place + 1) bytes) } ≡ advanced_by n (complete_lines bytes) (incomplete bytes)
one_taken n place bytes e =
    let (lines, tail) = first_line bytes place (sym e) in
    let with_tail : List ℕ → At = λ t. record { taken = n + 1; rest = complete_lines (drop (place + 1) bytes); tail = t } in
    ap with_tail (sym tail) ∙ ap (λ (ls : List (List ℕ)). advanced_by n ls (incomplete bytes)) (sym lines)

pub none_taken : (n : ℕ) (bytes : List ℕ) → None ≡ place_of_byte 10 bytes
    → record { taken = n; rest = complete_lines bytes; tail = incomplete bytes } ≡ advanced_by n (complete_lines bytes) (incomplete bytes)
none_taken n bytes e =
    let none : complete_lines bytes ≡ [] = (no_line bytes (sym e)).0 in
    let with_rest : List (List ℕ) → At = λ ls. record { taken = n; rest = ls; tail = incomplete bytes } in
    ap with_rest none ∙ ap (λ (ls : List (List ℕ)). advanced_by n ls (incomplete bytes)) (sym none)

-- nothing is left where there is no line and nothing follows
pub at_end : (bytes : List ℕ) → (length bytes == 0) ≡ (is_empty (complete_lines bytes) && is_empty (incomplete bytes))
at_end [] = refl
at_end (b ∷ bytes) = some_long ∙ by (nat_eq b 10) (complete_lines bytes)
  where
    some_long : (length (b ∷ bytes) == 0) ≡ false
    some_long = grind (arith, nat_tests)

    by : (v : Bool) (ls : List (List ℕ)) → false ≡ (is_empty (cond v ([] ∷ ls) (line_onto b ls)) && is_empty (cond v (incomplete bytes) (cond (is_empty ls) (b ∷ bytes) (incomplete bytes))))
    by true ls = refl
    by false [] = refl
    by false (l ∷ ls) = refl
