-- Numbers in lines, read.
use Rattle.std.proofs.Common.{◌≡◌, ℕ, ◌+◌, Bool, nat_le, List, [], ◌∷◌, ◌++◌, length, take, drop, Option, Some, sym, ap, ◌∙◌, subst, arith}
use Rattle.std.proofs.Math.Seq.{take-append_seam, drop-append_seam}
use Rattle.std.proofs.lemmas.Option.{cond_some}
use Rattle.std.specs.Fmt.{decimal}
use Rattle.std.specs.Option.{option_and_then}
use Rattle.mcs_spelling.specs.Parts.{IsSmallNumber}
use Rattle.mcs_spelling.specs.Words.{after_prefix, place_of_byte, number_of_bytes, guarded}
use Rattle.mcs_spelling.proofs.NumberTexts.{bound, number_read, number_spelled}
use Rattle.mcs_proof_lines.specs.Walks.{number_after}
use Rattle.mcs_proof_lines.specs.Readings.{ReadsLine, IsAtMost, two_text, two_of, AreSmall, IsPassing}
use Rattle.mcs_proof_lines.proofs.WordReadings.{after_line}
use Rattle.mcs_spelling.proofs.PlaceTexts.{place_is, decimal_without, split_at}
use Rattle.mcs_base.proofs.Lists.{drop_past}

-- ---- what is read, where a test lets it pass
module _ {A : Type 0} (Is : A → Type 0) (text : A → List ℕ) (f : List ℕ → Option A) (h : ReadsLine Is text f) (test : A → Bool) where
  pub guarded_line : ReadsLine (IsPassing Is test) text (λ line. option_and_then (λ x. guarded (test x) x) (f line))
  guarded_line = record {
    sound = λ line x e. (
        let (y, was, e1) = bound (λ x. guarded (test x) x) (f line) x e in
        let (passes, same) = cond_some (test y) y x e1 in
        let (is, spelled) = h.sound line y was in
        ((subst Is same is, ap test (sym same) ∙ passes), spelled ∙ ap text same));
    complete = λ x is. ap (option_and_then (λ x. guarded (test x) x)) (h.complete x is.0) ∙ ap (λ (b : Bool). guarded b x) is.1;
  }

number_line : ReadsLine IsSmallNumber decimal number_of_bytes
number_line = record { sound = λ line n e. number_spelled n line e; complete = λ n is. number_read n is }

pub number_after_line : (word : List ℕ) (most : ℕ) → ReadsLine (IsAtMost most) (λ n. word ++ decimal n) (number_after word most)
unfolding number_after
number_after_line word most = guarded_line IsSmallNumber (λ n. word ++ decimal n) (λ line. option_and_then number_of_bytes (after_prefix word line)) (after_line word IsSmallNumber decimal number_of_bytes number_line) (λ n. nat_le n most)

-- ---- two numbers with a space between them
pub two_spelled : {A : Type 0} (f : ℕ → ℕ → Option A) (rest : List ℕ) (x : A) → two_of f rest ≡ Some x → (nj : ℕ × ℕ) × AreSmall nj × (rest ≡ two_text nj) × (f nj.0 nj.1 ≡ Some x)
two_spelled f rest x e =
    let (space, a, e1) = bound (λ space. option_and_then (λ n. option_and_then (λ j. f n j) (number_of_bytes (drop (space + 1) rest))) (number_of_bytes (take space rest))) (place_of_byte 32 rest) x e in
    let (n, b, e2) = bound (λ n. option_and_then (λ j. f n j) (number_of_bytes (drop (space + 1) rest))) (number_of_bytes (take space rest)) x e1 in
    let (j, c, e3) = bound (λ j. f n j) (number_of_bytes (drop (space + 1) rest)) x e2 in
    let (small_n, text_n) = number_spelled n (take space rest) b in
    let (small_j, text_j) = number_spelled j (drop (space + 1) rest) c in
    ((n, j), (small_n, small_j), split_at 32 rest space a ∙ (ap (λ (t : List ℕ). t ++ 32 ∷ drop (space + 1) rest) text_n ∙ ap (λ (t : List ℕ). decimal n ++ 32 ∷ t) text_j), e3)

pub two_read : {A : Type 0} (f : ℕ → ℕ → Option A) (n j : ℕ) → AreSmall (n, j) → two_of f (two_text (n, j)) ≡ f n j
two_read f n j small =
    let dn = decimal n in
    let dj = decimal j in
    let rest = dn ++ 32 ∷ dj in
    let few = small.0.1 in
    let place : place_of_byte 32 rest ≡ Some (length dn) = place_is 32 dn dj (decimal_without 32 (λ d less e. omega (arith, less, e)) n (omega (arith, few))) in
    let front : take (length dn) rest ≡ dn = take-append_seam dn (32 ∷ dj) in
    let back : drop (length dn + 1) rest ≡ dj = drop_past (length dn) rest (32 ∷ []) dj (drop-append_seam dn (32 ∷ dj)) in
    ap (option_and_then (λ space. option_and_then (λ n. option_and_then (λ j. f n j) (number_of_bytes (drop (space + 1) rest))) (number_of_bytes (take space rest)))) place
    ∙ (ap (λ (t : List ℕ). option_and_then (λ n. option_and_then (λ j. f n j) (number_of_bytes (drop (length dn + 1) rest))) (number_of_bytes t)) front
    ∙ (ap (option_and_then (λ n. option_and_then (λ j. f n j) (number_of_bytes (drop (length dn + 1) rest)))) (number_read n small.0)
    ∙ (ap (λ (t : List ℕ). option_and_then (λ j. f n j) (number_of_bytes t)) back ∙ ap (option_and_then (λ j. f n j)) (number_read j small.1))))
