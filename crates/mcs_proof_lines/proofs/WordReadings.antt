-- Lines that are a word, or begin with one, read.
use Rattle.std.proofs.Common.{◌≡◌, ℕ, Bool, true, false, cond, List, [], ◌∷◌, ◌++◌, Option, Ok, Err, refl, sym, ap, ◌∙◌, subst}
use Rattle.std.proofs.lemmas.Slice.Eq.{bytes_eq-Decides}
use Rattle.std.proofs.lemmas.Option.{cond_some}
use Rattle.std.specs.Option.{option_and_then}
use Rattle.std.specs.Str.{bytes_eq}
use Rattle.mcs_spelling.specs.Words.{after_prefix, guarded}
use Rattle.mcs_spelling.proofs.NumberTexts.{bound}
use Rattle.mcs_spelling.proofs.LiteralTexts.{after_front, after_is}
use Rattle.mcs_proof_lines.specs.Walks.{At, Reading, ◌>>=◌, fault_at, taken_at, mapped_reading, advanced, expect_at}
use Rattle.mcs_proof_lines.specs.Readings.{here, Anything, ReadsLines, ReadsLine, one_line, Image, AreBoth, word_of, Nothing, second}
use Rattle.mcs_proof_lines.proofs.Readings.{picked, reads_line, reads_same}
use Rattle.mcs_proof_lines.proofs.ReadingSequences.{both, paired, reads_made, reads_both}

-- ---- a line that is a word
pub word_line : (word : List ℕ) → ReadsLine Nothing (λ u. word) (word_of word)
word_line word = record {
  sound = λ line u e. (tt, (bytes_eq-Decides line word).0 (cond_some (bytes_eq line word) tt u e).0);
  complete = λ u is. ap (λ (b : Bool). guarded b tt) ((bytes_eq-Decides word word).1 refl);
}

module _ {A : Type 0} (word : List ℕ) (q : At → Reading A) where
  same_second : (r : Reading A) → mapped_reading second (paired tt r) ≡ r
  same_second (Ok r) = refl
  same_second (Err n) = refl

  by_test : (at : At) (b : Bool) → mapped_reading second (both (λ u. q) (taken_at at (guarded b tt))) ≡ (cond b (Ok (advanced at)) (fault_at at) >>= q)
  by_test at true = same_second (q (advanced at))
  by_test at false = refl

  then_word : (n : ℕ) (rest : List (List ℕ)) (tail : List ℕ) → mapped_reading second (both (λ u. q) (picked (word_of word) (here n rest tail))) ≡ (expect_at word (here n rest tail) >>= q)
  unfolding expect_at
  then_word n [] tail = refl
  then_word n (line ∷ rest) tail = by_test (here n (line ∷ rest) tail) (bytes_eq line word)

  module _ (Is : A → Type 0) (lines : A → List (List ℕ)) (End : List (List ℕ) → Type 0) (h : ReadsLines Is lines End q) (some : (x : A) × Is x) where
    to_second : (x : A) → Image second (AreBoth Nothing (λ u. Is)) x → Is x
    to_second x (ux, is, known) = subst Is (sym is) known.1

    from_second : (x : A) → Is x → Image second (AreBoth Nothing (λ u. Is)) x
    from_second x is = ((tt, x), refl, (tt, is))

    -- the word, and then what is read
    pub reads_word : ReadsLines Is (λ x. word ∷ lines x) End (λ at. expect_at word at >>= q)
    reads_word =
        let pair = reads_both Nothing (one_line (λ u. word)) Anything (picked (word_of word)) (λ u. Is) (λ u. lines) End (λ u. q) (reads_line Nothing (λ u. word) (word_of word) (word_line word)) (λ u is. h) (λ u is. some) (λ u x more is known end. tt) in
        let made_of = reads_made _ _ End _ second (λ x. word ∷ lines x) pair (λ ux is. refl) in
        reads_same _ Is _ (λ x. word ∷ lines x) End _ (λ at. expect_at word at >>= q) made_of to_second from_second (λ x is. refl) (λ at. then_word at.taken at.rest at.tail)

-- ---- a line that begins with a word
module _ {A : Type 0} (word : List ℕ) (Is : A → Type 0) (text : A → List ℕ) (f : List ℕ → Option A) (h : ReadsLine Is text f) where
  pub after_line : ReadsLine Is (λ x. word ++ text x) (λ line. option_and_then f (after_prefix word line))
  after_line = record {
    sound = λ line x e. (let (rest, a, e1) = bound f (after_prefix word line) x e in let (is, spelled) = h.sound rest x e1 in (is, after_is word line rest a ∙ ap (λ (t : List ℕ). word ++ t) spelled));
    complete = λ x is. ap (option_and_then f) (after_front word (text x)) ∙ h.complete x is;
  }
