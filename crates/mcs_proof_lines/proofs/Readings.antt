-- Readings of one line, and readings that are told by other words.
use Rattle.std.proofs.Common.{◌≡◌, ℕ, ◌+◌, suc, List, [], ◌∷◌, ◌++◌, length, take, Option, Some, None, Ok, Err, refl, sym, ap, ◌∙◌, subst, arith}
use Rattle.std.specs.Option.{option_and_then}
use Rattle.mcs_proof_lines.specs.Walks.{At, Reading, head_line, line_at, taken_at, advanced}
use Rattle.mcs_proof_lines.specs.Readings.{here, AreLinesRead, BeginsLines, IsStuckAt, ReadsLines, ReadsLine, one_line, Anything}

-- stuck at the first line, before which none has to begin a value
pub stuck_first_line : {A : Type 0} (Is : A → Type 0) (lines : A → List (List ℕ)) (at : At) (n : ℕ) → n ≡ at.taken + 0 + 1 → IsStuckAt Is lines at n 0
stuck_first_line Is lines at n number = record { number = number; within = omega arith; begun = λ less. absurd (omega (arith, less)) }

-- ---- heads and fronts
head_take : (k : ℕ) (xs : List (List ℕ)) → head_line (take (k + 1) xs) ≡ head_line xs
head_take k [] = let e : k + 1 ≡ suc k = omega arith in rw e refl
head_take k (x ∷ xs) = let e : k + 1 ≡ suc k = omega arith in rw e refl

pub same_head : (k : ℕ) (xs ys : List (List ℕ)) → take (k + 1) xs ≡ take (k + 1) ys → head_line xs ≡ head_line ys
same_head k xs ys e = sym (head_take k xs) ∙ ap head_line e ∙ head_take k ys

pub head_after : (ls xs ys : List (List ℕ)) → head_line xs ≡ head_line ys → head_line (ls ++ xs) ≡ head_line (ls ++ ys)
head_after [] xs ys e = e
head_after (l ∷ ls) xs ys e = refl

-- what two readings that are the same gave
pub same_reading : {A : Type 0} (x y : A) (a b : At) → ◌≡◌ {A = Reading A} (Ok (x, a)) (Ok (y, b)) → (x ≡ y) × (a ≡ b)
same_reading {A = A} x y a b e = let same : ◌≡◌ {A = A × At} (x, a) (y, b) = cc in (ap (λ (r : A × At). r.0) same, ap (λ (r : A × At). r.1) same)

advanced_line : (n : ℕ) (line : List ℕ) (rest : List (List ℕ)) (tail : List ℕ) → advanced (here n (line ∷ rest) tail) ≡ here (n + 1) rest tail
unfolding advanced
advanced_line n line rest tail = refl

-- ---- other words for the same
module _ {A : Type 0} (Is Is' : A → Type 0) (lines lines' : A → List (List ℕ)) (End : List (List ℕ) → Type 0) (p p' : At → Reading A)
    (h : ReadsLines Is lines End p) (to : (x : A) → Is x → Is' x) (from : (x : A) → Is' x → Is x) (eq : (x : A) → Is x → lines x ≡ lines' x) (same : (at : At) → p at ≡ p' at) where
  begun_same : (front : List (List ℕ)) → BeginsLines Is lines front → BeginsLines Is' lines' front
  begun_same front b = record { value = b.value; is = to b.value b.is; more = b.more; lines_are = sym (eq b.value b.is) ∙ b.lines_are }

  pub reads_same : ReadsLines Is' lines' End p'
  reads_same = record {
    sound = λ at now x e. (let r = h.sound at now x (same at ∙ e) in record {
      is = to x r.is;
      rest = r.rest ∙ ap (λ (ls : List (List ℕ)). ls ++ now.rest) (eq x r.is);
      taken = r.taken ∙ ap (λ (ls : List (List ℕ)). at.taken + length ls) (eq x r.is);
      tail = r.tail;
    });
    complete = λ x n more tail is end. (let P : List (List ℕ) → Type 0 = λ ls. p' (here n (ls ++ more) tail) ≡ Ok (x, here (n + length ls) more tail) in
        subst P (eq x (from x is)) (sym (same (here n (lines x ++ more) tail)) ∙ h.complete x n more tail (from x is) end));
    fault = λ at n e. (let (k, s) = h.fault at n (same at ∙ e) in (k, record { number = s.number; within = s.within; begun = λ less. begun_same (take k at.rest) (s.begun less) }));
    local = λ at k rest tail e less front. sym (same (here at.taken rest tail)) ∙ h.local at k rest tail (same at ∙ e) less front;
    stable = λ at now x rest tail e next. (let r = h.sound at now x (same at ∙ e) in let P : List (List ℕ) → Type 0 = λ ls. p' (here at.taken (ls ++ rest) tail) ≡ Ok (x, here now.taken rest tail) in
        subst P (eq x r.is) (sym (same (here at.taken (lines x ++ rest) tail)) ∙ h.stable at now x rest tail (same at ∙ e) next));
  }

-- ---- a line
abbrev pub picked : {A : Type 0} → (List ℕ → Option A) → At → Reading A
picked f at = taken_at at (line_at f at)

module _ {A : Type 0} (Is : A → Type 0) (text : A → List ℕ) (f : List ℕ → Option A) (h : ReadsLine Is text f) where
  line_sound : (n : ℕ) (rest : List (List ℕ)) (tail : List ℕ) (now : At) (x : A) → picked f (here n rest tail) ≡ Ok (x, now) → AreLinesRead Is (one_line text) (here n rest tail) now x
  line_sound n [] tail now x e = absurd (cc)
  line_sound n (line ∷ rest) tail now x e = at (f line) refl e
    where
      at : (o : Option A) → f line ≡ o → taken_at (here n (line ∷ rest) tail) o ≡ Ok (x, now) → AreLinesRead Is (one_line text) (here n (line ∷ rest) tail) now x
      at None was e = absurd (cc)
      at (Some y) was e =
          let parts = same_reading y x (advanced (here n (line ∷ rest) tail)) now e in
          let same : y ≡ x = parts.0 in
          let moved : here (n + 1) rest tail ≡ now = sym (advanced_line n line rest tail) ∙ parts.1 in
          let (is, spelled) = h.sound line x (was ∙ ap (λ (z : A). Some z) same) in
          record {
            is = is;
            rest = ap (λ (l : List ℕ). l ∷ rest) spelled ∙ ap (λ (a : At). text x ∷ a.rest) moved;
            taken = ap (λ (a : At). a.taken) (sym moved) ∙ omega arith;
            tail = ap (λ (a : At). a.tail) (sym moved);
          }

  line_complete : (x : A) (n : ℕ) (more : List (List ℕ)) (tail : List ℕ) → Is x → picked f (here n (one_line text x ++ more) tail) ≡ Ok (x, here (n + length (one_line text x)) more tail)
  unfolding advanced
  line_complete x n more tail is =
      let one : n + length (text x ∷ []) ≡ n + 1 = omega arith in
      ap (taken_at (here n (text x ∷ more) tail)) (h.complete x is) ∙ ap (λ (m : ℕ). Ok (x, here m more tail)) (sym one)

  line_fault : (n : ℕ) (rest : List (List ℕ)) (tail : List ℕ) (m : ℕ) → picked f (here n rest tail) ≡ Err m → (m ≡ n + 0 + 1) × (option_and_then f (head_line rest) ≡ None)
  line_fault n rest tail m e = at (option_and_then f (head_line rest)) refl e
    where
      at : (o : Option A) → option_and_then f (head_line rest) ≡ o → taken_at (here n rest tail) o ≡ Err m → (m ≡ n + 0 + 1) × (option_and_then f (head_line rest) ≡ None)
      at None was e = (let same : n + 1 ≡ m = cc in omega (arith, same), was)
      at (Some y) was e = absurd (cc)

  line_stable : (n : ℕ) (rest0 : List (List ℕ)) (tail0 : List ℕ) (now : At) (x : A) (rest : List (List ℕ)) (tail : List ℕ) → picked f (here n rest0 tail0) ≡ Ok (x, now) → picked f (here n (one_line text x ++ rest) tail) ≡ Ok (x, here now.taken rest tail)
  line_stable n rest0 tail0 now x rest tail e =
      let r = line_sound n rest0 tail0 now x e in
      line_complete x n rest tail r.is ∙ ap (λ (m : ℕ). Ok (x, here m rest tail)) (sym r.taken)

  pub reads_line : ReadsLines Is (one_line text) Anything (picked f)
  reads_line = record {
    sound = λ at now x e. line_sound at.taken at.rest at.tail now x e;
    complete = λ x n more tail is end. line_complete x n more tail is;
    fault = λ at n e. (0, stuck_first_line Is (one_line text) at n (line_fault at.taken at.rest at.tail n e).0);
    local = λ at k rest tail e less front. (
        let (number, none) = line_fault at.taken at.rest at.tail (at.taken + k + 1) e in
        let first : k ≡ 0 = omega (arith, number) in
        let other : option_and_then f (head_line rest) ≡ None = ap (option_and_then f) (same_head k rest at.rest front) ∙ none in
        let one : at.taken + 1 ≡ at.taken + k + 1 = omega (arith, first) in
        ap (taken_at (here at.taken rest tail)) other ∙ ap (λ (m : ℕ). Err m) one);
    stable = λ at now x rest tail e next. line_stable at.taken at.rest at.tail now x rest tail e;
  }
