-- The chains of a store, of which only those that are not empty are kept: one more, one that is read, some that are taken off, and how many are empty.
use Rattle.std.proofs.Common.{◌≡◌, ◌≢◌, ℕ, ◌+◌, ◌-◌, ◌<◌, ◌≤◌, zero, suc, List, [], ◌∷◌, ◌++◌, inl, inr, refl, sym, ap, ◌∙◌, arith, length, length-append, take, get_or, Some, slice_get, replicate}
use Rattle.std.proofs.lemmas.Bool.{cases_lt}
use Rattle.std.proofs.lemmas.List.{append_assoc, get_or-replicate, length-replicate, length-take-le, replicate_more, take-append-le, take-replicate}
use Rattle.std.proofs.lemmas.Option.{slice_get-get_or, slice_get_within}
use Rattle.std.proofs.Math.Seq.{take-append-add}
use Rattle.mcs_base.proofs.Lists.{slice_get-append_left, slice_get-append_right, slice_get_seam}
use Rattle.mcs_engine.specs.Chains.{AreLearnt, AreSpaced, IsCut, spread}
use Rattle.mcs_engine.specs.Stores.{given_count}
use Rattle.mcs_engine.proofs.StoreLemmas.{given_count-append, given_count-left}

-- ---- the learnt ones
pub learnt-bound : (from count : ℕ) (learnt : List ℕ) (rows : List (List ℕ)) → AreLearnt from count learnt rows → from + length learnt ≤ count
learnt-bound from count [] [] is = omega arith
learnt-bound from count [] (row ∷ rows) is = absurd is
learnt-bound from count (i ∷ learnt) [] is = absurd is
learnt-bound from count (i ∷ learnt) (row ∷ rows) (low, some, rest) = let b = learnt-bound (i + 1) count learnt rows rest in omega arith

pub learnt-sized : (from count : ℕ) (learnt : List ℕ) (rows : List (List ℕ)) → AreLearnt from count learnt rows → length rows ≡ length learnt
learnt-sized from count [] [] is = refl
learnt-sized from count [] (row ∷ rows) is = absurd is
learnt-sized from count (i ∷ learnt) [] is = absurd is
learnt-sized from count (i ∷ learnt) (row ∷ rows) (low, some, rest) = ap suc (learnt-sized (i + 1) count learnt rows rest)

-- each lies at or past the first index and those before it, and below the count
pub learnt-low : (from count : ℕ) (learnt : List ℕ) (rows : List (List ℕ)) (j : ℕ) → AreLearnt from count learnt rows → j < length learnt → (from + j ≤ get_or learnt j 0) × (get_or learnt j 0 < count)
learnt-low from count [] [] j is less = absurd (omega arith)
learnt-low from count [] (row ∷ rows) j is less = absurd is
learnt-low from count (i ∷ learnt) [] j is less = absurd is
learnt-low from count (i ∷ learnt) (row ∷ rows) zero (low, some, rest) less = let b = learnt-bound (i + 1) count learnt rows rest in (omega arith, omega arith)
learnt-low from count (i ∷ learnt) (row ∷ rows) (suc j) (low, some, rest) less = let (b, most) = learnt-low (i + 1) count learnt rows j rest (omega arith) in (omega arith, most)

pub learnt-spaced : (from count : ℕ) (learnt : List ℕ) (rows : List (List ℕ)) → AreLearnt from count learnt rows → AreSpaced learnt
learnt-spaced from count [] [] is a b order less = absurd (omega arith)
learnt-spaced from count [] (row ∷ rows) is a b order less = absurd is
learnt-spaced from count (i ∷ learnt) [] is a b order less = absurd is
learnt-spaced from count (i ∷ learnt) (row ∷ rows) (low, some, rest) zero zero order less = omega arith
learnt-spaced from count (i ∷ learnt) (row ∷ rows) (low, some, rest) zero (suc b) order less = let (bound, most) = learnt-low (i + 1) count learnt rows b rest (omega arith) in omega arith
learnt-spaced from count (i ∷ learnt) (row ∷ rows) (low, some, rest) (suc a) zero order less = absurd (omega arith)
learnt-spaced from count (i ∷ learnt) (row ∷ rows) (low, some, rest) (suc a) (suc b) order less =
    let h = learnt-spaced (i + 1) count learnt rows rest a b (omega arith) (omega arith) in omega arith

-- ---- how many there are
pub length-spread : (from count : ℕ) (learnt : List ℕ) (rows : List (List ℕ)) → AreLearnt from count learnt rows → length (spread from count learnt rows) ≡ count - from
length-spread from count [] [] is = length-replicate (count - from) []
length-spread from count [] (row ∷ rows) is = absurd is
length-spread from count (i ∷ learnt) [] is = absurd is
length-spread from count (i ∷ learnt) (row ∷ rows) (low, some, rest) =
    let b = learnt-bound (i + 1) count learnt rows rest in
    let gap : List (List ℕ) = replicate (i - from) [] in
    let later : List (List ℕ) = spread (i + 1) count learnt rows in
    let size : length gap ≡ i - from = length-replicate (i - from) [] in
    let h = length-spread (i + 1) count learnt rows rest in
    length-append gap (row ∷ later) ∙ omega arith

empty-count : (n : ℕ) → given_count (replicate n []) ≡ n
empty-count zero = refl
empty-count (suc n) = let h = empty-count n in omega arith

pub spread-given : (from count : ℕ) (learnt : List ℕ) (rows : List (List ℕ)) → AreLearnt from count learnt rows → given_count (spread from count learnt rows) + length learnt ≡ count - from
spread-given from count [] [] is = let h = empty-count (count - from) in omega arith
spread-given from count [] (row ∷ rows) is = absurd is
spread-given from count (i ∷ learnt) [] is = absurd is
spread-given from count (i ∷ learnt) (row ∷ rows) (low, some, rest) =
    let b = learnt-bound (i + 1) count learnt rows rest in
    let gap : List (List ℕ) = replicate (i - from) [] in
    let later : List (List ℕ) = spread (i + 1) count learnt rows in
    let size : given_count gap ≡ i - from = empty-count (i - from) in
    let h = spread-given (i + 1) count learnt rows rest in
    let whole = given_count-append gap (row ∷ later) in
    let skip = given_count-left row later some in
    omega arith

-- ---- one more
pub learnt-longer : (from count : ℕ) (learnt : List ℕ) (rows : List (List ℕ)) → AreLearnt from count learnt rows → AreLearnt from (count + 1) learnt rows
learnt-longer from count [] [] is = omega arith
learnt-longer from count [] (row ∷ rows) is = absurd is
learnt-longer from count (i ∷ learnt) [] is = absurd is
learnt-longer from count (i ∷ learnt) (row ∷ rows) (low, some, rest) = (low, some, learnt-longer (i + 1) count learnt rows rest)

pub spread-longer : (from count : ℕ) (learnt : List ℕ) (rows : List (List ℕ)) → AreLearnt from count learnt rows → spread from (count + 1) learnt rows ≡ spread from count learnt rows ++ [] ∷ []
spread-longer from count [] [] is =
    let next : count + 1 - from ≡ (count - from) + 1 = omega arith in
    ap (λ (n : ℕ). (let xs : List (List ℕ) = replicate n [] in xs)) next ∙ sym (replicate_more (count - from) [])
spread-longer from count [] (row ∷ rows) is = absurd is
spread-longer from count (i ∷ learnt) [] is = absurd is
spread-longer from count (i ∷ learnt) (row ∷ rows) (low, some, rest) =
    ap (λ (xs : List (List ℕ)). replicate (i - from) [] ++ row ∷ xs) (spread-longer (i + 1) count learnt rows rest)
    ∙ sym (append_assoc (replicate (i - from) []) (row ∷ spread (i + 1) count learnt rows) ([] ∷ []))

pub learnt-more : (from count : ℕ) (learnt : List ℕ) (rows : List (List ℕ)) (new : List ℕ) → AreLearnt from count learnt rows → new ≢ [] → AreLearnt from (count + 1) (learnt ++ count ∷ []) (rows ++ new ∷ [])
learnt-more from count [] [] new is other = (is, other, omega arith)
learnt-more from count [] (row ∷ rows) new is other = absurd is
learnt-more from count (i ∷ learnt) [] new is other = absurd is
learnt-more from count (i ∷ learnt) (row ∷ rows) new (low, some, rest) other = (low, some, learnt-more (i + 1) count learnt rows new rest other)

pub spread-more : (from count : ℕ) (learnt : List ℕ) (rows : List (List ℕ)) (new : List ℕ) → AreLearnt from count learnt rows → spread from (count + 1) (learnt ++ count ∷ []) (rows ++ new ∷ []) ≡ spread from count learnt rows ++ new ∷ []
spread-more from count [] [] new is =
    let none : count + 1 - (count + 1) ≡ 0 = omega arith in
    ap (λ (n : ℕ). replicate (count - from) [] ++ new ∷ replicate n []) none
spread-more from count [] (row ∷ rows) new is = absurd is
spread-more from count (i ∷ learnt) [] new is = absurd is
spread-more from count (i ∷ learnt) (row ∷ rows) new (low, some, rest) =
    ap (λ (xs : List (List ℕ)). replicate (i - from) [] ++ row ∷ xs) (spread-more (i + 1) count learnt rows new rest)
    ∙ sym (append_assoc (replicate (i - from) []) (row ∷ spread (i + 1) count learnt rows) (new ∷ []))

-- ---- some are taken off
cut-rest : (i : ℕ) (xs : List ℕ) (place bound : ℕ) → IsCut (i ∷ xs) (suc place) bound → IsCut xs place bound
cut-rest i xs place bound cut = record {
  within = (let w = cut.within in omega arith);
  before = λ j less. cut.before (suc j) (omega arith);
  after = λ j low less. cut.after (suc j) (omega arith) (omega arith);
}

pub learnt-cut : (from count : ℕ) (learnt : List ℕ) (rows : List (List ℕ)) (place bound : ℕ) → AreLearnt from count learnt rows → IsCut learnt place bound → from ≤ bound → AreLearnt from bound (take place learnt) (take place rows)
learnt-cut from count learnt rows zero bound is cut order = order
learnt-cut from count [] [] (suc place) bound is cut order = order
learnt-cut from count [] (row ∷ rows) (suc place) bound is cut order = absurd is
learnt-cut from count (i ∷ learnt) [] (suc place) bound is cut order = absurd is
learnt-cut from count (i ∷ learnt) (row ∷ rows) (suc place) bound (low, some, rest) cut order =
    let first : i < bound = cut.before 0 (omega arith) in
    (low, some, learnt-cut (i + 1) count learnt rows place bound rest (cut-rest i learnt place bound cut) (omega arith))

-- the first ones, where none of them was learnt
take-empty : (from count : ℕ) (learnt : List ℕ) (rows : List (List ℕ)) (bound : ℕ) → AreLearnt from count learnt rows → IsCut learnt 0 bound → from ≤ bound → bound ≤ count → replicate (bound - from) [] ≡ take (bound - from) (spread from count learnt rows)
take-empty from count [] [] bound is cut order high = sym (take-replicate (bound - from) (count - from) [] (omega arith))
take-empty from count [] (row ∷ rows) bound is cut order high = absurd is
take-empty from count (i ∷ learnt) [] bound is cut order high = absurd is
take-empty from count (i ∷ learnt) (row ∷ rows) bound (low, some, rest) cut order high =
    let first : bound ≤ i = cut.after 0 (omega arith) (omega arith) in
    let gap : List (List ℕ) = replicate (i - from) [] in
    let size : length gap ≡ i - from = length-replicate (i - from) [] in
    sym (take-append-le (bound - from) gap (row ∷ spread (i + 1) count learnt rows) (omega arith) ∙ take-replicate (bound - from) (i - from) [] (omega arith))

pub spread-cut : (from count : ℕ) (learnt : List ℕ) (rows : List (List ℕ)) (place bound : ℕ) → AreLearnt from count learnt rows → IsCut learnt place bound → from ≤ bound → bound ≤ count → spread from bound (take place learnt) (take place rows) ≡ take (bound - from) (spread from count learnt rows)
spread-cut from count learnt rows zero bound is cut order high = take-empty from count learnt rows bound is cut order high
spread-cut from count [] [] (suc place) bound is cut order high = absurd (let w = cut.within in omega arith)
spread-cut from count [] (row ∷ rows) (suc place) bound is cut order high = absurd is
spread-cut from count (i ∷ learnt) [] (suc place) bound is cut order high = absurd is
spread-cut from count (i ∷ learnt) (row ∷ rows) (suc place) bound (low, some, rest) cut order high =
    let first : i < bound = cut.before 0 (omega arith) in
    let gap : List (List ℕ) = replicate (i - from) [] in
    let later : List (List ℕ) = spread (i + 1) count learnt rows in
    let size : length gap ≡ i - from = length-replicate (i - from) [] in
    let sum : bound - from ≡ length gap + suc (bound - (i + 1)) = omega arith in
    ap (λ (xs : List (List ℕ)). gap ++ row ∷ xs) (spread-cut (i + 1) count learnt rows place bound rest (cut-rest i learnt place bound cut) (omega arith) high)
    ∙ sym (take-append-add gap (row ∷ later) (suc (bound - (i + 1))))
    ∙ ap (λ (n : ℕ). take n (gap ++ row ∷ later)) (sym sum)

-- how many of the first ones are empty
pub given_count-cut : (count : ℕ) (learnt : List ℕ) (rows : List (List ℕ)) (place bound : ℕ) → AreLearnt 0 count learnt rows → IsCut learnt place bound → place ≤ bound → bound ≤ count → given_count (take bound (spread 0 count learnt rows)) + place ≡ bound
given_count-cut count learnt rows place bound is cut low high =
    let whole : bound - 0 ≡ bound = omega arith in
    let first : spread 0 bound (take place learnt) (take place rows) ≡ take bound (spread 0 count learnt rows) = spread-cut 0 count learnt rows place bound is cut (omega arith) high ∙ ap (λ (n : ℕ). take n (spread 0 count learnt rows)) whole in
    let size : length (take place learnt) ≡ place = length-take-le place learnt cut.within in
    let few : given_count (spread 0 bound (take place learnt) (take place rows)) + length (take place learnt) ≡ bound - 0 = spread-given 0 bound (take place learnt) (take place rows) (learnt-cut 0 count learnt rows place bound is cut (omega arith)) in
    omega (arith, ap given_count first)

-- ---- one that is read
pub spread-at : (from count : ℕ) (learnt : List ℕ) (rows : List (List ℕ)) (j : ℕ) (found : List ℕ) → AreLearnt from count learnt rows → slice_get rows j ≡ Some found → slice_get (spread from count learnt rows) (get_or learnt j 0 - from) ≡ Some found
spread-at from count [] [] j found is at = cc
spread-at from count [] (row ∷ rows) j found is at = absurd is
spread-at from count (i ∷ learnt) [] j found is at = absurd is
spread-at from count (i ∷ learnt) (row ∷ rows) zero found (low, some, rest) at =
    slice_get_seam (replicate (i - from) []) row (spread (i + 1) count learnt rows) (i - from) (sym (length-replicate (i - from) [])) ∙ at
spread-at from count (i ∷ learnt) (row ∷ rows) (suc j) found (low, some, rest) at =
    let gap : List (List ℕ) = replicate (i - from) [] in
    let later : List (List ℕ) = spread (i + 1) count learnt rows in
    let size : length gap ≡ i - from = length-replicate (i - from) [] in
    let within : j < length learnt = omega (arith, slice_get_within rows j found at, learnt-sized (i + 1) count learnt rows rest) in
    let (past, most) = learnt-low (i + 1) count learnt rows j rest within in
    let sum : get_or learnt j 0 - from ≡ length gap + suc (get_or learnt j 0 - (i + 1)) = omega arith in
    ap (slice_get (gap ++ row ∷ later)) sum ∙ slice_get-append_right gap (row ∷ later) (suc (get_or learnt j 0 - (i + 1))) ∙ spread-at (i + 1) count learnt rows j found rest at

empty-at : (n k : ℕ) (rows : List (List ℕ)) → rows ≡ replicate n [] → k < n → slice_get rows k ≡ Some []
empty-at n k rows is less =
    let size : length rows ≡ n = ap length is ∙ length-replicate n [] in
    slice_get-get_or rows k [] (omega arith) ∙ ap Some (ap (λ (xs : List (List ℕ)). get_or xs k []) is ∙ get_or-replicate n k [] [] less)

pub spread-off : (from count : ℕ) (learnt : List ℕ) (rows : List (List ℕ)) (index : ℕ) → AreLearnt from count learnt rows → from ≤ index → index < count → ((j : ℕ) → j < length learnt → get_or learnt j 0 ≢ index) → slice_get (spread from count learnt rows) (index - from) ≡ Some []
spread-off from count [] [] index is low high off = empty-at (count - from) (index - from) (replicate (count - from) []) refl (omega arith)
spread-off from count [] (row ∷ rows) index is low high off = absurd is
spread-off from count (i ∷ learnt) [] index is low high off = absurd is
spread-off from count (i ∷ learnt) (row ∷ rows) index (first, some, rest) low high off =
    let gap : List (List ℕ) = replicate (i - from) [] in
    let later : List (List ℕ) = spread (i + 1) count learnt rows in
    let size : length gap ≡ i - from = length-replicate (i - from) [] in
    elim (cases_lt index i) [
      | inl before ↦ slice_get-append_left gap (row ∷ later) (index - from) (omega arith) ∙ empty-at (i - from) (index - from) gap refl (omega arith)
      | inr past ↦
          let other : i ≢ index = off 0 (omega arith) in
          let sum : index - from ≡ length gap + suc (index - (i + 1)) = omega arith in
          ap (slice_get (gap ++ row ∷ later)) sum ∙ slice_get-append_right gap (row ∷ later) (suc (index - (i + 1)))
          ∙ spread-off (i + 1) count learnt rows index rest (omega arith) high (λ j less. off (suc j) (omega arith))
    ]

-- ---- what a search finds
pub spaced-rise : (xs : List ℕ) → AreSpaced xs → (i j : ℕ) → i ≤ j → j < length xs → get_or xs i 0 ≤ get_or xs j 0
spaced-rise xs spaced i j order less = let h = spaced i j order less in omega arith

pub cut-found : (xs : List ℕ) (place x : ℕ) → AreSpaced xs → place < length xs → get_or xs place 0 ≡ x → IsCut xs place x
cut-found xs place x spaced within is = record {
  within = omega arith;
  before = λ j less. let h = spaced j place (omega arith) within in omega arith;
  after = λ j low less. let h = spaced place j low less in omega arith;
}

pub off-between : (xs : List ℕ) (place x : ℕ) → ((k : ℕ) → k < place → get_or xs k 0 < x) → ((k : ℕ) → place ≤ k → k < length xs → x < get_or xs k 0) → (j : ℕ) → j < length xs → get_or xs j 0 ≢ x
off-between xs place x before after j less = elim (cases_lt j place) [
  | inl low ↦ let h = before j low in omega arith
  | inr high ↦ let h = after j high less in omega arith
]
