-- Rows that lie one after the other: one more, one that is read, some that are taken off.
use Rattle.std.proofs.Common.{◌≡◌, ℕ, ◌+◌, ◌-◌, ◌<◌, ◌≤◌, zero, suc, List, [], ◌∷◌, ◌++◌, refl, sym, ap, ◌∙◌, arith, length, take, drop, get_or, slice_get, Some}
use Rattle.std.proofs.lemmas.List.{length-drop, drop-append-le, drop-drop, drop-take, take-append-le}
use Rattle.mcs_base.specs.Rows.{rows_from, AreEnds}

-- where the last row ends
abbrev pub end_of : ℕ → List ℕ → ℕ
end_of start [] = start
end_of start (end ∷ ends) = end_of end ends

pub end_of-total : (s t : ℕ) (ends : List ℕ) → AreEnds s t ends → end_of s ends ≡ t
end_of-total s t [] e = e
end_of-total s t (end ∷ ends) (low, rest) = end_of-total end t ends rest

pub ends-bound : (s t : ℕ) (ends : List ℕ) → AreEnds s t ends → s ≤ t
ends-bound s t [] e = omega arith
ends-bound s t (end ∷ ends) (low, rest) = let b = ends-bound end t ends rest in omega arith

pub ends-push : (s t e : ℕ) (ends : List ℕ) → AreEnds s t ends → t ≤ e → AreEnds s e (ends ++ e ∷ [])
ends-push s t e [] is low = (omega arith, refl)
ends-push s t e (end ∷ ends) (below, rest) low = (below, ends-push end t e ends rest low)

pub ends-take : (n s t : ℕ) (ends : List ℕ) → AreEnds s t ends → AreEnds s (end_of s (take n ends)) (take n ends) × (end_of s (take n ends) ≤ t)
ends-take zero s t ends is = (refl, ends-bound s t ends is)
ends-take (suc n) s t [] is = (refl, omega arith)
ends-take (suc n) s t (end ∷ ends) (low, rest) = let (kept, bound) = ends-take n end t ends rest in ((low, kept), bound)

-- where a row begins and ends
pub row-bounds : (s t i d : ℕ) (ends : List ℕ) → AreEnds s t ends → i < length ends
    → (s ≤ get_or (s ∷ ends) i d) × (get_or (s ∷ ends) i d ≤ get_or ends i d) × (get_or ends i d ≤ t)
row-bounds s t i d [] is less = absurd (omega arith)
row-bounds s t zero d (m ∷ ends) (low, rest) less = (omega arith, low, ends-bound m t ends rest)
row-bounds s t (suc i) d (m ∷ ends) (low, rest) less =
    let (first, order, last) = row-bounds m t i d ends rest (omega arith) in
    (omega arith, order, last)

module _ {A : Type 0} where
  pub rows-length : (s : ℕ) (items : List A) (ends : List ℕ) → length (rows_from s items ends) ≡ length ends
  rows-length s items [] = refl
  rows-length s items (end ∷ ends) = ap suc (rows-length end (drop (end - s) items) ends)

  drop_total : (s t end : ℕ) (items : List A) → s ≤ end → end ≤ t → s + length items ≡ t → end + length (drop (end - s) items) ≡ t
  drop_total s t end items low high e = omega (arith, length-drop (end - s) items)

  take-all : (n : ℕ) (xs : List A) → length xs ≤ n → take n xs ≡ xs
  take-all zero [] low = refl
  take-all (suc n) [] low = refl
  take-all zero (x ∷ xs) low = absurd (omega arith)
  take-all (suc n) (x ∷ xs) low = ap (λ ys. x ∷ ys) (take-all n xs (omega arith))

  pub rows-push : (s t e : ℕ) (items row : List A) (ends : List ℕ) → AreEnds s t ends → s + length items ≡ t → e ≡ t + length row
      → rows_from s (items ++ row) (ends ++ e ∷ []) ≡ rows_from s items ends ++ row ∷ []
  rows-push s t e [] row [] is total end =
      ap (λ r. r ∷ []) (take-all (e - s) row (omega arith))
  rows-push s t e (x ∷ items) row [] is total end = absurd (omega arith)
  rows-push s t e items row (m ∷ ends) (low, rest) total end =
      let high : m ≤ t = ends-bound m t ends rest in
      let within : m - s ≤ length items = omega arith in
      ap (λ r. r ∷ rows_from m (drop (m - s) (items ++ row)) (ends ++ e ∷ [])) (take-append-le (m - s) items row within)
      ∙ ap (λ xs. take (m - s) items ∷ rows_from m xs (ends ++ e ∷ [])) (drop-append-le (m - s) items row within)
      ∙ ap (λ rs. take (m - s) items ∷ rs) (rows-push m t e (drop (m - s) items) row ends rest (drop_total s t m items low high total) end)

  pub rows-row : (s t i d : ℕ) (items : List A) (ends : List ℕ) → AreEnds s t ends → s + length items ≡ t → i < length ends
      → slice_get (rows_from s items ends) i ≡ Some (take (get_or ends i d - get_or (s ∷ ends) i d) (drop (get_or (s ∷ ends) i d - s) items))
  rows-row s t i d items [] is total less = absurd (omega arith)
  rows-row s t zero d items (m ∷ ends) (low, rest) total less =
      let none : s - s ≡ 0 = omega arith in
      ap (λ k. Some (take (m - s) (drop k items))) (sym none)
  rows-row s t (suc i) d items (m ∷ ends) (low, rest) total less =
      let high : m ≤ t = ends-bound m t ends rest in
      let (first, order, last) = row-bounds m t i d ends rest (omega arith) in
      let from : ℕ = get_or (m ∷ ends) i d in
      let sum : (from - m) + (m - s) ≡ from - s = omega arith in
      rows-row m t i d (drop (m - s) items) ends rest (drop_total s t m items low high total) (omega arith)
      ∙ ap (λ xs. Some (take (get_or ends i d - from) xs)) (drop-drop (from - m) (m - s) items ∙ ap (λ k. drop k items) (omega arith))

  take-take : (n m : ℕ) (xs : List A) → n ≤ m → take n (take m xs) ≡ take n xs
  take-take zero m xs low = refl
  take-take (suc n) zero xs low = absurd (omega arith)
  take-take (suc n) (suc m) [] low = refl
  take-take (suc n) (suc m) (x ∷ xs) low = ap (λ ys. x ∷ ys) (take-take n m xs (omega arith))

  pub rows-take : (n s t : ℕ) (items : List A) (ends : List ℕ) → AreEnds s t ends → rows_from s (take (end_of s (take n ends) - s) items) (take n ends) ≡ take n (rows_from s items ends)
  rows-take zero s t items ends is = refl
  rows-take (suc n) s t items [] is = refl
  rows-take (suc n) s t items (m ∷ ends) (low, rest) =
      let last : ℕ = end_of m (take n ends) in
      let (kept, bound) = ends-take n m t ends rest in
      let above : m ≤ last = ends-bound m last (take n ends) kept in
      let sum : last - s ≡ (m - s) + (last - m) = omega arith in
      ap (λ r. r ∷ rows_from m (drop (m - s) (take (last - s) items)) (take n ends)) (take-take (m - s) (last - s) items (omega arith))
      ∙ ap (λ k. take (m - s) items ∷ rows_from m (drop (m - s) (take k items)) (take n ends)) sum
      ∙ ap (λ xs. take (m - s) items ∷ rows_from m xs (take n ends)) (drop-take (m - s) (last - m) items)
      ∙ ap (λ rs. take (m - s) items ∷ rs) (rows-take n m t (drop (m - s) items) ends rest)

-- the last end as the code reads it
pub end_of-read : (s : ℕ) (ends : List ℕ) (d : ℕ) → get_or (s ∷ ends) (length ends) d ≡ end_of s ends
end_of-read s [] d = refl
end_of-read s (m ∷ ends) d = end_of-read m ends d

-- from the beginning of the items
module _ {A : Type 0} where
  pub rows-cut : (n t : ℕ) (items : List A) (ends : List ℕ) → AreEnds 0 t ends → rows_from 0 (take (end_of 0 (take n ends)) items) (take n ends) ≡ take n (rows_from 0 items ends)
  rows-cut n t items ends is =
      let whole : end_of 0 (take n ends) - 0 ≡ end_of 0 (take n ends) = omega arith in
      ap (λ k. rows_from 0 (take k items) (take n ends)) (sym whole) ∙ rows-take n 0 t items ends is

  pub rows-at : (i : ℕ) (items : List A) (ends : List ℕ) → AreEnds 0 (length items) ends → i < length ends
      → slice_get (rows_from 0 items ends) i ≡ Some (take (get_or ends i 0 - get_or (0 ∷ ends) i 0) (drop (get_or (0 ∷ ends) i 0) items))
  rows-at i items ends is less =
      let whole : get_or (0 ∷ ends) i 0 - 0 ≡ get_or (0 ∷ ends) i 0 = omega arith in
      rows-row 0 (length items) i 0 items ends is (omega arith) less ∙ ap (λ k. Some (take (get_or ends i 0 - get_or (0 ∷ ends) i 0) (drop k items))) whole

  pub row-within : (i : ℕ) (items : List A) (ends : List ℕ) (now : List (List A)) → rows_from 0 items ends ≡ now → i < length now → i < length ends
  row-within i items ends now is less = omega (arith, rows-length 0 items ends, ap length is)
