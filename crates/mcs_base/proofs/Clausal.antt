-- Variables that have given values, and literals that are none, beyond what is said of lists and numbers.
use Rattle.std.proofs.Common.{◌≡◌, ℕ, ◌+◌, ◌-◌, ◌<◌, ◌≤◌, inl, inr, suc, Bool, false, List, [], ◌∷◌, ◌++◌, ◌↔◌, length, get_or, arith, refl, sym, ap, ◌∙◌, subst, length-append, append_assoc, ℤ}
use Rattle.std.proofs.lemmas.Bool.{cases_lt}
use Rattle.std.specs.Int.RustNames.{unsigned_abs}
use Rattle.std.specs.List.{AllByRecursion}

-- ---- variables that have these values, from the one after k on
abbrev pub Reads : (ℕ → Bool) → ℕ → List Bool → Type 0
Reads v k [] = Unit {0}
Reads v k (b ∷ bs) = (v (k + 1) ≡ b) × Reads v (k + 1) bs

pub reads_append : (v : ℕ → Bool) (k : ℕ) (bs cs : List Bool) → Reads v k (bs ++ cs) ↔ (Reads v k bs × Reads v (k + length bs) cs)
reads_append v k [] cs = let e : k ≡ k + 0 = omega arith in (λ h. (tt, subst (λ n. Reads v n cs) e h), λ h. subst (λ n. Reads v n cs) (sym e) h.1)
reads_append v k (b ∷ bs) cs =
    let e : k + 1 + length bs ≡ k + length (b ∷ bs) = omega arith in
    let rest = reads_append v (k + 1) bs cs in (
      λ h. ((h.0, (rest.0 h.1).0), subst (λ n. Reads v n cs) e (rest.0 h.1).1),
      λ h. (h.0.0, rest.1 (h.0.1, subst (λ n. Reads v n cs) (sym e) h.1)),
    )

-- there are such variables
pub reads_those : (before bs : List Bool) → Reads (λ k. get_or (before ++ bs) (k - 1) false) (length before) bs
reads_those before [] = tt
reads_those before (b ∷ bs) =
    let e : before ++ b ∷ bs ≡ (before ++ b ∷ []) ++ bs = sym (append_assoc before (b ∷ []) bs) in
    let n : length (before ++ b ∷ []) ≡ length before + 1 = omega (arith, length-append before (b ∷ [])) in (
      at before b bs,
      subst (λ (xs : List Bool). Reads (λ k. get_or xs (k - 1) false) (length before + 1) bs) (sym e)
          (subst (λ m. Reads (λ k. get_or ((before ++ b ∷ []) ++ bs) (k - 1) false) m bs) n (reads_those (before ++ b ∷ []) bs)),
    )
  where
    at : (xs : List Bool) (b : Bool) (bs : List Bool) → get_or (xs ++ b ∷ bs) (length xs + 1 - 1) false ≡ b
    at [] b bs = refl
    at (x ∷ xs) b bs = let e : length (x ∷ xs) + 1 - 1 ≡ suc (length xs + 1 - 1) = omega arith in ap (λ n. get_or (x ∷ (xs ++ b ∷ bs)) n false) e ∙ at xs b bs

-- and in one way only
pub reads_same : (v w : ℕ → Bool) (k : ℕ) (bs : List Bool) (j : ℕ) → Reads v k bs → Reads w k bs → k < j → j ≤ k + length bs → v j ≡ w j
reads_same v w k [] j r s more most = absurd (omega arith)
reads_same v w k (b ∷ bs) j r s more most = elim (cases_lt (k + 1) j) [
  | inl later ↦ reads_same v w (k + 1) bs j r.1 s.1 later (omega arith)
  | inr here ↦ let e : j ≡ k + 1 = omega arith in ap v e ∙ r.0 ∙ sym s.0 ∙ ap w (sym e)
]

-- ---- no literal is 0, which is its own negation
abbrev pub HasNoZero : List ℤ → Type 0
HasNoZero c = AllByRecursion (λ k. 0 < unsigned_abs k) c

abbrev pub HaveNoZero : List (List ℤ) → Type 0
HaveNoZero cs = AllByRecursion HasNoZero cs
