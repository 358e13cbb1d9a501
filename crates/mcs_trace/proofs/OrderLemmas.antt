-- The order of literals, and clauses that are read from the front.
use Rattle.std.proofs.Common.{◌≡◌, ℕ, ◌+◌, ◌*◌, ◌^◌, ◌<◌, ◌≤◌, zero, suc, List, [], ◌∷◌, ◌↔◌, ◌⊎◌, inl, inr, sym, ap, ◌∙◌, subst, arith, ℤ, pos, negsuc, neg_ℤ, ◌-ℤ◌, length, drop, get_or, w64, to_z, of_z, to_z-of_z, FitsSigned}
use Rattle.std.specs.Int.RustNames.{unsigned_abs}
use Rattle.std.specs.List.{AllByRecursion}
use Rattle.std.proofs.lemmas.List.{drop_more}
use Rattle.std.proofs.lemmas.Bool.{cases_lt}
use Rattle.mcs_base.specs.Listings.{IsAscending, IsAmong}
use Rattle.mcs_base.proofs.ListingLemmas.{all_among}
use Rattle.mcs_base.proofs.Among.{among_drop_more, none_among_drop, among_drop_first, among_at}
use Rattle.mcs_base.proofs.Ascending.{first_before}
use Rattle.mcs_base.proofs.Numbers.{unsigned_abs-neg_ℤ, zero-minus}
use Rattle.mcs_trace.specs.Clauses.{IsLiteral, place, LiteralBefore, IsClause}

-- ---- places
pub place-injective : (a b : ℤ) → place a ≡ place b → a ≡ b
place-injective (pos m) (pos n) e = ap pos (omega arith)
place-injective (pos m) (negsuc n) e = absurd (omega arith)
place-injective (negsuc m) (pos n) e = absurd (omega arith)
place-injective (negsuc m) (negsuc n) e = ap negsuc (omega arith)

-- the two literals of size n are at 2n and 2n + 1
pub place-size : (a : ℤ) → (2 * unsigned_abs a ≤ place a) × (place a ≤ 2 * unsigned_abs a + 1)
place-size (pos n) = (omega arith, omega arith)
place-size (negsuc n) = (omega arith, omega arith)

pub before_asymmetric : (a b : ℤ) → LiteralBefore a b → LiteralBefore b a → ⊥
before_asymmetric a b h k = omega arith

-- ---- a clause whose literals are all after a place
abbrev pub IsClauseAfter : ℕ → List ℤ → Type 0
IsClauseAfter n c = AllByRecursion (λ l. n < place l) c × IsClause c

all_after : (n : ℕ) (l : ℤ) (c : List ℤ) → n < place l → AllByRecursion (LiteralBefore l) c → AllByRecursion (λ k. n < place k) c
all_after n l [] less all = tt
all_after n l (k ∷ c) less all = (omega (arith, all.0), all_after n l c less all.1)

clause_after-start : (c : List ℤ) → IsClause c → AllByRecursion (λ l. 0 < place l) c
clause_after-start [] h = tt
clause_after-start (l ∷ c) h = (omega (arith, place-size l, h.0.0.0), clause_after-start c (h.0.1, h.1.1))

pub clause-start : (c : List ℤ) → IsClause c ↔ IsClauseAfter 0 c
clause-start c = (λ h. (clause_after-start c h, h), λ h. h.1)

after-cons : (n : ℕ) (l : ℤ) (c : List ℤ) → IsLiteral l → n < place l → IsClauseAfter n (l ∷ c) ↔ IsClauseAfter (place l) c
after-cons n l c is less =
    (λ h. (h.1.1.0, (h.1.0.1, h.1.1.1)), λ h. ((less, all_after n l c less h.0), ((is, h.1.0), (h.0, h.1.1))))

-- one more literal
pub clause_after-more : (n m : ℕ) (c : List ℤ) (i : ℕ) (d : ℤ) → i < length c → IsLiteral (get_or c i d) → n < m → m ≡ place (get_or c i d) → IsClauseAfter n (drop i c) ↔ IsClauseAfter m (drop (i + 1) c)
clause_after-more n m c i d less is after e =
    subst (λ (x : List ℤ). IsClauseAfter n x ↔ IsClauseAfter m (drop (i + 1) c)) (sym (drop_more c i d less))
    (subst (λ (p : ℕ). IsClauseAfter n (get_or c i d ∷ drop (i + 1) c) ↔ IsClauseAfter p (drop (i + 1) c)) (sym e) (after-cons n (get_or c i d) (drop (i + 1) c) is (omega arith)))

-- ---- the code's tests and negations
pub same_literal : (a b : ℤ) → FitsSigned w64 a → FitsSigned w64 b → of_z w64 a ≡ of_z w64 b → a ≡ b
same_literal a b f g e = sym (to_z-of_z f) ∙ ap (to_z w64) e ∙ to_z-of_z g

pub neg_differs : (l : ℤ) → IsLiteral l → l ≡ neg_ℤ l → ⊥
neg_differs (pos zero) is e = absurd (omega (arith, is.0))
neg_differs (pos (suc n)) is e = absurd (cc)
neg_differs (negsuc n) is e = absurd (cc)

pub fits_literal : (l : ℤ) → IsLiteral l → FitsSigned w64 l
fits_literal (pos n) is = record { sfits = omega (arith, is.1) }
fits_literal (negsuc n) is = record { sfits = omega (arith, is.1) }

-- as the code holds it
pub read_literal : (l : ℤ) → IsLiteral l → to_z w64 (of_z w64 l) ≡ l
read_literal l is = to_z-of_z (fits_literal l is)

-- the literals of a size are next to each other
pub near : (l : ℤ) (c : List ℤ) (i : ℕ) → IsAscending LiteralBefore c → i < length c → unsigned_abs l ≤ unsigned_abs (get_or c i (pos 0)) → IsAmong l (drop i c)
    → (l ≡ get_or c i (pos 0)) ⊎ ((i + 1 < length c) × (l ≡ get_or c (i + 1) (pos 0)))
near l c i up less small h = elim ((among_drop_more c i (pos 0) less l).0 h) [
  | inl e ↦ inl e
  | inr later ↦ second (cases_lt (i + 1) (length c)) later
]
  where
    second : ((i + 1 < length c) ⊎ (length c ≤ i + 1)) → IsAmong l (drop (i + 1) c) → (l ≡ get_or c i (pos 0)) ⊎ ((i + 1 < length c) × (l ≡ get_or c (i + 1) (pos 0)))
    second (inr past) later = absurd (none_among_drop c (i + 1) l past later)
    second (inl more) later = elim ((among_drop_more c (i + 1) (pos 0) more l).0 later) [
      | inl e ↦ inr (more, e)
      | inr last ↦
          let x : ℤ = get_or c i (pos 0) in
          let y : ℤ = get_or c (i + 1) (pos 0) in
          let first : place x < place y = all_among (LiteralBefore x) (drop (i + 1) c) y (first_before LiteralBefore c i (pos 0) less up) (among_drop_first c (i + 1) (pos 0) more) in
          let then : place y < place l = all_among (LiteralBefore y) (drop (i + 1 + 1) c) l (first_before LiteralBefore c (i + 1) (pos 0) more up) last in
          absurd (omega (arith, place-size l, place-size x))
    ]

-- what the tests for both of them tell
pub at_next : (l : ℤ) (c : List ℤ) (i : ℕ) → IsAscending LiteralBefore c → i ≤ length c → (i < length c → unsigned_abs l ≤ unsigned_abs (get_or c i (pos 0)))
    → (((i < length c) × (get_or c i (pos 0) ≡ l)) ⊎ ((i + 1 < length c) × (get_or c (i + 1) (pos 0) ≡ l))) ↔ IsAmong l (drop i c)
at_next l c i up bound small = (to, from)
  where
    to : ((i < length c) × (get_or c i (pos 0) ≡ l)) ⊎ ((i + 1 < length c) × (get_or c (i + 1) (pos 0) ≡ l)) → IsAmong l (drop i c)
    to (inl (here, e)) = subst (λ (k : ℤ). IsAmong k (drop i c)) e (among_drop_first c i (pos 0) here)
    to (inr (more, e)) = subst (λ (k : ℤ). IsAmong k (drop i c)) e ((among_drop_more c i (pos 0) (omega arith) (get_or c (i + 1) (pos 0))).1 (inr (among_drop_first c (i + 1) (pos 0) more)))

    from : IsAmong l (drop i c) → ((i < length c) × (get_or c i (pos 0) ≡ l)) ⊎ ((i + 1 < length c) × (get_or c (i + 1) (pos 0) ≡ l))
    from h = elim (cases_lt i (length c)) [
      | inr past ↦ absurd (none_among_drop c i l past h)
      | inl here ↦ elim (near l c i up here (small here) h) [ inl e ↦ inl (here, sym e) | inr (more, e) ↦ inr (more, sym e) ]
    ]

-- the code's negation of a literal
pub turned : (l : ℤ) → IsLiteral l → to_z w64 (of_z w64 (pos 0 -ℤ to_z w64 (of_z w64 l))) ≡ neg_ℤ l
turned l is =
    let read : to_z w64 (of_z w64 l) ≡ l = to_z-of_z (fits_literal l is) in
    let bound : unsigned_abs (neg_ℤ l) < 2 ^ 63 = omega (arith, unsigned_abs-neg_ℤ l, is.1) in
    let some : 0 < unsigned_abs (neg_ℤ l) = omega (arith, unsigned_abs-neg_ℤ l, is.0) in
    ap (λ k. to_z w64 (of_z w64 (pos 0 -ℤ k))) read ∙ ap (λ k. to_z w64 (of_z w64 k)) (zero-minus l) ∙ to_z-of_z (fits_literal (neg_ℤ l) (some, bound))

pub literal_at : (c : List ℤ) (i : ℕ) → IsClause c → i < length c → IsLiteral (get_or c i (pos 0))
literal_at c i h less = all_among IsLiteral c (get_or c i (pos 0)) h.0 (among_at c i (pos 0) less)
