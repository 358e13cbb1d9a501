-- The expression at a place is made of those at its parts.
use Rattle.std.proofs.Common.{arith, ◌≡◌, ℕ, zero, suc, ◌+◌, ◌-◌, ◌<◌, ◌≤◌, true, ltb, ◌&&◌, List, [], ◌∷◌, ◌++◌, length, map, get_or, slice_get, Option, Some, None, refl, sym, ap, ◌∙◌}
use Rattle.std.proofs.lemmas.Bool.{ltb-true}
use Rattle.std.proofs.lemmas.Option.{none-some, same_Some, slice_get_read}
use Rattle.std.proofs.lemmas.List.{reverse-append}
use Rattle.mcs_syntax.specs.declared.part.Part.{Part}
use Rattle.mcs_syntax.specs.declared.part.Part.TheVariants as part
use Rattle.mcs_syntax.specs.Grammar.{Expr, Then, Or, Maybe, Many, Grammar}
use Rattle.mcs_syntax.specs.Parts.{made_of, decoded, expr_at, tops, is_later, are_later, IsTable, AreInside}
use Rattle.mcs_syntax.proofs.Options.{and-parts}

later-of : {C A N : Type 0} (k n : ℕ) (ps : List (Part C A N)) (i : ℕ) (p : Part C A N) → are_later k n ps ≡ true → slice_get ps i ≡ Some p → is_later (k + i) n p ≡ true
later-of k n [] i p a e = absurd (none-some p e)
later-of k n (q ∷ ps) zero p a e =
    let same : k ≡ k + zero = omega arith in
    ap (λ p. is_later (k + zero) n p) (sym (same_Some q p e)) ∙ ap (λ j. is_later j n q) (sym same) ∙ (and-parts (is_later k n q) _ a).0
later-of k n (q ∷ ps) (suc i) p a e =
    let same : k + suc i ≡ suc k + i = omega arith in
    ap (λ j. is_later j n p) same ∙ later-of (suc k) n ps i p (and-parts (is_later k n q) _ a).1 e

pub one-later : (k n i : ℕ) → (ltb k i && ltb i n) ≡ true → (k < i) × (i < n)
one-later k n i e = let w = and-parts (ltb k i) (ltb i n) e in (ltb-true k i w.0, ltb-true i n w.1)

pub two-later : (k n i j : ℕ) → ((ltb k i && ltb i n) && (ltb k j && ltb j n)) ≡ true → (k < i) × (i < n) × (k < j) × (j < n)
two-later k n i j e =
    let w = and-parts (ltb k i && ltb i n) _ e in
    let a = one-later k n i w.0 in
    let b = one-later k n j w.1 in
    (a.0, a.1, b.0, b.1)

abbrev pub IsLater : {C A N : Type 0} → ℕ → ℕ → Part C A N → Type 0
IsLater k n (part.Take c) = Unit {0}
IsLater k n (part.Say a) = Unit {0}
IsLater k n (part.Rule m) = Unit {0}
IsLater k n part.Nothing = Unit {0}
IsLater k n (part.Then i j) = (k < i) × (i < n) × (k < j) × (j < n)
IsLater k n (part.Or i j) = (k < i) × (i < n) × (k < j) × (j < n)
IsLater k n (part.Maybe i) = (k < i) × (i < n)
IsLater k n (part.Many i) = (k < i) × (i < n)

later-means : {C A N : Type 0} (k n : ℕ) (p : Part C A N) → is_later k n p ≡ true → IsLater k n p
later-means k n (part.Take c) e = tt
later-means k n (part.Say a) e = tt
later-means k n (part.Rule m) e = tt
later-means k n part.Nothing e = tt
later-means k n (part.Then i j) e = two-later k n i j e
later-means k n (part.Or i j) e = two-later k n i j e
later-means k n (part.Maybe i) e = one-later k n i e
later-means k n (part.Many i) e = one-later k n i e

-- what is known of a part that is of this form
pub seen : {C A N : Type 0} (parts : List (Part C A N)) (k : ℕ) (p q : Part C A N) → expr_at parts k ≡ made_of (expr_at parts) (Some p) → is_later k (length parts) p ≡ true → p ≡ q
    → (expr_at parts k ≡ made_of (expr_at parts) (Some q)) × IsLater k (length parts) q
seen parts k p q is l e = (is ∙ ap (λ x. made_of (expr_at parts) (Some x)) e, later-means k (length parts) q (ap (λ x. is_later k (length parts) x) (sym e) ∙ l))

same-parts : {C A N : Type 0} (at bt : ℕ → Expr C A N) (k n : ℕ) (o : Option (Part C A N)) → ((p : Part C A N) → o ≡ Some p → is_later k n p ≡ true) → ((i : ℕ) → k < i → i < n → at i ≡ bt i) → made_of at o ≡ made_of bt o
same-parts at bt k n None l h = refl
same-parts at bt k n (Some (part.Take c)) l h = refl
same-parts at bt k n (Some (part.Say a)) l h = refl
same-parts at bt k n (Some (part.Rule m)) l h = refl
same-parts at bt k n (Some part.Nothing) l h = refl
same-parts at bt k n (Some (part.Then i j)) l h = let w = two-later k n i j (l (part.Then i j) refl) in ap (λ x. Then x (at j)) (h i w.0 w.1) ∙ ap (Then (bt i)) (h j w.2 w.3)
same-parts at bt k n (Some (part.Or i j)) l h = let w = two-later k n i j (l (part.Or i j) refl) in ap (λ x. Or x (at j)) (h i w.0 w.1) ∙ ap (Or (bt i)) (h j w.2 w.3)
same-parts at bt k n (Some (part.Maybe i)) l h = let w = one-later k n i (l (part.Maybe i) refl) in ap Maybe (h i w.0 w.1)
same-parts at bt k n (Some (part.Many i)) l h = let w = one-later k n i (l (part.Many i) refl) in ap Many (h i w.0 w.1)

module _ {C A N : Type 0} (parts : List (Part C A N)) (a : are_later 0 (length parts) parts ≡ true) where
  pub later-at : (k : ℕ) (p : Part C A N) → slice_get parts k ≡ Some p → is_later k (length parts) p ≡ true
  later-at k p e = let same : k ≡ 0 + k = omega arith in ap (λ j. is_later j (length parts) p) same ∙ later-of 0 (length parts) parts k p a e

  -- how often the list is looked at does not matter, where it is often enough
  fuel : (f e k : ℕ) → length parts ≤ f + k → length parts ≤ e + k → k < length parts → decoded f parts k ≡ decoded e parts k
  fuel zero e k x y h = absurd (omega (arith, x, h))
  fuel (suc f) zero k x y h = absurd (omega (arith, y, h))
  fuel (suc f) (suc e) k x y h = same-parts (decoded f parts) (decoded e parts) k (length parts) (slice_get parts k) (later-at k) (λ i p q. fuel f e i (omega (arith, x, p)) (omega (arith, y, p)) q)

  expr-step : (k : ℕ) → k < length parts → expr_at parts k ≡ made_of (expr_at parts) (slice_get parts k)
  unfolding expr_at
  expr-step k h =
      let some : length parts ≡ suc (length parts - 1) = omega (arith, h) in
      ap (λ f. decoded f parts k) some
      ∙ same-parts (decoded (length parts - 1) parts) (λ i. decoded (length parts) parts i) k (length parts) (slice_get parts k) (later-at k) (λ i p q. fuel (length parts - 1) (length parts) i (omega (arith, p, h)) (omega arith) q)

-- what a read of the list tells
module _ {C A N : Type 0} (g : Grammar C A N) (root : N → ℕ) (parts : List (Part C A N)) (t : IsTable g root parts) (k : ℕ) (p : Part C A N) (h : k < length parts) (is : p ≡ get_or parts k p) where
  pub part-is : (q : Part C A N) → p ≡ q → expr_at parts k ≡ made_of (expr_at parts) (Some q)
  part-is q e = expr-step parts t.later k h ∙ ap (made_of (expr_at parts)) (slice_get_read parts (length parts) k p refl h is ∙ ap Some e)

  pub later-is : (q : Part C A N) → p ≡ q → is_later k (length parts) q ≡ true
  later-is q e = later-at parts t.later k q (slice_get_read parts (length parts) k p refl h is ∙ ap Some e)

  pub looked : (q : Part C A N) → p ≡ q → (expr_at parts k ≡ made_of (expr_at parts) (Some q)) × IsLater k (length parts) q
  looked q e = seen parts k p q (part-is p refl) (later-is p refl) e

-- ---- places of a stack
pub inside-push : (n : ℕ) (ks : List ℕ) (k : ℕ) → AreInside n ks → k < n → AreInside n (ks ++ k ∷ [])
inside-push n [] k i h = (h, tt)
inside-push n (j ∷ ks) k i h = (i.0, inside-push n ks k i.1 h)

pub inside-front : (n : ℕ) (ks ls : List ℕ) → AreInside n (ks ++ ls) → AreInside n ks
inside-front n [] ls i = tt
inside-front n (j ∷ ks) ls i = (i.0, inside-front n ks ls i.1)

pub inside-back : (n : ℕ) (ks ls : List ℕ) → AreInside n (ks ++ ls) → AreInside n ls
inside-back n [] ls i = i
inside-back n (j ∷ ks) ls i = inside-back n ks ls i.1

pub inside-last : (n : ℕ) (ks : List ℕ) (k : ℕ) → AreInside n (ks ++ k ∷ []) → k < n
inside-last n ks k i = (inside-back n ks (k ∷ []) i).0

pub inside-at : (n : ℕ) (ks : List ℕ) → AreInside n ks → (m : ℕ) → m < length ks → get_or ks m 0 < n
inside-at n [] i m h = absurd (omega (arith, h))
inside-at n (j ∷ ks) i zero h = i.0
inside-at n (j ∷ ks) i (suc m) h = inside-at n ks i.1 m (omega (arith, h))

-- the last place of a stack stands next
pub tops-push : {C A N : Type 0} (parts : List (Part C A N)) (ks : List ℕ) (k : ℕ) → tops parts (ks ++ k ∷ []) ≡ expr_at parts k ∷ tops parts ks
tops-push parts ks k = ap (map (expr_at parts)) (reverse-append ks (k ∷ []))
