-- What the tokens of a formula, and of a program rule, are there for.
use Rattle.std.proofs.Common.{◌≡◌, ℕ, ◌+◌, ◌<◌, ◌≤◌, max, codes, List, [], ◌∷◌, ◌++◌, refl, sym, ap, ◌∙◌, inl, inr, ◌⊎◌, subst, arith}
use Rattle.std.proofs.lemmas.Bool.{cases_lt}
use Rattle.mcs_base.specs.Listings.{IsAmong}
use Rattle.mcs_base.proofs.Among.{among_left, among_right, among_either}
use Rattle.mcs_system.specs.Plain.{Name}
use Rattle.mcs_system.specs.Logic.{atoms}
use Rattle.mcs_grammar.specs.Written.{Written, True', False', Named, Prefixed, Grouped, Joins}
use Rattle.mcs_grammar.specs.Entries.{Use, AtomOf, IsNumber, OpensWithin, Entry, entry, formula_in, size_of, formula_entries, whole_entries, uses_of}
use Rattle.mcs_account.proofs.Signs.{prefix-atoms}
use Rattle.mcs_account.proofs.UsesParts.{depth_of}
use Rattle.mcs_account.proofs.EntryLists.{uses-append, uses-end}

-- these atoms of the context, the numbers above `from` and up to `to`, and the parentheses within `low` others up to below `high`
abbrev pub IsPartUse : (c : Name) (names : List Name) (from to low high : ℕ) → Use → Type 0
IsPartUse c names from to low high (AtomOf d a) = (d ≡ c) × IsAmong a names
IsPartUse c names from to low high (IsNumber k) = (from < k) × (k ≤ to)
IsPartUse c names from to low high (OpensWithin k) = (low ≤ k) × (k < high)
IsPartUse c names from to low high u = ⊥

pub record ArePartUses (c : Name) (names : List Name) (from to low high : ℕ) (us : List Use) : Type 0 where
  pub are : (u : Use) → IsAmong u us → IsPartUse c names from to low high u
  pub there : (u : Use) → IsPartUse c names from to low high u → IsAmong u us

-- two parts, one after another
module _ (c : Name) (xs ys : List Name) (from middle to low high high' : ℕ) (first : from ≤ middle) (second : middle ≤ to) where
  join-are : (u : Use) → IsPartUse c xs from middle low high u ⊎ IsPartUse c ys middle to low high' u → IsPartUse c (xs ++ ys) from to low (max high high') u
  join-are (AtomOf d a) (inl h) = (h.0, among_left a xs ys h.1)
  join-are (AtomOf d a) (inr h) = (h.0, among_right a xs ys h.1)
  join-are (IsNumber k) (inl h) = omega (arith, first, second)
  join-are (IsNumber k) (inr h) = omega (arith, first, second)
  join-are (OpensWithin k) (inl h) = omega arith
  join-are (OpensWithin k) (inr h) = omega arith
  join-are u (inl h) = absurd h
  join-are u (inr h) = absurd h

  join-there : (u : Use) → IsPartUse c (xs ++ ys) from to low (max high high') u → IsPartUse c xs from middle low high u ⊎ IsPartUse c ys middle to low high' u
  join-there (AtomOf d a) h = elim (among_either a xs ys h.1) [ inl x ↦ inl (h.0, x) | inr y ↦ inr (h.0, y) ]
  join-there (IsNumber k) h = elim (cases_lt middle k) [ inl less ↦ inr (less, h.1) | inr most ↦ inl (h.0, most) ]
  join-there (OpensWithin k) h = elim (cases_lt k high) [ inl less ↦ inl (h.0, less) | inr most ↦ inr (h.0, omega arith) ]
  join-there u h = absurd h

  pub join-parts : (us vs : List Use) → ArePartUses c xs from middle low high us → ArePartUses c ys middle to low high' vs → ArePartUses c (xs ++ ys) from to low (max high high') (us ++ vs)
  join-parts us vs h h' = record {
    are = λ u among. join-are u (elim (among_either u us vs among) [ inl a ↦ inl (h.are u a) | inr b ↦ inr (h'.are u b) ]);
    there = λ u part. elim (join-there u part) [ inl a ↦ among_left u us vs (h.there u a) | inr b ↦ among_right u us vs (h'.there u b) ];
  }

pub same-part : (c : Name) (xs ys : List Name) (from to to' low high high' : ℕ) (us vs : List Use) → xs ≡ ys → to ≡ to' → high ≡ high' → us ≡ vs → ArePartUses c xs from to low high us → ArePartUses c ys from to' low high' vs
same-part c xs ys from to to' low high high' us vs names last depth uses h =
    subst (λ (zs : List Name). ArePartUses c zs from to' low high' vs) names
    (subst (λ (k : ℕ). ArePartUses c xs from k low high' vs) last
    (subst (λ (k : ℕ). ArePartUses c xs from to low k vs) depth
    (subst (λ (ws : List Use). ArePartUses c xs from to low high ws) uses h)))

-- ---- single tokens
module _ (c : Name) (n o : ℕ) where
  pub none-part : ArePartUses c [] n n o o []
  none-part = record { are = λ u h. absurd h; there = there }
    where
      there : (u : Use) → IsPartUse c [] n n o o u → IsAmong u []
      there (AtomOf d a) h = h.1
      there (IsNumber k) h = omega arith
      there (OpensWithin k) h = omega arith
      there u h = h

  pub number-part : ArePartUses c [] n (n + 1) o o (IsNumber (n + 1) ∷ [])
  number-part = record { are = are; there = there }
    where
      are : (u : Use) → IsAmong u (IsNumber (n + 1) ∷ []) → IsPartUse c [] n (n + 1) o o u
      are u (inl e) = subst (IsPartUse c [] n (n + 1) o o) (sym e) (omega arith, omega arith)
      are u (inr h) = absurd h

      there : (u : Use) → IsPartUse c [] n (n + 1) o o u → IsAmong u (IsNumber (n + 1) ∷ [])
      there (AtomOf d a) h = absurd h.1
      there (IsNumber k) h = let same : k ≡ n + 1 = omega arith in inl (ap (λ (i : ℕ). IsNumber i) same)
      there (OpensWithin k) h = absurd (omega arith)
      there u h = absurd h

  pub atom-part : (a : Name) → ArePartUses c (a ∷ []) n (n + 1) o o (AtomOf c a ∷ IsNumber (n + 1) ∷ [])
  atom-part a = record { are = are; there = there }
    where
      are : (u : Use) → IsAmong u (AtomOf c a ∷ IsNumber (n + 1) ∷ []) → IsPartUse c (a ∷ []) n (n + 1) o o u
      are u (inl e) = subst (IsPartUse c (a ∷ []) n (n + 1) o o) (sym e) (refl, inl refl)
      are u (inr (inl e)) = subst (IsPartUse c (a ∷ []) n (n + 1) o o) (sym e) (omega arith, omega arith)
      are u (inr (inr h)) = absurd h

      atom : (d b : Name) → d ≡ c → IsAmong b (a ∷ []) → AtomOf d b ≡ AtomOf c a
      atom d b same (inl e) = ap (λ (x : Name). AtomOf x b) same ∙ ap (λ (x : Name). AtomOf c x) e
      atom d b same (inr h) = absurd h

      there : (u : Use) → IsPartUse c (a ∷ []) n (n + 1) o o u → IsAmong u (AtomOf c a ∷ IsNumber (n + 1) ∷ [])
      there (AtomOf d b) h = inl (atom d b h.0 h.1)
      there (IsNumber k) h = let same : k ≡ n + 1 = omega arith in inr (inl (ap (λ (i : ℕ). IsNumber i) same))
      there (OpensWithin k) h = absurd (omega arith)
      there u h = absurd h

-- an opening parenthesis, and what is in it
open-part : (c : Name) (xs : List Name) (from to o high : ℕ) (us : List Use) → o < high → ArePartUses c xs from to (o + 1) high us → ArePartUses c xs from to o high (OpensWithin o ∷ us)
open-part c xs from to o high us some h = record { are = are; there = there }
  where
    wider : (u : Use) → IsPartUse c xs from to (o + 1) high u → IsPartUse c xs from to o high u
    wider (AtomOf d a) p = p
    wider (IsNumber k) p = p
    wider (OpensWithin k) p = omega arith
    wider u p = p

    are : (u : Use) → IsAmong u (OpensWithin o ∷ us) → IsPartUse c xs from to o high u
    are u (inl e) = subst (IsPartUse c xs from to o high) (sym e) (omega arith, some)
    are u (inr among) = wider u (h.are u among)

    there : (u : Use) → IsPartUse c xs from to o high u → IsAmong u (OpensWithin o ∷ us)
    there (AtomOf d a) p = inr (h.there (AtomOf d a) p)
    there (IsNumber k) p = inr (h.there (IsNumber k) p)
    there (OpensWithin k) p = elim (cases_lt o k) [
      | inl less ↦ inr (h.there (OpensWithin k) (omega arith, p.1))
      | inr most ↦ let same : k ≡ o = omega (arith, p.0) in inl (ap (λ (i : ℕ). OpensWithin i) same)
    ]
    there u p = absurd p

-- ---- formulas
-- two operands with a sign between them
binary-part : (c : Name) (xs ys : List Name) (n s s' o d d' : ℕ) (us vs : List Use) → ArePartUses c xs n (n + s) o (o + d) us → ArePartUses c ys (n + s + 1) (n + s + 1 + s') o (o + d') vs → ArePartUses c (xs ++ ys) n (n + (s + s' + 1)) o (o + max d d') (us ++ IsNumber (n + s + 1) ∷ vs)
binary-part c xs ys n s s' o d d' us vs h h' =
    let right : ArePartUses c ys (n + s) (n + s + 1 + s') o (max o (o + d')) (IsNumber (n + s + 1) ∷ vs) = join-parts c [] ys (n + s) (n + s + 1) (n + s + 1 + s') o o (o + d') (omega arith) (omega arith) (IsNumber (n + s + 1) ∷ []) vs (number-part c (n + s) o) h' in
    same-part c (xs ++ ys) (xs ++ ys) n (n + s + 1 + s') (n + (s + s' + 1)) o (max (o + d) (max o (o + d'))) (o + max d d') (us ++ IsNumber (n + s + 1) ∷ vs) (us ++ IsNumber (n + s + 1) ∷ vs) refl (omega arith) (omega arith) refl
    (join-parts c xs ys n (n + s) (n + s + 1 + s') o (o + d) (max o (o + d')) (omega arith) (omega arith) us (IsNumber (n + s + 1) ∷ vs) h right)

binary-uses : (c : Name) (n o : ℕ) (f : Written) (m : Entry) (ms : List Entry) → uses_of (formula_entries c n o f ++ m ∷ ms) ≡ uses_of (formula_entries c n o f) ++ (m.uses ++ uses_of ms)
binary-uses c n o f m ms = uses-append (formula_entries c n o f) (m ∷ ms)

part-with : (c : Name) (xs : List Name) (from to low high : ℕ) (us vs : List Use) → vs ≡ us → ArePartUses c xs from to low high us → ArePartUses c xs from to low high vs
part-with c xs from to low high us vs e h = subst (λ (ws : List Use). ArePartUses c xs from to low high ws) (sym e) h

part-names : (c : Name) (xs ys : List Name) (from to low high : ℕ) (us : List Use) → ys ≡ xs → ArePartUses c xs from to low high us → ArePartUses c ys from to low high us
part-names c xs ys from to low high us e h = subst (λ (ns : List Name). ArePartUses c ns from to low high us) (sym e) h

pub formula-part : (c : Name) (n o : ℕ) (f : Written) → ArePartUses c (atoms (formula_in f)) n (n + size_of f) o (o + depth_of f) (uses_of (formula_entries c n o f))
formula-part c n o True' = same-part c [] [] n (n + 1) (n + 1) o o (o + 0) _ _ refl refl (omega arith) refl (number-part c n o)
formula-part c n o False' = same-part c [] [] n (n + 1) (n + 1) o o (o + 0) _ _ refl refl (omega arith) refl (number-part c n o)
formula-part c n o (Named a) = same-part c (a ∷ []) (a ∷ []) n (n + 1) (n + 1) o o (o + 0) _ _ refl refl (omega arith) refl (atom-part c n o a)
formula-part c n o (Prefixed p f) =
    let xs : List Name = atoms (formula_in f) in
    part-names c xs _ n _ o _ _ (prefix-atoms p (formula_in f)) (
    let us : List Use = uses_of (formula_entries c (n + 1) o f) in
    same-part c xs xs n (n + 1 + size_of f) (n + (size_of f + 1)) o (max o (o + depth_of f)) (o + depth_of f) (IsNumber (n + 1) ∷ us) (IsNumber (n + 1) ∷ us) refl (omega arith) (omega arith) refl
    (join-parts c [] xs n (n + 1) (n + 1 + size_of f) o o (o + depth_of f) (omega arith) (omega arith) (IsNumber (n + 1) ∷ []) us (number-part c n o) (formula-part c (n + 1) o f)))
formula-part c n o (Grouped f) =
    let xs : List Name = atoms (formula_in f) in
    let us : List Use = uses_of (formula_entries c n (o + 1) f) in
    let vs : List Use = uses_of (formula_entries c n (o + 1) f ++ entry (codes ")") [] ∷ []) in
    same-part c xs xs n (n + size_of f) (n + size_of f) o (o + 1 + depth_of f) (o + (depth_of f + 1)) (OpensWithin o ∷ us) (OpensWithin o ∷ vs) refl refl (omega arith) (ap (λ (ws : List Use). OpensWithin o ∷ ws) (sym (uses-end (formula_entries c n (o + 1) f) (entry (codes ")") []) refl)))
    (open-part c xs n (n + size_of f) o (o + 1 + depth_of f) us (omega arith) (formula-part c n (o + 1) f))
formula-part c n o (Joins j f g) = part-with c _ n _ o _ _ _ (binary-uses c n o f _ _) (binary-part c _ _ n (size_of f) (size_of g) o (depth_of f) (depth_of g) _ _ (formula-part c n o f) (formula-part c (n + size_of f + 1) o g))

pub whole-part : (c : Name) (f : Written) → ArePartUses c (atoms (formula_in f)) 0 (size_of f) 0 (depth_of f) (uses_of (whole_entries c f))
whole-part c f = same-part c _ _ 0 (0 + size_of f) (size_of f) 0 (0 + depth_of f) (depth_of f) _ _ refl (omega arith) (omega arith) refl (formula-part c 0 0 f)
