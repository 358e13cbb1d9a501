-- Two lists that are gone through together, and sets of places that are gathered.
use Rattle.std.proofs.Common.{◌≡◌, ℕ, ◌+◌, ◌<◌, ◌≤◌, true, List, [], ◌∷◌, map, length, get_or, drop, arith, sym, ap, ◌∙◌, subst, ◌⊎◌, ◌↔◌, inl, inr, IsTrue, true≢false}
use Rattle.std.proofs.lemmas.List.{drop_all}
use Rattle.std.specs.List.{AllZip}
use Rattle.mcs_sets.specs.Sets.{has, single, union}
use Rattle.mcs_sets.proofs.Lattice.{in_with}
use Rattle.mcs_sets.proofs.SetLemmas.{has-empty}
use Rattle.mcs_base.proofs.Mapped.{map-drop_more}

-- ---- two lists that go together
module _ {A B C D : Type 0} (R : C → D → Type 0) (f : A → C) (g : B → D) (xs : List A) (ys : List B) where
  -- all go together exactly where those from the index on do
  abbrev pub GoFrom : ℕ → Type 0
  GoFrom i = AllZip R (map f xs) (map g ys) ↔ AllZip R (map f (drop i xs)) (map g (drop i ys))

  pub go_start : GoFrom 0
  go_start = (λ h. h, λ h. h)

  module _ (i : ℕ) (x : A) (y : B) (less : i < length xs) (less' : i < length ys) (is : x ≡ get_or xs i x) (is' : y ≡ get_or ys i y) where
    parts : AllZip R (map f (drop i xs)) (map g (drop i ys)) ↔ (R (f x) (g y) × AllZip R (map f (drop (i + 1) xs)) (map g (drop (i + 1) ys)))
    parts =
        subst (λ (cs : List C). AllZip R cs (map g (drop i ys)) ↔ (R (f x) (g y) × AllZip R (map f (drop (i + 1) xs)) (map g (drop (i + 1) ys)))) (sym (map-drop_more f xs i x less is))
        (subst (λ (ds : List D). AllZip R (f x ∷ map f (drop (i + 1) xs)) ds ↔ (R (f x) (g y) × AllZip R (map f (drop (i + 1) xs)) (map g (drop (i + 1) ys)))) (sym (map-drop_more g ys i y less' is'))
        (λ h. h, λ h. h))

    pub go_on : GoFrom i → R (f x) (g y) → GoFrom (i + 1)
    go_on go here = (λ h. (parts.0 (go.0 h)).1, λ h. go.1 (parts.1 (here, h)))

    pub go_stop : GoFrom i → ¬ R (f x) (g y) → ¬ AllZip R (map f xs) (map g ys)
    go_stop go not_here all = not_here (parts.0 (go.0 all)).0

  pub go_end : (i : ℕ) → length xs ≤ i → length xs ≡ length ys → GoFrom i → AllZip R (map f xs) (map g ys)
  go_end i past same go = go.1 (
      subst (λ (zs : List A). AllZip R (map f zs) (map g (drop i ys))) (sym (drop_all i xs past))
      (subst (λ (zs : List B). AllZip R [] (map g zs)) (sym (drop_all i ys (omega arith))) tt))

-- ---- places that are gathered
module _ (P : ℕ → Type 0) where
  -- the set has those of the first places for which it holds
  abbrev pub AreGathered : ℕ → ℕ → Type 0
  AreGathered s i = (b : ℕ) → IsTrue (has s b) ↔ ((b < i) × P b)

  pub gathered_taken : (s i : ℕ) → AreGathered s i → P i → AreGathered (union s (single i)) (i + 1)
  gathered_taken s i before here b = (
    λ h. elim ((in_with s i b).0 h) [
      | inl old ↦ let (less, holds) = (before b).0 old in (omega arith, holds)
      | inr same ↦ (omega arith, subst P (sym same) here)
    ],
    λ (less, holds). (in_with s i b).1 (elim (below_or b less) as (λ _. (has s b ≡ true) ⊎ (b ≡ i)) [
      | inl old ↦ inl ((before b).1 (old, holds))
      | inr same ↦ inr same
    ]),
  )
    where
      below_or : (b : ℕ) → b < i + 1 → (b < i) ⊎ (b ≡ i)
      below_or b less = grind arith

  pub gathered_passed : (s i : ℕ) → AreGathered s i → ¬ P i → AreGathered s (i + 1)
  gathered_passed s i before not_here b = (
    λ h. (let (less, holds) = (before b).0 h in (omega arith, holds)),
    λ (less, holds). (before b).1 (elim (below_or b less) as (λ _. b < i) [ inl old ↦ old | inr same ↦ absurd (not_here (subst P same holds)) ], holds),
  )
    where
      below_or : (b : ℕ) → b < i + 1 → (b < i) ⊎ (b ≡ i)
      below_or b less = grind arith

  pub gathered_none : (s : ℕ) → s ≡ 0 → AreGathered s 0
  gathered_none s none b = (λ h. absurd (true≢false (sym h ∙ ap (λ (x : ℕ). has x b) none ∙ has-empty b)), λ (less, holds). absurd (omega arith))

  pub gathered_all : (s i n : ℕ) → n ≤ i → ((b : ℕ) → P b → b < n) → AreGathered s i → (b : ℕ) → IsTrue (has s b) ↔ P b
  gathered_all s i n past low gathered b = (λ h. ((gathered b).0 h).1, λ holds. (gathered b).1 ((let less = low b holds in omega arith), holds))
