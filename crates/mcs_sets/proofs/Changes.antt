-- Sets with one member more, or without one: what they have beside other sets, and how many members.
use Rattle.std.proofs.Common.{◌≡◌, ℕ, ◌+◌, ◌≤◌, true, false, eqb, refl, sym, ap, ◌∙◌, inl, inr, ◌⊎◌, arith, true≢false}
use Rattle.std.proofs.lemmas.Bool.{cases_eq}
use Rattle.std.proofs.lemmas.Bool.Decides.{nat_tests}
use Rattle.mcs_sets.specs.Sets.{has, single, union, minus, size, Within}
use Rattle.mcs_sets.proofs.SetLemmas.{same_set, has-empty, has-single, has-union, has-minus, least_below, below_power}
use Rattle.mcs_sets.proofs.Lattice.{in_minus, in_with, has-without_itself, size_within, size-without}

pub within_where_none : (a b : ℕ) → minus a b ≡ 0 → Within a b
within_where_none a b none k is = let e = has-minus a b k in let e' = ap (λ (s : ℕ). has s k) none in let e'' = has-empty k in grind arith

pub some_member : (s : ℕ) → (s ≡ 0) ⊎ ((k : ℕ) × (has s k ≡ true))
some_member s = elim (least_below s s (below_power s)) [ inl none ↦ inl none | inr (k, less, is, before) ↦ inr (k, is) ]

pub size-with : (s r : ℕ) → size (union s (single r)) ≤ size s + 1
size-with s r =
    let all : ℕ = union s (single r) in
    let rest : size (minus all (single r)) ≤ size s = size_within (minus all (single r)) s (λ k is. let e = has-minus all (single r) k in let e' = has-union s (single r) k in grind arith) in
    omega (arith, size-without all r ((in_with s r r).1 (inr refl)), rest)

pub with_without : (s r : ℕ) → has s r ≡ false → minus (union s (single r)) (single r) ≡ s
with_without s r out = same_set _ _ (λ k. elim (cases_eq k r) [
  | inl same ↦ ap (λ (j : ℕ). has (minus (union s (single r)) (single r)) j) same ∙ has-without_itself (union s (single r)) r ∙ sym out ∙ ap (λ (j : ℕ). has s j) (sym same)
  | inr differ ↦ let e : eqb k r ≡ false = grind (arith, nat_tests) in let e1 = has-minus (union s (single r)) (single r) k in let e2 = has-union s (single r) k in let e3 = has-single r k in grind arith
])

pub swap-minus : (a b c : ℕ) → minus (minus a b) c ≡ minus (minus a c) b
swap-minus a b c = same_set _ _ (λ k. grind (arith, has-minus))

pub fewer_left : (a b c : ℕ) → Within (minus (minus a c) b) (minus a b)
fewer_left a b c k is = grind (arith, has-minus)

pub fewer_missing : (a b c : ℕ) → Within (minus a (union b c)) (minus a b)
fewer_missing a b c k is = grind (arith, has-minus, has-union)

-- what is beside b in a with one more
pub beside_more : (a b r k : ℕ) → has (minus (union a (single r)) b) k ≡ true → (has (minus a b) k ≡ true) ⊎ (k ≡ r)
beside_more a b r k is =
    let (member, out) = in_minus (union a (single r)) b k is in
    elim ((in_with a r k).0 member) [ inl old ↦ inl (has-minus a b k ∙ rw (old, out) refl) | inr same ↦ inr same ]

pub not_same : (a k r : ℕ) → has a k ≡ true → has a r ≡ false → ¬ (k ≡ r)
not_same a k r is out same = true≢false (sym is ∙ ap (λ (j : ℕ). has a j) same ∙ out)
