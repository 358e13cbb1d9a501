-- Lists that go together place by place.
use Rattle.std.proofs.Common.{◌≡◌, ℕ, List, ◌∷◌, length, get_or, drop, ◌<◌, ◌≤◌, ◌+◌, sym, ap, ◌∙◌}
use Rattle.std.proofs.lemmas.List.{drop_more, drop_all}
use Rattle.mcs_sets.specs.Sets.{union}
use Rattle.mcs_sets.proofs.Lattice.{union_assoc, union-none}
use Rattle.mcs_table.specs.Joins.{union_of}

-- ---- what is in some of the sets that f gives, gathered one after the other
module _ {A : Type 0} (f : A → ℕ) (xs : List A) (i : ℕ) (all : ℕ) where
  pub union_of_more : (x : A) → i < length xs → x ≡ get_or xs i x → union all (union_of f (drop i xs)) ≡ union_of f xs → union (union all (f x)) (union_of f (drop (i + 1) xs)) ≡ union_of f xs
  union_of_more x less here so_far =
      let split : drop i xs ≡ x ∷ drop (i + 1) xs = drop_more xs i x less ∙ ap (λ y. y ∷ drop (i + 1) xs) (sym here) in
      union_assoc all (f x) (union_of f (drop (i + 1) xs)) ∙ (ap (λ ys. union all (union_of f ys)) (sym split) ∙ so_far)

  pub union_of_end : length xs ≤ i → union all (union_of f (drop i xs)) ≡ union_of f xs → all ≡ union_of f xs
  union_of_end past so_far = sym (union-none all) ∙ (ap (λ ys. union all (union_of f ys)) (sym (drop_all i xs past)) ∙ so_far)
