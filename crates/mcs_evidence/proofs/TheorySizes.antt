-- How many defaults a set has, and how large the formulas are that it generates.
use Rattle.std.proofs.Common.{◌≡◌, ℕ, ◌+◌, ◌*◌, ◌^◌, ◌<◌, ◌≤◌, Bool, true, false, cond, List, [], ◌∷◌, map, length, length-append, refl, sym, ap, ◌∙◌, arith}
use Rattle.std.proofs.lemmas.List.{length-map}
use Rattle.std.specs.List.{AllByRecursion}
use Rattle.mcs_sets.specs.Sets.{has, members_from, size}
use Rattle.mcs_sets.proofs.SetLemmas.{members-width}
use Rattle.mcs_base.proofs.Each.{all_get}
use Rattle.mcs_system.specs.Plain.{Default, Item, Fact, Rule}
use Rattle.mcs_system.proofs.SizeLemmas.{IsSmall, IsSmallDefault, IsSmallItem}
use Rattle.mcs_cnf.proofs.SizeLemmas.{sizes, sizes_up_to}
use Rattle.mcs_evidence.specs.Defaults.{facts_of, defaults_of, defaults_at, defaults_in, generated}
use Rattle.mcs_evidence.proofs.DefaultLemmas.{by_kind, generated_each}

-- ---- the defaults of a set
pub as_many_at : (k : ℕ) (ds : List Default) (set : ℕ) → length (defaults_at k ds set) ≡ length (members_from k (length ds) set)
unfolding members_from
as_many_at k [] set = refl
as_many_at k (d ∷ ds) set = at (has set k) (as_many_at (k + 1) ds set)
  where
    at : (b : Bool) → length (defaults_at (k + 1) ds set) ≡ length (members_from (k + 1) (length ds) set)
        → length (cond b (d ∷ defaults_at (k + 1) ds set) (defaults_at (k + 1) ds set)) ≡ length (cond b (k ∷ members_from (k + 1) (length ds) set) (members_from (k + 1) (length ds) set))
    at true rest = omega (arith, rest)
    at false rest = rest

pub as_many : (items : List Item) (set : ℕ) → set < 2 ^ length (defaults_of items) → length (defaults_in items set) ≡ size set
as_many items set small = as_many_at 0 (defaults_of items) set ∙ sym (ap length (members-width set (length (defaults_of items)) small))

few_at : (k : ℕ) (ds : List Default) (set : ℕ) → length (defaults_at k ds set) ≤ length ds
few_at k [] set = omega arith
few_at k (d ∷ ds) set = at (has set k) (few_at (k + 1) ds set)
  where
    at : (b : Bool) → length (defaults_at (k + 1) ds set) ≤ length ds
        → length (cond b (d ∷ defaults_at (k + 1) ds set) (defaults_at (k + 1) ds set)) ≤ length (d ∷ ds)
    at true rest = omega arith
    at false rest = omega arith

-- ---- what is generated
of_two_kinds : (items : List Item) → length (facts_of items) + length (defaults_of items) ≡ length items
of_two_kinds [] = refl
of_two_kinds (Fact f ∷ items) = omega (arith, of_two_kinds items)
of_two_kinds (Rule d ∷ items) = omega (arith, of_two_kinds items)

module _ (items : List Item) (small : AllByRecursion IsSmallItem items) where
  kinds : AllByRecursion IsSmall (facts_of items) × AllByRecursion IsSmallDefault (defaults_of items)
  kinds = by_kind IsSmallItem items small

  pub facts_size : sizes (facts_of items) ≤ length items * 512
  facts_size = omega (arith, sizes_up_to 512 (facts_of items) kinds.0, of_two_kinds items)

  each : (set : ℕ) → AllByRecursion IsSmall (generated items set)
  each set = generated_each items set IsSmall kinds.0 (λ k d is member. (all_get IsSmallDefault (defaults_of items) k d kinds.1 is).conclusion)

  pub generated_size : (set : ℕ) → sizes (generated items set) ≤ length items * 512
  generated_size set = let all = each set in omega (
    arith,
    sizes_up_to 512 (generated items set) all,
    length-append (facts_of items) (map (λ (d : Default). d.conclusion) (defaults_in items set)),
    length-map (defaults_in items set) (λ (d : Default). d.conclusion),
    few_at 0 (defaults_of items) set,
    of_two_kinds items,
  )
