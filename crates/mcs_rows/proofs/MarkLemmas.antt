-- The marks of sets of rules, one rule after the other.
use Rattle.std.proofs.Common.{◌≡◌, ℕ, ◌+◌, ◌*◌, ◌/◌, ◌%◌, ◌<◌, zero, suc, Bool, true, false, ◌&&◌, ◌||◌, cond, eqb, ltb, List, length, refl, sym, ap, ◌∙◌, arith}
use Rattle.std.proofs.lemmas.Bool.{and_parts, and_from}
use Rattle.std.proofs.lemmas.Bool.Decides.{nat_tests}
use Rattle.std.proofs.Math.Bool.{and-false}
use Rattle.std.specs.Cmp.{both_ways}
use Rattle.std.specs.List.{list_any}
use Rattle.mcs_sets.specs.Sets.{has, members, Within}
use Rattle.mcs_sets.proofs.SetLemmas.{same_set, has-empty}
use Rattle.mcs_base.proofs.Among.{any_get, among_any, among_get}
use Rattle.mcs_base.proofs.ListingLemmas.{members_listing}
use Rattle.mcs_system.specs.Plain.{System}
use Rattle.mcs_system.specs.Systems.{all_rules}
use Rattle.mcs_system.specs.Repairs.{mark_of, marks_of}
use Rattle.mcs_system.proofs.MarkLemmas.{has-all_rules, has-marks_of}

-- whether k is the mark of one of the rules
abbrev pub is_marked : ℕ → List ℕ → ℕ → Bool
is_marked offset rules k = list_any (λ r. eqb k (2 * r + offset)) rules

pub marked-members : (offset rules k : ℕ) → offset < 2 → is_marked offset (members rules) k ≡ (eqb (k % 2) offset && has rules (k / 2))
marked-members offset rules k small = both_ways _ _ to from
  where
    to : is_marked offset (members rules) k ≡ true → (eqb (k % 2) offset && has rules (k / 2)) ≡ true
    to e =
        let (j, r, at_j, test) = any_get (λ r. eqb k (2 * r + offset)) (members rules) e in
        let here : has rules r ≡ true = ((members_listing rules).exactly r).0 (among_get r (members rules) j at_j) in
        let is : k ≡ 2 * r + offset = grind (arith, nat_tests) in
        let rest : k % 2 ≡ offset = omega arith in
        let half : k / 2 ≡ r = omega arith in
        and_from (eqb (k % 2) offset) (has rules (k / 2)) (grind (arith, nat_tests)) (ap (has rules) half ∙ here)

    from : (eqb (k % 2) offset && has rules (k / 2)) ≡ true → is_marked offset (members rules) k ≡ true
    from e =
        let (even, here) = and_parts (eqb (k % 2) offset) (has rules (k / 2)) e in
        let rest : k % 2 ≡ offset = grind (arith, nat_tests) in
        let is : k ≡ 2 * (k / 2) + offset = omega arith in
        among_any (λ r. eqb k (2 * r + offset)) (members rules) (k / 2) (((members_listing rules).exactly (k / 2)).1 here) (grind (arith, nat_tests))

pub marks_are : (m : System) (a b none mid all : ℕ) → Within a (all_rules m) → Within b (all_rules m) → none ≡ 0 → ((k : ℕ) → has mid k ≡ (has none k || (eqb (k % 2) 0 && has a (k / 2)))) → ((k : ℕ) → has all k ≡ (has mid k || (eqb (k % 2) 1 && has b (k / 2)))) → all ≡ marks_of m a b
marks_are m a b none mid all within_a within_b is of_a of_b = same_set _ _ (λ k. of_b k ∙ ap (λ u. u || (eqb (k % 2) 1 && has b (k / 2))) (of_a k ∙ ap (λ u. u || (eqb (k % 2) 0 && has a (k / 2))) (ap (λ s. has s k) is ∙ has-empty k)) ∙ at k ∙ sym (has-marks_of m a b k))
  where
    at : (k : ℕ) → ((false || (eqb (k % 2) 0 && has a (k / 2))) || (eqb (k % 2) 1 && has b (k / 2))) ≡ (ltb k (2 * length m.bridges) && mark_of a b k)
    at k = by (k % 2) refl (has a (k / 2)) refl (has b (k / 2)) refl
      where
        by : (p : ℕ) → k % 2 ≡ p → (u : Bool) → has a (k / 2) ≡ u → (v : Bool) → has b (k / 2) ≡ v → ((false || (eqb p 0 && u)) || (eqb p 1 && v)) ≡ (ltb k (2 * length m.bridges) && cond (eqb p 0) u v)
        by zero e true e' v e'' = let known = sym (has-all_rules m (k / 2)) ∙ within_a (k / 2) e' in let less : ltb k (2 * length m.bridges) ≡ true = grind (arith, nat_tests) in rw less refl
        by zero e false e' v e'' = sym (and-false (ltb k (2 * length m.bridges)))
        by (suc zero) e u e' true e'' = let known = sym (has-all_rules m (k / 2)) ∙ within_b (k / 2) e'' in let less : ltb k (2 * length m.bridges) ≡ true = grind (arith, nat_tests) in rw less refl
        by (suc zero) e u e' false e'' = sym (and-false (ltb k (2 * length m.bridges)))
        by (suc (suc p)) e u e' v e'' = absurd (omega arith)
