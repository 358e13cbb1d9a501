-- What tests of sets of places say of the atoms at them.
use Rattle.std.proofs.Common.{◌≡◌, ℕ, ◌+◌, ◌-◌, ◌<◌, ◌≤◌, zero, suc, Bool, true, false, not, ◌&&◌, ◌||◌, ltb, List, [], ◌∷◌, ◌++◌, ◌↔◌, inl, inr, map, length, get_or, Some, slice_get, arith, refl, sym, ap, ◌∙◌, subst, true≢false}
use Rattle.std.proofs.lemmas.Bool.{and_parts, and_from, or_parts, or_cases, or_left, or_right, eq-eqb, eqb-true, not_from_false, not-true, false_from_ne_true, true_from_ne_false}
use Rattle.std.proofs.lemmas.Bool.Decides.{nat_tests}
use Rattle.std.proofs.lemmas.List.{length-map}
use Rattle.std.proofs.lemmas.List.Folds.{list_all-append, list_any-append}
use Rattle.std.proofs.lemmas.Option.{slice_get_within}
use Rattle.std.proofs.Math.Bool.{and-true, or-false}
use Rattle.std.specs.Cmp.{both_ways}
use Rattle.std.specs.Prelude.{nat_eq}
use Rattle.std.specs.List.{AllByRecursion, AllZip, list_all}
use Rattle.mcs_sets.specs.Sets.{has, single, union, common, such_that, Meets}
use Rattle.mcs_sets.proofs.SetLemmas.{meets_where_common, common_where_meets, below_power, has-empty, has-such_that}
use Rattle.mcs_sets.proofs.Lattice.{in_with, none_within}
use Rattle.mcs_base.proofs.AntichainLemmas.{lies_within-is}
use Rattle.mcs_base.proofs.Lists.{slice_get-map_at, zip_get_or, length_zip}
use Rattle.mcs_system.specs.Plain.{Name, Formula, Atom, ProgramRule}
use Rattle.mcs_system.specs.Logic.{same_name, is_in, holds, holds_all, true_names, Atoms, Believes}
use Rattle.mcs_system.specs.Views.{Shows}
use Rattle.mcs_system.specs.Faults.{has_twins}
use Rattle.mcs_system.proofs.Sameness.{same_name-is, same_name-itself}
use Rattle.mcs_cnf.specs.ClauseLists.{atom_number}
use Rattle.mcs_cnf.proofs.NumberLemmas.{atom_positive, atom_within}
use Rattle.mcs_classical.proofs.RefutingLemmas.{named_at}
use Rattle.mcs_cnf.specs.Entailments.{IsModelAt}
use Rattle.mcs_evidence.specs.Programs.{false_names, rule_formula, beside_formula, other_formula, rest_formulas, is_broken_by, IsInRange}
use Rattle.mcs_evidence.proofs.Models.{all_in, any_in, all_in_each, all_in_from, any_in_some, none_in, rule_formula-holds, beside-holds, true_names-known, false_names-known, true_or_false, true_not_false}
use Rattle.mcs_program.specs.declared.placing.PlacedRule.{PlacedRule}
use Rattle.mcs_program.specs.declared.placing.Placing.{Placing}
use Rattle.mcs_program.specs.Placing.{places_within, do_meet, placed_holds, placed_blocked, lies_beside, view_at, may_be_model, is_other, IsPlaceOf, ArePlaces, IsPlacedRule, IsPlacing}
use Rattle.mcs_program.proofs.SearchLemmas.{rest_value}
use Rattle.mcs_program.proofs.SmallLemmas.{blocked_value, others_value, IsLow}

-- ---- the tests
pub meet_test : (a b : ℕ) → (do_meet a b ≡ true) ↔ Meets a b
meet_test a b = (
  λ h. meets_where_common a b a (below_power a) (λ e. true≢false (sym h ∙ ap not (eq-eqb (common a b) 0 e))),
  λ m. not_from_false (nat_eq (common a b) 0) (false_from_ne_true (nat_eq (common a b) 0) (λ h. common_where_meets a b m (eqb-true (common a b) 0 h))),
)

within_with : (p s j : ℕ) → places_within (union p (single j)) s ≡ (places_within p s && has s j)
within_with p s j = both_ways _ _ to from
  where
    to : places_within (union p (single j)) s ≡ true → (places_within p s && has s j) ≡ true
    to h =
        let w = (lies_within-is (union p (single j)) s).0 h in
        and_from (places_within p s) (has s j) ((lies_within-is p s).1 (λ k m. w k ((in_with p j k).1 (inl m)))) (w j ((in_with p j j).1 (inr refl)))

    from : (places_within p s && has s j) ≡ true → places_within (union p (single j)) s ≡ true
    from h =
        let (w, m) = and_parts (places_within p s) (has s j) h in
        (lies_within-is (union p (single j)) s).1 (λ k there. elim ((in_with p j k).0 there) [ inl old ↦ (lies_within-is p s).0 w k old | inr same ↦ ap (has s) same ∙ m ])

meet_with : (p s j : ℕ) → do_meet (union p (single j)) s ≡ (do_meet p s || has s j)
meet_with p s j = both_ways _ _ to from
  where
    to : do_meet (union p (single j)) s ≡ true → (do_meet p s || has s j) ≡ true
    to h =
        let m : Meets (union p (single j)) s = (meet_test (union p (single j)) s).0 h in
        elim ((in_with p j m.member).0 m.in_first) [
          | inl old ↦ or_left (do_meet p s) (has s j) ((meet_test p s).1 (record { member = m.member; in_first = old; in_second = m.in_second }))
          | inr same ↦ or_right (do_meet p s) (has s j) (ap (has s) (sym same) ∙ m.in_second)
        ]

    from : (do_meet p s || has s j) ≡ true → do_meet (union p (single j)) s ≡ true
    from h = (meet_test (union p (single j)) s).1 (elim (or_cases (do_meet p s) (has s j) h) as (λ _. Meets (union p (single j)) s) [
      | inl old ↦ let m : Meets p s = (meet_test p s).0 old in record { member = m.member; in_first = (in_with p j m.member).1 (inl m.in_first); in_second = m.in_second }
      | inr here ↦ record { member = j; in_first = (in_with p j j).1 (inr refl); in_second = here }
    ])

-- ---- places of names
pub place_is : (names : List Name) (n : Name) (j : ℕ) → has_twins names ≡ false → is_in n names ≡ true → j ≡ atom_number names n - 1 → IsPlaceOf names n j
place_is names n j single known e =
    let number : atom_number names n ≡ j + 1 = omega (arith, atom_positive names n) in record {
      below = omega (arith, atom_within names n known);
      tells = λ s. let z : 0 + j ≡ j = omega arith in named_at n 0 s j names single known number ∙ ap (has s) z;
    }

pub no_places : (names : List Name) (p : ℕ) → p ≡ 0 → ArePlaces names [] p
no_places names p e = subst (ArePlaces names []) (sym e) (record {
  all = λ s. (lies_within-is 0 s).1 (none_within s);
  some = λ s. false_from_ne_true (do_meet 0 s) (λ h. let m : Meets 0 s = (meet_test 0 s).0 h in true≢false (sym m.in_first ∙ has-empty m.member));
})

pub more_places : (names these : List Name) (n : Name) (j p p' : ℕ) → IsPlaceOf names n j → p' ≡ union p (single j) → ArePlaces names these p → ArePlaces names (these ++ n ∷ []) p'
more_places names these n j p p' is e old = subst (ArePlaces names (these ++ n ∷ [])) (sym e) (record {
  all = λ s. within_with p s j ∙ ap (λ b. b && has s j) (old.all s) ∙ ap (λ b. all_in (true_names 0 names s) these && b) (sym (is.tells s))
      ∙ sym (list_all-append (λ n. is_in n (true_names 0 names s)) these (n ∷ []) ∙ ap (λ b. all_in (true_names 0 names s) these && b) (and-true (is_in n (true_names 0 names s))));
  some = λ s. meet_with p s j ∙ ap (λ b. b || has s j) (old.some s) ∙ ap (λ b. any_in (true_names 0 names s) these || b) (sym (is.tells s))
      ∙ sym (list_any-append (λ n. is_in n (true_names 0 names s)) these (n ∷ []) ∙ ap (λ b. any_in (true_names 0 names s) these || b) (or-false (is_in n (true_names 0 names s))));
})

-- each place has a name
named : (names : List Name) (k : ℕ) → has_twins names ≡ false → k < length names → (n : Name) × (is_in n names ≡ true) × (atom_number names n ≡ k + 1)
named [] k single less = absurd (omega arith)
named (m ∷ names) zero single less = (m, or_left (same_name m m) (is_in m names) (same_name-itself m), rw (same_name-itself m) (omega arith))
named (m ∷ names) (suc k) single less =
    let (apart, single') = or_parts (is_in m names) (has_twins names) single in
    let (n, known, number) = named names k single' (omega arith) in
    let other : same_name n m ≡ false = false_from_ne_true (same_name n m) (λ h. true≢false (sym known ∙ ap (λ x. is_in x names) (same_name-is n m h) ∙ apart)) in
    (n, or_right (same_name n m) (is_in n names) known, rw other (omega arith))

module _ (names : List Name) (single : has_twins names ≡ false) where
  name_at : (k : ℕ) → k < length names → (n : Name) × (is_in n names ≡ true) × IsPlaceOf names n k
  name_at k less = let (n, known, number) = named names k single less in (n, known, place_is names n k single known (omega arith))

  pub place_at : (n : Name) → is_in n names ≡ true → (j : ℕ) × IsPlaceOf names n j
  place_at n known = (atom_number names n - 1, place_is names n (atom_number names n - 1) single known refl)

  -- the names at places that are true are those at places of the set
  pub within_own : (less s : ℕ) → IsInRange names less → places_within less s ≡ all_in (true_names 0 names s) (true_names 0 names less)
  within_own less s range = both_ways _ _ to from
    where
      to : places_within less s ≡ true → all_in (true_names 0 names s) (true_names 0 names less) ≡ true
      to h = all_in_from (true_names 0 names s) (true_names 0 names less) (λ n here.
          let (j, place) = place_at n (true_names-known n 0 names less here) in
          place.tells s ∙ (lies_within-is less s).0 h j (sym (place.tells less) ∙ here))

      from : all_in (true_names 0 names s) (true_names 0 names less) ≡ true → places_within less s ≡ true
      from h = (lies_within-is less s).1 (λ k here.
          let (n, known, place) = name_at k (range k here) in
          sym (place.tells s) ∙ all_in_each (true_names 0 names s) (true_names 0 names less) h n (place.tells less ∙ here))

  -- some name beside those of the set is true where some place is beside it
  pub beyond_own : (less s : ℕ) → IsInRange names s → not (places_within s less) ≡ any_in (true_names 0 names s) (false_names 0 names less)
  beyond_own less s range = both_ways _ _ to from
    where
      to : not (places_within s less) ≡ true → any_in (true_names 0 names s) (false_names 0 names less) ≡ true
      to h = true_from_ne_false (any_in (true_names 0 names s) (false_names 0 names less)) (λ none. true≢false (sym ((lies_within-is s less).1 (λ k here.
          let (n, known, place) = name_at k (range k here) in
          elim (true_or_false n 0 names less known) [
            | inl inside ↦ sym (place.tells less) ∙ inside
            | inr beyond ↦ absurd (true≢false (sym (place.tells s ∙ here) ∙ none_in (true_names 0 names s) (false_names 0 names less) n none beyond))
          ])) ∙ not-true (places_within s less) h))

      from : any_in (true_names 0 names s) (false_names 0 names less) ≡ true → not (places_within s less) ≡ true
      from h =
          let (n, beyond, here) = any_in_some (true_names 0 names s) (false_names 0 names less) h in
          let (j, place) = place_at n (false_names-known n 0 names less beyond) in
          not_from_false (places_within s less) (false_from_ne_true (places_within s less) (λ within.
          true_not_false n 0 names less single (place.tells less ∙ (lies_within-is s less).0 within j (sym (place.tells s) ∙ here)) beyond))

-- ---- rules
pub placed_rule_holds : (names : List Name) (r : ProgramRule) (p : PlacedRule) (s : ℕ) → IsPlacedRule names r p → placed_holds s p ≡ holds (true_names 0 names s) (rule_formula r)
placed_rule_holds names r p s is = rw (is.positive.all s, is.negative.some s, is.head.some s) (turn (all_in (true_names 0 names s) r.pos) (any_in (true_names 0 names s) r.neg) (any_in (true_names 0 names s) r.head)) ∙ sym (rule_formula-holds (true_names 0 names s) r)
  where
    turn : (x y z : Bool) → (not x || (y || z)) ≡ (not (x && not y) || z)
    turn true true z = refl
    turn true false z = refl
    turn false y z = refl

placed_rule_blocked : (names : List Name) (r : ProgramRule) (p : PlacedRule) (less s : ℕ) → IsPlacedRule names r p → placed_blocked less s p ≡ (not (is_broken_by (true_names 0 names less) r) || any_in (true_names 0 names s) r.neg)
placed_rule_blocked names r p less s is = rw (is.positive.all less, is.head.some less, is.negative.some s) (turn (all_in (true_names 0 names less) r.pos) (any_in (true_names 0 names less) r.head) (any_in (true_names 0 names s) r.neg))
  where
    turn : (x y z : Bool) → (not x || (y || z)) ≡ (not (x && not y) || z)
    turn true true z = refl
    turn true false z = refl
    turn false y z = refl

placed_rules_hold : (names : List Name) (s : ℕ) (rs : List ProgramRule) (ps : List PlacedRule) → AllZip (IsPlacedRule names) rs ps → list_all (placed_holds s) ps ≡ holds_all (true_names 0 names s) (map rule_formula rs)
placed_rules_hold names s [] [] all = refl
placed_rules_hold names s [] (p ∷ ps) all = absurd all
placed_rules_hold names s (r ∷ rs) [] all = absurd all
placed_rules_hold names s (r ∷ rs) (p ∷ ps) all =
    ap (λ b. b && list_all (placed_holds s) ps) (placed_rule_holds names r p s all.0) ∙ ap (λ b. holds (true_names 0 names s) (rule_formula r) && b) (placed_rules_hold names s rs ps all.1)

placed_rules_blocked : (names : List Name) (less s : ℕ) (rs : List ProgramRule) (ps : List PlacedRule) → AllZip (IsPlacedRule names) rs ps
    → list_all (placed_blocked less s) ps ≡ list_all (λ (r : ProgramRule). not (is_broken_by (true_names 0 names less) r) || any_in (true_names 0 names s) r.neg) rs
placed_rules_blocked names less s [] [] all = refl
placed_rules_blocked names less s [] (p ∷ ps) all = absurd all
placed_rules_blocked names less s (r ∷ rs) [] all = absurd all
placed_rules_blocked names less s (r ∷ rs) (p ∷ ps) all =
    ap (λ b. b && list_all (placed_blocked less s) ps) (placed_rule_blocked names r p less s all.0)
    ∙ ap (λ b. (not (is_broken_by (true_names 0 names less) r) || any_in (true_names 0 names s) r.neg) && b) (placed_rules_blocked names less s rs ps all.1)

-- ---- smaller sets
module _ (names : List Name) (single : has_twins names ≡ false) (rs : List ProgramRule) (ps : List PlacedRule) (all : AllZip (IsPlacedRule names) rs ps) (s : ℕ) (range : IsInRange names s) where
  a : List Name
  a = true_names 0 names s

  placed_beside : (less : ℕ) → IsInRange names less → not (lies_beside ps s less) ≡ holds (true_names 0 names s) (beside_formula names rs less)
  placed_beside less range' =
      let x = true_names 0 names less in
      let out = false_names 0 names less in
      ap (λ b. not (b && (not (places_within s less) && list_all (placed_blocked less s) ps))) (within_own names single less s range')
      ∙ ap (λ b. not (all_in (true_names 0 names s) x && (b && list_all (placed_blocked less s) ps))) (beyond_own names single less s range)
      ∙ ap (λ b. not (all_in (true_names 0 names s) x && (any_in (true_names 0 names s) out && b))) (placed_rules_blocked names less s rs ps all ∙ sym (blocked_value (true_names 0 names s) x rs))
      ∙ sym (beside-holds (true_names 0 names s) names rs less)

  placed_besides : (smaller : List ℕ) → AllByRecursion (IsInRange names) smaller → list_all (λ less. not (lies_beside ps s less)) smaller ≡ holds_all (true_names 0 names s) (map (beside_formula names rs) smaller)
  placed_besides [] ranges = refl
  placed_besides (less ∷ smaller) ranges =
      ap (λ b. b && list_all (λ less. not (lies_beside ps s less)) smaller) (placed_beside less ranges.0) ∙ ap (λ b. holds (true_names 0 names s) (beside_formula names rs less) && b) (placed_besides smaller ranges.1)

-- ---- views
pub view_shows : (names ns : List Name) (ps : List ℕ) (s : ℕ) → AllZip (IsPlaceOf names) ns ps → Shows (Atoms (true_names 0 names s)) (map Atom ns) (view_at ps s)
unfolding view_at
view_shows names ns ps s all k = (to, from)
  where
    long : length ns ≡ length ps
    long = length_zip (IsPlaceOf names) ns ps all

    at : k < length ns → (slice_get (map Atom ns) k ≡ Some (Atom (get_or ns k []))) × (is_in (get_or ns k []) (true_names 0 names s) ≡ has s (get_or ps k 0))
    at less = (slice_get-map_at Atom ns k [] less, let place : IsPlaceOf names (get_or ns k []) (get_or ps k 0) = zip_get_or (IsPlaceOf names) ns ps k [] 0 all less in place.tells s)

    member : has (view_at ps s) k ≡ (ltb k (length ps) && has s (get_or ps k 0))
    member = has-such_that (length ps) (λ k. has s (get_or ps k 0)) k

    to : has (view_at ps s) k ≡ true → (p : Formula) × (slice_get (map Atom ns) k ≡ Some p) × Believes (Atoms (true_names 0 names s)) p
    to h =
        let (less, is) = and_parts (ltb k (length ps)) (has s (get_or ps k 0)) (sym member ∙ h) in
        let below : k < length ps = grind (arith, nat_tests) in
        let (there, tells) = at (omega (arith, long)) in (Atom (get_or ns k []), there, tells ∙ is)

    from : (p : Formula) × (slice_get (map Atom ns) k ≡ Some p) × Believes (Atoms (true_names 0 names s)) p → has (view_at ps s) k ≡ true
    from (p, there, believed) =
        let less : k < length ns = omega (arith, slice_get_within (map Atom ns) k p there, length-map ns Atom) in
        let (there', tells) = at less in
        let same : p ≡ Atom (get_or ns k []) = cc in
        let below : ltb k (length ps) ≡ true = let less' : k < length ps = omega (arith, long) in grind (arith, nat_tests) in
        member ∙ and_from (ltb k (length ps)) (has s (get_or ps k 0)) below (sym tells ∙ subst (Believes (Atoms (true_names 0 names s))) same believed)

-- ---- all that is known
pub possible_value : (names : List Name) (rules : List ProgramRule) (ns : List Name) (p : Placing) (smaller views : List ℕ) (s : ℕ) → has_twins names ≡ false → IsPlacing names rules ns p
    → IsInRange names s → AllByRecursion (IsInRange names) smaller → IsLow (map Atom ns) views → may_be_model p smaller views s ≡ holds_all (true_names 0 names s) (rest_formulas names rules (map Atom ns) smaller views)
possible_value names rules ns p smaller views s single placed range ranges low =
    let a = true_names 0 names s in
    ap (λ b. b && (is_other views (view_at p.beliefs.items s) && list_all (λ less. not (lies_beside p.rules.items s less)) smaller)) (placed_rules_hold names s rules p.rules.items placed.placed_rules)
    ∙ ap (λ b. holds_all (true_names 0 names s) (map rule_formula rules) && (b && list_all (λ less. not (lies_beside p.rules.items s less)) smaller))
    (others_value (true_names 0 names s) ns (view_at p.beliefs.items s) views (view_shows names ns p.beliefs.items s placed.placed_beliefs) low)
    ∙ ap (λ b. holds_all (true_names 0 names s) (map rule_formula rules) && (holds_all (true_names 0 names s) (map (other_formula (map Atom ns)) views) && b)) (placed_besides names single rules p.rules.items placed.placed_rules s range smaller ranges)
    ∙ ap (λ b. holds_all (true_names 0 names s) (map rule_formula rules) && b) (turn (holds_all (true_names 0 names s) (map (other_formula (map Atom ns)) views)) (holds_all (true_names 0 names s) (map (beside_formula names rules) smaller)))
    ∙ sym (rest_value (true_names 0 names s) names rules (map Atom ns) smaller views)
  where
    turn : (x y : Bool) → (x && y) ≡ (y && x)
    turn true true = refl
    turn true false = refl
    turn false true = refl
    turn false false = refl

-- all atoms together are a model where they are possible
pub all_model : (names : List Name) (rules : List ProgramRule) (ns : List Name) (p : Placing) (smaller views : List ℕ) (s : ℕ) → has_twins names ≡ false → IsPlacing names rules ns p → s ≡ such_that (length names) (λ _. true)
    → AllByRecursion (IsInRange names) smaller → IsLow (map Atom ns) views → may_be_model p smaller views s ≡ true → IsModelAt names (rest_formulas names rules (map Atom ns) smaller views) s
all_model names rules ns p smaller views s single placed e ranges low is = record {
  in_range = range;
  formulas = sym (possible_value names rules ns p smaller views s single placed range ranges low) ∙ is;
}
  where
    range : IsInRange names s
    range k member =
        let less : ltb k (length names) ≡ true = (and_parts _ _ (sym (has-such_that (length names) (λ _. true) k) ∙ ap (λ x. has x k) (sym e) ∙ member)).0 in
        grind (arith, nat_tests)

-- ---- places are those of few atoms
pub low_places : (names ns : List Name) (ps : List ℕ) → length names ≤ 64 → AllZip (IsPlaceOf names) ns ps → AllByRecursion (λ k. k < 64) ps
low_places names [] [] few all = tt
low_places names [] (p ∷ ps) few all = absurd all
low_places names (n ∷ ns) [] few all = absurd all
low_places names (n ∷ ns) (p ∷ ps) few all = (let place : IsPlaceOf names n p = all.0 in let below = place.below in omega arith, low_places names ns ps few all.1)

pub few_places : (names ns : List Name) (ps : List ℕ) → length ns ≤ 64 → AllZip (IsPlaceOf names) ns ps → length ps ≤ 64
few_places names ns ps few all = omega (arith, length_zip (IsPlaceOf names) ns ps all)
