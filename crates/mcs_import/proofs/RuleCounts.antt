-- How many rules go into a context, as a set and by a count, and how many sets of them there are.
use Rattle.mcs_base.proofs.Among.{range_among}
use Rattle.mcs_base.proofs.Each.{all_from_among}
use Rattle.mcs_base.proofs.Lists.{slice_get_below}
use Rattle.mcs_base.proofs.Sums.{count_by_push}
use Rattle.mcs_sets.proofs.Lattice.{size-none, size-single, size-union_apart}
use Rattle.mcs_sets.proofs.SetLemmas.{has-such_that, has-single, such_that-more, such_that-none}
use Rattle.mcs_sets.specs.Sets.{single, union, such_that, size, Meets}
use Rattle.mcs_system.proofs.ValidLemmas.{few_contexts, few_rules}
use Rattle.mcs_system.specs.Faults.{IsValid}
use Rattle.mcs_system.specs.Imports.{goes_into, rules_into}
use Rattle.mcs_system.specs.Levels.{rule_set_count}
use Rattle.mcs_system.specs.Plain.{Bridge, System}
use Rattle.std.proofs.Common.{◌≡◌, ℕ, ◌+◌, ◌*◌, ◌^◌, ◌<◌, ◌≤◌, zero, suc, Bool, true, false, cond, nat_eq, ltb, List, [], ◌∷◌, ◌++◌, length, take, slice_get, Some, Option, sym, ap, ◌∙◌, subst, arith}
use Rattle.std.proofs.Math.Pow.{pow_mono}
use Rattle.std.proofs.lemmas.Bool.Decides.{nat_tests}
use Rattle.std.proofs.lemmas.Bool.{and_parts}
use Rattle.std.proofs.lemmas.List.Elements.{All-from_recursion}
use Rattle.std.proofs.lemmas.List.FromFn.{length-range_with_len}
use Rattle.std.proofs.lemmas.List.Sums.{sum_by-le}
use Rattle.std.proofs.lemmas.List.{take_more, take_all}
use Rattle.std.proofs.lemmas.Option.{get_or_from_slice_get}
use Rattle.std.specs.List.{range_with_len, count_by}

-- ---- the rules into a context, as a set and by a count
goes_in : ℕ → List Bridge → ℕ → Bool
goes_in i bridges k = goes_into i (slice_get bridges k)

-- those of the first n
first_rules : ℕ → List Bridge → ℕ → ℕ
first_rules i bridges n = such_that n (goes_in i bridges)

module _ (i : ℕ) (bridges : List Bridge) where
  not_yet : (n : ℕ) → ¬ Meets (first_rules i bridges n) (single n)
  unfolding first_rules
  not_yet n meets =
      let k = meets.member in
      let low : ltb k n ≡ true = (and_parts (ltb k n) (goes_in i bridges k) (sym (has-such_that n (goes_in i bridges) k) ∙ meets.in_first)).0 in
      grind (arith, nat_tests, has-single n k, meets.in_second, low)

  one_more : (n : ℕ) (b : Bridge) → slice_get bridges n ≡ Some b → size (first_rules i bridges (n + 1)) ≡ size (first_rules i bridges n) + cond (nat_eq b.target i) 1 0
  unfolding first_rules goes_in
  one_more n b is = ap (λ (s : ℕ). size s) (such_that-more n (goes_in i bridges) ∙ ap (λ (o : Option Bridge). cond (goes_into i o) (union (such_that n (goes_in i bridges)) (single n)) (such_that n (goes_in i bridges))) is) ∙ at (nat_eq b.target i)
    where
      at : (v : Bool) → size (cond v (union (such_that n (goes_in i bridges)) (single n)) (such_that n (goes_in i bridges))) ≡ size (such_that n (goes_in i bridges)) + cond v 1 0
      at true = size-union_apart (such_that n (goes_in i bridges)) (single n) (not_yet n) ∙ ap (λ (k : ℕ). size (such_that n (goes_in i bridges)) + k) (size-single n)
      at false = (let same : size (such_that n (goes_in i bridges)) ≡ size (such_that n (goes_in i bridges)) + 0 = omega arith in same)

  counted_rules : (n : ℕ) → n ≤ length bridges → size (first_rules i bridges n) ≡ count_by (λ (b : Bridge). nat_eq b.target i) (take n bridges)
  unfolding first_rules
  counted_rules zero within = ap (λ (s : ℕ). size s) (such_that-none (goes_in i bridges)) ∙ size-none
  counted_rules (suc n) within =
      let (b, is) = slice_get_below bridges n (omega arith) in
      let next : n + 1 ≡ suc n = omega arith in
      let grown = take_more bridges n b (omega arith) ∙ ap (λ (x : Bridge). take n bridges ++ x ∷ []) (get_or_from_slice_get bridges n b b is) in
      let before = counted_rules n (omega arith) in
      subst (λ (k : ℕ). size (first_rules i bridges k) ≡ count_by (λ (b : Bridge). nat_eq b.target i) (take k bridges)) next (
      one_more n b is ∙ ap (λ (k : ℕ). k + cond (nat_eq b.target i) 1 0) before
      ∙ sym (ap (count_by (λ (b : Bridge). nat_eq b.target i)) grown ∙ count_by_push (λ (b : Bridge). nat_eq b.target i) (take n bridges) b))

-- no context has more than 12
pub few_into : (m : System) → IsValid m → (i : ℕ) → i < length m.contexts → size (rules_into m i) ≤ 12
unfolding rules_into first_rules goes_in
few_into m valid i less =
    let counted = counted_rules i m.bridges (length m.bridges) (omega arith) in
    let all = ap (count_by (λ (b : Bridge). nat_eq b.target i)) (take_all (length m.bridges) m.bridges (omega arith)) in
    let few = few_rules m valid i less in
    subst (λ (n : ℕ). n ≤ 12) (sym (counted ∙ all)) few

-- ---- sets of rules
-- no level has more questions than 64 contexts with 12 rules into each
pub few_sets : (m : System) → IsValid m → rule_set_count m ≤ 64 * 4096
few_sets m valid =
    let bound = sum_by-le (λ i. 2 ^ size (rules_into m i)) 4096 (range_with_len 0 (length m.contexts)) (All-from_recursion _ _ (all_from_among _ _ (λ i among. pow_mono (few_into m valid i (let (low, high) = range_among i 0 (length m.contexts) among in omega arith))))) in
    let long = length-range_with_len 0 (length m.contexts) in
    let few = few_contexts m valid in
    omega (arith, bound, long, few)
