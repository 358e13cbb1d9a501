-- A generated system has none of the faults.
use Rattle.std.proofs.Common.{◌≡◌, ℕ, ◌+◌, ◌*◌, ◌-◌, ◌<◌, ◌≤◌, zero, suc, Bool, true, false, not, ◌&&◌, ◌||◌, nat_eq, nat_lt, ltb, cond, List, [], ◌∷◌, ◌++◌, map, filter, length, count_by, Option, Some, None, slice_get, refl, sym, ap, ap₂, ◌∙◌, subst, inl, inr, ◌⊎◌, arith, true≢false, codes}
use Rattle.std.proofs.lemmas.Bool.Decides.{nat_tests}
use Rattle.std.proofs.lemmas.Bool.{and_parts, le-ltb}
use Rattle.std.proofs.lemmas.List.{length-append}
use Rattle.std.proofs.lemmas.List.FromFn.{length-range_with_len, length-map-range_with_len}
use Rattle.std.proofs.lemmas.List.Sums.{length-filter}
use Rattle.std.specs.List.{range_with_len, flat_map, list_any, AllByRecursion}
use Rattle.mcs_sets.specs.Sets.{size, members}
use Rattle.mcs_sets.proofs.SetLemmas.{has-such_that}
use Rattle.mcs_base.specs.Listings.{IsAmong, AreApart}
use Rattle.mcs_base.proofs.Among.{among_map, map_among, flat_map_among, filter_among, range_among, among_range, any_none, any_get, among_get}
use Rattle.mcs_base.proofs.Distinct.{distinct_filter, distinct_map, distinct_from_places, distinct_fits, ascending_distinct}
use Rattle.mcs_base.proofs.Each.{all_among, all_from_among, all_append}
use Rattle.mcs_base.proofs.ListingLemmas.{members_listing}
use Rattle.mcs_system.specs.Plain.{Name, ProgramRule, Item, Rule, DefaultTheory, Context, Read, Bridge}
use Rattle.mcs_system.specs.Logic.{same_name, atoms}
use Rattle.mcs_system.specs.Systems.{same_read, context_variables, variables, IsVariable}
use Rattle.mcs_system.specs.Rows.{inputs_of, is_read_into}
use Rattle.mcs_system.specs.Atoms.{item_atoms, rule_atoms, kb_atoms, own_atoms, all_heads_into, atom_occurrences, atoms_of}
use Rattle.mcs_system.specs.declared.bridge.Bridge as code_bridge
use Rattle.mcs_system.specs.declared.knowledge.Context as code_context
use Rattle.mcs_system.specs.declared.limit.Limit.{Limit}
use Rattle.mcs_system.specs.declared.limit.Limit.TheVariants as limits
use Rattle.mcs_system.specs.Faults.{points_outside, has_unknown_context, has_twin_names, is_program, has_misfit, is_unjustified, has_unjustified, has_misfits, is_default, default_count, item_count, is_large, has_large_formula, is_large_rule, has_large_item, has_large_part, exceeds, first_exceeded, limits as all_limits, fault_of, IsValid}
use Rattle.mcs_system.specs.Seen.{context_of, bridge_of, system_of}
use Rattle.mcs_system.proofs.Sameness.{same_name-itself, same_read-is}
use Rattle.mcs_system.proofs.Distinct.{one_number}
use Rattle.mcs_generator.specs.Generated.{context_count, chain_length, context_name, link_name, reached_name, missed_name, later_links, link_formula, link_fact, first_default, choice_rules, forbidding_rules, is_forbidding, first_rule, link_rule, program_rules, classical_formulas, theory_items, generated_context, generated_contexts, chain_end, reached_rule, missed_rule, rules_to, generated_bridges, generated_system}
use Rattle.mcs_generator.specs.Laws.{GeneratedSystemsAreValid}
use Rattle.mcs_generator.proofs.General.{range_apart, apart_from_images, alike_few, firsts_from, firsts_apart, no_twins}
use Rattle.mcs_generator.proofs.NameLemmas.{context_names_differ, reached_names_differ, missed_names_differ, reached_is_not_missed}
use Rattle.mcs_generator.proofs.PartLemmas.{contexts_counted, each_context, each_kb, each_formula, each_item, each_program_rule, each_rule, context_read_is, variable_is}
use Rattle.std.proofs.Math.Bool.{and-false}

-- ---- a context number is in range
module _ (n : ℕ) where
  in_range : (i : ℕ) → i < context_count n → nat_lt i (length (generated_contexts n)) ≡ true
  in_range i less = let counted = contexts_counted n in grind (arith, nat_tests)

  inside : (i : ℕ) → 1 ≤ i → i < context_count n → (not (nat_lt i (length (generated_contexts n))) || (not (nat_lt (i - 1) (length (generated_contexts n))) || false)) ≡ false
  inside i low high = let a = in_range i high in let b = in_range (i - 1) (omega arith) in rw (a, b) refl

  all_known : has_unknown_context (generated_system n) ≡ false
  all_known = any_none (points_outside (length (generated_contexts n))) (generated_bridges n)
      (each_rule n (λ b. points_outside (length (generated_contexts n)) b ≡ false) inside inside)

-- ---- names differ
-- the names of the rules into the contexts from k on
later_name : (n k w : ℕ) (x : Name) → IsAmong x (map (λ (b : Bridge). b.name) (flat_map (rules_to n) (range_with_len k w))) → (i : ℕ) × (k ≤ i) × (i < k + w) × ((x ≡ reached_name i) ⊎ (x ≡ missed_name i))
later_name n k w x here =
    let (b, among, is) = map_among (λ (c : Bridge). c.name) x (flat_map (rules_to n) (range_with_len k w)) here in
    let (i, place, which) = flat_map_among (rules_to n) b (range_with_len k w) among in
    let both = range_among i k w place in
    (i, both.0, both.1, named b i is which)
  where
    named : (b : Bridge) (i : ℕ) → x ≡ b.name → IsAmong b (rules_to n i) → (x ≡ reached_name i) ⊎ (x ≡ missed_name i)
    named b i is (inl e) = inl (is ∙ ap (λ (c : Bridge). c.name) e)
    named b i is (inr (inl e)) = inr (is ∙ ap (λ (c : Bridge). c.name) e)
    named b i is (inr (inr none)) = absurd none

rule_names_apart : (n k w : ℕ) → k + w ≤ 100 → AreApart (map (λ (b : Bridge). b.name) (flat_map (rules_to n) (range_with_len k w)))
rule_names_apart n k zero small = tt
rule_names_apart n k (suc w) small = (first, (second, rule_names_apart n (k + 1) w (omega arith)))
  where
    reached_once : IsAmong (reached_name k) (map (λ (b : Bridge). b.name) (flat_map (rules_to n) (range_with_len (k + 1) w))) → ⊥
    reached_once here = let (i, low, high, which) = later_name n (k + 1) w (reached_name k) here in elim which [
      | inl e ↦ (let same = reached_names_differ k i (omega arith) (omega arith) e in omega arith)
      | inr e ↦ reached_is_not_missed k i e
    ]

    second : IsAmong (missed_name k) (map (λ (b : Bridge). b.name) (flat_map (rules_to n) (range_with_len (k + 1) w))) → ⊥
    second here = let (i, low, high, which) = later_name n (k + 1) w (missed_name k) here in elim which [
      | inl e ↦ reached_is_not_missed i k (sym e)
      | inr e ↦ (let same = missed_names_differ k i (omega arith) (omega arith) e in omega arith)
    ]

    first : IsAmong (reached_name k) (missed_name k ∷ map (λ (b : Bridge). b.name) (flat_map (rules_to n) (range_with_len (k + 1) w))) → ⊥
    first (inl e) = reached_is_not_missed k k e
    first (inr here) = reached_once here

module _ (n : ℕ) where
  context_names_apart : AreApart (map (λ (c : Context). c.name) (generated_contexts n))
  context_names_apart = subst AreApart (sym (names_of (range_with_len 0 (context_count n))))
      (distinct_map context_name (range_with_len 0 (context_count n)) (λ i j here there e.
      let a = (range_among i 0 (context_count n) here).1 in let b = (range_among j 0 (context_count n) there).1 in context_names_differ i j (omega arith) (omega arith) e)
      (range_apart 0 (context_count n)))
    where
      names_of : (ks : List ℕ) → map (λ (c : Context). c.name) (map (generated_context n) ks) ≡ map context_name ks
      names_of [] = refl
      names_of (k ∷ ks) = ap (λ ns. context_name k ∷ ns) (names_of ks)

  bridge_names_apart : AreApart (map (λ (b : Bridge). b.name) (generated_bridges n))
  bridge_names_apart = rule_names_apart n 1 (context_count n - 1) (omega arith)

  all_apart : has_twin_names (generated_system n) ≡ false
  all_apart =
      let a = no_twins (map (λ (c : Context). c.name) (generated_contexts n)) context_names_apart in
      let b = no_twins (map (λ (b : Bridge). b.name) (generated_bridges n)) bridge_names_apart in
      rw (a, b) refl

  bridges_apart : AreApart (generated_bridges n)
  bridges_apart = apart_from_images (λ (b : Bridge). b.name) (generated_bridges n) bridge_names_apart

  -- ---- heads and beliefs are atoms, and the default is justified
  justified : (c : Context) → IsAmong c (generated_contexts n) → has_unjustified c.kb ≡ false
  justified = each_context n (λ c. has_unjustified c.kb ≡ false) (λ i less. each_kb n (λ kb. has_unjustified kb ≡ false) i refl refl
      (any_none is_unjustified (theory_items n) (each_item n (λ t. is_unjustified t ≡ false) refl (λ j low high. refl))))

  all_fitting : has_misfits (generated_system n) ≡ false
  all_fitting =
      let a = any_none (λ (c : Context). has_unjustified c.kb) (generated_contexts n) justified in
      let b = any_none (has_misfit (generated_contexts n)) (generated_bridges n)
      (each_rule n (λ b. has_misfit (generated_contexts n) b ≡ false)
      (λ i low high. rw (and-false (is_program (slice_get (generated_contexts n) i)), and-false (is_program (slice_get (generated_contexts n) (i - 1)))) refl)
      (λ i low high. rw (and-false (is_program (slice_get (generated_contexts n) i)), and-false (is_program (slice_get (generated_contexts n) (i - 1)))) refl)) in
      rw (a, b) refl

-- ---- the limits are kept
two_each : (n : ℕ) (ks : List ℕ) → length (flat_map (rules_to n) ks) ≡ 2 * length ks
two_each n [] = refl
two_each n (k ∷ ks) = let rest = two_each n ks in omega arith

no_defaults : (ks : List ℕ) → filter is_default (map link_fact ks) ≡ []
no_defaults [] = refl
no_defaults (k ∷ ks) = no_defaults ks

one_default : (n : ℕ) → default_count (DefaultTheory (theory_items n)) ≡ 1
one_default n = sym (length-filter is_default (theory_items n)) ∙ ap (λ (ts : List Item). length (Rule first_default ∷ ts)) (no_defaults (later_links n))

module _ (n : ℕ) where
  few_contexts : exceeds (generated_system n) limits.Contexts ≡ false
  unfolding exceeds
  few_contexts = let counted = contexts_counted n in le-ltb 64 _ (omega arith)

  few_bridges : exceeds (generated_system n) limits.Bridges ≡ false
  unfolding exceeds
  few_bridges =
      let counted = two_each n (range_with_len 1 (context_count n - 1)) in
      let length_is = length-range_with_len 1 (context_count n - 1) in
      le-ltb 64 _ (omega arith)

  -- the rules into a context are the two that are made for it
  own_rules : (i : ℕ) → count_by (λ (b : Bridge). nat_eq b.target i) (generated_bridges n) ≤ 2
  own_rules i =
      let goes = λ (b : Bridge). nat_eq b.target i in
      let fits : length (filter goes (generated_bridges n)) ≤ 2 = distinct_fits (filter goes (generated_bridges n)) (rules_to n i) (distinct_filter goes (generated_bridges n) (bridges_apart n)) (λ b here.
      let both = filter_among goes b (generated_bridges n) here in own b both.0 both.1) in
      omega (arith, length-filter goes (generated_bridges n))
    where
      own : (b : Bridge) → IsAmong b (generated_bridges n) → nat_eq b.target i ≡ true → IsAmong b (rules_to n i)
      own = each_rule n (λ b. nat_eq b.target i ≡ true → IsAmong b (rules_to n i))
          (λ j low high e. let same : j ≡ i = grind (arith, nat_tests) in inl (ap (reached_rule n) same))
          (λ j low high e. let same : j ≡ i = grind (arith, nat_tests) in inr (inl (ap (missed_rule n) same)))

  few_rules : exceeds (generated_system n) limits.RulesPerContext ≡ false
  unfolding exceeds
  few_rules = any_none _ (range_with_len 0 (length (generated_contexts n))) (λ i here. let few = own_rules i in le-ltb 12 _ (omega arith))

  -- each variable is the end of the chain of a context but the last
  few_variables : exceeds (generated_system n) limits.Variables ≡ false
  unfolding exceeds
  few_variables =
      let fits = distinct_fits (variables (generated_system n)) (map (chain_end n) (range_with_len 1 (context_count n - 1)))
      (distinct_from_places (variables (generated_system n)) (λ j k r. one_number (generated_system n) j k r))
      (λ r here. let (i, low, high, is) = variable_is n r here in subst (λ q. IsAmong q (map (chain_end n) (range_with_len 1 (context_count n - 1)))) (sym is) (among_map (chain_end n) i (range_with_len 1 (context_count n - 1)) (among_range i 1 (context_count n - 1) low (omega arith)))) in
      let counted = length-map-range_with_len (chain_end n) 1 (context_count n - 1) in
      le-ltb 64 _ (omega arith)

  -- rules into a context read one variable
  read_into : (i : ℕ) (o : Option Read) → is_read_into (generated_system n) i o ≡ true → o ≡ Some (chain_end n i)
  read_into i None e = absurd (true≢false (sym e))
  read_into i (Some r) e =
      let (k, b, at, both) = any_get (λ (b : Bridge). nat_eq b.target i && list_any (λ (q : Read). same_read r q) (b.pos ++ b.neg)) (generated_bridges n) e in
      ap (λ q. Some q) (each_rule n (λ b. (nat_eq b.target i && list_any (λ (q : Read). same_read r q) (b.pos ++ b.neg)) ≡ true → r ≡ chain_end n i) (λ j low high. own j) (λ j low high. own j) b (among_get b (generated_bridges n) k at) both)
    where
      own : (j : ℕ) → (nat_eq j i && (same_read r (chain_end n j) || false)) ≡ true → r ≡ chain_end n i
      own j both =
          let parts = and_parts (nat_eq j i) _ both in
          let same : j ≡ i = (let first = parts.0 in grind (arith, nat_tests)) in
          alone (same_read r (chain_end n j)) refl parts.1 ∙ ap (chain_end n) same
        where
          alone : (v : Bool) → same_read r (chain_end n j) ≡ v → (v || false) ≡ true → r ≡ chain_end n j
          alone true is e = same_read-is r (chain_end n j) is
          alone false is e = absurd (true≢false (sym e))

  input_is : (i v : ℕ) → IsAmong v (members (inputs_of (generated_system n) i)) → IsVariable (generated_system n) v (chain_end n i)
  unfolding inputs_of
  input_is i v here =
      let into : ℕ → Bool = λ w. is_read_into (generated_system n) i (slice_get (variables (generated_system n)) w) in
      let member = ((members_listing (inputs_of (generated_system n) i)).exactly v).0 here in
      read_into i (slice_get (variables (generated_system n)) v) (and_parts (ltb v (length (variables (generated_system n)))) (into v) (sym (has-such_that (length (variables (generated_system n))) into v) ∙ member)).1

  one_input : (i : ℕ) → size (inputs_of (generated_system n) i) ≤ 1
  one_input i = alike_few (members (inputs_of (generated_system n) i)) (ascending_distinct (members (inputs_of (generated_system n) i)) (members_listing (inputs_of (generated_system n) i)).ascending)
      (λ v w here there. one_number (generated_system n) v w (chain_end n i) (input_is i v here) (input_is i w there))

  few_inputs : exceeds (generated_system n) limits.InputsPerContext ≡ false
  unfolding exceeds
  few_inputs = any_none _ (range_with_len 0 (length (generated_contexts n))) (λ i here. let few = one_input i in le-ltb 16 _ (omega arith))

  -- ---- the atoms of a context are x, y, b and the links
  abbrev chain_atoms : List Name
  chain_atoms = codes "x" ∷ codes "y" ∷ codes "b" ∷ map link_name (range_with_len 1 (chain_length n))

  link_among : (j : ℕ) → 1 ≤ j → j ≤ chain_length n → IsAmong (link_name j) chain_atoms
  link_among j low high = inr (inr (inr (among_map link_name j (range_with_len 1 (chain_length n)) (among_range j 1 (chain_length n) low (omega arith)))))

  abbrev AreOfChain : List Name → Type 0
  AreOfChain names = AllByRecursion (λ a. IsAmong a chain_atoms) names

  is_x : IsAmong (codes "x") chain_atoms
  is_x = inl refl

  is_y : IsAmong (codes "y") chain_atoms
  is_y = inr (inl refl)

  is_b : IsAmong (codes "b") chain_atoms
  is_b = inr (inr (inl refl))

  link_one : IsAmong (link_name 1) chain_atoms
  link_one = link_among 1 (omega arith) (omega arith)

  of_flat_map : {X : Type 0} (f : X → List Name) (xs : List X) → ((x : X) → IsAmong x xs → AreOfChain (f x)) → AreOfChain (flat_map f xs)
  of_flat_map f xs each = all_from_among (λ a. IsAmong a chain_atoms) (flat_map f xs) (λ a here. let (x, among, inner) = flat_map_among f a xs here in all_among (λ b. IsAmong b chain_atoms) (f x) a (each x among) inner)

  kb_of_chain : (c : Context) → IsAmong c (generated_contexts n) → AreOfChain (kb_atoms c.kb)
  kb_of_chain = each_context n (λ c. AreOfChain (kb_atoms c.kb)) (λ k less. each_kb n (λ kb. AreOfChain (kb_atoms kb)) k
      (of_flat_map rule_atoms (program_rules n k) (each_program_rule n (λ r. AreOfChain (rule_atoms r)) k
      (is_x, (is_y, tt))
      (link_one, (is_x, tt))
      (λ j low high. (link_among j (omega arith) high, (link_among (j - 1) (omega arith) (omega arith), (is_b, tt))))
      (is_x, tt)
      (is_y, tt)))
      (of_flat_map atoms (classical_formulas n) (each_formula n (λ f. AreOfChain (atoms f)) (is_x, (link_one, tt))
      (λ j low high. (link_among (j - 1) (omega arith) (omega arith), (link_among j (omega arith) high, tt)))))
      (of_flat_map item_atoms (theory_items n) (each_item n (λ t. AreOfChain (item_atoms t)) (is_x, (link_one, (link_one, tt)))
      (λ j low high. (link_among (j - 1) (omega arith) (omega arith), (link_among j (omega arith) high, tt))))))

  own_of_chain : (o : Option Context) → ((c : Context) → o ≡ Some c → IsAmong c (generated_contexts n)) → AreOfChain (own_atoms o)
  own_of_chain None of = tt
  own_of_chain (Some c) of = kb_of_chain c (of c refl)

  heads_of_chain : (i : ℕ) → AreOfChain (flat_map atoms (all_heads_into (generated_system n) i))
  heads_of_chain i = of_flat_map atoms (all_heads_into (generated_system n) i) (λ f here.
      let (b, among, is) = map_among (λ (b : Bridge). b.head) f (filter (λ (b : Bridge). nat_eq b.target i) (generated_bridges n)) here in
      subst (λ g. AreOfChain (atoms g)) (sym is)
      (each_rule n (λ b. AreOfChain (atoms b.head)) (λ j low high. (is_x, tt)) (λ j low high. (is_y, tt)) b (filter_among (λ (b : Bridge). nat_eq b.target i) b (generated_bridges n) among).0))

  beliefs_of_chain : (i : ℕ) → AreOfChain (flat_map (λ (r : Read). atoms r.belief) (context_variables (generated_system n) i))
  beliefs_of_chain i = of_flat_map (λ (r : Read). atoms r.belief) (context_variables (generated_system n) i) (λ r here.
      let (j, low, high, is) = context_read_is n i r here in
      subst (λ (q : Read). AreOfChain (atoms q.belief)) (sym is) (link_among (chain_length n) (omega arith) (omega arith), tt))

  all_of_chain : (i : ℕ) → AreOfChain (atom_occurrences (generated_system n) i)
  all_of_chain i = all_append (λ a. IsAmong a chain_atoms) (own_atoms (slice_get (generated_contexts n) i)) (flat_map atoms (all_heads_into (generated_system n) i) ++ flat_map (λ (r : Read). atoms r.belief) (context_variables (generated_system n) i))
      (own_of_chain (slice_get (generated_contexts n) i) (λ c is. among_get c (generated_contexts n) i is))
      (all_append (λ a. IsAmong a chain_atoms) (flat_map atoms (all_heads_into (generated_system n) i)) (flat_map (λ (r : Read). atoms r.belief) (context_variables (generated_system n) i)) (heads_of_chain i) (beliefs_of_chain i))

  few_names : (i : ℕ) → length (atoms_of (generated_system n) i) ≤ 64
  unfolding atoms_of
  few_names i =
      let fits = distinct_fits (atoms_of (generated_system n) i) chain_atoms (firsts_apart same_name same_name-itself (atom_occurrences (generated_system n) i))
      (λ a here. all_among (λ b. IsAmong b chain_atoms) (atom_occurrences (generated_system n) i) a (all_of_chain i) (firsts_from same_name a (atom_occurrences (generated_system n) i) here)) in
      let counted = length-map-range_with_len link_name 1 (chain_length n) in omega arith

  few_atoms : exceeds (generated_system n) limits.AtomsPerContext ≡ false
  unfolding exceeds
  few_atoms = any_none _ (range_with_len 0 (length (generated_contexts n))) (λ i here. le-ltb 64 _ (few_names i))

  -- ---- what stands in a context
  few_defaults : exceeds (generated_system n) limits.DefaultsPerContext ≡ false
  unfolding exceeds
  few_defaults = any_none _ (generated_contexts n) (each_context n (λ c. nat_lt 10 (default_count c.kb) ≡ false) (λ i less. each_kb n (λ kb. nat_lt 10 (default_count kb) ≡ false) i refl refl
      (let one = one_default n in le-ltb 10 (default_count (DefaultTheory (theory_items n))) (omega arith))))

  few_in_program : (i : ℕ) → length (program_rules n i) ≤ 4096
  few_in_program i =
      let a : length (choice_rules i) ≤ 1 = at_most_one (nat_eq i 0) _ in
      let b : length (forbidding_rules n i) ≤ 2 = at_most_two (is_forbidding n i) _ _ in
      let parts = length-append (choice_rules i) (first_rule ∷ (map link_rule (later_links n) ++ forbidding_rules n i)) in
      let inner = length-append (map link_rule (later_links n)) (forbidding_rules n i) in
      let counted = length-map-range_with_len link_rule 2 (chain_length n - 1) in omega arith
    where
      at_most_one : (u : Bool) (x : ProgramRule) → length (cond u (x ∷ []) []) ≤ 1
      at_most_one true x = omega arith
      at_most_one false x = omega arith

      at_most_two : (u : Bool) (x y : ProgramRule) → length (cond u (x ∷ y ∷ []) []) ≤ 2
      at_most_two true x y = omega arith
      at_most_two false x y = omega arith

  few_items : exceeds (generated_system n) limits.ItemsPerContext ≡ false
  unfolding exceeds
  few_items =
      let formulas = length-map-range_with_len link_formula 2 (chain_length n - 1) in
      let facts = length-map-range_with_len link_fact 2 (chain_length n - 1) in
      any_none _ (generated_contexts n) (each_context n (λ c. nat_lt 4096 (item_count c.kb) ≡ false) (λ i less. each_kb n (λ kb. nat_lt 4096 (item_count kb) ≡ false) i
      (le-ltb 4096 (length (program_rules n i)) (few_in_program i))
      (le-ltb 4096 (length (classical_formulas n)) (omega arith))
      (le-ltb 4096 (length (theory_items n)) (omega arith))))

  light_rules : exceeds (generated_system n) limits.Weight ≡ false
  unfolding exceeds
  light_rules = any_none _ (generated_bridges n) (each_rule n (λ b. nat_lt 1000000 b.weight ≡ false) (λ i low high. refl) (λ i low high. refl))

  small_items : (c : Context) → IsAmong c (generated_contexts n) → has_large_item c.kb ≡ false
  small_items = each_context n (λ c. has_large_item c.kb ≡ false) (λ i less. each_kb n (λ kb. has_large_item kb ≡ false) i
      (any_none is_large_rule (program_rules n i) (each_program_rule n (λ r. is_large_rule r ≡ false) i refl refl (λ j low high. refl) refl refl))
      (any_none is_large (classical_formulas n) (each_formula n (λ f. is_large f ≡ false) refl (λ j low high. refl)))
      (any_none has_large_formula (theory_items n) (each_item n (λ t. has_large_formula t ≡ false) refl (λ j low high. refl))))

  small_formulas : exceeds (generated_system n) limits.FormulaSize ≡ false
  unfolding exceeds
  small_formulas =
      let a = any_none (λ (c : Context). has_large_item c.kb) (generated_contexts n) small_items in
      let b = any_none has_large_part (generated_bridges n) (each_rule n (λ b. has_large_part b ≡ false) (λ i low high. refl) (λ i low high. refl)) in
      rw (a, b) refl

  none_exceeded : first_exceeded (generated_system n) all_limits ≡ None
  none_exceeded = rw (few_contexts, few_bridges, few_rules, few_variables, few_inputs, few_atoms, few_defaults, few_items, light_rules, small_formulas) refl

-- ---- none of the faults
pub generated_valid : GeneratedSystemsAreValid
unfolding fault_of
generated_valid n = rw (all_known n, all_apart n, all_fitting n, none_exceeded n) refl

-- ---- lists that hold its contexts and rules
pub generated_parts : (n : ℕ) (cs : List code_context.Context) (bs : List code_bridge.Bridge) → map context_of cs ≡ generated_contexts n → map bridge_of bs ≡ generated_bridges n → system_of cs bs ≡ generated_system n
generated_parts n cs bs contexts bridges = ap₂ (λ xs ys. record { contexts = xs; bridges = ys }) contexts bridges

pub valid_parts : (n : ℕ) (cs : List code_context.Context) (bs : List code_bridge.Bridge) → map context_of cs ≡ generated_contexts n → map bridge_of bs ≡ generated_bridges n → IsValid (system_of cs bs)
valid_parts n cs bs contexts bridges = ap fault_of (generated_parts n cs bs contexts bridges) ∙ generated_valid n
