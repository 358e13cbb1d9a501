-- What stands in a generated system, part by part.
use Rattle.std.proofs.Common.{◌≡◌, ℕ, ◌+◌, ◌-◌, ◌%◌, ◌<◌, ◌≤◌, Bool, true, false, nat_eq, cond, List, [], ◌∷◌, ◌++◌, map, length, sym, ap, ◌∙◌, subst, append_assoc, inl, inr, ◌⊎◌, arith, codes}
use Rattle.std.proofs.lemmas.List.{map-append}
use Rattle.std.proofs.lemmas.List.FromFn.{length-map-range_with_len}
use Rattle.std.specs.List.{range_with_len, flat_map}
use Rattle.mcs_base.specs.Listings.{IsAmong}
use Rattle.mcs_base.proofs.Among.{among_either, map_among, flat_map_among, filter_among, range_among}
use Rattle.mcs_system.specs.Plain.{Formula, ProgramRule, Item, Rule, Kb, Classical, DefaultTheory, Program, Context, Read, Bridge}
use Rattle.mcs_system.specs.Systems.{occurrences, context_variables, variables}
use Rattle.mcs_system.proofs.VariableLemmas.{firsts_among}
use Rattle.mcs_system.specs.Seen.{bridge_of}
use Rattle.mcs_system.specs.declared.bridge.Bridge as code
use Rattle.mcs_base.proofs.Mapped.{flat_map-range_more}
use Rattle.mcs_generator.specs.Generated.{context_count, chain_length, later_links, link_formula, link_fact, first_formula, first_default, rule, first_rule, link_rule, choice_rules, forbidding_rules, is_forbidding, program_rules, classical_formulas, theory_items, is_program_at, generated_kb, generated_context, generated_contexts, chain_end, reached_rule, missed_rule, rules_to, generated_bridges, generated_system}

module _ (n : ℕ) where
  pub contexts_counted : length (generated_contexts n) ≡ context_count n
  contexts_counted = length-map-range_with_len (generated_context n) 0 (context_count n)

  -- ---- the contexts
  pub each_context : (P : Context → Type 0) → ((i : ℕ) → i < context_count n → P (generated_context n i)) → (c : Context) → IsAmong c (generated_contexts n) → P c
  each_context P of c here =
      let (i, in_range, is) = map_among (generated_context n) c (range_with_len 0 (context_count n)) here in
      let high = (range_among i 0 (context_count n) in_range).1 in
      subst P (sym is) (of i (omega arith))

  pub each_kb : (Q : Kb → Type 0) (i : ℕ) → Q (Program (program_rules n i)) → Q (Classical (classical_formulas n)) → Q (DefaultTheory (theory_items n)) → Q (generated_kb n i)
  each_kb Q i p c d = at (is_program_at n i) (nat_eq (i % 3) 1)
    where
      at : (u v : Bool) → Q (cond u (Program (program_rules n i)) (cond v (Classical (classical_formulas n)) (DefaultTheory (theory_items n))))
      at true v = p
      at false true = c
      at false false = d

  -- ---- what they know
  each_later : {X : Type 0} (g : ℕ → X) (P : X → Type 0) → ((j : ℕ) → 2 ≤ j → j ≤ chain_length n → P (g j)) → (x : X) → IsAmong x (map g (later_links n)) → P x
  each_later g P of x here =
      let (j, in_range, is) = map_among g x (later_links n) here in
      let both = range_among j 2 (chain_length n - 1) in_range in
      subst P (sym is) (of j both.0 (omega (arith, both.1)))

  pub each_formula : (P : Formula → Type 0) → P first_formula → ((j : ℕ) → 2 ≤ j → j ≤ chain_length n → P (link_formula j)) → (f : Formula) → IsAmong f (classical_formulas n) → P f
  each_formula P one of f (inl e) = subst P (sym e) one
  each_formula P one of f (inr here) = each_later link_formula P of f here

  pub each_item : (P : Item → Type 0) → P (Rule first_default) → ((j : ℕ) → 2 ≤ j → j ≤ chain_length n → P (link_fact j)) → (t : Item) → IsAmong t (theory_items n) → P t
  each_item P one of t (inl e) = subst P (sym e) one
  each_item P one of t (inr here) = each_later link_fact P of t here

  pub each_program_rule : (P : ProgramRule → Type 0) (i : ℕ) → P (rule (codes "x" ∷ codes "y" ∷ []) [] []) → P first_rule → ((j : ℕ) → 2 ≤ j → j ≤ chain_length n → P (link_rule j)) → P (rule [] (codes "x" ∷ []) []) → P (rule [] (codes "y" ∷ []) [])
      → (r : ProgramRule) → IsAmong r (program_rules n i) → P r
  each_program_rule P i choice one of no_x no_y r here = elim (among_either r (choice_rules i) _ here) [
    | inl chosen ↦ at_choice (nat_eq i 0) chosen
    | inr later ↦ at_later later
  ]
    where
      at_choice : (u : Bool) → IsAmong r (cond u (rule (codes "x" ∷ codes "y" ∷ []) [] [] ∷ []) []) → P r
      at_choice true (inl e) = subst P (sym e) choice
      at_choice true (inr none) = absurd none
      at_choice false none = absurd none

      at_last : (u : Bool) → IsAmong r (cond u (rule [] (codes "x" ∷ []) [] ∷ rule [] (codes "y" ∷ []) [] ∷ []) []) → P r
      at_last true (inl e) = subst P (sym e) no_x
      at_last true (inr (inl e)) = subst P (sym e) no_y
      at_last true (inr (inr none)) = absurd none
      at_last false none = absurd none

      at_later : IsAmong r (first_rule ∷ (map link_rule (later_links n) ++ forbidding_rules n i)) → P r
      at_later (inl e) = subst P (sym e) one
      at_later (inr rest) = elim (among_either r (map link_rule (later_links n)) (forbidding_rules n i) rest) [ inl among ↦ each_later link_rule P of r among | inr last ↦ at_last (is_forbidding n i) last ]

  -- ---- the rules
  pub rules_are : (b : Bridge) → IsAmong b (generated_bridges n) → (i : ℕ) × (1 ≤ i) × (i < context_count n) × ((b ≡ reached_rule n i) ⊎ (b ≡ missed_rule n i))
  rules_are b here =
      let (i, in_range, which) = flat_map_among (rules_to n) b (range_with_len 1 (context_count n - 1)) here in
      let both = range_among i 1 (context_count n - 1) in_range in
      (i, both.0, omega (arith, both.1), either i which)
    where
      either : (i : ℕ) → IsAmong b (rules_to n i) → (b ≡ reached_rule n i) ⊎ (b ≡ missed_rule n i)
      either i (inl e) = inl e
      either i (inr (inl e)) = inr e
      either i (inr (inr none)) = absurd none

  pub each_rule : (P : Bridge → Type 0) → ((i : ℕ) → 1 ≤ i → i < context_count n → P (reached_rule n i)) → ((i : ℕ) → 1 ≤ i → i < context_count n → P (missed_rule n i)) → (b : Bridge) → IsAmong b (generated_bridges n) → P b
  each_rule P reached missed b here =
      let (i, low, high, which) = rules_are b here in
      elim which [ inl e ↦ subst P (sym e) (reached i low high) | inr e ↦ subst P (sym e) (missed i low high) ]

  -- ---- what they read
  pub read_is : (r : Read) → IsAmong r (occurrences (generated_system n)) → (i : ℕ) × (1 ≤ i) × (i < context_count n) × (r ≡ chain_end n i)
  read_is r here =
      let (b, among, inside) = flat_map_among (λ (c : Bridge). c.pos ++ c.neg) r (generated_bridges n) here in
      each_rule (λ c. IsAmong r (c.pos ++ c.neg) → (i : ℕ) × (1 ≤ i) × (i < context_count n) × (r ≡ chain_end n i)) (λ i low high h. (i, low, high, only i h)) (λ i low high h. (i, low, high, only i h)) b among inside
    where
      only : (i : ℕ) → IsAmong r (chain_end n i ∷ []) → r ≡ chain_end n i
      only i (inl e) = e
      only i (inr none) = absurd none

  pub context_read_is : (j : ℕ) (r : Read) → IsAmong r (context_variables (generated_system n) j) → (i : ℕ) × (1 ≤ i) × (i < context_count n) × (r ≡ chain_end n i)
  context_read_is j r here = read_is r (filter_among (λ q. nat_eq q.context j) r (occurrences (generated_system n)) (firsts_among r _ here)).0

  pub variable_is : (r : Read) → IsAmong r (variables (generated_system n)) → (i : ℕ) × (1 ≤ i) × (i < context_count n) × (r ≡ chain_end n i)
  unfolding variables
  variable_is r here =
      let (j, in_range, inside) = flat_map_among (context_variables (generated_system n)) r (range_with_len 0 (length (generated_contexts n))) here in
      context_read_is j r inside

-- where the two rules into a context are added, the rules up to it are there
pub rules_go_on : (n : ℕ) (xs ys zs : List code.Bridge) (a b : code.Bridge) (i : ℕ) → 1 ≤ i → ys ≡ xs ++ a ∷ [] → zs ≡ ys ++ b ∷ [] → bridge_of a ≡ reached_rule n i → bridge_of b ≡ missed_rule n i
    → map bridge_of xs ≡ flat_map (rules_to n) (range_with_len 1 (i - 1)) → map bridge_of zs ≡ flat_map (rules_to n) (range_with_len 1 (i + 1 - 1))
rules_go_on n xs ys zs a b i low first second reached missed is =
    let next : i - 1 + 1 ≡ i + 1 - 1 = omega arith in
    let here : 1 + (i - 1) ≡ i = omega arith in
    ap (map bridge_of) (second ∙ ap (λ (t : List code.Bridge). t ++ b ∷ []) first ∙ append_assoc xs (a ∷ []) (b ∷ [])) ∙ map-append bridge_of xs (a ∷ b ∷ [])
    ∙ ap (λ (t : List Bridge). t ++ bridge_of a ∷ bridge_of b ∷ []) is
    ∙ ap (λ (t : List Bridge). flat_map (rules_to n) (range_with_len 1 (i - 1)) ++ t) (ap (λ (t : Bridge). t ∷ bridge_of b ∷ []) reached ∙ ap (λ (t : Bridge). reached_rule n i ∷ t ∷ []) missed)
    ∙ sym (flat_map-range_more (rules_to n) 1 (i - 1) i here) ∙ ap (λ k. flat_map (rules_to n) (range_with_len 1 k)) next
