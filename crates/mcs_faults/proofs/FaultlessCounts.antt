-- A text that says a valid system keeps the limits on contexts, rules, items and defaults.
use Rattle.std.proofs.Common.{◌≡◌, ℕ, ◌<◌, ◌≤◌, Bool, true, false, nat_lt, nat_eq, List, [], ◌∷◌, take, Some, refl, sym, ap, subst, ◌∙◌, inl, inr, ◌⊎◌, arith, slice_get}
use Rattle.std.specs.Prelude.{count_by}
use Rattle.std.specs.List.{position}
use Rattle.std.proofs.lemmas.Bool.Decides.{nat_tests}
use Rattle.std.specs.Cmp.{both_ways}
use Rattle.std.proofs.lemmas.Bool.{eq-eqb, eqb-true}
use Rattle.std.proofs.lemmas.Option.{same_Some}
use Rattle.mcs_base.specs.Listings.{IsAmong}
use Rattle.mcs_base.proofs.Sums.{zip_count}
use Rattle.mcs_base.specs.Numbers.{value_of_digits}
use Rattle.mcs_base.proofs.Each.{all_among}
use Rattle.mcs_base.proofs.Among.{get_among, none_get, zip_among}
use Rattle.mcs_grammar.proofs.Weights.{weights_in_range}
use Rattle.mcs_account.proofs.TextUses.{weights-there}
use Rattle.mcs_system.specs.Plain.{Name}
use Rattle.mcs_system.specs.Plain as plain
use Rattle.mcs_system.specs.Logic.{same_name}
use Rattle.mcs_system.specs.Faults.{default_count, item_count, exceeds, IsValid}
use Rattle.mcs_system.specs.declared.limit.Limit.TheVariants.{Contexts, Bridges, RulesPerContext, DefaultsPerContext, ItemsPerContext, Weight}
use Rattle.mcs_system.proofs.Sameness.{same_name-is, same_name-itself}
use Rattle.mcs_system.proofs.ValidLemmas.{limit_kept, few_contexts, few_bridges, few_rules, few_defaults}
use Rattle.mcs_system.proofs.NameLemmas.{position-there}
use Rattle.mcs_grammar.specs.Written.{WrittenKb, WrittenContext, WrittenPlace, WrittenBridge, WrittenText, IsText}
use Rattle.mcs_grammar.specs.Entries.{Use, BeginsContext, BeginsBridge, BeginsItem, BeginsDefault, NamesTarget, Weighs, Entry, text_entries, uses_of}
use Rattle.mcs_grammar.specs.Saying.{kb_in, context_in, weight_said, SaysBridge, names_of, SaysSystem}
use Rattle.mcs_grammar.specs.Faults.{AreDifferent, begins_context, begins_bridge, names_target, begins_default_of, begins_item_of, ExceedsLimit}
use Rattle.mcs_grammar.proofs.TextSplits.{IsSplit, uses-split, among-here, count-more}
use Rattle.mcs_faults.proofs.SaidParts.{context-count-same, bridge-count-same, context-at, in-range, said-place}
use Rattle.mcs_faults.proofs.FaultlessNames.{contexts-differ}
use Rattle.mcs_faults.proofs.UsesLemmas.{text_uses, IsPlaceOf, OfHead, context-count, bridge-count, targets-there, goes_into, target-count, sum_of, default-count, item-count}

few_items : (m : plain.System) → IsValid m → (i : ℕ) (c : plain.Context) → slice_get m.contexts i ≡ Some c → item_count c.kb ≤ 4096
unfolding exceeds
few_items m valid i c at =
    let none = none_get (λ (d : plain.Context). nat_lt 4096 (item_count d.kb)) m.contexts i c (limit_kept m valid ItemsPerContext (inr (inr (inr (inr (inr (inr (inr (inl refl))))))))) at in
    grind (arith, nat_tests)

-- ---- a sum over the contexts of one name is of one context
sum-none : (c : Name) (count : WrittenKb → ℕ) (cs : List WrittenContext) → ¬ IsAmong c (names_of cs) → sum_of c count cs ≡ 0
sum-none c count [] none = refl
sum-none c count (x ∷ xs) none = go (same_name c x.name) refl (sum-none c count xs (λ h. none (inr h)))
  where
    go : (b : Bool) → same_name c x.name ≡ b → sum_of c count xs ≡ 0 → sum_of c count (x ∷ xs) ≡ 0
    go true e rest = absurd (none (inl (same_name-is c x.name e)))
    go false e rest = rw e (omega (arith, rest))

-- no context has the name, or one
sum-one : (c : Name) (count : WrittenKb → ℕ) (cs : List WrittenContext) → AreDifferent (names_of cs) → (sum_of c count cs ≡ 0) ⊎ ((x : WrittenContext) × IsAmong x cs × (sum_of c count cs ≡ count x.kb))
sum-one c count [] d = inl refl
sum-one c count (x ∷ xs) d = go (same_name c x.name) refl (sum-one c count xs d.1)
  where
    go : (b : Bool) → same_name c x.name ≡ b → (sum_of c count xs ≡ 0) ⊎ ((y : WrittenContext) × IsAmong y xs × (sum_of c count xs ≡ count y.kb)) → (sum_of c count (x ∷ xs) ≡ 0) ⊎ ((y : WrittenContext) × IsAmong y (x ∷ xs) × (sum_of c count (x ∷ xs) ≡ count y.kb))
    go true e rest = let none = sum-none c count xs (subst (λ (n : Name). ¬ IsAmong n (names_of xs)) (sym (same_name-is c x.name e)) d.0) in inr (x, inl refl, rw e (omega (arith, none)))
    go false e (inl none) = inl (rw e (omega (arith, none)))
    go false e (inr found) = inr (found.0, inr found.1, rw e (omega (arith, found.2)))

-- a rule is into the context of the name where its target is the context of the number
same-target : (names : List Name) (c : Name) (i : ℕ) → position (same_name c) names ≡ Some i → (w : WrittenBridge) (b : plain.Bridge) → SaysBridge names w b → goes_into c w ≡ nat_eq b.target i
same-target names c i is w b says =
    both_ways (goes_into c w) (nat_eq b.target i)
    (λ e. let same : c ≡ (w.head).context = same_name-is c (w.head).context e in
    eq-eqb b.target i (same_Some _ _ (sym (says.head).number ∙ (ap (λ (n : Name). position (same_name n) names) (sym same) ∙ is))))
    (λ e. let target : b.target ≡ i = eqb-true b.target i e in
    let mine = position-there (w.head).context names b.target (says.head).number in
    let its = position-there c names i is in
    let same : (w.head).context ≡ c = same_Some _ _ (sym mine ∙ (ap (slice_get names) target ∙ its)) in
    ap (same_name c) same ∙ same_name-itself c)

module _ (t : WrittenText) (m : plain.System) (says : SaysSystem t m) (valid : IsValid m) where
  most-rules : (c : Name) (p : WrittenPlace) → IsPlaceOf t p → p.context ≡ c → count_by (goes_into c) t.bridges ≤ 12
  most-rules c p of same =
      let said = said-place t m says p of in
      let i : ℕ = said.number in
      let at : position (same_name c) (names_of t.contexts) ≡ Some i = ap (λ (n : Name). position (same_name n) (names_of t.contexts)) (sym same) ∙ said.is_number in
      let alike = zip_count (SaysBridge (names_of t.contexts)) (goes_into c) (λ (b : plain.Bridge). nat_eq b.target i) (same-target (names_of t.contexts) c i at) t.bridges m.bridges says.bridges in
      let few = few_rules m valid i (in-range t m says c i at) in
      omega arith

  most-of-each : (c : Name) (count : WrittenKb → ℕ) (n : ℕ) → ((x : WrittenContext) → IsAmong x t.contexts → count x.kb ≤ n) → sum_of c count t.contexts ≤ n
  most-of-each c count n each = go (sum-one c count t.contexts (contexts-differ t m says valid))
    where
      go : (sum_of c count t.contexts ≡ 0) ⊎ ((x : WrittenContext) × IsAmong x t.contexts × (sum_of c count t.contexts ≡ count x.kb)) → sum_of c count t.contexts ≤ n
      go (inl none) = omega arith
      go (inr found) = let most = each found.0 found.1 in omega (arith, found.2)

  most-defaults : (x : WrittenContext) → IsAmong x t.contexts → default_count (kb_in x.kb) ≤ 10
  most-defaults x there = let (i, at) = get_among x t.contexts there in few_defaults m valid i (context_in x) (context-at t m says i x at)

  most-items : (x : WrittenContext) → IsAmong x t.contexts → item_count (kb_in x.kb) ≤ 4096
  most-items x there = let (i, at) = get_among x t.contexts there in few_items m valid i (context_in x) (context-at t m says i x at)

  module _ (k : ℕ) (here : Entry) (is : slice_get (text_entries t) k ≡ Some here) where
    abbrev before : List Use
    before = uses_of (take k (text_entries t))

    split : IsSplit (text_uses t) before here.uses
    split = uses-split (text_entries t) k here is

    more : (p : Use → Bool) (u : Use) → IsAmong u here.uses → p u ≡ true → count_by p before < count_by p (text_uses t)
    more p u = count-more p (text_uses t) before here.uses u split

    pub few-contexts : ¬ ExceedsLimit Contexts before here
    few-contexts (h, full) =
        let over = more begins_context BeginsContext h refl in
        let all = context-count t in
        let same = context-count-same t m says in
        let most = few_contexts m valid in
        omega arith

    pub few-bridges : ¬ ExceedsLimit Bridges before here
    few-bridges (h, full) =
        let over = more begins_bridge BeginsBridge h refl in
        let all = bridge-count t in
        let same = bridge-count-same t m says in
        let most = few_bridges m valid in
        omega arith

    pub few-rules : ¬ ExceedsLimit RulesPerContext before here
    few-rules (c, h, full) =
        let over = more (names_target c) (NamesTarget c) h (same_name-itself c) in
        let all = target-count t c in
        let (b, there, into) = (targets-there t c).0 (among-here (text_uses t) before here.uses (NamesTarget c) split h) in
        let most = most-rules c b.head (OfHead b there refl) into in
        omega arith

    pub few-defaults : ¬ ExceedsLimit DefaultsPerContext before here
    few-defaults (c, h, full) =
        let over = more (begins_default_of c) (BeginsDefault c) h (same_name-itself c) in
        let all = default-count t c in
        let most = most-of-each c (λ kb. default_count (kb_in kb)) 10 most-defaults in
        omega arith

    pub light-weights : ¬ ExceedsLimit Weight before here
    light-weights (n, h, heavy) =
        let (w, there, (digits, spelled, is)) = weights-there t n (among-here (text_uses t) before here.uses (Weighs n) split h) in
        let (b, among, said) = zip_among (SaysBridge (names_of t.contexts)) t.bridges m.bridges says.bridges w there in
        let range = all_among (λ (x : plain.Bridge). (1 ≤ x.weight) × (x.weight ≤ 1000000)) m.bridges b (weights_in_range m valid) among in
        let weighs : b.weight ≡ value_of_digits digits = said.weight ∙ ap weight_said spelled in
        omega (arith, range.1, weighs, is, heavy)

    pub few-items : IsText t → ¬ ExceedsLimit ItemsPerContext before here
    few-items grammar (c, h, full) =
        let over = more (begins_item_of c) (BeginsItem c) h (same_name-itself c) in
        let all = item-count t c grammar in
        let most = most-of-each c (λ kb. item_count (kb_in kb)) 4096 most-items in
        omega arith
