-- The system that a text without faults says keeps the limits on numbers of contexts, rules, defaults and items.
use Rattle.std.proofs.Common.{◌≡◌, ℕ, ◌+◌, ◌<◌, ◌≤◌, Bool, true, false, cond, nat_lt, nat_eq, List, [], ◌∷◌, length, Some, refl, sym, ap, ◌∙◌, inl, inr, subst, arith, true≢false}
use Rattle.std.specs.Prelude.{count_by, slice_get}
use Rattle.std.specs.List.{range_with_len}
use Rattle.std.proofs.lemmas.Bool.Decides.{nat_tests}
use Rattle.std.proofs.lemmas.Option.{same_Some}
use Rattle.std.proofs.lemmas.Bool.{le-ltb}
use Rattle.mcs_base.specs.Listings.{IsAmong}
use Rattle.mcs_base.proofs.Sums.{count_by-cons}
use Rattle.mcs_base.proofs.Among.{any_none, range_among}
use Rattle.mcs_system.specs.Plain.{Context, Bridge, System}
use Rattle.mcs_system.specs.Logic.{same_name}
use Rattle.mcs_system.specs.declared.limit.Limit.TheVariants.{Contexts, Bridges, RulesPerContext, DefaultsPerContext, ItemsPerContext, Weight}
use Rattle.mcs_system.specs.Faults.{default_count, item_count, some_context, exceeds}
use Rattle.mcs_system.proofs.Sameness.{same_name-itself}
use Rattle.mcs_system.proofs.NameLemmas.{position-there}
use Rattle.mcs_grammar.specs.Written.{WrittenKb, WrittenContext, WrittenBridge, WrittenText, IsText}
use Rattle.mcs_grammar.specs.Saying.{kb_in, SaysBridge, SaysSystem, Each, names_of}
use Rattle.mcs_faults.proofs.UsesLemmas.{text_uses, goes_into, sum_of, context-count, bridge-count, target-count, default-count, item-count}
use Rattle.mcs_grammar.specs.Entries.{text_entries}
use Rattle.mcs_grammar.specs.Faults.{Exceeds}
use Rattle.mcs_grammar.proofs.Weights.{written-few}
use Rattle.mcs_faults.proofs.Within.{IsWithin, NoFaults}
use Rattle.mcs_grammar.proofs.SaidSystem.{as-many-contexts, as-many-bridges, context-written, bridge-written, IsContextAt, context-below}

-- a test that fails at each context's number
pub no-context : (m : System) (p : ℕ → Bool) → ((i : ℕ) → i < length m.contexts → p i ≡ false) → some_context m p ≡ false
no-context m p none = any_none p (range_with_len 0 (length m.contexts)) (λ i here. none i (let less = (range_among i 0 (length m.contexts) here).1 in omega arith))

-- where one passes the other does
pub count-each : {W X : Type 0} (says : W → X → Type 0) (p : W → Bool) (q : X → Bool) → ((w : W) (x : X) → says w x → q x ≡ true → p w ≡ true) → (ws : List W) (xs : List X) → Each says ws xs → count_by q xs ≤ count_by p ws
count-each says p q passes [] [] e = omega arith
count-each says p q passes (w ∷ ws) (x ∷ xs) e = at (q x) refl (p w) refl (count-each says p q passes ws xs e.1)
  where
    at : (b : Bool) → q x ≡ b → (c : Bool) → p w ≡ c → count_by q xs ≤ count_by p ws → count_by q (x ∷ xs) ≤ count_by p (w ∷ ws)
    at true is true is' rest =
        let left = count_by-cons q x xs in
        let right = count_by-cons p w ws in
        let one : cond {A = ℕ} (q x) 1 0 ≡ 1 = rw is refl in
        let one' : cond {A = ℕ} (p w) 1 0 ≡ 1 = rw is' refl in
        omega arith
    at true is false is' rest = absurd (true≢false (sym (passes w x e.0 is) ∙ is'))
    at false is c is' rest =
        let left = count_by-cons q x xs in
        let right = count_by-cons p w ws in
        let none : cond {A = ℕ} (q x) 1 0 ≡ 0 = rw is refl in
        omega arith
count-each says p q passes [] (x ∷ xs) e = absurd e
count-each says p q passes (w ∷ ws) [] e = absurd e

-- a context's part of the sum of those of its name
sum-has : (count : WrittenKb → ℕ) (x : WrittenContext) (xs : List WrittenContext) → IsAmong x xs → count x.kb ≤ sum_of x.name count xs
sum-has count x [] h = absurd h
sum-has count x (y ∷ ys) (inl e) = subst (λ (z : WrittenContext). count x.kb ≤ cond (same_name x.name z.name) (count z.kb) 0 + sum_of x.name count ys) e (rw (same_name-itself x.name) (omega arith))
sum-has count x (y ∷ ys) (inr h) = let rest = sum-has count x ys h in omega arith

module _ (t : WrittenText) (m : System) (says : SaysSystem t m) (within : IsWithin (text_uses t)) where
  pub few-contexts : exceeds m Contexts ≡ false
  unfolding exceeds
  few-contexts = le-ltb 64 (length m.contexts) (let many = as-many-contexts t m says in let few = within.contexts in let counted = context-count t in omega arith)

  pub few-bridges : exceeds m Bridges ≡ false
  unfolding exceeds
  few-bridges = le-ltb 64 (length m.bridges) (let many = as-many-bridges t m says in let few = within.bridges in let counted = bridge-count t in omega arith)

  into-same : (i : ℕ) (x : WrittenContext) → IsContextAt t m i x.name x → (w : WrittenBridge) (b : Bridge) → SaysBridge (names_of t.contexts) w b → nat_eq b.target i ≡ true → goes_into x.name w ≡ true
  into-same i x at w b s e =
      let here : b.target ≡ i = grind (arith, nat_tests) in
      let named : slice_get (names_of t.contexts) i ≡ Some (w.head).context = position-there (w.head).context (names_of t.contexts) i ((s.head).number ∙ ap (λ (k : ℕ). Some k) here) in
      let same : x.name ≡ (w.head).context = same_Some _ _ (sym at.name_at ∙ named) in
      ap (same_name x.name) (sym same) ∙ same_name-itself x.name

  pub few-rules : exceeds m RulesPerContext ≡ false
  unfolding exceeds
  few-rules = no-context m (λ i. nat_lt 12 (count_by (λ (b : Bridge). nat_eq b.target i) m.bridges)) (λ i less.
      let many = as-many-contexts t m says in
      let (x, at) = context-below t m says i (omega arith) in
      let counted = target-count t x.name in
      let few = within.rules x.name in
      let most = count-each (SaysBridge (names_of t.contexts)) (goes_into x.name) (λ (b : Bridge). nat_eq b.target i) (into-same i x at) t.bridges m.bridges says.bridges in
      le-ltb 12 (count_by (λ (b : Bridge). nat_eq b.target i) m.bridges) (omega arith))

  pub few-defaults : exceeds m DefaultsPerContext ≡ false
  unfolding exceeds
  few-defaults = any_none (λ (c : Context). nat_lt 10 (default_count c.kb)) m.contexts (λ c here.
      let (x, there, is) = context-written t m says c here in
      let counted = default-count t x.name in
      let few = within.defaults x.name in
      let part = sum-has (λ kb. default_count (kb_in kb)) x t.contexts there in
      ap (λ (d : Context). nat_lt 10 (default_count d.kb)) is ∙ le-ltb 10 (default_count (kb_in x.kb)) (omega arith))

  pub few-items : IsText t → exceeds m ItemsPerContext ≡ false
  unfolding exceeds
  few-items grammar = any_none (λ (c : Context). nat_lt 4096 (item_count c.kb)) m.contexts (λ c here.
      let (x, there, is) = context-written t m says c here in
      let counted = item-count t x.name grammar in
      let few = within.items x.name in
      let part = sum-has (λ kb. item_count (kb_in kb)) x t.contexts there in
      ap (λ (d : Context). nat_lt 4096 (item_count d.kb)) is ∙ le-ltb 4096 (item_count (kb_in x.kb)) (omega arith))

  pub light-rules : NoFaults (text_entries t) → exceeds m Weight ≡ false
  unfolding exceeds
  light-rules none = any_none (λ (b : Bridge). nat_lt 1000000 b.weight) m.bridges (λ b here.
      let (w, there, s) = bridge-written t m says b here in
      let few = written-few t (λ k e at heavy. none k e (Exceeds Weight) at heavy) w there in
      le-ltb 1000000 b.weight (omega (arith, few, s.weight)))
