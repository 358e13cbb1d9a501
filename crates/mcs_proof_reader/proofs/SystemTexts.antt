-- The texts of a system's rules, variables and atoms can be told apart.
use Rattle.std.proofs.Common.{◌≡◌, ℕ, false, IsTrue, List, [], ◌∷◌, ◌++◌, map, codes, slice_get, Option, Some, refl, sym, ap, ◌∙◌, inl, inr, true≢false}
use Rattle.std.proofs.lemmas.Bool.{or_parts}
use Rattle.std.specs.List.{AllByRecursion}
use Rattle.mcs_base.specs.Listings.{IsAmong}
use Rattle.mcs_base.specs.Words.{is_word}
use Rattle.mcs_base.proofs.Each.{all_weaker}
use Rattle.mcs_base.proofs.Among.{get_among}
use Rattle.mcs_base.proofs.Lists.{slice_get_below}
use Rattle.mcs_base.proofs.Distinct.{distinct_map, distinct_from_places}
use Rattle.mcs_base.proofs.WordLemmas.{name_is_word}
use Rattle.mcs_system.specs.Plain.{Name, Formula, Context, Read, Bridge, System}
use Rattle.mcs_system.specs.Naming.{IsName, IsNamedBridge, IsSystemNamed}
use Rattle.mcs_system.specs.Faults.{has_twins, IsValid}
use Rattle.mcs_system.specs.Systems.{variables}
use Rattle.mcs_system.specs.Texts.{primary, name_of_context, belief_text}
use Rattle.mcs_system.proofs.NameLemmas.{no_twins}
use Rattle.mcs_system.proofs.ValidLemmas.{tests_pass, context_names_differ}
use Rattle.mcs_system.proofs.VariableLemmas.{variable_in_range}
use Rattle.mcs_system.proofs.Distinct.{one_number}
use Rattle.mcs_spelling.specs.Parts.{IsTellable, AreTellable}
use Rattle.mcs_proof_reader.specs.Questions.{rule_names, variable_texts}
use Rattle.mcs_proof_text.proofs.PlainTexts.{Plain, all_word, name_plain, context_named, variable_named, belief_plain}
use Rattle.mcs_proof_reader.proofs.BeliefTexts.{munch, same_primary}

-- ---- names
word_some : (v : List ℕ) → IsTrue (is_word v) → ¬ (v ≡ [])
word_some v is = λ e. true≢false (sym is ∙ ap is_word e)

name_some : (n : Name) → IsName n → ¬ (n ≡ [])
name_some n named = word_some n (name_is_word n named)

told_plain : (v : List ℕ) → ¬ (v ≡ []) → AllByRecursion Plain v → IsTellable v
told_plain v some plain = (some, all_weaker Plain (λ b. (¬ (b ≡ 44)) × (¬ (b ≡ 125))) (λ b p. p.0) v plain)

pub name_tells : (n : Name) → IsName n → IsTellable n
name_tells n named = told_plain n (name_some n named) (name_plain n named)

-- ---- names that are apart
pub names_tell : (ns : List Name) → AllByRecursion IsName ns → has_twins ns ≡ false → AreTellable ns
names_tell ns named apart = record { each = each ns named; apart = (no_twins ns).0 apart }
  where
    each : (ns : List Name) → AllByRecursion IsName ns → AllByRecursion IsTellable ns
    each [] named = tt
    each (n ∷ ns) named = (name_tells n named.0, each ns named.1)

-- ---- of a system
module _ (m : System) (valid : IsValid m) (named : IsSystemNamed m) where
  twins : (has_twins (map (λ (c : Context). c.name) m.contexts) ≡ false) × (has_twins (map (λ (b : Bridge). b.name) m.bridges) ≡ false)
  twins = or_parts (has_twins (map (λ (c : Context). c.name) m.contexts)) (has_twins (map (λ (b : Bridge). b.name) m.bridges)) (tests_pass m valid).apart

  pub contexts_apart : has_twins (map (λ (c : Context). c.name) m.contexts) ≡ false
  contexts_apart = twins.0

  pub rules_tell : AreTellable (rule_names m)
  rules_tell = names_tell (rule_names m) (go m.bridges named.bridges) twins.1
    where
      go : (bs : List Bridge) → AllByRecursion IsNamedBridge bs → AllByRecursion IsName (map (λ (b : Bridge). b.name) bs)
      go [] all = tt
      go (b ∷ bs) all = (all.0.name, go bs all.1)

  variable_context : (r : Read) → IsAmong r (variables m) → (c : Context) × (slice_get m.contexts r.context ≡ Some c)
  variable_context r among = let (v, is) = get_among r (variables m) among in slice_get_below m.contexts r.context (variable_in_range m v r is)

  belief_tells : (r : Read) → IsAmong r (variables m) → IsTellable (belief_text m r)
  belief_tells r among =
      let (c, is) = variable_context r among in
      let text : belief_text m r ≡ c.name ++ (codes ":" ++ primary r.belief) = ap (λ (o : Option Context). name_of_context o ++ (codes ":" ++ primary r.belief)) is in
      told_plain (belief_text m r) (λ none. some c.name (primary r.belief) (sym text ∙ none)) (belief_plain m named r among)
    where
      some : (n p : List ℕ) → ¬ (n ++ (codes ":" ++ p) ≡ [])
      some [] p = λ e. (cc)
      some (b ∷ n) p = λ e. (cc)

  same_belief : (q r : Read) → IsAmong q (variables m) → IsAmong r (variables m) → belief_text m q ≡ belief_text m r → q ≡ r
  same_belief q r aq ar e =
      let (c, is) = variable_context q aq in
      let (d, is') = variable_context r ar in
      let name = context_named m named q.context c is in
      let name' = context_named m named r.context d is' in
      let whole : c.name ++ (codes ":" ++ primary q.belief) ≡ d.name ++ (codes ":" ++ primary r.belief) =
      ap (λ (o : Option Context). name_of_context o ++ (codes ":" ++ primary q.belief)) (sym is) ∙ (e ∙ ap (λ (o : Option Context). name_of_context o ++ (codes ":" ++ primary r.belief)) is') in
      let (names, rest) = munch c.name d.name (codes ":" ++ primary q.belief) (codes ":" ++ primary r.belief) (all_word c.name (name_is_word c.name name)) (all_word d.name (name_is_word d.name name')) refl refl whole in
      let contexts : q.context ≡ r.context = context_names_differ m valid q.context r.context c d is is' names in
      let beliefs : primary q.belief ++ [] ≡ primary r.belief ++ [] = (let tails : primary q.belief ≡ primary r.belief = cc in ap (λ (x : List ℕ). x ++ []) tails) in
      let same = (same_primary q.belief r.belief [] [] (variable_named m named q aq) (variable_named m named r ar) tt tt beliefs).0 in
      read_same q r contexts same
    where
      read_same : (q r : Read) → q.context ≡ r.context → q.belief ≡ r.belief → q ≡ r
      read_same q r a b = ap (λ (i : ℕ). (let x : Read = record { context = i; belief = q.belief } in x)) a ∙ ap (λ (f : Formula). (let x : Read = record { context = r.context; belief = f } in x)) b

  pub variables_tell : AreTellable (variable_texts m)
  variables_tell = record {
    each = all_from_map' (variables m) (λ r among. among);
    apart = distinct_map (belief_text m) (variables m) same_belief (distinct_from_places (variables m) (λ j k r here there. one_number m j k r here there));
  }
    where
      all_from_map' : (rs : List Read) → ((r : Read) → IsAmong r rs → IsAmong r (variables m)) → AllByRecursion IsTellable (map (belief_text m) rs)
      all_from_map' [] inside = tt
      all_from_map' (r ∷ rs) inside = (belief_tells r (inside r (inl refl)), all_from_map' rs (λ q among. inside q (inr among)))
