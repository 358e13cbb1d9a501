-- A text that says a valid system: each context is there that it names, no name comes twice, and what goes into a
-- program or is read of one is an atom.
use Rattle.std.proofs.Common.{◌≡◌, ℕ, true, false, List, ◌∷◌, ◌++◌, map, take, Some, refl, sym, ap, subst, ◌∙◌, inl, inr, true≢false, slice_get}
use Rattle.std.proofs.lemmas.Grind.{flat_map-append}
use Rattle.std.proofs.lemmas.Bool.{or_parts}
use Rattle.std.proofs.lemmas.Simd.{map-map}
use Rattle.mcs_base.specs.Listings.{IsAmong}
use Rattle.mcs_base.proofs.Distinct.{distinct_parts}
use Rattle.mcs_base.proofs.Among.{among_left, get_among, among_get}
use Rattle.mcs_base.proofs.Each.{all_among}
use Rattle.mcs_base.proofs.Lists.{zip_map_same}
use Rattle.mcs_system.specs.Plain.{Name, ProgramKind}
use Rattle.mcs_system.specs.Plain as plain
use Rattle.mcs_system.specs.Faults.{is_atom, is_program, has_twins, reads_of, IsValid}
use Rattle.mcs_system.proofs.ValidLemmas.{tests_pass, head_is_atom, belief_is_atom}
use Rattle.mcs_system.proofs.NameLemmas.{no_twins, position-there}
use Rattle.mcs_grammar.specs.Written.{Written, Named, WrittenKb, OfKind, WrittenContext, WrittenPlace, WrittenRead, WrittenBridge, WrittenText, IsNameWord, HasNames, IsPlace, IsWrittenBridge, IsText}
use Rattle.mcs_grammar.specs.Entries.{Use, NamesContext, NamesBridge, SaysProgram, NamesTarget, NamesSource, Entry, formula_in, whole_entries, text_entries, uses_of}
use Rattle.mcs_grammar.specs.Saying.{context_in, SaysBridge, names_of, SaysSystem}
use Rattle.mcs_grammar.specs.Faults.{AreDifferent, NoContext, Twin, NoAtom, Has}
use Rattle.mcs_account.specs.Known.{context_named, contexts_named}
use Rattle.mcs_faults.specs.Watching.{bridge_named, bridges_named}
use Rattle.mcs_grammar.proofs.TextSplits.{IsSplit, uses-split, among-before, among-here}
use Rattle.mcs_faults.proofs.SaidParts.{only-context, SaidOf, AsHead, AsRead, said-place}
use Rattle.mcs_faults.proofs.BeliefEntries.{text-begins}
use Rattle.mcs_faults.proofs.BeforeRules.{among-named, named-among, among-bridges-named, before-target, before-source}
use Rattle.mcs_faults.proofs.TextConditions.{HasBareAtoms}
use Rattle.mcs_faults.proofs.UsesLemmas.{text_uses, IsPlaceOf, OfHead, OfRead, names-there, rule-names-there, targets-there, sources-there, programs-there, IsProgramKb}

-- ---- names differ
module _ (t : WrittenText) (m : plain.System) (says : SaysSystem t m) (valid : IsValid m) where
  twins : (has_twins (map (λ (c : plain.Context). c.name) m.contexts) ≡ false) × (has_twins (map (λ (b : plain.Bridge). b.name) m.bridges) ≡ false)
  twins = or_parts (has_twins (map (λ (c : plain.Context). c.name) m.contexts)) (has_twins (map (λ (b : plain.Bridge). b.name) m.bridges)) (tests_pass m valid).apart

  pub contexts-differ : AreDifferent (names_of t.contexts)
  contexts-differ = (no_twins (names_of t.contexts)).0 (ap has_twins (sym (ap (map (λ (c : plain.Context). c.name)) says.contexts ∙ map-map (λ (c : plain.Context). c.name) context_in t.contexts)) ∙ twins.0)

  pub bridges-differ : AreDifferent (map (λ (w : WrittenBridge). w.name) t.bridges)
  bridges-differ = (no_twins (map (λ (w : WrittenBridge). w.name) t.bridges)).0 (ap has_twins (zip_map_same (SaysBridge (names_of t.contexts)) (λ w. w.name) (λ b. b.name) (λ w b s. sym s.named) t.bridges m.bridges says.bridges) ∙ twins.1)

  -- ---- each context that is named is there
  place-is-named : (p : WrittenPlace) → IsPlaceOf t p → IsAmong (NamesContext p.context) (text_uses t)
  place-is-named p of =
      let said = said-place t m says p of in
      let there = among_get p.context (names_of t.contexts) said.number (position-there p.context (names_of t.contexts) said.number said.is_number) in
      named-among (text_uses t) p.context (subst (IsAmong p.context) (sym (names-there t)) there)

  target-is-named : (c : Name) → IsAmong (NamesTarget c) (text_uses t) → IsAmong (NamesContext c) (text_uses t)
  target-is-named c h = let (b, inside, is) = (targets-there t c).0 h in subst (λ (d : Name). IsAmong (NamesContext d) (text_uses t)) is (place-is-named b.head (OfHead b inside refl))

  source-is-named : (c : Name) → IsAmong (NamesSource c) (text_uses t) → IsAmong (NamesContext c) (text_uses t)
  source-is-named c h = let (b, inside, read) = (sources-there t c).0 h in subst (λ (d : Name). IsAmong (NamesContext d) (text_uses t)) read.2 (place-is-named (read.0).place (OfRead b inside read.0 read.1 refl))

  module _ (k : ℕ) (here : Entry) (is : slice_get (text_entries t) k ≡ Some here) where
    abbrev before : List Use
    before = uses_of (take k (text_entries t))

    split : IsSplit (text_uses t) before here.uses
    split = uses-split (text_entries t) k here is

    pub no-context : ¬ Has NoContext before here
    no-context (c, inl h, new) = new ((before-target t k here is c h).named c (target-is-named c (among-here (text_uses t) before here.uses (NamesTarget c) split h)))
    no-context (c, inr h, new) = new ((before-source t k here is c h).named c (source-is-named c (among-here (text_uses t) before here.uses (NamesSource c) split h)))

    -- ---- no name comes twice
    pub no-twin : ¬ Has Twin before here
    no-twin (inl (c, h, b)) =
        let after : List Use = here.uses ++ split.after in
        let parts : names_of t.contexts ≡ contexts_named before ++ contexts_named after = sym (names-there t) ∙ ap contexts_named split.whole ∙ flat_map-append context_named before after in
        distinct_parts (contexts_named before) (contexts_named after) c (subst AreDifferent parts contexts-differ) (among-named before c b) (among-named after c (among_left (NamesContext c) here.uses split.after h))
    no-twin (inr (n, h, b)) =
        let after : List Use = here.uses ++ split.after in
        let parts : map (λ (w : WrittenBridge). w.name) t.bridges ≡ bridges_named before ++ bridges_named after = sym (rule-names-there t) ∙ ap bridges_named split.whole ∙ flat_map-append bridge_named before after in
        distinct_parts (bridges_named before) (bridges_named after) n (subst AreDifferent parts bridges-differ) (among-bridges-named before n b) (among-bridges-named after n (among_left (NamesBridge n) here.uses split.after h))

-- ---- what goes into a program or is read of one is an atom
program-kb : (n : Name) (kb : WrittenKb) → IsProgramKb kb → is_program (Some (context_in (record { name = n; kb = kb }))) ≡ true
program-kb n (OfKind ProgramKind rules) h = refl
program-kb n kb h = absurd h

atom-is : (f : plain.Formula) → is_atom f ≡ true → (a : Name) × (f ≡ plain.Atom a)
atom-is (plain.Atom a) e = (a, refl)
atom-is plain.Truth e = absurd (true≢false (sym e))
atom-is f e = absurd (true≢false (sym e))

place-is : (t : WrittenText) → IsText t → (p : WrittenPlace) → IsPlaceOf t p → IsPlace p
place-is t grammar p (OfHead b there is) = subst IsPlace is (all_among IsWrittenBridge t.bridges b grammar.1 there).1
place-is t grammar p (OfRead b there r read is) = subst IsPlace is (all_among (λ (q : WrittenRead). IsPlace q.place) b.reads r (all_among IsWrittenBridge t.bridges b grammar.1 there).2 read)

module _ (t : WrittenText) (m : plain.System) (says : SaysSystem t m) (valid : IsValid m) where
  said-atom : (i : ℕ) (f : plain.Formula) → is_program (slice_get m.contexts i) ≡ true → SaidOf m i f → is_atom f ≡ true
  said-atom i f program (AsHead b there into is) =
      let (k, at) = get_among b m.bridges there in
      ap is_atom (sym is) ∙ head_is_atom m valid k b at (ap (λ (j : ℕ). is_program (slice_get m.contexts j)) into ∙ program)
  said-atom i f program (AsRead b there r read of is) =
      let (k, at) = get_among b m.bridges there in
      let (j, at') = get_among r (reads_of b) read in
      ap is_atom (sym is) ∙ belief_is_atom m valid k j b r at at' (ap (λ (j : ℕ). is_program (slice_get m.contexts j)) of ∙ program)

  -- a belief of a program is an atom
  program-atom : (p : WrittenPlace) → IsPlaceOf t p → (x : WrittenContext) → IsAmong x t.contexts → x.name ≡ p.context → IsProgramKb x.kb → (a : Name) × (formula_in p.belief ≡ plain.Atom a)
  program-atom p of x there named program =
      let said = said-place t m says p of in
      let at = only-context t m says valid p.context said.number x said.is_number there named in
      atom-is (formula_in p.belief) (said-atom said.number (formula_in p.belief) (ap is_program at ∙ program-kb x.name x.kb program) said.said)

  first-is-name : (p : WrittenPlace) (a : Name) (first : Entry) (rest : List Entry) → IsPlace p → p.belief ≡ Named a → whole_entries p.context p.belief ≡ first ∷ rest → IsNameWord first.token
  first-is-name p a first rest h bare entries =
      let named : IsNameWord a = let both = subst (λ (f : Written). HasNames f) bare h.1.1 in both in
      let heads : whole_entries p.context (Named a) ≡ first ∷ rest = ap (whole_entries p.context) (sym bare) ∙ entries in
      let token : a ≡ first.token = cc in
      subst IsNameWord token named

  pub no-wrong-atom : IsText t → HasBareAtoms t → (k : ℕ) (here : Entry) → slice_get (text_entries t) k ≡ Some here → ¬ Has NoAtom (uses_of (take k (text_entries t))) here
  no-wrong-atom grammar bare k here is (c, h, program, no_name) =
      let begins = text-begins t here (among_get here (text_entries t) k is) c h in
      let p : WrittenPlace = begins.place in
      let first = begins.is_first in
      let (x, there, named, kind) = (programs-there t c).0 (among-before (text_uses t) (uses_of (take k (text_entries t))) here.uses (SaysProgram c) (uses-split (text_entries t) k here is) program) in
      let (a, atom) = program-atom p begins.of_text x there (named ∙ sym first.context) kind in
      no_name (subst IsNameWord first.is_token (first-is-name p a first.first first.rest (place-is t grammar p begins.of_text) (bare p a begins.of_text atom) first.entries))
