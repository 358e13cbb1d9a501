-- Contexts and the atoms of their items, and what holds of a system by its rules where its contexts are those of a valid one.
use Rattle.std.proofs.Common.{◌≡◌, ℕ, ◌+◌, Some, ◌<◌, ◌≤◌, Vec, Bool, false, ◌||◌, List, [], ◌∷◌, ◌++◌, map, filter, not, length, take, get_or, refl, sym, ap, ◌∙◌, subst, inl, inr}
use Rattle.std.proofs.lemmas.Bool.{or_parts}
use Rattle.std.proofs.lemmas.List.{map-append, take_more}
use Rattle.std.proofs.lemmas.Option.{slice_get-get_or}
use Rattle.std.specs.List.{AllByRecursion, list_any}
use Rattle.mcs_base.proofs.Each.{all_push}
use Rattle.std.specs.declared.alloc.Global.{Global}
use Rattle.mcs_system.specs.declared.bridge.Bridge as code'
use Rattle.mcs_system.specs.declared.knowledge.Context as code
use Rattle.mcs_system.specs.declared.known.KnownContexts.{KnownContexts}
use Rattle.mcs_system.specs.declared.parts.Kept.{Kept}
use Rattle.mcs_system.specs.declared.limit.Limit.TheVariants.{DefaultsPerContext, ItemsPerContext, FormulaSize}
use Rattle.mcs_system.specs.Plain.{Name, Context, Bridge, System}
use Rattle.mcs_system.specs.Atoms.{kb_atoms, first_names}
use Rattle.mcs_system.specs.Built.{IsOwnAtoms, AreOwnAtoms, HasManyOwnAtoms, AreKnown, IsGathered, IsSystemKept, made_of}
use Rattle.mcs_system.specs.Naming.{IsNamedBridge}
use Rattle.mcs_system.specs.Edits.{with_rules}
use Rattle.mcs_system.specs.Faults.{has_twins, has_twin_names, has_unjustified, has_misfit, has_misfits, has_large_item, has_large_part, exceeds, IsValid}
use Rattle.mcs_system.specs.Seen.{kb_of, bridge_of}
use Rattle.mcs_system.specs.Logic.{same_name}
use Rattle.mcs_system.proofs.FewerRules.{without_rule_is_valid}
use Rattle.mcs_system.proofs.ValidLemmas.{tests_pass, limit_kept}

-- ---- the atoms of items
abbrev of_items : code.Context → List Name
of_items c = first_names (kb_atoms (kb_of c.kb))

abbrev names_in : Vec Name Global → List Name
names_in v = v.items

abbrev IsFew : Vec Name Global → Type 0
IsFew v = length v.items ≤ 64

pub none_own : (cs : List code.Context) (own : List (Vec Name Global)) → cs ≡ [] → own ≡ [] → AreOwnAtoms cs own
none_own cs own e e' = rw (e, e') (record { names_are = refl; few = tt })

pub own_more : (cs : List code.Context) (k : ℕ) (c : code.Context) → k < length cs → c ≡ get_or cs k c → (before after : List (Vec Name Global)) (names : Vec Name Global) → after ≡ before ++ names ∷ [] → IsOwnAtoms (kb_of c.kb) names.items → AreOwnAtoms (take k cs) before → AreOwnAtoms (take (k + 1) cs) after
own_more cs k c less is before after names more own all = rw (more, take_more cs k c less, ← is) (record {
  names_are = map-append names_in before (names ∷ []) ∙ ap (λ (ns : List (List Name)). ns ++ names.items ∷ []) all.names_are ∙ ap (λ (n : List Name). map of_items (take k cs) ++ n ∷ []) own.names_are ∙ sym (map-append of_items (take k cs) (c ∷ []));
  few = all_push IsFew before names all.few own.few;
})

pub own_many : (cs : List code.Context) (k : ℕ) (c : code.Context) → k < length cs → c ≡ get_or cs k c → 64 < length (of_items c) → HasManyOwnAtoms cs
own_many cs k c less is many = record { place = k; context = c; here = slice_get-get_or cs k c less ∙ ap Some (sym is); many = many }

-- ---- what is tested of the rules alone
module _ (m : System) (valid : IsValid m) (bs : List Bridge) where
  pub twins_by_rules : has_twin_names (with_rules m bs) ≡ has_twins (map (λ (b : Bridge). b.name) bs)
  twins_by_rules = ap (λ (v : Bool). v || has_twins (map (λ (b : Bridge). b.name) bs)) (or_parts (has_twins (map (λ (c : Context). c.name) m.contexts)) _ (tests_pass m valid).apart).0

  pub misfits_by_rules : has_misfits (with_rules m bs) ≡ list_any (has_misfit m.contexts) bs
  misfits_by_rules = ap (λ (v : Bool). v || list_any (has_misfit m.contexts) bs) (or_parts (list_any (λ (c : Context). has_unjustified c.kb) m.contexts) _ (tests_pass m valid).fitting).0

  pub defaults_kept : exceeds (with_rules m bs) DefaultsPerContext ≡ false
  unfolding exceeds
  defaults_kept = limit_kept m valid DefaultsPerContext (inr (inr (inr (inr (inr (inr (inl refl)))))))

  pub items_kept : exceeds (with_rules m bs) ItemsPerContext ≡ false
  unfolding exceeds
  items_kept = limit_kept m valid ItemsPerContext (inr (inr (inr (inr (inr (inr (inr (inl refl))))))))

  pub sizes_by_rules : exceeds (with_rules m bs) FormulaSize ≡ list_any has_large_part bs
  unfolding exceeds
  sizes_by_rules =
      let all : (list_any (λ (c : Context). has_large_item c.kb) m.contexts || list_any has_large_part m.bridges) ≡ false = limit_kept m valid FormulaSize (inr (inr (inr (inr (inr (inr (inr (inr (inr (inl refl)))))))))) in
      ap (λ (v : Bool). v || list_any has_large_part bs) (or_parts (list_any (λ (c : Context). has_large_item c.kb) m.contexts) _ all).0

-- ---- what is kept
pub kept_known : (known : KnownContexts) (bridges : List code'.Bridge) (kept : Kept) → AreKnown known → IsGathered known bridges kept → IsValid (made_of known bridges) → AllByRecursion IsNamedBridge (map bridge_of bridges) → IsSystemKept known bridges kept
kept_known known bridges kept are gathered valid named = record {
  valid = valid;
  named = record { contexts = are.named; bridges = named };
  own = are.own;
  variables_are = gathered.variables_are;
  parts_are = gathered.parts_are;
  rules_are = gathered.rules_are;
}

pub known_of_kept : (known : KnownContexts) (bridges : List code'.Bridge) (kept : Kept) → IsSystemKept known bridges kept → AreKnown known
known_of_kept known bridges kept is = record {
  tested = record { others = bridges; valid = is.valid };
  named = is.named.contexts;
  own = is.own;
}

-- fewer rules
pub valid_without : (known here : KnownContexts) (before now here_now : List code'.Bridge) (n : Name) → here ≡ known → here_now ≡ now → map bridge_of now ≡ filter (λ (b : Bridge). not (same_name n b.name)) (map bridge_of before) → IsValid (made_of known before) → IsValid (made_of here here_now)
valid_without known here before now here_now n e e' kept valid =
    rw (e, e') (subst (λ (bs : List Bridge). IsValid (with_rules (made_of known before) bs)) (sym kept) (without_rule_is_valid (made_of known before) n valid))

pub known_as : (known here : KnownContexts) → here ≡ known → AreKnown known → AreKnown here
known_as known here e are = subst AreKnown (sym e) are
