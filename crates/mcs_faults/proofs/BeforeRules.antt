-- The contexts stand before the rules: what is named in a rule comes after all that the contexts name and say.
use Rattle.std.proofs.Common.{◌≡◌, ℕ, zero, suc, false, List, [], ◌∷◌, ◌++◌, take, Some, refl, sym, ap, subst, ◌∙◌, inl, inr, ◌⊎◌, slice_get}
use Rattle.std.specs.List.{flat_map}
use Rattle.std.proofs.lemmas.Grind.{flat_map-append}
use Rattle.std.proofs.lemmas.List.{append-nil, append_assoc}
use Rattle.std.proofs.lemmas.Option.{same_Some}
use Rattle.mcs_base.specs.Listings.{IsAmong}
use Rattle.mcs_base.proofs.Among.{among_left, among_either, among_get, among_flat_map, flat_map_among}
use Rattle.mcs_system.specs.Plain.{Name}
use Rattle.mcs_grammar.specs.Written.{WrittenText}
use Rattle.mcs_grammar.specs.Entries.{Use, BeginsContext, NamesContext, NamesBridge, SaysProgram, NamesTarget, NamesSource, Entry, context_entries, bridge_entries, version_entries, text_entries, uses_of}
use Rattle.mcs_account.specs.Known.{context_named, contexts_named}
use Rattle.mcs_faults.specs.Watching.{bridge_named, bridges_named}
use Rattle.mcs_faults.proofs.UsesLemmas.{text_uses, names-there, targets-there, sources-there, programs-there, IsBefore}

-- ---- what is named
named-is : (c : Name) (u : Use) → IsAmong c (context_named u) → u ≡ NamesContext c
named-is c (NamesContext d) (inl e) = ap (λ (x : Name). NamesContext x) (sym e)
named-is c (NamesContext d) (inr h) = absurd h
named-is c BeginsContext h = absurd h
named-is c u h = absurd h

pub among-named : (us : List Use) (c : Name) → IsAmong (NamesContext c) us → IsAmong c (contexts_named us)
among-named us c h = among_flat_map context_named (NamesContext c) c us h (inl refl)

pub named-among : (us : List Use) (c : Name) → IsAmong c (contexts_named us) → IsAmong (NamesContext c) us
named-among us c h = let (u, there, is) = flat_map_among context_named c us h in subst (λ (x : Use). IsAmong x us) (named-is c u is) there

pub among-bridges-named : (us : List Use) (b : Name) → IsAmong (NamesBridge b) us → IsAmong b (bridges_named us)
among-bridges-named us b h = among_flat_map bridge_named (NamesBridge b) b us h (inl refl)

-- ---- the contexts alone, and the rules alone
abbrev contexts_alone : WrittenText → WrittenText
contexts_alone t = record { has_version = t.has_version; contexts = t.contexts; bridges = [] }

abbrev rules_alone : WrittenText → WrittenText
rules_alone t = record { has_version = false; contexts = []; bridges = t.bridges }

-- the version and the contexts
abbrev context_part : WrittenText → List Entry
context_part t = version_entries t.has_version ++ flat_map context_entries t.contexts

abbrev rule_part : WrittenText → List Entry
rule_part t = flat_map bridge_entries t.bridges

parts : (t : WrittenText) → text_entries t ≡ context_part t ++ rule_part t
parts t = sym (append_assoc (version_entries t.has_version) (flat_map context_entries t.contexts) (rule_part t))

alone : (t : WrittenText) → text_uses (contexts_alone t) ≡ uses_of (context_part t)
alone t = ap (λ (es : List Entry). uses_of (version_entries t.has_version ++ es)) (append-nil (flat_map context_entries t.contexts))

-- no token of a context names a target or a source
no-target : (t : WrittenText) (c : Name) → ¬ IsAmong (NamesTarget c) (uses_of (context_part t))
no-target t c h = let found = (targets-there (contexts_alone t) c).0 (subst (IsAmong (NamesTarget c)) (sym (alone t)) h) in found.1

no-source : (t : WrittenText) (c : Name) → ¬ IsAmong (NamesSource c) (uses_of (context_part t))
no-source t c h = let found = (sources-there (contexts_alone t) c).0 (subst (IsAmong (NamesSource c)) (sym (alone t)) h) in found.1

-- no token of a rule names a context or says that one is a program
no-name : (t : WrittenText) (c : Name) → ¬ IsAmong (NamesContext c) (uses_of (rule_part t))
no-name t c h = let here : IsAmong c [] = subst (IsAmong c) (names-there (rules_alone t)) (among-named (uses_of (rule_part t)) c h) in here

no-program : (t : WrittenText) (c : Name) → ¬ IsAmong (SaysProgram c) (uses_of (rule_part t))
no-program t c h = let found = (programs-there (rules_alone t) c).0 h in found.1

-- ---- a token of a rule comes after all of the contexts
pub record IsLater (ms ns : List Entry) (k : ℕ) (m : Entry) : Type 0 where
  pub number : ℕ
  pub before : take k (ms ++ ns) ≡ ms ++ take number ns
  pub there : IsAmong m ns

which-part : (ms ns : List Entry) (k : ℕ) (m : Entry) → slice_get (ms ++ ns) k ≡ Some m → IsAmong m ms ⊎ IsLater ms ns k m
which-part [] ns k m is = inr (record { number = k; before = refl; there = among_get m ns k is })
which-part (x ∷ xs) ns zero m is = inl (inl (sym (same_Some _ _ is)))
which-part (x ∷ xs) ns (suc k) m is = elim (which-part xs ns k m is) [
  | inl here ↦ inl (inr here)
  | inr later ↦ inr (record { number = later.number; before = ap (λ (ys : List Entry). x ∷ ys) later.before; there = later.there })
]

-- what is among the uses of the contexts, or of the rules
uses-parts : (t : WrittenText) (u : Use) → IsAmong u (text_uses t) → IsAmong u (uses_of (context_part t)) ⊎ IsAmong u (uses_of (rule_part t))
uses-parts t u h = among_either u (uses_of (context_part t)) (uses_of (rule_part t)) (subst (IsAmong u) (ap uses_of (parts t) ∙ flat_map-append (λ (m : Entry). m.uses) (context_part t) (rule_part t)) h)

-- of a entry that is there for a use that no token of a context is there for
later-is-before : (t : WrittenText) (k : ℕ) (m : Entry) → IsLater (context_part t) (rule_part t) k m → IsBefore t (uses_of (take k (text_entries t)))
later-is-before t k m later = record {
  named = λ c h. elim (uses-parts t (NamesContext c) h) [ inl here ↦ earlier (NamesContext c) here | inr there ↦ absurd (no-name t c there) ];
  programs = λ c h. elim (uses-parts t (SaysProgram c) h) [ inl here ↦ earlier (SaysProgram c) here | inr there ↦ absurd (no-program t c there) ];
}
  where
    earlier : (u : Use) → IsAmong u (uses_of (context_part t)) → IsAmong u (uses_of (take k (text_entries t)))
    earlier u here =
        let first : List Entry = context_part t in
        let rest : List Entry = take later.number (rule_part t) in
        let cut : uses_of (take k (text_entries t)) ≡ uses_of first ++ uses_of rest = ap (λ (es : List Entry). uses_of (take k es)) (parts t) ∙ ap uses_of later.before ∙ flat_map-append (λ (x : Entry). x.uses) first rest in
        subst (IsAmong u) (sym cut) (among_left u (uses_of first) (uses_of rest) here)

module _ (t : WrittenText) (k : ℕ) (m : Entry) (is : slice_get (text_entries t) k ≡ Some m) where
  in-rules : (¬ IsAmong m (context_part t)) → IsBefore t (uses_of (take k (text_entries t)))
  in-rules other = elim (which-part (context_part t) (rule_part t) k m (ap (λ (es : List Entry). slice_get es k) (sym (parts t)) ∙ is)) [
    | inl here ↦ absurd (other here)
    | inr later ↦ later-is-before t k m later
  ]

  use-there : (u : Use) → IsAmong u m.uses → IsAmong m (context_part t) → IsAmong u (uses_of (context_part t))
  use-there u h there = among_flat_map (λ (x : Entry). x.uses) m u (context_part t) there h

  pub before-target : (c : Name) → IsAmong (NamesTarget c) m.uses → IsBefore t (uses_of (take k (text_entries t)))
  before-target c h = in-rules (λ there. no-target t c (use-there (NamesTarget c) h there))

  pub before-source : (c : Name) → IsAmong (NamesSource c) m.uses → IsBefore t (uses_of (take k (text_entries t)))
  before-source c h = in-rules (λ there. no-source t c (use-there (NamesSource c) h there))
