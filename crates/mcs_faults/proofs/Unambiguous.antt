-- A text spells one system at most.
use Rattle.std.proofs.Common.{◌≡◌, false, ℕ, ◌+◌, ◌<◌, ◌≤◌, List, [], ◌∷◌, ◌++◌, map, take, drop, length, refl, sym, ap, subst, ◌∙◌, arith, append_assoc, append-nil, inl, inr, drop-cons, length-take-le}
use Rattle.std.specs.Prelude.{slice_get, count_by}
use Rattle.std.specs.List.{flat_map, AllByRecursion}
use Rattle.std.proofs.lemmas.Grind.{flat_map-append}
use Rattle.std.proofs.lemmas.List.{length-map, take-append-drop}
use Rattle.std.proofs.lemmas.Option.{slice_get_cases, slice_get_within}
use Rattle.std.proofs.Math.Seq.{take-append_seam}
use Rattle.mcs_base.proofs.Lists.{slice_get_seam}
use Rattle.mcs_system.specs.Plain as plain
use Rattle.mcs_system.specs.declared.limit.Limit.TheVariants.{Contexts}
use Rattle.mcs_tokens.proofs.Unique.{lists_are_unique}
use Rattle.mcs_grammar.specs.Written.{WrittenContext, WrittenText}
use Rattle.mcs_grammar.specs.Entries.{Token, Entry, context_entries, bridge_entries, version_entries, text_entries, tokens_of, uses_of}
use Rattle.mcs_grammar.specs.Saying.{context_in, names_of, Each, SaysBridge}
use Rattle.mcs_grammar.specs.Faults.{TextFault, NoGrammar, Exceeds, Has, IsEntered, IsFaultAt, begins_context}
use Rattle.mcs_grammar.specs.Texts.{token_texts, Spells, TextsAreUnambiguous}
use Rattle.mcs_grammar.proofs.Weights.{spelled-weights}
use Rattle.mcs_account.proofs.TextUses.{version-uses}
use Rattle.mcs_account.proofs.Accounts.{bridge_said, names_in}
use Rattle.mcs_account.proofs.WholeTexts.{one-contexts, one-bridges, bridges-said}
use Rattle.mcs_faults.proofs.Within.{NoFaults}
use Rattle.mcs_faults.proofs.UsesCounts.{context-count}

-- ---- a text without faults has few contexts
-- the first contexts alone
abbrev firsts : List WrittenContext → WrittenText
firsts cs = record { has_version = false; contexts = cs; bridges = [] }

module _ (t : WrittenText) (none : NoFaults (text_entries t)) where
  too-many : (as' bs : List WrittenContext) (c : WrittenContext) → length as' ≡ 64 → t.contexts ≡ as' ++ c ∷ bs → ⊥
  too-many as' bs c many whole =
      let version : List Entry = version_entries t.has_version in
      let firsts' : List Entry = flat_map context_entries as' in
      let front : List Entry = version ++ firsts' in
      let rest : List Entry = flat_map context_entries bs ++ flat_map bridge_entries t.bridges in
      let parts : flat_map context_entries t.contexts ++ flat_map bridge_entries t.bridges ≡ firsts' ++ (context_entries c ++ rest) = ap (λ (cs : List WrittenContext). flat_map context_entries cs ++ flat_map bridge_entries t.bridges) whole ∙ ap (λ (es : List Entry). es ++ flat_map bridge_entries t.bridges) (flat_map-append context_entries as' (c ∷ bs))
      ∙ append_assoc firsts' (context_entries c ++ flat_map context_entries bs) (flat_map bridge_entries t.bridges) ∙ ap (λ (es : List Entry). firsts' ++ es) (append_assoc (context_entries c) (flat_map context_entries bs) (flat_map bridge_entries t.bridges)) in
      let all : text_entries t ≡ front ++ (context_entries c ++ rest) = ap (λ (es : List Entry). version ++ es) parts ∙ sym (append_assoc version firsts' (context_entries c ++ rest)) in
      let count : count_by begins_context (uses_of front) ≡ 64 = ap (count_by begins_context) (version-uses t.has_version firsts') ∙ ap (λ (es : List Entry). count_by begins_context (uses_of es)) (sym (append-nil firsts')) ∙ context-count (firsts as') ∙ many in
      let before : take (length front) (text_entries t) ≡ front = ap (take (length front)) all ∙ take-append_seam front (context_entries c ++ rest) in
      none (length front) _ (Exceeds Contexts) (ap (λ (es : List Entry). slice_get es (length front)) all ∙ slice_get_seam front _ _ (length front) refl) (inl refl, ap (λ (es : List Entry). count_by begins_context (uses_of es)) before ∙ count)

  few : length t.contexts ≤ 64
  few = elim (slice_get_cases t.contexts 64).1 [
    | inl w ↦ absurd (too-many (take 64 t.contexts) (drop 65 t.contexts) w.0 (take-length w.1) (sym (take-append-drop 64 t.contexts) ∙ ap (λ (cs : List WrittenContext). take 64 t.contexts ++ cs) (drop-cons t.contexts 64 w.0 w.1 ∙ ap (λ (c : WrittenContext). c ∷ drop 65 t.contexts) w.3)))
    | inr past ↦ past.0
  ]
    where
      take-length : 64 < length t.contexts → length (take 64 t.contexts) ≡ 64
      take-length less = length-take-le 64 t.contexts (omega arith)

-- no token of a spelled text has a fault
none-spelled : (bytes : List ℕ) (m : plain.System) (h : Spells bytes m) → NoFaults (text_entries h.text)
none-spelled bytes m h k n f is has = h.no_fault k f (at f (slice_get_within (text_entries h.text) k n is) has)
  where
    entered : (f : TextFault) → Has f (uses_of (take k (text_entries h.text))) n → IsEntered (token_texts bytes h.spans) k f
    entered f has = record { text = h.text; grammar = h.grammar; same = ap (take (k + 1)) (sym h.written); here = n; is_here = is; has = has }

    inside : k < length (text_entries h.text) → k < length (token_texts bytes h.spans)
    inside less = subst (λ (us : List Token). k < length us) (sym h.written) (subst (λ (i : ℕ). k < i) (sym (length-map (text_entries h.text) (λ (e : Entry). e.token))) less)

    at : (f : TextFault) → k < length (text_entries h.text) → Has f (uses_of (take k (text_entries h.text))) n → IsFaultAt (token_texts bytes h.spans) k f
    at NoGrammar less has = absurd has
    at f less has = (inside less, entered f has)

-- ---- what a text spells is what the account has of it
pub written-names : (ws : List WrittenContext) → names_in (map context_in ws) ≡ names_of ws
written-names [] = refl
written-names (w ∷ ws) = ap (λ ns. w.name ∷ ns) (written-names ws)

light : (bs : List plain.Bridge) → AllByRecursion (λ (b : plain.Bridge). (1 ≤ b.weight) × (b.weight ≤ 1000000)) bs → AllByRecursion (λ (b : plain.Bridge). b.weight ≤ 1000000) bs
light [] h = tt
light (b ∷ bs) h = (h.0.1, light bs h.1)

spelled-bridges : (bytes : List ℕ) (m : plain.System) (h : Spells bytes m) → m.bridges ≡ map (bridge_said (map context_in h.text.contexts)) h.text.bridges
spelled-bridges bytes m h =
    let cs : List plain.Context = map context_in h.text.contexts in
    let many : length cs ≡ length h.text.contexts = length-map h.text.contexts context_in in
    let at-most = few h.text (none-spelled bytes m h) in
    bridges-said cs (omega arith) h.text.bridges m.bridges (light m.bridges (spelled-weights bytes m h)) (subst (λ ns. Each (SaysBridge ns) h.text.bridges m.bridges) (sym (written-names h.text.contexts)) h.says.bridges)

abbrev system : List plain.Context → List plain.Bridge → plain.System
system contexts bridges = record { contexts = contexts; bridges = bridges }

pub texts-unambiguous : TextsAreUnambiguous
texts-unambiguous bytes m n h k =
    let spans : h.spans ≡ k.spans = lists_are_unique bytes 0 h.spans k.spans h.tokens k.tokens in
    let same : tokens_of (text_entries h.text) ≡ tokens_of (text_entries k.text) = sym h.written ∙ ap (token_texts bytes) spans ∙ k.written in
    let contexts : m.contexts ≡ n.contexts = h.says.contexts ∙ one-contexts h.text k.text h.grammar k.grammar same ∙ sym k.says.contexts in
    let bridges : m.bridges ≡ n.bridges = spelled-bridges bytes m h ∙ one-bridges h.text k.text h.grammar k.grammar same ∙ sym (spelled-bridges bytes n k) in
    ap (λ (x : List plain.Context). system x m.bridges) contexts ∙ ap (system n.contexts) bridges
