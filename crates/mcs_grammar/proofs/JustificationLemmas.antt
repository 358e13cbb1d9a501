-- No default has more justifications than the text that says it has tokens.
use Rattle.std.proofs.Common.{ℕ, ◌≤◌, List, [], ◌∷◌, ◌++◌, map, length, codes, sym, ap, subst, arith, length-append}
use Rattle.std.proofs.lemmas.List.{length-map}
use Rattle.std.specs.Prelude.{slice_range}
use Rattle.std.specs.List.{AllByRecursion, flat_map}
use Rattle.mcs_system.specs.Plain.{Name, DefaultKind, Context}
use Rattle.mcs_system.specs.Justifications.{IsJustifiedUpTo, KbIsJustifiedUpTo}
use Rattle.mcs_tokens.specs.declared.scan.Span.{Span}
use Rattle.mcs_tokens.proofs.Unique.{spans_few}
use Rattle.mcs_grammar.specs.Written.{Written, WrittenDefault, WrittenItem, Fact, Rule, WrittenKb, OfKind, WrittenContext}
use Rattle.mcs_grammar.specs.Entries.{Token, Use, BeginsItem, BeginsDefault, Entry, entry, formula_in, with_first, whole_entries, after_sign, default_entries, item_entries, ended, kb_entries, context_entries, bridge_entries, version_entries, text_entries}
use Rattle.mcs_grammar.specs.Saying.{default_said, item_in, kb_in, context_in}
use Rattle.mcs_grammar.specs.Texts.{SpelledDefaultsAreShort}

-- each of the formulas after a sign has a token
after_signs : (sign : Token) (c : Name) (fs : List Written) → length fs ≤ length (flat_map (after_sign sign c) fs)
after_signs sign c [] = omega arith
after_signs sign c (f ∷ fs) = omega (arith, length-append (after_sign sign c f) (flat_map (after_sign sign c) fs), after_signs sign c fs)

with_first_keeps : (uses : List Use) (ms : List Entry) → length ms ≤ length (with_first uses ms)
with_first_keeps uses [] = omega arith
with_first_keeps uses (m ∷ ms) = omega arith

ended_keeps : (c : Name) (ms : List Entry) → length ms ≤ length (ended c ms)
ended_keeps c ms = omega (arith, length-append {A = Entry}, with_first_keeps (BeginsItem c ∷ []) ms)

-- where the tokens of the part are no more than the number
module _ (n : ℕ) where
  default_justified : (c : Name) (d : WrittenDefault) → length (default_entries c d) ≤ n → length (default_said d).justs ≤ n
  default_justified c d few =
      let first = whole_entries c d.first_just in
      let justs = flat_map (after_sign (codes ",") c) d.justs in
      let end = after_sign (codes "/") c d.conclusion in
      omega (arith, few, length-append (whole_entries c d.pre) (entry (codes ":") (BeginsDefault c ∷ []) ∷ (first ++ (justs ++ end))), length-append first (justs ++ end), length-append justs end, after_signs (codes ",") c d.justs, length-map d.justs formula_in)

  item_justified : (c : Name) (i : WrittenItem) → length (item_entries c i) ≤ n → IsJustifiedUpTo n (item_in i)
  item_justified c (Fact f) few = tt
  item_justified c (Rule d) few = default_justified c d few

  items_justified : (c : Name) (is : List WrittenItem) → length (flat_map (λ i. ended c (item_entries c i)) is) ≤ n → AllByRecursion (IsJustifiedUpTo n) (map item_in is)
  items_justified c [] few = tt
  items_justified c (i ∷ is) few =
      let both = length-append (ended c (item_entries c i)) (flat_map (λ i. ended c (item_entries c i)) is) in
      let own = ended_keeps c (item_entries c i) in
      (item_justified c i (omega (arith, few, both, own)), items_justified c is (omega (arith, few, both)))

  kb_justified : (c : Name) (kb : WrittenKb) → length (kb_entries c kb) ≤ n → KbIsJustifiedUpTo n (kb_in kb)
  kb_justified c (OfKind DefaultKind items) few = items_justified c items (omega (arith, few, length-append {A = Entry}))
  kb_justified c kb few = tt

  contexts_justified : (cs : List WrittenContext) → length (flat_map context_entries cs) ≤ n → AllByRecursion (λ (c : Context). KbIsJustifiedUpTo n c.kb) (map context_in cs)
  contexts_justified [] few = tt
  contexts_justified (c ∷ cs) few =
      let both = length-append (context_entries c) (flat_map context_entries cs) in
      (kb_justified c.name c.kb (omega (arith, few, both)), contexts_justified cs (omega (arith, few, both)))

-- the text has no more tokens than bytes
pub defaults-short : SpelledDefaultsAreShort
defaults-short bytes m h =
    let texts = length-map h.spans (λ (s : Span). slice_range bytes s.from s.to) in
    let tokens = length-map (text_entries h.text) (λ (e : Entry). e.token) in
    let rest = flat_map context_entries h.text.contexts ++ flat_map bridge_entries h.text.bridges in
    let whole = length-append (version_entries h.text.has_version) rest in
    let both = length-append (flat_map context_entries h.text.contexts) (flat_map bridge_entries h.text.bridges) in
    let few : length (flat_map context_entries h.text.contexts) ≤ length bytes = omega (arith, texts, ap length h.written, tokens, whole, both, spans_few bytes 0 h.spans h.tokens) in
    subst (λ cs. AllByRecursion (λ (c : Context). KbIsJustifiedUpTo (length bytes) c.kb) cs) (sym h.says.contexts) (contexts_justified (length bytes) h.text.contexts few)
