-- The tokens of a text without faults spell what the text says.
use Rattle.std.proofs.Common.{◌≡◌, ℕ, ◌+◌, ◌<◌, List, take, length, Some, inl, inr, refl, sym, ap, subst, ◌∙◌, arith, slice_get, length-take-le}
use Rattle.std.proofs.lemmas.List.{length-map, take-append-le}
use Rattle.mcs_base.proofs.Lists.{slice_get-append_left}
use Rattle.mcs_system.specs.Plain as plain
use Rattle.mcs_tokens.specs.Tokens.{AreTokens}
use Rattle.mcs_tokens.specs.declared.scan.Span.{Span}
use Rattle.mcs_grammar.specs.Written.{WrittenText, IsText}
use Rattle.mcs_grammar.specs.Entries.{Token, Entry, text_entries, tokens_of, uses_of}
use Rattle.mcs_grammar.specs.Saying.{SaysSystem}
use Rattle.mcs_grammar.specs.Faults.{TextFault, NoGrammar, Has, IsEntered, IsFaultAt}
use Rattle.mcs_grammar.specs.Texts.{token_texts, Spells}
use Rattle.mcs_account.proofs.TextFronts.{same-entries}
use Rattle.mcs_faults.proofs.Within.{NoFaults}

module _ (t : WrittenText) (grammar : IsText t) (none : NoFaults (text_entries t)) where
  abbrev ts : List Token
  ts = tokens_of (text_entries t)

  none-entered : (k : ℕ) (f : TextFault) → k < length ts → IsEntered ts k f → ⊥
  none-entered k f less h =
      let s = same-entries t grammar h.text h.grammar (k + 1) h.same in
      let long : length s.es ≡ k + 1 = sym (length-map s.es (λ (m : Entry). m.token)) ∙ ap (λ (us : List Token). length us) s.tokens_are ∙ length-take-le (k + 1) ts (omega arith) in
      let inside : k < length s.es = omega arith in
      let here : slice_get (text_entries t) k ≡ Some h.here = ap (λ (l : List Entry). slice_get l k) s.here ∙ slice_get-append_left s.es s.more k inside ∙ sym (slice_get-append_left s.es s.others k inside) ∙ ap (λ (l : List Entry). slice_get l k) (sym s.there) ∙ h.is_here in
      let before : take k (text_entries h.text) ≡ take k (text_entries t) = ap (take k) s.there ∙ take-append-le k s.es s.others (omega arith) ∙ sym (take-append-le k s.es s.more (omega arith)) ∙ ap (take k) (sym s.here) in
      none k h.here f here (subst (λ (l : List Entry). Has f (uses_of l) h.here) before h.has)

  pub no-fault-at : (k : ℕ) (f : TextFault) → ¬ IsFaultAt ts k f
  no-fault-at k NoGrammar (inl h) = h.1 (record { text = t; grammar = grammar; first = ap (λ (n : ℕ). take n ts) (let less = h.0 in length-take-le (k + 1) ts (omega arith)) })
  no-fault-at k NoGrammar (inr h) = h.1 (t, grammar, refl)
  no-fault-at k f h = none-entered k f h.0 h.1

pub spells-whole : (bytes : List ℕ) (spans : List Span) (t : WrittenText) (m : plain.System) → AreTokens bytes 0 spans → token_texts bytes spans ≡ tokens_of (text_entries t) → IsText t → SaysSystem t m → NoFaults (text_entries t) → Spells bytes m
spells-whole bytes spans t m tokens written grammar says none = record {
  spans = spans;
  tokens = tokens;
  text = t;
  grammar = grammar;
  written = written;
  says = says;
  no_fault = λ k f. subst (λ (us : List Token). ¬ IsFaultAt us k f) (sym written) (no-fault-at t grammar none k f);
}
