-- The tokens of a bridge rule by itself, one after the other.
use Rattle.std.proofs.Common.{◌≡◌, ℕ, ◌<◌, ◌≤◌, List, [], ◌∷◌, ◌++◌, length, Some, None, refl, sym, ap, subst, ◌∙◌, arith}
use Rattle.std.specs.Prelude.{slice_range}
use Rattle.std.proofs.lemmas.List.{map-append}
use Rattle.mcs_syntax.specs.Reads.{IsRead}
use Rattle.mcs_syntax.specs.Parts.{rest}
use Rattle.mcs_system.specs.Plain.{Name}
use Rattle.mcs_tokens.specs.Tokens.{IsNextToken}
use Rattle.mcs_tokens.specs.declared.scan.Span.{Span}
use Rattle.mcs_tokens.proofs.Gaps.{ended_there}
use Rattle.mcs_productions.specs.Productions.{grammar}
use Rattle.mcs_grammar.specs.Entries.{Token}
use Rattle.mcs_grammar.specs.Faults.{TextFault, NoGrammar, rank, fault_number, limit_of}
use Rattle.mcs_grammar.specs.Texts.{token_texts}
use Rattle.mcs_grammar.specs.Alone.{AreFirstTokens, RuleHasFault}
use Rattle.mcs_account.specs.declared.reader.TextReader.{TextReader}
use Rattle.mcs_account.specs.Reading.{Events}
use Rattle.mcs_account.proofs.RuleFronts.{rule-unfinished}
use Rattle.mcs_faults.specs.declared.fault.Fault as code_fault
use Rattle.mcs_faults.specs.declared.fault.TextFault as code_text
use Rattle.mcs_faults.specs.declared.fault.TextFault.TheVariants as texts
use Rattle.mcs_faults.specs.Watching.{fault_for}
use Rattle.mcs_language.specs.declared.rules.ReadRule.{ReadRule}
use Rattle.mcs_language.specs.Rules.{IsRuleRead, IsNextOfRule, IsReadFrom, IsRuleSaid, IsRuleOf, IsToldOfRule}

lowest-of-all : (f : TextFault) → 1 ≤ rank f
lowest-of-all NoGrammar = omega arith
lowest-of-all f = omega arith

one-token-more : (bytes : List ℕ) (start at from to : ℕ) (spans : List Span) → AreFirstTokens bytes start spans at → IsNextToken bytes at from to → from < length bytes → AreFirstTokens bytes start (spans ++ record { from = from; to = to } ∷ []) to
one-token-more bytes start at from to [] are next more = (subst (λ (i : ℕ). IsNextToken bytes i from to) are next, more, refl)
one-token-more bytes start at from to (s ∷ spans) are next more = (are.0, are.1, one-token-more bytes s.to at from to spans are.2 next more)

texts-more : (bytes : List ℕ) (spans : List Span) (s : Span) → token_texts bytes (spans ++ s ∷ []) ≡ token_texts bytes spans ++ slice_range bytes s.from s.to ∷ []
texts-more bytes spans s = map-append (λ (x : Span). slice_range bytes x.from x.to) spans (s ∷ [])

pub none-read : (names : List Name) (bytes : List ℕ) (start : ℕ) (r : TextReader) → IsRuleRead names r [] → IsReadFrom names bytes start r start
none-read names bytes start r h = record { spans = []; tokens = refl; read = h; unfinished = λ (b, g, e). absurd (cc e) }

module _ (names : List Name) (bytes : List ℕ) (start : ℕ) (old now : TextReader) (at from to : ℕ) (h : IsReadFrom names bytes start old at) (next : IsNextToken bytes at from to) where
  -- ---- the end of the bytes
  pub rule-cut : (told : code_text.TextFault) → from ≡ length bytes → told ≡ texts.Fault (fault_number NoGrammar) from (limit_of NoGrammar) → IsToldOfRule names bytes start told
  rule-cut told ended is =
      let here : RuleHasFault names bytes start (fault_number NoGrammar) (limit_of NoGrammar) from = record {
        spans = h.spans;
        end = at;
        tokens = h.tokens;
        no_fault = h.read.free;
        unfinished = h.unfinished;
        next = None;
        is_next = (subst (λ (i : ℕ). IsNextToken bytes at i i) (sym ended) (ended_there bytes at from to next ended), ended);
        fault = NoGrammar;
        holds = h.unfinished;
        lowest = λ g _. lowest-of-all g;
        number_is = refl;
        limit_is = refl;
      } in
      subst (IsToldOfRule names bytes start) (sym is) here

  module _ (more : from < length bytes) (token : Token) (text : token ≡ slice_range bytes from to) where
    -- ---- a token with a fault
    pub rule-told : (f : code_fault.Fault) (told : code_text.TextFault) → IsNextOfRule (Some f) names now (token_texts bytes h.spans) token → told ≡ texts.Fault (fault_number (fault_for f)) from (limit_of (fault_for f)) → IsToldOfRule names bytes start told
    rule-told f told first is =
        let here : RuleHasFault names bytes start (fault_number (fault_for f)) (limit_of (fault_for f)) from = record {
          spans = h.spans;
          end = at;
          tokens = h.tokens;
          no_fault = h.read.free;
          unfinished = h.unfinished;
          next = Some token;
          is_next = (to, next, more, text);
          fault = fault_for f;
          holds = first.0;
          lowest = first.1;
          number_is = refl;
          limit_is = refl;
        } in
        subst (IsToldOfRule names bytes start) (sym is) here

    -- ---- a token without one
    abbrev spans : List Span
    spans = h.spans ++ record { from = from; to = to } ∷ []

    read-texts : token_texts bytes h.spans ++ token ∷ [] ≡ token_texts bytes spans
    read-texts = ap (λ (t : Token). token_texts bytes h.spans ++ t ∷ []) text ∙ sym (texts-more bytes h.spans (record { from = from; to = to }))

    pub rule-goes-on : IsNextOfRule None names now (token_texts bytes h.spans) token → ((xs : Events) → IsRead grammar (rest now.reader) [] xs → ⊥) → IsReadFrom names bytes start now to
    rule-goes-on read unended =
        let all : IsRuleRead names now (token_texts bytes spans) = subst (IsRuleRead names now) read-texts read in
        record { spans = spans; tokens = one-token-more bytes start at from to h.spans h.tokens next more; read = all; unfinished = rule-unfinished (token_texts bytes spans) all.marks (rest now.reader) all.reader.read unended }

    pub rule-ended : IsNextOfRule None names now (token_texts bytes h.spans) token → (xs : Events) → IsRead grammar (rest now.reader) [] xs → (result : ReadRule) → IsRuleSaid names (token_texts bytes h.spans ++ token ∷ []) to result → IsRuleOf names bytes start result
    rule-ended read xs ends result said =
        let all : IsRuleRead names now (token_texts bytes spans) = subst (IsRuleRead names now) read-texts read in
        record {
          reader = said.reader;
          spells = record {
            rule = said.rule;
            spelled = record { spans = spans; tokens = subst (AreFirstTokens bytes start spans) (sym said.end_is) (one-token-more bytes start at from to h.spans h.tokens next more); grammar = said.grammar; written = sym (said.written ∙ read-texts); no_fault = all.free };
            says = said.says;
          };
        }
