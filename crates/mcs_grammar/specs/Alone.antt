-- What is read by itself, such as one bridge rule: which bytes spell it, and which fault it has. Of the faults of a text only
-- those are told of it that depend on it and on the names of the contexts alone.
use Rattle.std.specs.Prelude.{◌≡◌, ℕ, ◌+◌, ◌<◌, ◌≤◌, Bool, true, false, IsTrue, List, [], ◌∷◌, ◌++◌, map, take, length, slice_range, Option, Some, None, slice_get}
use Rattle.mcs_system.specs.Plain.{Name}
use Rattle.mcs_system.specs.Plain as plain
use Rattle.mcs_system.specs.declared.limit.Limit.{Limit}
use Rattle.mcs_system.specs.declared.limit.Limit.TheVariants.{Weight, OpenParentheses, NameBytes}
use Rattle.mcs_tokens.specs.Tokens.{IsNextToken}
use Rattle.mcs_tokens.specs.declared.scan.Span.{Span}
use Rattle.mcs_grammar.specs.Written.{WrittenBridge, IsWrittenBridge}
use Rattle.mcs_grammar.specs.Entries.{Token, Use, NamesContext, Entry, bridge_entries, tokens_of}
use Rattle.mcs_grammar.specs.Saying.{SaysBridge}
use Rattle.mcs_grammar.specs.Faults.{TextFault, NoGrammar, NoContext, Exceeds, rank, fault_number, limit_of, Has}
use Rattle.mcs_grammar.specs.Texts.{token_texts}

-- ---- the faults that are told
abbrev pub is_told : TextFault → Bool
is_told NoGrammar = true
is_told NoContext = true
is_told (Exceeds Weight) = true
is_told (Exceeds OpenParentheses) = true
is_told (Exceeds NameBytes) = true
is_told fault = false

-- what was said before: the names of the contexts
abbrev pub contexts_said : List Name → List Use
contexts_said names = map (λ (n : Name). NamesContext n) names

-- ---- tokens from an offset on
-- the first tokens from `at` on, each the first one after the one before; the last one ends at `end`
abbrev pub AreFirstTokens : List ℕ → ℕ → List Span → ℕ → Type 0
AreFirstTokens bytes at [] end = end ≡ at
AreFirstTokens bytes at (s ∷ spans) end = IsNextToken bytes at s.from s.to × (s.from < length bytes) × AreFirstTokens bytes s.to spans end

-- the next token from `at` on and where it begins; there is none at the end of the text
abbrev pub IsNextAt : List ℕ → ℕ → Option Token → ℕ → Type 0
IsNextAt bytes at None offset = IsNextToken bytes at offset offset × (offset ≡ length bytes)
IsNextAt bytes at (Some t) offset = (to : ℕ) × IsNextToken bytes at offset to × (offset < length bytes) × (t ≡ slice_range bytes offset to)

-- ---- where `IsOne` says what may be written, and `entries` of what tokens it is
module _ {W : Type 0} (IsOne : W → Type 0) (entries : W → List Entry) where
  abbrev pub Begins : List Token → Type 0
  Begins ts = (w : W) × IsOne w × (take (length ts) (tokens_of (entries w)) ≡ ts)

  abbrev pub IsWhole : List Token → Type 0
  IsWhole ts = (w : W) × IsOne w × (tokens_of (entries w) ≡ ts)

  -- one begins with the tokens and this one, which has the fault in it
  pub record IsEnteredNext (names : List Name) (ts : List Token) (t : Token) (fault : TextFault) : Type 0 where
    pub written : W
    pub grammar : IsOne written
    pub first : take (length ts + 1) (tokens_of (entries written)) ≡ ts ++ t ∷ []
    pub here : Entry
    pub is_here : slice_get (entries written) (length ts) ≡ Some here
    pub has : Has fault (contexts_said names) here

  -- the token that comes next after these has the fault; at the end none comes
  abbrev pub IsFaultNext : List Name → List Token → Option Token → TextFault → Type 0
  IsFaultNext names ts None NoGrammar = ¬ IsWhole ts
  IsFaultNext names ts None fault = ⊥
  IsFaultNext names ts (Some t) NoGrammar = ¬ Begins (ts ++ t ∷ [])
  IsFaultNext names ts (Some t) fault = IsTrue (is_told fault) × IsEnteredNext names ts t fault

  -- none of the tokens has a fault after those before it
  abbrev pub AreFree : List Name → List Token → Type 0
  AreFree names ts = (j : ℕ) (fault : TextFault) → j < length ts → ¬ IsFaultNext names (take j ts) (slice_get ts j) fault

  -- the tokens from `at` on begin with those of this one, and none of them has a fault
  pub record SpellsOne (names : List Name) (bytes : List ℕ) (at : ℕ) (w : W) (end : ℕ) : Type 0 where
    pub spans : List Span
    pub tokens : AreFirstTokens bytes at spans end
    pub grammar : IsOne w
    pub written : token_texts bytes spans ≡ tokens_of (entries w)
    pub no_fault : AreFree names (token_texts bytes spans)

  -- the first token from `at` on that has a fault stands at the offset, and has no lower one; the tokens before it are none
  -- that is whole
  pub record HasFirstFault (names : List Name) (bytes : List ℕ) (at number : ℕ) (limit : Option Limit) (offset : ℕ) : Type 0 where
    pub spans : List Span
    pub end : ℕ
    pub tokens : AreFirstTokens bytes at spans end
    pub no_fault : AreFree names (token_texts bytes spans)
    pub unfinished : ¬ IsWhole (token_texts bytes spans)
    pub next : Option Token
    pub is_next : IsNextAt bytes end next offset
    pub fault : TextFault
    pub holds : IsFaultNext names (token_texts bytes spans) next fault
    pub lowest : (g : TextFault) → IsFaultNext names (token_texts bytes spans) next g → rank fault ≤ rank g
    pub number_is : number ≡ fault_number fault
    pub limit_is : limit ≡ limit_of fault

-- ---- bridge rules, with marks and a weight or without
-- where these are the names of the contexts
pub record SpellsBridge (names : List Name) (bytes : List ℕ) (at : ℕ) (b : plain.Bridge) (end : ℕ) : Type 0 where
  pub rule : WrittenBridge
  pub spelled : SpellsOne IsWrittenBridge bridge_entries names bytes at rule end
  pub says : SaysBridge names rule b

abbrev pub IsRuleFaultNext : List Name → List Token → Option Token → TextFault → Type 0
IsRuleFaultNext names ts next fault = IsFaultNext IsWrittenBridge bridge_entries names ts next fault

abbrev pub RuleHasFault : List Name → List ℕ → ℕ → ℕ → Option Limit → ℕ → Type 0
RuleHasFault names bytes at number limit offset = HasFirstFault IsWrittenBridge bridge_entries names bytes at number limit offset
