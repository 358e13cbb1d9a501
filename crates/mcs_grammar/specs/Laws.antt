-- What holds of texts: each is the contract of a function of `laws`.
use Rattle.std.specs.Prelude.{◌≡◌, ℕ, ◌≤◌, false, List, [], ◌∷◌, ◌++◌, codes, Option, Some, None, slice_index}
use Rattle.std.specs.List.{AllByRecursion}
use Rattle.mcs_system.specs.Plain.{Bridge, System}
use Rattle.mcs_system.specs.Unmarked.{IsUnmarked}
use Rattle.mcs_system.specs.declared.limit.Limit.TheVariants.{Weight}
use Rattle.mcs_tokens.specs.Kinds.{zero_digit}
use Rattle.mcs_grammar.specs.Written.{WrittenText, IsText, IsWrittenBridge}
use Rattle.mcs_grammar.specs.Entries.{Token, bridge_entries, text_entries, tokens_of}
use Rattle.mcs_grammar.specs.Saying.{SaysBridge, SaysSystem}
use Rattle.mcs_grammar.specs.Faults.{TextFault, NoGrammar, NoContext, Exceeds, IsFaultAt}
use Rattle.mcs_grammar.specs.Alone.{is_told, IsRuleFaultNext}
use Rattle.mcs_grammar.specs.Texts.{Spells}
use Rattle.mcs_grammar.specs.Examples.{tokens_apart, marked_text, marked_tokens, marked_system, lone_rule, lone_tokens, lone_bridge}

-- a text without the version says rules that may be removed and may be forced, of weight 1
abbrev pub UnversionedRulesAreUnmarked : Type 0
UnversionedRulesAreUnmarked = (t : WrittenText) (m : System) → IsText t → t.has_version ≡ false → SaysSystem t m → IsUnmarked m

-- weights are from 1 to 1000000
abbrev pub SpelledWeightsAreInRange : Type 0
SpelledWeightsAreInRange = (bytes : List ℕ) (m : System) → Spells bytes m → AllByRecursion (λ (b : Bridge). (1 ≤ b.weight) × (b.weight ≤ 1000000)) m.bridges

-- a text with each of the marks, and what it says
pub record MarkedTextIsRead : Type 0 where
  pub grammar : IsText marked_text
  pub tokens : tokens_of (text_entries marked_text) ≡ marked_tokens
  pub says : SaysSystem marked_text marked_system

-- where no text goes on
pub record RefusedFronts : Type 0 where
  -- another version
  pub version : IsFaultAt (tokens_apart (codes "version 3 .")) 1 NoGrammar
  -- a mark in a text that does not begin with the version
  pub unversioned : IsFaultAt (tokens_apart (codes "bridge r keep : c : a .")) 2 NoGrammar
  -- the marks in another order, and one of them twice
  pub order : IsFaultAt (tokens_apart (codes "version 2 . bridge r closed keep : c : a .")) 6 NoGrammar
  pub twice : IsFaultAt (tokens_apart (codes "version 2 . bridge r keep keep : c : a .")) 6 NoGrammar
  -- a weight that begins with `0`
  pub zero : (t : Token) → slice_index t 0 ≡ zero_digit → IsFaultAt (tokens_apart (codes "version 2 . bridge r weight") ++ t ∷ []) 6 NoGrammar
  -- a weight above 1000000
  pub heavy : IsFaultAt (tokens_apart (codes "version 2 . context c program { } bridge r weight 1000001 : c : a .")) 11 (Exceeds Weight)

-- a rule by itself with marks and a read, and what it says
pub record LoneRuleIsRead : Type 0 where
  pub grammar : IsWrittenBridge lone_rule
  pub tokens : tokens_of (bridge_entries lone_rule) ≡ lone_tokens
  pub says : SaysBridge (codes "c" ∷ codes "d" ∷ []) lone_rule lone_bridge

-- the faults of rules by themselves, where these are the names of the contexts
pub record LoneRuleFaults (names : List Token) : Type 0 where
  -- at the first token, and at the end
  pub begins : IsRuleFaultNext names [] (Some (codes "context")) NoGrammar
  pub ends : IsRuleFaultNext names (tokens_apart (codes "bridge r : c : a")) None NoGrammar
  -- no context has the name
  pub unknown : names ≡ codes "c" ∷ [] → IsRuleFaultNext names (tokens_apart (codes "bridge r :")) (Some (codes "d")) NoContext
  -- a weight above 1000000
  pub heavy : IsRuleFaultNext names (tokens_apart (codes "bridge r weight")) (Some (codes "1000001")) (Exceeds Weight)
  -- no other fault is told
  pub others : (ts : List Token) (next : Option Token) (fault : TextFault) → is_told fault ≡ false → ¬ IsRuleFaultNext names ts next fault
