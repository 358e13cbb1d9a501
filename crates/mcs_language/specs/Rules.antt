-- How far a bridge rule by itself was read.
use Rattle.std.specs.Prelude.{◌≡◌, ℕ, ◌≤◌, ◌⊎◌, true, IsTrue, List, [], ◌∷◌, ◌++◌, length, Option, Some, None, slice_get}
use Rattle.mcs_base.specs.Listings.{IsAmong}
use Rattle.mcs_tokens.specs.declared.scan.Span.{Span}
use Rattle.mcs_system.specs.Plain.{Name}
use Rattle.mcs_system.specs.Seen.{bridge_of}
use Rattle.mcs_system.specs.Limits.{most}
use Rattle.mcs_system.specs.declared.limit.Limit.TheVariants.{OpenParentheses}
use Rattle.mcs_productions.specs.Productions.{grammar}
use Rattle.mcs_grammar.specs.Written.{WrittenBridge, IsWrittenBridge}
use Rattle.mcs_grammar.specs.Saying.{SaysBridge}
use Rattle.mcs_grammar.specs.Entries.{Token, Entry, bridge_entries, tokens_of}
use Rattle.mcs_grammar.specs.Faults.{TextFault, rank, Has}
use Rattle.mcs_grammar.specs.Texts.{token_texts}
use Rattle.mcs_grammar.specs.Alone.{is_told, contexts_said, AreFirstTokens, AreFree, IsWhole, IsRuleFaultNext, SpellsBridge, RuleHasFault}
use Rattle.mcs_account.specs.declared.reader.TextReader.{TextReader}
use Rattle.mcs_account.specs.declared.place.Role.{Role}
use Rattle.mcs_account.specs.declared.place.Role.TheVariants as roles
use Rattle.mcs_account.specs.Marks.{Marked}
use Rattle.mcs_account.specs.Account.{greatest_number, account_in, accounted, first_course, followed, entries_in}
use Rattle.mcs_account.specs.Taken.{IsRuleReaderAt}
use Rattle.mcs_account.specs.Known.{is_named, names_in}
use Rattle.mcs_account.specs.Reading.{Events}
use Rattle.mcs_syntax.specs.Reads.{IsRead}
use Rattle.mcs_syntax.specs.Parts.{rest}
use Rattle.mcs_faults.specs.declared.fault.Fault as code_fault
use Rattle.mcs_faults.specs.declared.fault.TextFault as code_text
use Rattle.mcs_faults.specs.declared.fault.TextFault.TheVariants as texts
use Rattle.mcs_faults.specs.Watching.{fault_for}
use Rattle.mcs_language.specs.declared.rules.ReadRule.{ReadRule}

-- the token has to name a context
abbrev pub IsNamingContext : Role → Type 0
IsNamingContext role = (role ≡ roles.NamesTarget) ⊎ (role ≡ roles.NamesSource)

-- the tokens were read, and none of them has a fault
pub record IsRuleRead (names : List Name) (r : TextReader) (ts : List Token) : Type 0 where
  pub few : length names ≤ greatest_number
  pub marks : Marked
  pub reader : IsRuleReaderAt names r ts marks
  pub opened : (followed first_course marks).place.opened ≤ most OpenParentheses
  pub names_are : names_in (accounted (account_in names) marks) ≡ names
  pub numbered : is_named marks ≡ true → slice_get names r.place.context ≡ Some (followed first_course marks).place.context
  pub faultless : (m : Entry) → IsAmong m (entries_in marks) → (f : TextFault) → IsTrue (is_told f) → ¬ Has f (contexts_said names) m
  pub free : AreFree IsWrittenBridge bridge_entries names ts

-- the next token has this fault, and no lower one
abbrev pub IsFirstNext : List Name → List Token → Option Token → TextFault → Type 0
IsFirstNext names ts next f = IsRuleFaultNext names ts next f × ((g : TextFault) → IsRuleFaultNext names ts next g → rank f ≤ rank g)

-- the next token was read too, or it has the first fault
abbrev pub IsNextOfRule : Option code_fault.Fault → List Name → TextReader → List Token → Token → Type 0
IsNextOfRule None names now ts t = IsRuleRead names now (ts ++ t ∷ [])
IsNextOfRule (Some f) names now ts t = IsFirstNext names ts (Some t) (fault_for f)

-- the tokens from the start up to here were read, and they are no whole rule
pub record IsReadFrom (names : List Name) (bytes : List ℕ) (start : ℕ) (r : TextReader) (at : ℕ) : Type 0 where
  pub spans : List Span
  pub tokens : AreFirstTokens bytes start spans at
  pub read : IsRuleRead names r (token_texts bytes spans)
  pub unfinished : ¬ IsWhole IsWrittenBridge bridge_entries (token_texts bytes spans)

-- the tokens were read, and the rule may end after them
pub record IsWholeRead (names : List Name) (r : TextReader) (ts : List Token) : Type 0 where
  pub read : IsRuleRead names r ts
  pub events : Events
  pub ends : IsRead grammar (rest r.reader) [] events

-- ---- what is answered
-- the tokens are those of the rule that is handed out, with a reader for the next one
pub record IsRuleSaid (names : List Name) (ts : List Token) (end : ℕ) (r : ReadRule) : Type 0 where
  pub reader : r.reader ≡ names
  pub end_is : r.end ≡ end
  pub rule : WrittenBridge
  pub grammar : IsWrittenBridge rule
  pub written : tokens_of (bridge_entries rule) ≡ ts
  pub says : SaysBridge names rule (bridge_of r.bridge)

-- the rule, where it ends, and a reader for the next one
pub record IsRuleOf (names : List Name) (bytes : List ℕ) (at : ℕ) (r : ReadRule) : Type 0 where
  pub reader : r.reader ≡ names
  pub spells : SpellsBridge names bytes at (bridge_of r.bridge) r.end

-- the fault that is told of the rule, unless memory ran out
abbrev pub IsToldOfRule : List Name → List ℕ → ℕ → code_text.TextFault → Type 0
IsToldOfRule names bytes at texts.Memory = Unit {0}
IsToldOfRule names bytes at (texts.Fault number offset limit) = RuleHasFault names bytes at number limit offset
