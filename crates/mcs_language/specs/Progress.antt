-- How far a text was read: its first tokens were taken, and none of them has a fault.
use Rattle.std.specs.Prelude.{◌≡◌, ℕ, ◌+◌, ◌<◌, ◌≤◌, List, take, length, Option, Some, None, slice_get}
use Rattle.mcs_tokens.specs.Tokens.{AreTokens}
use Rattle.mcs_tokens.specs.declared.scan.Span.{Span}
use Rattle.mcs_productions.specs.declared.class.Class.{Class}
use Rattle.mcs_productions.specs.declared.class.Class.TheVariants as class
use Rattle.mcs_system.specs.Plain.{Name}
use Rattle.mcs_faults.specs.declared.fault.Fault as code_fault
use Rattle.mcs_faults.specs.declared.fault.TextFault as code_text
use Rattle.mcs_faults.specs.declared.fault.TextFault.TheVariants as texts
use Rattle.mcs_language.specs.declared.reading.Reading.{Reading}
use Rattle.mcs_grammar.specs.Entries.{Token, Entry, uses_of}
use Rattle.mcs_grammar.specs.Faults.{TextFault, Has, IsFaultAt, IsFirstTextFault}
use Rattle.mcs_grammar.specs.Texts.{token_texts, HasFault}
use Rattle.mcs_account.specs.Marks.{Marked}
use Rattle.mcs_account.specs.Account.{entries_in}
use Rattle.mcs_account.specs.Known.{IsUpTo}
use Rattle.mcs_faults.specs.Watching.{IsWatch, IsNumberOf, fault_for}

-- the first k tokens were read
pub record AreReadUpTo (reading : Reading) (ts : List Token) (k : ℕ) : Type 0 where
  pub marks : Marked
  pub inside : k ≤ length ts
  pub reader : IsUpTo reading.reader (take k ts) marks
  pub watch : IsWatch reading.watch (uses_of (entries_in marks))
  pub faultless : (j : ℕ) (m : Entry) (f : TextFault) → slice_get (entries_in marks) j ≡ Some m → ¬ Has f (uses_of (take j (entries_in marks))) m
  pub free : (j : ℕ) (f : TextFault) → j < k → ¬ IsFaultAt ts j f

-- the number of the token's name, where it is the name of a context
abbrev pub IsNumberFor : List Name → Class → Token → ℕ → Type 0
IsNumberFor names class.NamesContext t number = IsNumberOf names t number
IsNumberFor names class.NamesTarget t number = IsNumberOf names t number
IsNumberFor names class.NamesSource t number = IsNumberOf names t number
IsNumberFor names c t number = Unit {0}

-- the next token was read too, or it has the first fault
abbrev pub IsNextRead : Option code_fault.Fault → Reading → List Token → ℕ → Type 0
IsNextRead None now ts k = AreReadUpTo now ts (k + 1)
IsNextRead (Some f) now ts k = IsFirstTextFault ts k (fault_for f)

-- all tokens of the bytes were read
pub record AreTokensRead (bytes : List ℕ) (reading : Reading) : Type 0 where
  pub spans : List Span
  pub tokens : AreTokens bytes 0 spans
  pub all : AreReadUpTo reading (token_texts bytes spans) (length spans)

-- the fault that is told of the text, unless memory ran out
abbrev pub IsToldOf : List ℕ → code_text.TextFault → Type 0
IsToldOf bytes texts.Memory = Unit {0}
IsToldOf bytes (texts.Fault number offset limit) = HasFault bytes number limit offset
