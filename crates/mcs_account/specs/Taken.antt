-- What the reader of a text promises of a token.
use Rattle.std.specs.Prelude.{◌≡◌, ◌<◌, ◌≤◌, ◌⊎◌, Bool, true, false, IsTrue, List, [], ◌∷◌, map, length, Option, Some, None, slice_get}
use Rattle.mcs_base.specs.Listings.{IsAmong}
use Rattle.mcs_base.specs.Words.{is_name}
use Rattle.mcs_syntax.specs.declared.part.Event.TheVariants.{Took}
use Rattle.mcs_syntax.specs.Reads.{Begins, HasRead, says_next}
use Rattle.mcs_syntax.specs.Parts.{rest}
use Rattle.mcs_syntax.specs.Prompt.{are_prompt}
use Rattle.mcs_system.specs.Plain as plain
use Rattle.mcs_tokens.specs.declared.kind.TokenKind.{TokenKind}
use Rattle.mcs_tokens.specs.declared.kind.TokenKind.TheVariants as kinds
use Rattle.mcs_tokens.specs.Kinds.{IsKind}
use Rattle.mcs_system.specs.Plain.{Name}
use Rattle.mcs_system.specs.Seen.{formula_of}
use Rattle.mcs_system.specs.declared.knowledge.Context as code_context
use Rattle.mcs_grammar.specs.Entries.{Token}
use Rattle.mcs_productions.specs.declared.production.Action.TheVariants as action
use Rattle.mcs_productions.specs.declared.production.Production.{Production}
use Rattle.mcs_productions.specs.declared.production.Production.TheVariants as name
use Rattle.mcs_productions.specs.Productions.{grammar, wanted}
use Rattle.mcs_productions.specs.Terminals.{terminal_of, number}
use Rattle.mcs_productions.specs.declared.class.Class.{Class}
use Rattle.mcs_productions.specs.declared.class.Class.TheVariants as class
use Rattle.mcs_productions.specs.declared.terminal.Terminal.TheVariants as terminal
use Rattle.mcs_account.specs.declared.reader.TextReader.{TextReader}
use Rattle.mcs_account.specs.declared.reader.Taken as code_taken
use Rattle.mcs_account.specs.declared.reader.NamedRead as code_read
use Rattle.mcs_account.specs.declared.account.Account as code_account
use Rattle.mcs_account.specs.Marks.{Marked}
use Rattle.mcs_account.specs.Account.{Account, Place, uses_with, pushed, told, no_account, account_in, accounted, first_course, followed}
use Rattle.mcs_account.specs.Images.{IsPlace, IsNaming, account_of, capped, uses_in, about_place}
use Rattle.mcs_account.specs.Reading.{AreReadFrom, Events, class_in, ends_in, heard, ended_if, top_of, HasSome}

abbrev pub context_names : code_account.Account → List Name
context_names a = map (λ (c : code_context.Context). c.name) a.contexts.items

-- where the token is there as a name, it is one, and not too long
abbrev pub NamesAreShort : Events → Token → Type 0
NamesAreShort xs t = (c : Class) → IsAmong (Took c) xs → wanted c ≡ terminal.Name → IsTrue (is_name t)

-- the tokens of a text of the production were read, with these marks; this is the account before them
pub record IsReaderFrom (n : Production) (before : Account) (r : TextReader) (ts : List Token) (ms : Marked) : Type 0 where
  pub parts : are_prompt grammar r.reader.0 (length r.reader.0) ≡ true
  pub read : AreReadFrom n ts ms (rest r.reader)
  pub account : account_of r.account ≡ accounted before ms
  pub place : IsPlace r.place (followed first_course ms).place

-- those of a whole text
abbrev pub IsReaderAt : TextReader → List Token → Marked → Type 0
IsReaderAt r ts ms = IsReaderFrom name.Text no_account r ts ms

-- those of a bridge rule of a system whose contexts have these names
abbrev pub IsRuleReaderAt : List Name → TextReader → List Token → Marked → Type 0
IsRuleReaderAt names r ts ms = IsReaderFrom name.MarkedBridge (account_in names) r ts ms

abbrev pub is_long : TokenKind → Bool
is_long kinds.LongName = true
is_long k = false

-- the read that is handed out, and what the account has then
abbrev pub IsEndedRead : Option code_read.NamedRead → (old now : TextReader) → Type 0
IsEndedRead (Some r) old now = (slice_get (context_names old.account) old.place.context ≡ Some r.context) × (account_of old.account ≡ pushed (account_of now.account) (formula_of r.belief))
IsEndedRead None old now = (length old.account.contexts.items ≤ old.place.context) ⊎ ((account_of old.account).operands ≡ [])

-- where a read ends it is taken from the account
abbrev pub IsEnd : Bool → (old now : TextReader) → Type 0
IsEnd true old now = IsEndedRead now.ended old now
IsEnd false old now = (now.ended ≡ None) × (now.account ≡ old.account)

-- after the read
abbrev pub ended_with : Option code_read.NamedRead → Account → Account
ended_with None a = a
ended_with (Some r) a = told (pushed a (formula_of r.belief)) action.EndsRead

-- the token of this kind was taken, with these events
pub record IsTakenWith (taken : code_taken.Taken) (old now : TextReader) (t : Token) (k : TokenKind) (xs : Events) : Type 0 where
  pub kind : IsKind k t
  pub read : HasRead grammar (rest old.reader) (number (terminal_of k) ∷ []) xs (rest now.reader)
  pub settled : says_next (rest now.reader) ≡ false
  pub parts : now.reader.0 ≡ old.reader.0
  pub class_is : taken.class ≡ class_in class.IsAtom xs
  pub ends_is : taken.uses.ends_read ≡ ends_in xs
  pub uses_are : (p : Place) (f : plain.Formula) → IsPlace old.place p → map capped (uses_with (ends_in xs) p taken.class t f) ≡ uses_in (about_place p f) t taken.uses
  pub names : IsNaming taken.uses.role → wanted taken.class ≡ terminal.Name
  pub place : now.place ≡ old.place
  -- what the account has, where the context is known that is spoken of, and a formula is whole where a read ends
  pub account : is_long k ≡ false → (ends_in xs ≡ true → HasSome (heard (account_of old.account) t xs).operands × (old.place.context < length (heard (account_of old.account) t xs).contexts))
      → ended_with now.ended (account_of now.account) ≡ ended_if (ends_in xs) (heard (account_of old.account) t xs)
  -- the read that ends with the token
  pub read_is : (r : code_read.NamedRead) → now.ended ≡ Some r → (is_long k ≡ false) × (ends_in xs ≡ true)
      × (slice_get (map (λ (c : plain.Context). c.name) (heard (account_of old.account) t xs).contexts) old.place.context ≡ Some r.context) × (top_of (heard (account_of old.account) t xs).operands ≡ formula_of r.belief)
  pub read_there : now.ended ≡ None → ends_in xs ≡ true → (is_long k ≡ true) ⊎ (((heard (account_of old.account) t xs).operands ≡ []) ⊎ (length (heard (account_of old.account) t xs).contexts ≤ old.place.context))

abbrev pub IsTokenTaken : Option code_taken.Taken → (old now : TextReader) → Token → Type 0
IsTokenTaken None old now t = (k : TokenKind) × IsKind k t × (Begins grammar (rest old.reader) (number (terminal_of k) ∷ []) → ⊥)
IsTokenTaken (Some taken) old now t = (k : TokenKind) × ((xs : Events) × IsTakenWith taken old now t k xs)
