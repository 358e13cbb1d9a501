-- One token more in the reader of a text: what its parts promise of it, and where the reader is after it.
use Rattle.std.proofs.Common.{◌≡◌, ℕ, ◌<◌, Bool, true, false, List, [], ◌∷◌, ◌++◌, length, refl, sym, ap, subst, ◌∙◌, ◌≤◌, not, ◌&&◌, map, Option, Some, None, inl, inr, ◌⊎◌, arith, true≢false}
use Rattle.mcs_syntax.specs.declared.part.Part.{Part}
use Rattle.mcs_syntax.specs.Reads.{says_next, Goes, HasRead}
use Rattle.mcs_syntax.specs.Parts.{rest}
use Rattle.mcs_syntax.specs.Prompt.{Stops, are_prompt}
use Rattle.mcs_syntax.proofs.Prompt.{stops}
use Rattle.mcs_system.specs.Plain as plain
use Rattle.mcs_tokens.specs.declared.kind.TokenKind.{TokenKind}
use Rattle.mcs_grammar.specs.Entries.{Token, Entry, entry}
use Rattle.mcs_productions.specs.Productions.{grammar, wanted}
use Rattle.mcs_productions.specs.Readable.{reads}
use Rattle.mcs_productions.specs.declared.class.Class.{Class}
use Rattle.mcs_productions.specs.declared.class.Class.TheVariants as class
use Rattle.mcs_productions.specs.declared.production.Action.{Action}
use Rattle.mcs_productions.specs.declared.production.Production.{Production}
use Rattle.mcs_account.specs.declared.reader.TextReader.{TextReader}
use Rattle.mcs_account.specs.declared.reader.Taken as code_taken
use Rattle.mcs_account.specs.Marks.{Marked, marks_for}
use Rattle.mcs_account.specs.Account.{Account, Place, place_after, uses_with, no_account, accounted, followed, first_course, told}
use Rattle.mcs_account.specs.Images.{IsPlace, account_of, IsNaming, capped, uses_in, about_place}
use Rattle.mcs_account.specs.Reading.{AreReadFrom, AreRead, Events, class_in, ends_in, heard, ended_if, top_of, HasSome}
use Rattle.mcs_account.specs.Taken.{IsReaderFrom, IsReaderAt, is_long, ended_with, IsTakenWith, context_names, NamesAreShort, IsEnd, IsEndedRead}
use Rattle.mcs_account.proofs.Fronts.{IsStart}
use Rattle.mcs_account.proofs.Reading.{text-start}
use Rattle.mcs_account.proofs.FaultTheory.{read-one-from}
use Rattle.mcs_account.proofs.TokenMarks.{TokenBringsFrom, TokenBrings, token-brings}
use Rattle.std.specs.Prelude.{slice_get, IsTrue}
use Rattle.std.proofs.lemmas.List.{length-map}
use Rattle.std.proofs.lemmas.Option.{none-some}
use Rattle.mcs_base.specs.Listings.{IsAmong}
use Rattle.mcs_base.specs.Words.{is_name}
use Rattle.mcs_syntax.specs.declared.part.Event.TheVariants.{Took, Told}
use Rattle.mcs_syntax.specs.Grammar.{Expr, Rule, tokens}
use Rattle.mcs_system.specs.Plain.{Name}
use Rattle.mcs_system.specs.Seen.{context_of, formula_of}
use Rattle.mcs_tokens.specs.declared.kind.TokenKind.TheVariants as kinds
use Rattle.mcs_tokens.specs.Kinds.{IsKind}
use Rattle.mcs_grammar.specs.Written.{WrittenText}
use Rattle.mcs_productions.specs.Terminals.{terminal_of, number}
use Rattle.mcs_productions.specs.declared.production.Action.TheVariants as action
use Rattle.mcs_productions.specs.declared.production.Production.TheVariants as name
use Rattle.mcs_productions.specs.declared.terminal.Terminal.TheVariants as terminal
use Rattle.mcs_account.specs.declared.reader.NamedRead as code_read
use Rattle.mcs_account.proofs.AccountLemmas.{code-names}
use Rattle.mcs_account.proofs.Forward.{text-of}
use Rattle.mcs_account.proofs.TokenKinds.{one-terminal}

-- a reader that leaves no action that stands next stops
pub reader-stops : (r : List (Part Class Action Production) × List ℕ) → are_prompt grammar r.0 (length r.0) ≡ true → says_next (rest r) ≡ false → Stops grammar (rest r)
reader-stops r all s = stops grammar reads r.0 all r.1 s

-- of any production, where this is the account before the first token
module _ (n : Production) (start : IsStart n) (a : Account) (none : a.operands ≡ []) (old now : TextReader) (ts : List Token) (ms : Marked) (t : Token) (taken : code_taken.Taken) (k : TokenKind) (xs : Events) (h : IsReaderFrom n a old ts ms) (w : IsTakenWith taken old now t k xs) where
  prompt : are_prompt grammar now.reader.0 (length now.reader.0) ≡ true
  prompt = subst (λ (ps : List (Part Class Action Production)). are_prompt grammar ps (length ps) ≡ true) (sym w.parts) h.parts

  pub read-next-from : AreReadFrom n (ts ++ t ∷ []) (ms ++ marks_for t xs) (rest now.reader)
  read-next-from = read-one-from n ts ms (rest old.reader) (rest now.reader) k t xs h.read w.kind w.read (reader-stops now.reader prompt w.settled)

  pub next-brings-from : TokenBringsFrom a ms t xs taken.class
  next-brings-from = subst (TokenBringsFrom a ms t xs) (sym w.class_is) (token-brings n start a none ts ms (rest old.reader) (rest now.reader) t _ xs class.IsAtom h.read w.read read-next-from)

  -- the token's entry
  abbrev pub entry_from : Entry
  entry_from = entry t (uses_with (ends_in xs) (followed first_course ms).place taken.class t (top_of (heard (accounted a ms) t xs).operands))

  -- the reader that goes on after it
  pub passed-from : (after : TextReader) → after.reader ≡ now.reader → account_of after.account ≡ ended_with now.ended (account_of now.account) → is_long k ≡ false
      → (ends_in xs ≡ true → old.place.context < length (heard (accounted a ms) t xs).contexts)
      → IsPlace after.place (place_after (followed first_course ms).place taken.class t) → IsReaderFrom n a after (ts ++ t ∷ []) (ms ++ marks_for t xs)
  passed-from after same account short known place =
      let said : heard (account_of old.account) t xs ≡ heard (accounted a ms) t xs = ap (λ b. heard b t xs) h.account in
      let there : ended_with now.ended (account_of now.account) ≡ ended_if (ends_in xs) (heard (account_of old.account) t xs)
      = w.account short (λ e. (subst (λ (b : Account). HasSome b.operands) (sym said) (next-brings-from.formed e), subst (λ (b : Account). old.place.context < length b.contexts) (sym said) (known e))) in
      record {
        parts = subst (λ r. are_prompt grammar r.0 (length r.0) ≡ true) (sym same) prompt;
        read = subst (λ r. AreReadFrom n (ts ++ t ∷ []) (ms ++ marks_for t xs) (rest r)) (sym same) read-next-from;
        account = account ∙ there ∙ ap (ended_if (ends_in xs)) said ∙ sym next-brings-from.account;
        place = subst (IsPlace after.place) (sym next-brings-from.place_is) place;
      }

-- of a whole text
module _ (old now : TextReader) (ts : List Token) (ms : Marked) (t : Token) (taken : code_taken.Taken) (k : TokenKind) (xs : Events) (h : IsReaderAt old ts ms) (w : IsTakenWith taken old now t k xs) where
  pub read-next : AreRead (ts ++ t ∷ []) (ms ++ marks_for t xs) (rest now.reader)
  read-next = read-next-from name.Text text-start no_account refl old now ts ms t taken k xs h w

  pub next-brings : TokenBrings ms t xs taken.class
  next-brings = next-brings-from name.Text text-start no_account refl old now ts ms t taken k xs h w

  -- the token's entry
  abbrev pub next_entry : Entry
  next_entry = entry_from name.Text text-start no_account refl old now ts ms t taken k xs h w

  -- the reader that goes on after it
  pub passed-on : (after : TextReader) → after.reader ≡ now.reader → account_of after.account ≡ ended_with now.ended (account_of now.account) → is_long k ≡ false
      → (ends_in xs ≡ true → old.place.context < length (heard (accounted no_account ms) t xs).contexts)
      → IsPlace after.place (place_after (followed first_course ms).place taken.class t) → IsReaderAt after (ts ++ t ∷ []) (ms ++ marks_for t xs)
  passed-on = passed-from name.Text text-start no_account refl old now ts ms t taken k xs h w

-- ---- before the first token
empty : WrittenText
empty = record { has_version = false; contexts = []; bridges = [] }

no-front : {X : Type 0} (xs ys : List X) → [] ≡ xs ++ ys → xs ≡ []
no-front [] ys e = refl
no-front (x ∷ xs) ys e = absurd (cc)

pub first-read : (r : List (Part Class Action Production) × List ℕ) (old new : Events) → are_prompt grammar r.0 (length r.0) ≡ true → Goes grammar (Rule name.Text) [] (rest r) old new → AreRead [] [] (rest r)
unfolding empty
first-read r old new all goes =
    let p = goes.2.holds_all [] [] (text-of empty (tt, tt, λ e. tt), refl) in
    let none : goes.0 ≡ [] = no-front goes.0 p.0 p.1 in
    record { tokens_are = refl; filled = tt; read = subst (λ (xs : Events). HasRead grammar (Rule name.Text) [] xs (rest r)) none goes.2; stops = reader-stops r all goes.3 }

-- ---- a token that is taken
pub has-read : (before after : Expr Class Action Production) (d e : ℕ) (old new xs : Events) → d ≡ e → old ≡ [] → xs ≡ new → Goes grammar before (d ∷ []) after old new → HasRead grammar before (e ∷ []) xs after × (says_next after ≡ false)
has-read before after d e old new xs same none is goes =
    (subst (λ (n : ℕ). HasRead grammar before (n ∷ []) xs after) same (subst (λ (ys : Events). HasRead grammar before (d ∷ []) ys after) (sym (is ∙ goes.1 ∙ ap (λ (l : Events). l ++ goes.0) none)) goes.2), goes.3)

-- ---- one that is there as a name, and not too long
kind-among : (xs : Events) (c : Class) → IsAmong (Took c) xs → IsAmong (number (wanted c)) (tokens grammar xs)
kind-among [] c h = absurd h
kind-among (Took b ∷ xs) c (inl h) = inl (let same : c ≡ b = cc in ap (λ (x : Class). number (wanted x)) same)
kind-among (Took b ∷ xs) c (inr h) = inr (kind-among xs c h)
kind-among (Told a ∷ xs) c (inl h) = absurd (cc)
kind-among (Told a ∷ xs) c (inr h) = kind-among xs c h

short-name : (k : TokenKind) (t : Token) → IsKind k t → is_long k ≡ false → terminal_of k ≡ terminal.Name → IsTrue (is_name t)
short-name kinds.Name t h s e = h
short-name k t h s e = absurd (cc)

pub names-are-short : (k : TokenKind) (t : Token) (xs : Events) → IsKind k t → is_long k ≡ false → tokens grammar xs ≡ number (terminal_of k) ∷ [] → NamesAreShort xs t
names-are-short k t xs h short e c there name = elim (subst (IsAmong (number (wanted c))) e (kind-among xs c there)) [
  | inl same ↦ short-name k t h short (sym (one-terminal (wanted c) (terminal_of k) same) ∙ name)
  | inr none ↦ absurd none
]

-- ---- the read that ends with a token
module _ (mid now : TextReader) where
  names-are : context_names mid.account ≡ map (λ (c : plain.Context). c.name) (account_of mid.account).contexts
  names-are = sym (code-names mid.account.contexts.items)

  end-account : (o : Option code_read.NamedRead) → IsEndedRead o mid now → HasSome (account_of mid.account).operands → mid.place.context < length (account_of mid.account).contexts → ended_with o (account_of now.account) ≡ told (account_of mid.account) action.EndsRead
  end-account (Some r) h some known = ap (λ (a : Account). told a action.EndsRead) (sym h.1)
  end-account None (inl past) some known = let many = length-map mid.account.contexts.items context_of in absurd (omega arith)
  end-account None (inr none) some known = absurd (subst HasSome none some)

  end-read : (o : Option code_read.NamedRead) → IsEndedRead o mid now → (r : code_read.NamedRead) → o ≡ Some r → (slice_get (map (λ (c : plain.Context). c.name) (account_of mid.account).contexts) mid.place.context ≡ Some r.context) × (top_of (account_of mid.account).operands ≡ formula_of r.belief)
  end-read (Some q) h r is =
      let same : q ≡ r = cc in
      subst (λ (x : code_read.NamedRead). (slice_get (map (λ (c : plain.Context). c.name) (account_of mid.account).contexts) mid.place.context ≡ Some x.context) × (top_of (account_of mid.account).operands ≡ formula_of x.belief)) same
      (ap (λ (ns : List Name). slice_get ns mid.place.context) (sym names-are) ∙ h.0, ap (λ (a : Account). top_of a.operands) h.1)
  end-read None h r is = absurd (none-some r is)

  no-end : (o : Option code_read.NamedRead) → IsEndedRead o mid now → o ≡ None → ((account_of mid.account).operands ≡ []) ⊎ (length (account_of mid.account).contexts ≤ mid.place.context)
  no-end (Some q) h is = absurd (none-some q (sym is))
  no-end None (inl past) is = let many = length-map mid.account.contexts.items context_of in inr (omega arith)
  no-end None (inr none) is = inl none

-- ---- all of it
module _ (old mid now : TextReader) (t : Token) (taken : code_taken.Taken) (k : TokenKind) (xs : Events) (kind : IsKind k t) (read : HasRead grammar (rest old.reader) (number (terminal_of k) ∷ []) xs (rest mid.reader)) (settled : says_next (rest mid.reader) ≡ false) (parts : mid.reader.0 ≡ old.reader.0) (place : mid.place ≡ old.place)
    (others : now ≡ record mid { account = now.account; ended = now.ended }) (class-is : taken.class ≡ class_in class.IsAtom xs) (ends-is : taken.uses.ends_read ≡ ends_in xs)
    (uses-are : (p : Place) (f : plain.Formula) → IsPlace old.place p → map capped (uses_with (ends_in xs) p taken.class t f) ≡ uses_in (about_place p f) t taken.uses)
    (names : IsNaming taken.uses.role → wanted taken.class ≡ terminal.Name) (account : is_long k ≡ false → account_of mid.account ≡ heard (account_of old.account) t xs) (end : IsEnd (ends_in xs && not (is_long k)) mid now) where
  abbrev after : Account
  after = heard (account_of old.account) t xs

  -- a read ends, and the token is not too long
  ended : is_long k ≡ false → ends_in xs ≡ true → IsEndedRead now.ended mid now
  ended short e = subst (λ (b : Bool). IsEnd b mid now) (ap (λ (b : Bool). b && not (is_long k)) e ∙ ap not short) end

  not-ended : (ends_in xs && not (is_long k)) ≡ false → (now.ended ≡ None) × (now.account ≡ mid.account)
  not-ended e = subst (λ (b : Bool). IsEnd b mid now) e end

  account-is : is_long k ≡ false → (ends_in xs ≡ true → HasSome after.operands × (old.place.context < length after.contexts)) → ended_with now.ended (account_of now.account) ≡ ended_if (ends_in xs) after
  account-is short more = at (ends_in xs) refl
    where
      at : (b : Bool) → ends_in xs ≡ b → ended_with now.ended (account_of now.account) ≡ ended_if b after
      at true e =
          let h = more e in
          let some : HasSome (account_of mid.account).operands = subst (λ (a : Account). HasSome a.operands) (sym (account short)) h.0 in
          let known : mid.place.context < length (account_of mid.account).contexts = subst (λ (a : Account). mid.place.context < length a.contexts) (sym (account short)) (subst (λ q. q.context < length after.contexts) (sym place) h.1) in
          end-account mid now now.ended (ended short e) some known ∙ ap (λ (a : Account). told a action.EndsRead) (account short)
      at false e =
          let h = not-ended (ap (λ (b : Bool). b && not (is_long k)) e) in
          ap (λ (o : Option code_read.NamedRead). ended_with o (account_of now.account)) h.0 ∙ ap account_of h.1 ∙ account short

  both : (x y : Bool) → (x && not y) ≡ false → (x ≡ false) ⊎ (y ≡ true)
  both true true e = inr refl
  both true false e = absurd (true≢false e)
  both false y e = inl refl

  -- where the reader hands out a read, the token ends one
  handed : (r : code_read.NamedRead) → now.ended ≡ Some r → (is_long k ≡ false) × (ends_in xs ≡ true)
  handed r is = at (ends_in xs) (is_long k) refl refl
    where
      at : (x y : Bool) → ends_in xs ≡ x → is_long k ≡ y → (y ≡ false) × (x ≡ true)
      at true false e f = (refl, refl)
      at true true e f = absurd (none-some r (sym (not-ended (ap (λ (b : Bool). b && not (is_long k)) e ∙ ap not f)).0 ∙ is))
      at false y e f = absurd (none-some r (sym (not-ended (ap (λ (b : Bool). b && not (is_long k)) e)).0 ∙ is))

  read-is : (r : code_read.NamedRead) → now.ended ≡ Some r → (is_long k ≡ false) × (ends_in xs ≡ true) × (slice_get (map (λ (c : plain.Context). c.name) after.contexts) old.place.context ≡ Some r.context) × (top_of after.operands ≡ formula_of r.belief)
  read-is r is =
      let h = handed r is in
      let q = end-read mid now now.ended (ended h.0 h.1) r is in
      (h.0, h.1, subst (λ (a : Account). slice_get (map (λ (c : plain.Context). c.name) a.contexts) old.place.context ≡ Some r.context) (account h.0) (subst (λ p. slice_get (map (λ (c : plain.Context). c.name) (account_of mid.account).contexts) p.context ≡ Some r.context) place q.0), ap (λ (a : Account). top_of a.operands) (sym (account h.0)) ∙ q.1)

  read-there : now.ended ≡ None → ends_in xs ≡ true → (is_long k ≡ true) ⊎ ((after.operands ≡ []) ⊎ (length after.contexts ≤ old.place.context))
  read-there none e = at (is_long k) refl
    where
      at : (y : Bool) → is_long k ≡ y → (y ≡ true) ⊎ ((after.operands ≡ []) ⊎ (length after.contexts ≤ old.place.context))
      at true f = inl refl
      at false f = inr (elim (no-end mid now now.ended (ended f e) none) [
        | inl empty' ↦ inl (ap (λ (a : Account). a.operands) (sym (account f)) ∙ empty')
        | inr past ↦ inr (subst (λ p. length after.contexts ≤ p.context) place (subst (λ (a : Account). length a.contexts ≤ mid.place.context) (account f) past))
      ])

  pub taken-with : IsTakenWith taken old now t k xs
  taken-with = record {
    kind = kind;
    read = subst (λ (r : TextReader). HasRead grammar (rest old.reader) (number (terminal_of k) ∷ []) xs (rest r.reader)) (sym others) read;
    settled = ap (λ (r : TextReader). says_next (rest r.reader)) others ∙ settled;
    parts = ap (λ (r : TextReader). r.reader.0) others ∙ parts;
    class_is = class-is;
    ends_is = ends-is;
    uses_are = uses-are;
    names = names;
    place = ap (λ (r : TextReader). r.place) others ∙ place;
    account = account-is;
    read_is = read-is;
    read_there = read-there;
  }
