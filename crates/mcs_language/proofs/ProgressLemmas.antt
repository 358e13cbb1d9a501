-- One token more was read of a text, or it has the first fault.
use Rattle.std.proofs.Common.{◌≡◌, ℕ, ◌+◌, ◌<◌, ◌≤◌, Bool, true, false, List, [], ◌∷◌, ◌++◌, take, length, Some, refl, sym, ap, subst, ◌∙◌, inl, inr, ◌⊎◌, arith, append-nil, length-append, get_or, length-take-le}
use Rattle.std.specs.Prelude.{slice_get}
use Rattle.std.proofs.Math.Seq.{get_or-append_seam, take-append_seam}
use Rattle.std.proofs.Math.ListN.{get_or-append}
use Rattle.std.proofs.Math.Nat.{eq-or-lt_of_le}
use Rattle.std.proofs.lemmas.Option.{slice_get_within, get_or_from_slice_get, slice_get-get_or, none-some}
use Rattle.std.proofs.lemmas.List.{take-append-le}
use Rattle.mcs_base.specs.Listings.{IsAmong}
use Rattle.mcs_base.specs.Words.{most_name_bytes}
use Rattle.mcs_base.proofs.Among.{among_right, among_get}
use Rattle.mcs_syntax.specs.Reads.{Begins}
use Rattle.mcs_syntax.specs.Parts.{rest}
use Rattle.mcs_system.specs.Plain.{Name}
use Rattle.mcs_system.specs.Plain as plain
use Rattle.mcs_system.specs.Limits.{most}
use Rattle.mcs_system.specs.declared.limit.Limit.TheVariants.{NameBytes, OpenParentheses}
use Rattle.mcs_tokens.specs.declared.kind.TokenKind.{TokenKind}
use Rattle.mcs_tokens.specs.Kinds.{IsKind}
use Rattle.mcs_productions.specs.Productions.{grammar}
use Rattle.mcs_productions.specs.Terminals.{terminal_of, number}
use Rattle.mcs_productions.specs.declared.class.Class.{Class}
use Rattle.mcs_productions.specs.declared.class.Class.TheVariants as class
use Rattle.mcs_grammar.specs.Written.{IsNameWord}
use Rattle.mcs_grammar.specs.Entries.{Token, Use, OpensWithin, EndsRead, Entry, uses_of}
use Rattle.mcs_grammar.specs.Faults.{TextFault, NoGrammar, Twin, Exceeds, rank, Has, IsFirstTextFault}
use Rattle.mcs_account.specs.declared.reader.TextReader.{TextReader}
use Rattle.mcs_account.specs.declared.reader.Taken as code_taken
use Rattle.mcs_account.specs.Mark.{tokens_in}
use Rattle.mcs_account.specs.Marks.{Marked, Filled, marks_for}
use Rattle.mcs_account.specs.Account.{Account, Place, place_after, when, uses_with, no_account, accounted, followed, first_course, entries_in}
use Rattle.mcs_account.specs.Images.{WasNamed, IsPlace, account_of, context_chosen, target_chosen}
use Rattle.mcs_account.specs.Reading.{AreRead, Reached, Events, ends_in, heard, top_of}
use Rattle.mcs_account.specs.Taken.{IsReaderAt, is_long, ended_with, IsTakenWith}
use Rattle.mcs_account.specs.Turns.{named_after}
use Rattle.mcs_account.specs.Known.{IsKnown, AreNumbers, AllShort, IsUpTo, is_named, names_in, contexts_named}
use Rattle.mcs_account.proofs.TreeLemmas.{all-parts}
use Rattle.mcs_account.proofs.TokenMarks.{TokenBrings}
use Rattle.mcs_account.proofs.FaultTheory.{taken-more, first-untaken, first-entered, free-none, free-more}
use Rattle.mcs_account.proofs.ReaderSteps.{read-next, next-brings, next_entry, passed-on}
use Rattle.mcs_account.proofs.Spoken.{known-after, are-names}
use Rattle.mcs_account.proofs.Numbers.{introduced, ended-names, uses-names, more-names, IsNumbered, numbers-after}
use Rattle.mcs_account.proofs.Atoms.{heard-short, ended-short}
use Rattle.mcs_account.proofs.EntryLists.{uses-append}
use Rattle.mcs_faults.specs.declared.fault.Fault as code_fault
use Rattle.mcs_faults.specs.declared.watch.Watch.{Watch}
use Rattle.mcs_faults.specs.Watching.{IsWatch, fault_for}
use Rattle.mcs_faults.proofs.BeforeRules.{among-named, named-among}
use Rattle.mcs_faults.proofs.WatchFacts.{is-context}
use Rattle.mcs_faults.proofs.SaidLemmas.{context-known, long-word}
use Rattle.mcs_language.specs.declared.reading.Reading.{Reading}
use Rattle.mcs_language.specs.Progress.{AreReadUpTo, IsNumberFor}

abbrev pub reading_of : TextReader → Watch → Reading
reading_of reader watch = record { reader = reader; watch = watch }

-- before the first token
pub up-to-none : (reader : TextReader) (watch : Watch) (ts : List Token) → IsReaderAt reader [] [] → reader.place.context ≡ 0 → reader.place.target ≡ 0 → IsWatch watch [] → AreReadUpTo (reading_of reader watch) ts 0
up-to-none reader watch ts read context target seen = record {
  marks = [];
  inside = omega arith;
  reader = subst (λ (us : List Token). IsUpTo reader us []) (sym (take-zero ts)) (record {
    reader = read;
    opened = omega arith;
    known = record { contexts = λ e. absurd (cc); begins = inl refl };
    names = refl;
    numbers = record { context = λ e. absurd (cc); target = λ e. absurd (cc); none = λ e. (refl, context, target) };
    short = tt;
  });
  watch = seen;
  faultless = λ j m f none has. absurd (none-some m none);
  free = free-none ts;
}
  where
    take-zero : (us : List Token) → take 0 us ≡ []
    take-zero [] = refl
    take-zero (u ∷ us) = refl

pub reached : (r : Reading) (ts : List Token) (k : ℕ) (h : AreReadUpTo r ts k) → Reached ts k h.marks (rest r.reader.reader)
reached r ts k h = record { are = h.reader.reader.read; inside = h.inside }

-- ---- the entries of the tokens before
abbrev AreFaultless : List Entry → Type 0
AreFaultless ms = (j : ℕ) (n : Entry) (f : TextFault) → slice_get ms j ≡ Some n → ¬ Has f (uses_of (take j ms)) n

faultless-more : (ms : List Entry) (m : Entry) → AreFaultless ms → ((f : TextFault) → ¬ Has f (uses_of ms) m) → AreFaultless (ms ++ m ∷ [])
faultless-more ms m h none j n f is has = go (eq-or-lt_of_le (omega (arith, slice_get_within (ms ++ m ∷ []) j n is, length-append ms (m ∷ []))))
  where
    here : get_or (ms ++ m ∷ []) j n ≡ n
    here = get_or_from_slice_get (ms ++ m ∷ []) j n n is

    go : (j ≡ length ms) ⊎ (j < length ms) → ⊥
    go (inl last) =
        let same : n ≡ m = sym here ∙ ap (λ (i : ℕ). get_or (ms ++ m ∷ []) i n) last ∙ get_or-append_seam ms m [] n in
        let before : take j (ms ++ m ∷ []) ≡ ms = ap (λ (i : ℕ). take i (ms ++ m ∷ [])) last ∙ take-append_seam ms (m ∷ []) in
        none f (subst (Has f (uses_of ms)) same (subst (λ (ns : List Entry). Has f (uses_of ns) n) before has))
    go (inr less) =
        let before : take j (ms ++ m ∷ []) ≡ take j ms = take-append-le j ms (m ∷ []) (omega arith) in
        let same : get_or ms j n ≡ n = sym (get_or-append ms (m ∷ []) n j less) ∙ here in
        h j n f (slice_get-get_or ms j n less ∙ ap (λ (x : Entry). Some x) same) (subst (λ (ns : List Entry). Has f (uses_of ns) n) before has)

-- ---- what no fault says of a token
-- of a parenthesis
pub opened-after : (p : Place) (c : Class) (t : Token) (b : Bool) (f : plain.Formula) → p.opened ≤ most OpenParentheses → ¬ IsAmong (OpensWithin (most OpenParentheses)) (uses_with b p c t f) → (place_after p c t).opened ≤ most OpenParentheses
opened-after p class.OpensParenthesis t b f few none = go (eq-or-lt_of_le few)
  where
    there : (n : ℕ) → p.opened ≡ n → IsAmong (OpensWithin n) (uses_with b p class.OpensParenthesis t f)
    there n e = subst (λ (i : ℕ). IsAmong (OpensWithin i) (uses_with b p class.OpensParenthesis t f)) e (among_right (OpensWithin p.opened) (when b (EndsRead p.target p.context f)) _ (among_right (OpensWithin p.opened) p.begins (OpensWithin p.opened ∷ []) (inl refl)))

    go : (p.opened ≡ most OpenParentheses) ⊎ (p.opened < most OpenParentheses) → p.opened + 1 ≤ most OpenParentheses
    go (inl full) = absurd (none (there (most OpenParentheses) full))
    go (inr less) = omega arith
opened-after p class.ClosesParenthesis t b f few none = omega arith
opened-after p c t b f few none = few

-- the number of the name of a context
module _ (names : List Name) (before : List Use) (named : Bool) (p : Place) (m : Entry) (b : Bool) (t : Token) (f : plain.Formula) (h : IsKnown before named p) (known : (c : Name) → WasNamed before c ⊎ (¬ WasNamed before c)) (free : (g : TextFault) → ¬ Has g before m) (e : names ≡ contexts_named before) where
  numbered : (c : Class) (n : ℕ) → m.uses ≡ uses_with b p c t f → IsNumberFor names c t n → IsNumbered names c t n
  numbered class.NamesContext n uses (inl is) = absurd (free Twin (inl (t, are-names before named p m b t f h known free class.NamesContext uses, named-among before t (subst (IsAmong t) e (among_get t names n is)))))
  numbered class.NamesContext n uses (inr is) = is.0
  numbered class.NamesTarget n uses (inl is) = is
  numbered class.NamesTarget n uses (inr is) = absurd (is.1 (subst (IsAmong t) (sym e) (among-named before t (are-names before named p m b t f h known free class.NamesTarget uses))))
  numbered class.NamesSource n uses (inl is) = is
  numbered class.NamesSource n uses (inr is) = absurd (is.1 (subst (IsAmong t) (sym e) (among-named before t (are-names before named p m b t f h known free class.NamesSource uses))))
  numbered c n uses is = tt

-- ---- a token that is not taken
pub next-untaken : (r : Reading) (ts : List Token) (k : ℕ) (t : Token) (h : AreReadUpTo r ts k) → slice_get ts k ≡ Some t → (kind : TokenKind) → IsKind kind t → (Begins grammar (rest r.reader.reader) (number (terminal_of kind) ∷ []) → ⊥) → IsFirstTextFault ts k NoGrammar
next-untaken r ts k t h at kind is none = first-untaken ts k h.marks (rest r.reader.reader) kind t (reached r ts k h) at is none h.free

-- ---- a token that is taken
module _ (old : Reading) (ts : List Token) (k : ℕ) (t : Token) (h : AreReadUpTo old ts k) (at : slice_get ts k ≡ Some t) (now : TextReader) (taken : code_taken.Taken) (kind : TokenKind) (xs : Events) (w : IsTakenWith taken old.reader now t kind xs) where
  abbrev ms : Marked
  ms = h.marks

  abbrev p : Place
  p = (followed first_course ms).place

  abbrev f : plain.Formula
  f = top_of (heard (accounted no_account ms) t xs).operands

  abbrev pub here : Entry
  here = next_entry old.reader now (take k ts) ms t taken kind xs h.reader.reader w

  brings : TokenBrings ms t xs taken.class
  brings = next-brings old.reader now (take k ts) ms t taken kind xs h.reader.reader w

  is-read : AreRead (take k ts ++ t ∷ []) (ms ++ marks_for t xs) (rest now.reader)
  is-read = read-next old.reader now (take k ts) ms t taken kind xs h.reader.reader w

  next : Reached ts (k + 1) (ms ++ marks_for t xs) (rest now.reader)
  next = record { are = subst (λ (us : List Token). AreRead us (ms ++ marks_for t xs) (rest now.reader)) (sym (taken-more ts k t at)) is-read; inside = let less = slice_get_within ts k t at in omega arith }

  many : length (tokens_in ms) ≡ k
  many = ap (λ (us : List Token). length us) h.reader.reader.read.tokens_are ∙ length-take-le k ts h.inside

  -- the lowest fault
  pub next-fault : (g : code_fault.Fault) → Has (fault_for g) (uses_of (entries_in ms)) here → ((e : TextFault) → Has e (uses_of (entries_in ms)) here → rank (fault_for g) ≤ rank e) → IsFirstTextFault ts k (fault_for g)
  next-fault g has low = first-entered ts k ms (marks_for t xs) (rest now.reader) here next many brings.entry_is (fault_for g) (λ e. subst (λ (x : TextFault). Has x (uses_of (entries_in ms)) here) e has) has low h.free

  -- no fault
  module _ (free : (e : TextFault) → ¬ Has e (uses_of (entries_in ms)) here) where
    fits : IsNameWord t → length t ≤ most_name_bytes
    fits word = let no : ¬ (most_name_bytes < length t) = λ long. free (Exceeds NameBytes) (word, long) in omega arith

    seen : (c : Name) → WasNamed (uses_of (entries_in ms)) c ⊎ (¬ WasNamed (uses_of (entries_in ms)) c)
    seen = is-context old.watch (uses_of (entries_in ms)) h.watch

    short : is_long kind ≡ false
    short = at' (is_long kind) refl
      where
        at' : (b : Bool) → is_long kind ≡ b → b ≡ false
        at' false e = refl
        at' true e = let long = long-word kind t w.kind e in absurd (free (Exceeds NameBytes) long)

    entries : entries_in (ms ++ marks_for t xs) ≡ entries_in ms ++ here ∷ []
    entries = brings.entry_is

    uses : uses_of (entries_in (ms ++ marks_for t xs)) ≡ uses_of (entries_in ms) ++ here.uses
    uses = ap uses_of entries ∙ uses-append (entries_in ms) (here ∷ []) ∙ ap (λ (us : List Use). uses_of (entries_in ms) ++ us) (append-nil here.uses)

    names : names_in (accounted no_account (ms ++ marks_for t xs)) ≡ names_in (accounted no_account ms) ++ introduced taken.class t
    names = ap names_in brings.account ∙ ended-names (ends_in xs) (heard (accounted no_account ms) t xs) ∙ brings.names

    filled : Filled (marks_for t xs)
    filled = (all-parts _ ms (marks_for t xs) is-read.filled).1

    -- the reader after it
    module _ (after : TextReader) (n : ℕ) (same : after.reader ≡ now.reader) (account : account_of after.account ≡ ended_with now.ended (account_of now.account)) (place : (q : Place) (u : Token) → IsPlace now.place q → q.opened ≤ most OpenParentheses → IsPlace after.place (place_after q taken.class u))
        (context : after.place.context ≡ context_chosen taken.class n now.place.context) (target : after.place.target ≡ target_chosen taken.class n now.place.target) (number-is : IsNumberFor (names_in (accounted no_account ms)) taken.class t n) where
      up-to : IsUpTo after (take k ts ++ t ∷ []) (ms ++ marks_for t xs)
      up-to = record {
        reader = passed-on old.reader now (take k ts) ms t taken kind xs h.reader.reader w after same account short (context-known old.reader now (take k ts) ms t taken kind xs h.reader w)
            (place p t (subst (λ q. IsPlace q p) (sym w.place) h.reader.reader.place) h.reader.opened);
        opened = subst (λ (q : Place). q.opened ≤ most OpenParentheses) (sym brings.place_is) (opened-after p taken.class t (ends_in xs) f h.reader.opened (λ there. free (Exceeds OpenParentheses) there));
        known = subst (λ (b : Bool). IsKnown (uses_of (entries_in (ms ++ marks_for t xs))) b (followed first_course (ms ++ marks_for t xs)).place) (sym brings.named_is) (subst (IsKnown (uses_of (entries_in (ms ++ marks_for t xs))) (named_after taken.class (is_named ms))) (sym brings.place_is)
            (subst (λ (us : List Use). IsKnown us (named_after taken.class (is_named ms)) (place_after p taken.class t)) (sym uses)
            (known-after (uses_of (entries_in ms)) here.uses (is_named ms) p t h.reader.known taken.class brings.comes_is (are-names (uses_of (entries_in ms)) (is_named ms) p here (ends_in xs) t f h.reader.known seen free taken.class refl))));
        names = names ∙ more-names (uses_of (entries_in ms)) here.uses (names_in (accounted no_account ms)) (introduced taken.class t) h.reader.names (uses-names (uses_of (entries_in ms)) (is_named ms) p h.reader.known (ends_in xs) taken.class t f) ∙ ap contexts_named (sym uses);
        numbers = subst (λ (b : Bool). AreNumbers (names_in (accounted no_account (ms ++ marks_for t xs))) b (followed first_course (ms ++ marks_for t xs)).place after.place) (sym brings.named_is)
            (subst (λ (q : Place). AreNumbers (names_in (accounted no_account (ms ++ marks_for t xs))) (named_after taken.class (is_named ms)) q after.place) (sym brings.place_is)
            (subst (λ (ns : List Name). AreNumbers ns (named_after taken.class (is_named ms)) (place_after p taken.class t) after.place) (sym names)
            (numbers-after (names_in (accounted no_account ms)) (is_named ms) p old.reader.place after.place t n h.reader.numbers taken.class brings.comes_is
            (numbered (names_in (accounted no_account ms)) (uses_of (entries_in ms)) (is_named ms) p here (ends_in xs) t f h.reader.known seen free h.reader.names taken.class n refl number-is)
            (context ∙ ap (λ q. context_chosen taken.class n q.context) w.place) (target ∙ ap (λ q. target_chosen taken.class n q.target) w.place))));
        short = subst (λ (a : Account). AllShort a.operands) (sym brings.account) (ended-short (ends_in xs) (heard (accounted no_account ms) t xs) (heard-short (accounted no_account ms) t xs filled fits h.reader.short));
      }

      pub next-read : (watch : Watch) → IsWatch watch (uses_of (entries_in ms) ++ here.uses) → AreReadUpTo (reading_of after watch) ts (k + 1)
      next-read watch noted = record {
        marks = ms ++ marks_for t xs;
        inside = next.inside;
        reader = subst (λ (us : List Token). IsUpTo after us (ms ++ marks_for t xs)) (sym (taken-more ts k t at)) up-to;
        watch = subst (IsWatch watch) (sym uses) noted;
        faultless = subst AreFaultless (sym entries) (faultless-more (entries_in ms) here h.faultless free);
        free = free-more ts k ms (marks_for t xs) (rest now.reader) here next many brings.entry_is free h.free;
      }
