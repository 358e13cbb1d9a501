-- What is said of a token that was taken is what it is there for.
use Rattle.std.proofs.Common.{◌≡◌, ℕ, ◌<◌, ◌≤◌, true, List, length, Some, None, sym, ap, subst, ◌∙◌, inl, inr, arith}
use Rattle.std.specs.Prelude.{slice_get, not}
use Rattle.std.proofs.lemmas.Option.{same_Some, slice_get_within}
use Rattle.std.proofs.lemmas.Bool.{and_from, false_from_ne_true}
use Rattle.std.proofs.lemmas.List.{length-map}
use Rattle.mcs_base.proofs.Lists.{slice_get_kept}
use Rattle.mcs_base.specs.Words.{is_word, is_reserved, most_name_bytes}
use Rattle.mcs_system.specs.Plain.{Name}
use Rattle.mcs_system.specs.Plain as plain
use Rattle.mcs_system.specs.Seen.{formula_of}
use Rattle.mcs_tokens.specs.declared.kind.TokenKind.{TokenKind}
use Rattle.mcs_tokens.specs.declared.kind.TokenKind.TheVariants as kinds
use Rattle.mcs_tokens.specs.Kinds.{IsKind}
use Rattle.mcs_grammar.specs.Written.{IsNameWord}
use Rattle.mcs_grammar.specs.Entries.{Token, Entry, uses_of}
use Rattle.mcs_grammar.specs.Faults.{NamedRead}
use Rattle.mcs_productions.specs.Productions.{wanted}
use Rattle.mcs_productions.specs.declared.terminal.Terminal.{Terminal}
use Rattle.mcs_productions.specs.declared.terminal.Terminal.TheVariants as terminal
use Rattle.mcs_account.specs.declared.reader.TextReader.{TextReader}
use Rattle.mcs_account.specs.declared.reader.Taken as code_taken
use Rattle.mcs_account.specs.declared.reader.NamedRead as code_read
use Rattle.mcs_account.specs.Marks.{Marked, Filled, Content, spelled, marks_for}
use Rattle.mcs_account.specs.Account.{Account, Place, no_account, accounted, first_course, followed, entries_in}
use Rattle.mcs_account.specs.Images.{About, IsSpokenOf, about_place, account_of, named_read_of}
use Rattle.mcs_account.specs.Reading.{Events, HasSome, ends_in, heard, top_of}
use Rattle.mcs_account.specs.Taken.{is_long, IsTakenWith}
use Rattle.mcs_account.specs.Known.{IsUpTo, is_named, names_in}
use Rattle.mcs_account.proofs.TreeLemmas.{all-parts}
use Rattle.mcs_account.proofs.TokenMarks.{TokenBrings}
use Rattle.mcs_account.proofs.ReaderSteps.{read-next, next-brings, next_entry}
use Rattle.mcs_account.proofs.Spoken.{ends-named, uses-spoken}
use Rattle.mcs_account.proofs.Numbers.{introduced}
use Rattle.mcs_account.proofs.Atoms.{IsFor, name-atom, heard-short, top-short}
use Rattle.mcs_faults.specs.Watching.{IsSaid}
use Rattle.std.specs.List.{AllByRecursion}

abbrev named_read : Name → plain.Formula → NamedRead
named_read c f = record { context = c; belief = f }

-- a token that is there as a name is a word
name-word : (d : Terminal) (t : Token) (x : Content d) → spelled d x ≡ t → d ≡ terminal.Name → IsNameWord t
name-word terminal.Name t x e h = subst IsNameWord e x.1
name-word d t x e h = absurd (cc)

pub long-word : (k : TokenKind) (t : Token) → IsKind k t → is_long k ≡ true → IsNameWord t × (most_name_bytes < length t)
long-word kinds.LongName t h e = (and_from (is_word t) (not (is_reserved t)) h.0 (ap not (false_from_ne_true (is_reserved t) h.1)), h.2)
long-word k t h e = absurd (cc)

module _ (old now : TextReader) (ts : List Token) (ms : Marked) (t : Token) (taken : code_taken.Taken) (k : TokenKind) (xs : Events) (h : IsUpTo old ts ms) (w : IsTakenWith taken old now t k xs) where
  abbrev p : Place
  p = (followed first_course ms).place

  abbrev after : Account
  after = heard (accounted no_account ms) t xs

  abbrev here : Entry
  here = next_entry old now ts ms t taken k xs h.reader w

  abbrev a : About
  a = about_place p (top_of after.operands)

  brings : TokenBrings ms t xs taken.class
  brings = next-brings old now ts ms t taken k xs h.reader w

  same : heard (account_of old.account) t xs ≡ after
  same = ap (λ (b : Account). heard b t xs) h.reader.account

  filled : Filled (marks_for t xs)
  filled = (all-parts _ ms (marks_for t xs) (read-next old now ts ms t taken k xs h.reader w).filled).1

  is-for : IsFor taken.class t
  is-for = brings.is_for filled

  -- the number of the context of a read that ends with the token
  context-there : ends_in xs ≡ true → slice_get (names_in after) old.place.context ≡ Some p.context
  context-there e =
      let named : is_named ms ≡ true = ends-named (uses_of (entries_in ms)) (is_named ms) p h.known taken.class (brings.ends e) brings.comes_is in
      ap (λ (ns : List Name). slice_get ns old.place.context) brings.names ∙ slice_get_kept (names_in (accounted no_account ms)) (introduced taken.class t) old.place.context p.context (h.numbers.context named)

  pub context-known : ends_in xs ≡ true → old.place.context < length after.contexts
  context-known e = subst (λ (n : ℕ). old.place.context < n) (length-map after.contexts (λ (c : plain.Context). c.name)) (slice_get_within (names_in after) old.place.context p.context (context-there e))

  there : taken.uses.ends_read ≡ true → ends_in xs ≡ true
  there e = sym w.ends_is ∙ e

  read-is : (r : code_read.NamedRead) → now.ended ≡ Some r → named_read_of r ≡ named_read p.context (top_of after.operands)
  read-is r is =
      let q = w.read_is r is in
      let context : Some p.context ≡ Some r.context = sym (context-there q.1) ∙ ap (λ (b : Account). slice_get (names_in b) old.place.context) (sym same) ∙ q.2 in
      let belief : formula_of r.belief ≡ top_of after.operands = sym q.3 ∙ ap (λ (b : Account). top_of b.operands) same in
      ap (λ (c : Name). named_read c (formula_of r.belief)) (sym (same_Some _ _ context)) ∙ ap (named_read p.context) belief

  long-there : now.ended ≡ None → ends_in xs ≡ true → IsNameWord t × (most_name_bytes < length t)
  long-there none e = elim (w.read_there none e) [
    | inl long ↦ long-word k t w.kind long
    | inr other ↦ elim other [
      | inl empty ↦ absurd (subst HasSome (ap (λ (b : Account). b.operands) (sym same) ∙ empty) (brings.formed e))
      | inr past ↦ let known = context-known e in let less : length after.contexts ≤ old.place.context = subst (λ (b : Account). length b.contexts ≤ old.place.context) same past in absurd (omega arith)
    ]
  ]

  pub is-said : IsSaid a here taken.uses now.ended
  is-said = record {
    uses_are = w.uses_are p (top_of after.operands) h.reader.place;
    read_is = λ e r is. read-is r is;
    has_atom = λ e word. brings.atom (name-atom taken.class t (brings.ends (there e)) is-for word);
    read_there = λ e none. long-there none (there e);
    short = λ e r is fits. top-short after.operands (heard-short (accounted no_account ms) t xs filled fits h.short);
    names = λ naming. name-word (wanted taken.class) t is-for.0 is-for.1 (w.names naming);
  }

  pub is-spoken : AllByRecursion (IsSpokenOf (uses_of (entries_in ms))) here.uses
  is-spoken = uses-spoken (uses_of (entries_in ms)) (is_named ms) p h.known (ends_in xs) taken.class t (top_of after.operands) brings.comes_is brings.ends
