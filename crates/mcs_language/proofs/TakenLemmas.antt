-- A token that was taken: what the watch says of it decides whether the text is read on.
use Rattle.std.proofs.Common.{◌≡◌, ℕ, ◌+◌, ◌≤◌, Bool, true, false, List, [], take, Option, Some, None, Bor, refl, sym, ap, subst, ◌∙◌, inl, inr}
use Rattle.std.specs.Prelude.{slice_get, MatchOption}
use Rattle.std.specs.List.{AllByRecursion}
use Rattle.std.specs.Option.{option_copied}
use Rattle.mcs_system.specs.Plain.{Name}
use Rattle.mcs_system.specs.Limits.{most}
use Rattle.mcs_system.specs.declared.limit.Limit.TheVariants.{OpenParentheses}
use Rattle.mcs_tokens.specs.declared.kind.TokenKind.{TokenKind}
use Rattle.mcs_grammar.specs.Faults.{IsFirstTextFault}
use Rattle.mcs_grammar.specs.Entries.{Token, Use, Entry, uses_of}
use Rattle.mcs_account.specs.declared.reader.TextReader.{TextReader}
use Rattle.mcs_account.specs.declared.reader.Taken as code_taken
use Rattle.mcs_account.specs.declared.reader.NamedRead as code_read
use Rattle.mcs_account.specs.Account.{Place, place_after, no_account, accounted, followed, first_course, entries_in}
use Rattle.mcs_account.specs.Images.{About, IsSpokenOf, IsPlace, about_place, account_of, context_chosen, target_chosen}
use Rattle.mcs_account.specs.Reading.{Events, heard, top_of}
use Rattle.mcs_account.specs.Taken.{IsTakenWith, ended_with}
use Rattle.mcs_account.specs.Known.{is_named, names_in}
use Rattle.mcs_faults.specs.declared.watch.Watch.{Watch}
use Rattle.mcs_faults.specs.declared.watch.Subject as code_subject
use Rattle.mcs_faults.specs.declared.fault.Fault as code_fault
use Rattle.mcs_faults.specs.Watching.{IsWatch, IsSubject, IsSaid, IsFaultVerdict, IsNumberOf, fault_for, names_seen}
use Rattle.mcs_faults.proofs.SaidLemmas.{is-said, is-spoken}
use Rattle.mcs_language.specs.declared.reading.Reading.{Reading}
use Rattle.mcs_language.specs.Progress.{AreReadUpTo, IsNumberFor}
use Rattle.mcs_language.proofs.ProgressLemmas.{reading_of, here, next-fault, next-read}

pub copied-last : (o : Option (Bor code_read.NamedRead)) (x : Option code_read.NamedRead) → MatchOption o (x ≡ None) (λ r. x ≡ Some r.now) → option_copied o ≡ x
copied-last None x e = sym e
copied-last (Some r) x e = sym e

-- the names that the watch has are those of the account
pub same-names : (r : Reading) (ts : List Token) (k : ℕ) (h : AreReadUpTo r ts k) → names_seen r.watch ≡ names_in (accounted no_account h.marks)
same-names r ts k h = h.watch.named ∙ sym h.reader.names

-- a number of the place is that of its context
number-of : (names : List Name) (n : Bool) (c : Name) (i : ℕ) → (n ≡ true → slice_get names i ≡ Some c) → (n ≡ false → (names ≡ []) × (i ≡ 0)) → IsNumberOf names c i
number-of names true c i there none = inl (there refl)
number-of names false c i there none = let e = none refl in rw (e.0, e.1) (inr (refl, λ h. h))

pub is-subject : (r : Reading) (ts : List Token) (k : ℕ) (h : AreReadUpTo r ts k) (s : code_subject.Subject) → s.context ≡ r.reader.place.context → s.target ≡ r.reader.place.target
    → IsSubject r.watch (record { context = (followed first_course h.marks).place.context; target = (followed first_course h.marks).place.target }) s
is-subject r ts k h s context target =
    let p : Place = (followed first_course h.marks).place in
    let names : List Name = names_in (accounted no_account h.marks) in
    let n = h.reader.numbers in
    let one : IsNumberOf names p.context r.reader.place.context = number-of names (is_named h.marks) p.context r.reader.place.context n.context (λ e. let x = n.none e in (x.0, x.1)) in
    let two : IsNumberOf names p.target r.reader.place.target = number-of names (is_named h.marks) p.target r.reader.place.target n.target (λ e. let x = n.none e in (x.0, x.2)) in
    record {
      context = subst (λ (ns : List Name). IsNumberOf ns p.context s.context) (sym (same-names r ts k h)) (subst (IsNumberOf names p.context) (sym context) one);
      target = subst (λ (ns : List Name). IsNumberOf ns p.target s.target) (sym (same-names r ts k h)) (subst (IsNumberOf names p.target) (sym target) two);
    }

-- ---- what the watch says of a token that was taken
abbrev pub IsNoted : Option code_fault.Fault → Reading → Watch → code_taken.Taken → Token → code_subject.Subject → Option code_read.NamedRead → Type 0
IsNoted o old watch taken t subject read = (before : List Use) (m : Entry) (a : About) → IsWatch old.watch before → m.token ≡ t → IsSubject old.watch a.subject subject → IsSaid a m taken.uses read → AllByRecursion (IsSpokenOf before) m.uses → IsFaultVerdict o before m watch

module _ (old : Reading) (ts : List Token) (k : ℕ) (t : Token) (h : AreReadUpTo old ts k) (at : slice_get ts k ≡ Some t) (now : TextReader) (taken : code_taken.Taken) (kind : TokenKind) (xs : Events) (w : IsTakenWith taken old.reader now t kind xs)
    (subject : code_subject.Subject) (context : subject.context ≡ now.place.context) (target : subject.target ≡ now.place.target) (read : Option (Bor code_read.NamedRead)) (last : MatchOption read (now.ended ≡ None) (λ r. now.ended ≡ Some r.now)) (watch : Watch) where
  verdict : (o : Option code_fault.Fault) → IsNoted o old watch taken t subject (option_copied read) → IsFaultVerdict o (uses_of (entries_in h.marks)) (here old ts k t h at now taken kind xs w) watch
  verdict o noted =
      let entry = here old ts k t h at now taken kind xs w in
      let a : About = about_place (followed first_course h.marks).place (top_of (heard (accounted no_account h.marks) t xs).operands) in
      let is = is-subject old ts k h subject (context ∙ ap (λ p. p.context) w.place) (target ∙ ap (λ p. p.target) w.place) in
      let said : IsSaid a entry taken.uses now.ended = is-said old.reader now (take k ts) h.marks t taken kind xs h.reader w in
      noted (uses_of (entries_in h.marks)) entry a h.watch refl is (subst (IsSaid a entry taken.uses) (sym (copied-last read now.ended last)) said) (is-spoken old.reader now (take k ts) h.marks t taken kind xs h.reader w)

  -- it has a fault
  pub told-next : (o : Option code_fault.Fault) (g : code_fault.Fault) → o ≡ Some g → IsNoted o old watch taken t subject (option_copied read) → IsFirstTextFault ts k (fault_for g)
  told-next o g is noted = let v = verdict (Some g) (subst (λ (x : Option code_fault.Fault). IsNoted x old watch taken t subject (option_copied read)) is noted) in next-fault old ts k t h at now taken kind xs w g v.0 v.1

  -- it has none
  pub passed-next : (o : Option code_fault.Fault) (after : TextReader) (n : ℕ) → o ≡ None → IsNoted o old watch taken t subject (option_copied read) → IsNumberFor (names_seen old.watch) taken.class t n
      → after.reader ≡ now.reader → account_of after.account ≡ ended_with now.ended (account_of now.account) → ((q : Place) (u : Token) → IsPlace now.place q → q.opened ≤ most OpenParentheses → IsPlace after.place (place_after q taken.class u))
      → after.place.context ≡ context_chosen taken.class n now.place.context → after.place.target ≡ target_chosen taken.class n now.place.target → AreReadUpTo (reading_of after watch) ts (k + 1)
  passed-next o after n is noted number same account place one two =
      let v = verdict None (subst (λ (x : Option code_fault.Fault). IsNoted x old watch taken t subject (option_copied read)) is noted) in
      next-read old ts k t h at now taken kind xs w v.0 after n same account place one two (subst (λ (ns : List Name). IsNumberFor ns taken.class t n) (same-names old ts k h) number) watch v.1
