-- Which fault a token has: where it is not taken the grammar's, and else one of its entry after the entries before it.
use Rattle.std.proofs.Common.{◌≡◌, ℕ, suc, ◌+◌, ◌<◌, ◌≤◌, List, [], ◌∷◌, ◌++◌, take, drop, length, Some, refl, sym, ap, subst, ◌∙◌, inl, inr, ◌⊎◌, arith, append_assoc, append-nil, length-take-le}
use Rattle.std.specs.Prelude.{slice_get, ◌≢◌}
use Rattle.std.proofs.lemmas.List.{map-append, take-append-drop, take_more, take_all}
use Rattle.std.proofs.lemmas.Option.{slice_get_within, get_or_from_slice_get, same_Some}
use Rattle.std.proofs.Math.Nat.{eq-or-lt_of_le}
use Rattle.std.proofs.Math.Seq.{take-append_seam}
use Rattle.mcs_base.proofs.Lists.{slice_get_kept, slice_get_seam}
use Rattle.mcs_syntax.specs.declared.part.Event.TheVariants.{Took, Told}
use Rattle.mcs_syntax.specs.Grammar.{Rule, Means, tokens}
use Rattle.mcs_syntax.specs.Reads.{IsRead, Begins, HasRead}
use Rattle.mcs_syntax.specs.Prompt.{Stops}
use Rattle.mcs_syntax.proofs.Texts.{read-more}
use Rattle.mcs_tokens.specs.declared.kind.TokenKind.{TokenKind}
use Rattle.mcs_tokens.specs.Kinds.{IsKind}
use Rattle.mcs_grammar.specs.Written.{WrittenText, IsText}
use Rattle.mcs_grammar.specs.Entries.{Token, Entry, text_entries, tokens_of, uses_of}
use Rattle.mcs_grammar.specs.Faults.{TextFault, NoGrammar, rank, Has, BeginsText, IsWholeText, IsEntered, IsFaultAt, IsFirstTextFault}
use Rattle.mcs_productions.specs.Productions.{rules, grammar, wanted}
use Rattle.mcs_productions.specs.Terminals.{terminal_of, number}
use Rattle.mcs_productions.specs.declared.class.Class.{Class}
use Rattle.mcs_productions.specs.declared.production.Action.{Action}
use Rattle.mcs_productions.specs.declared.production.Production.{Production}
use Rattle.mcs_productions.specs.declared.production.Production.TheVariants as name
use Rattle.mcs_account.specs.Mark.{Seen, Said, events_of, tokens_in}
use Rattle.mcs_account.specs.Marks.{Marked, Filled, marks_for, text_marks}
use Rattle.mcs_account.specs.Account.{entries_in}
use Rattle.mcs_account.specs.Reading.{Events, AreReadFrom, AreRead, Reached}
use Rattle.mcs_account.proofs.Forward.{Part, Of, events-append}
use Rattle.mcs_account.proofs.Tokens.{join-filled, text-tokens}
use Rattle.mcs_account.proofs.TokenKinds.{one-terminal, fill-for}
use Rattle.mcs_account.proofs.Reading.{tokens-of-both, goes-on, some-text, continues, front-entries, front-token, more-tokens, same-tail, entries-tokens}

tokens-length : (ms : List Entry) → length (tokens_of ms) ≡ length ms
tokens-length [] = refl
tokens-length (m ∷ ms) = ap suc (tokens-length ms)

-- ---- one token more
pub events-for : (t : Token) (xs : Events) → events_of (marks_for t xs) ≡ xs
events-for t [] = refl
events-for t (Took c ∷ xs) = ap (λ (l : Events). Took c ∷ l) (events-for t xs)
events-for t (Told a ∷ xs) = ap (λ (l : Events). Told a ∷ l) (events-for t xs)

pub none-for : (t : Token) (xs : Events) → tokens grammar xs ≡ [] → (tokens_in (marks_for t xs) ≡ []) × Filled (marks_for t xs)
none-for t [] e = (refl, tt)
none-for t (Took c ∷ xs) e = absurd (cc)
none-for t (Told a ∷ xs) e = let more = none-for t xs e in (more.0, (tt, more.1))

one-for : (k : TokenKind) (t : Token) (xs : Events) → IsKind k t → tokens grammar xs ≡ number (terminal_of k) ∷ [] → (tokens_in (marks_for t xs) ≡ t ∷ []) × Filled (marks_for t xs)
one-for k t [] is e = absurd (cc)
one-for k t (Told a ∷ xs) is e = let more = one-for k t xs is e in (more.0, (tt, more.1))
one-for k t (Took c ∷ xs) is e =
    let kind : number (terminal_of k) ≡ number (wanted c) = cc in
    let none : tokens grammar xs ≡ [] = cc in
    let more = none-for t xs none in
    (ap (λ (l : List Token). t ∷ l) more.0, (fill-for k c t is (one-terminal (terminal_of k) (wanted c) kind), more.1))

pub read-none : (rest : Part) → HasRead grammar (Rule name.Text) [] [] rest → Stops grammar rest → AreRead [] [] rest
read-none rest r s = record { tokens_are = refl; filled = tt; read = r; stops = s }

pub read-one-from : (n : Production) (ts : List Token) (ms : Marked) (rest left : Part) (k : TokenKind) (t : Token) (xs : Events) → AreReadFrom n ts ms rest → IsKind k t → HasRead grammar rest (number (terminal_of k) ∷ []) xs left → Stops grammar left
    → AreReadFrom n (ts ++ t ∷ []) (ms ++ marks_for t xs) left
read-one-from n ts ms rest left k t xs h is r s =
    let one = one-for k t xs is r.tokens_are in
    let all : HasRead grammar (Rule n) (tokens grammar (events_of ms) ++ number (terminal_of k) ∷ []) (events_of ms ++ xs) left = read-more grammar (Rule n) rest left _ _ (events_of ms) xs h.read r in
    let events : events_of ms ++ xs ≡ events_of (ms ++ marks_for t xs) = ap (λ (l : Events). events_of ms ++ l) (sym (events-for t xs)) ∙ sym (events-append ms (marks_for t xs)) in
    record {
      tokens_are = tokens-of-both ms (marks_for t xs) ∙ ap (λ (l : List Token). l ++ tokens_in (marks_for t xs)) h.tokens_are ∙ ap (λ (l : List Token). ts ++ l) one.0;
      filled = join-filled ms (marks_for t xs) h.filled one.1;
      read = subst (λ (ys : Events). HasRead grammar (Rule n) (tokens grammar ys) ys left) events (subst (λ (ds : List ℕ). HasRead grammar (Rule n) ds (events_of ms ++ xs) left) (sym all.tokens_are) all);
      stops = s;
    }

pub read-one : (ts : List Token) (ms : Marked) (rest left : Part) (k : TokenKind) (t : Token) (xs : Events) → AreRead ts ms rest → IsKind k t → HasRead grammar rest (number (terminal_of k) ∷ []) xs left → Stops grammar left
    → AreRead (ts ++ t ∷ []) (ms ++ marks_for t xs) left
read-one ts ms rest left k t xs h is r s = read-one-from name.Text ts ms rest left k t xs h is r s

pub taken-more : (ts : List Token) (k : ℕ) (t : Token) → slice_get ts k ≡ Some t → take (k + 1) ts ≡ take k ts ++ t ∷ []
taken-more ts k t is = take_more ts k t (slice_get_within ts k t is) ∙ ap (λ (x : Token). take k ts ++ x ∷ []) (get_or_from_slice_get ts k t t is)

pub reached-none : (ts : List Token) (rest : Part) → HasRead grammar (Rule name.Text) [] [] rest → Stops grammar rest → Reached ts 0 [] rest
reached-none ts rest r s = record { are = read-none rest r s; inside = omega arith }

pub reached-more : (ts : List Token) (k : ℕ) (ms : Marked) (rest left : Part) (kind : TokenKind) (t : Token) (xs : Events) → Reached ts k ms rest → slice_get ts k ≡ Some t → IsKind kind t → HasRead grammar rest (number (terminal_of kind) ∷ []) xs left → Stops grammar left
    → Reached ts (k + 1) (ms ++ marks_for t xs) left
reached-more ts k ms rest left kind t xs h at is r s = record {
  are = subst (λ (us : List Token). AreRead us (ms ++ marks_for t xs) left) (sym (taken-more ts k t at)) (read-one (take k ts) ms rest left kind t xs h.are is r s);
  inside = let below = slice_get_within ts k t at in omega arith;
}

-- ---- the grammar
-- a text that begins with the tokens goes on with the others
after-tokens : (us : List Token) (t : WrittenText) → take (length us) (tokens_of (text_entries t)) ≡ us → tokens_of (text_entries t) ≡ us ++ drop (length us) (tokens_of (text_entries t))
after-tokens us t first = let all : List Token = tokens_of (text_entries t) in sym (take-append-drop (length us) all) ∙ ap (λ (l : List Token). l ++ drop (length us) all) first

pub begins : (ts : List Token) (ms : Marked) (rest : Part) → AreRead ts ms rest → BeginsText ts
begins ts ms rest h =
    let some = some-text ts ms rest h in
    let text : WrittenText = some.goes.text in
    let us : List Token = tokens_in some.marks in
    let tokens' : tokens_of (text_entries text) ≡ ts ++ us = text-tokens text some.goes.grammar ∙ ap (λ (l : Marked). tokens_in l) some.goes.marks ∙ tokens-of-both ms some.marks ∙ ap (λ (l : List Token). l ++ us) h.tokens_are in
    record { text = text; grammar = some.goes.grammar; first = ap (take (length ts)) tokens' ∙ take-append_seam ts us }

pub begins-no-more : (ts : List Token) (ms : Marked) (rest : Part) (k : TokenKind) (t : Token) → AreRead ts ms rest → IsKind k t → (Begins grammar rest (number (terminal_of k) ∷ []) → ⊥) → ¬ BeginsText (ts ++ t ∷ [])
begins-no-more ts ms rest k t h is none b =
    let us : List Token = drop (length (ts ++ t ∷ [])) (tokens_of (text_entries b.text)) in
    let c = continues ts ms rest h b.text (t ∷ us) b.grammar (after-tokens (ts ++ t ∷ []) b.text b.first ∙ append_assoc ts (t ∷ []) us) in
    none (front-token ts ms rest h k t us b.text c.more b.grammar c.marks c.means is (after-tokens (ts ++ t ∷ []) b.text b.first ∙ append_assoc ts (t ∷ []) us))

pub not-whole : (ts : List Token) (ms : Marked) (rest : Part) → AreRead ts ms rest → ((xs : Events) → IsRead grammar rest [] xs → ⊥) → ¬ IsWholeText ts
not-whole ts ms rest h none w =
    let c = continues ts ms rest h w.0 [] w.1 (w.2 ∙ sym (append-nil ts)) in
    none (events_of c.more) (c.means, no-tokens c.more (more-tokens ts ms c.more [] w.0 w.1 h.tokens_are c.marks (w.2 ∙ sym (append-nil ts))))
  where
    no-tokens : (ns : Marked) → tokens_in ns ≡ [] → tokens grammar (events_of ns) ≡ []
    no-tokens [] e = refl
    no-tokens (Seen c t ∷ ns) e = absurd (cc)
    no-tokens (Said a ∷ ns) e = no-tokens ns e

-- the text may end: it is one, whose marks are those that were read and the last actions
pub record Whole (ts : List Token) (ms : Marked) (xs : Events) : Type 0 where
  pub text : WrittenText
  pub grammar : IsText text
  pub marks : text_marks text ≡ ms ++ marks_for [] xs
  pub entries : text_entries text ≡ entries_in ms
  pub tokens_are : tokens_of (text_entries text) ≡ ts

pub is-whole : (ts : List Token) (ms : Marked) (rest : Part) (xs : Events) → AreRead ts ms rest → IsRead grammar rest [] xs → Whole ts ms xs
is-whole ts ms rest xs h r =
    let none = none-for [] xs r.1 in
    let more : Marked = marks_for [] xs in
    let m : Of rest more = subst (Means Class Action Production rules rest) (sym (events-for [] xs)) r.0 in
    let g = goes-on ts ms rest h more none.1 m in
    let all : tokens_of (text_entries g.text) ≡ ts = text-tokens g.text g.grammar ∙ ap (λ (l : Marked). tokens_in l) g.marks ∙ tokens-of-both ms more ∙ ap (λ (l : List Token). tokens_in ms ++ l) none.0 ∙ append-nil (tokens_in ms) ∙ h.tokens_are in
    let k = front-entries ts ms rest h g.text more g.grammar g.marks m in
    record {
      text = g.text;
      grammar = g.grammar;
      marks = g.marks;
      entries = k.1 ∙ ap (λ (l : List Entry). entries_in ms ++ l) (no-entries (tokens_of (entries_in ms)) k.0 (sym (map-append (λ (x : Entry). x.token) (entries_in ms) k.0) ∙ ap tokens_of (sym k.1) ∙ all ∙ sym h.tokens_are ∙ sym (entries-tokens ms))) ∙ append-nil (entries_in ms);
      tokens_are = all;
    }
  where
    no-entries : (us : List Token) (es : List Entry) → us ++ tokens_of es ≡ us → es ≡ []
    no-entries us [] e = refl
    no-entries us (x ∷ es) e = absurd (cc (same-tail us (tokens_of (x ∷ es)) [] (e ∙ sym (append-nil us))))

-- ---- the entry of a token, after those of the tokens before it
-- the marks of the token bring one entry
abbrev pub IsEntryOf : Marked → Marked → Entry → Type 0
IsEntryOf ms ns m = entries_in (ms ++ ns) ≡ entries_in ms ++ m ∷ []

module _ (ts : List Token) (k : ℕ) (ms ns : Marked) (left : Part) (m : Entry) (reached : Reached ts (k + 1) (ms ++ ns) left) (short : length (tokens_in ms) ≡ k) (entry_is : IsEntryOf ms ns m) where
  count : length (entries_in ms) ≡ k
  count = sym (tokens-length (entries_in ms)) ∙ ap (λ (us : List Token). length us) (entries-tokens ms) ∙ short

  pub entered-has : (f : TextFault) → IsEntered ts k f → Has f (uses_of (entries_in ms)) m
  entered-has f h =
      let us : List Token = take (k + 1) ts in
      let all : List Token = tokens_of (text_entries h.text) in
      let begun : all ≡ us ++ drop (k + 1) all = sym (take-append-drop (k + 1) all) ∙ ap (λ (l : List Token). l ++ drop (k + 1) all) h.same in
      let c = continues us (ms ++ ns) left reached.are h.text (drop (k + 1) all) h.grammar begun in
      let x = front-entries us (ms ++ ns) left reached.are h.text c.more h.grammar c.marks c.means in
      let entries : (entries_in ms ++ m ∷ []) ++ x.0 ≡ text_entries h.text = ap (λ (l : List Entry). l ++ x.0) (sym entry_is) ∙ sym x.1 in
      let before : take k (text_entries h.text) ≡ entries_in ms = ap (take k) (sym entries) ∙ ap (λ (n : ℕ). take n ((entries_in ms ++ m ∷ []) ++ x.0)) (sym count) ∙ (ap (take (length (entries_in ms))) (append_assoc (entries_in ms) (m ∷ []) x.0) ∙ take-append_seam (entries_in ms) (m ∷ x.0)) in
      let here : Some m ≡ Some h.here = sym (slice_get_kept (entries_in ms ++ m ∷ []) x.0 (length (entries_in ms)) m (slice_get_seam (entries_in ms) m [] (length (entries_in ms)) refl)) ∙ ap (slice_get ((entries_in ms ++ m ∷ []) ++ x.0)) count ∙ ap (λ (l : List Entry). slice_get l k) entries ∙ h.is_here in
      subst (Has f (uses_of (entries_in ms))) (sym (same_Some _ _ here)) (subst (λ (l : List Entry). Has f (uses_of l) h.here) before h.has)

  pub has-entered : (f : TextFault) → Has f (uses_of (entries_in ms)) m → IsEntered ts k f
  has-entered f h =
      let us : List Token = take (k + 1) ts in
      let some = some-text us (ms ++ ns) left reached.are in
      let g = some.goes in
      let x = front-entries us (ms ++ ns) left reached.are g.text some.marks g.grammar g.marks some.means in
      let entries : text_entries g.text ≡ (entries_in ms ++ m ∷ []) ++ x.0 = x.1 ∙ ap (λ (l : List Entry). l ++ x.0) entry_is in
      let tokens' : tokens_of (text_entries g.text) ≡ us ++ tokens_in some.marks = text-tokens g.text g.grammar ∙ ap (λ (l : Marked). tokens_in l) g.marks ∙ tokens-of-both (ms ++ ns) some.marks ∙ ap (λ (l : List Token). l ++ tokens_in some.marks) reached.are.tokens_are in
      let long : length us ≡ k + 1 = length-take-le (k + 1) ts reached.inside in
      let before : take k (text_entries g.text) ≡ entries_in ms = ap (take k) entries ∙ ap (λ (n : ℕ). take n ((entries_in ms ++ m ∷ []) ++ x.0)) (sym count) ∙ (ap (take (length (entries_in ms))) (append_assoc (entries_in ms) (m ∷ []) x.0) ∙ take-append_seam (entries_in ms) (m ∷ x.0)) in
      record {
        text = g.text;
        grammar = g.grammar;
        same = ap (take (k + 1)) tokens' ∙ ap (λ (n : ℕ). take n (us ++ tokens_in some.marks)) (sym long) ∙ take-append_seam us (tokens_in some.marks);
        here = m;
        is_here = ap (λ (l : List Entry). slice_get l k) entries ∙ ap (slice_get ((entries_in ms ++ m ∷ []) ++ x.0)) (sym count) ∙ slice_get_kept (entries_in ms ++ m ∷ []) x.0 (length (entries_in ms)) m (slice_get_seam (entries_in ms) m [] (length (entries_in ms)) refl);
        has = subst (λ (l : List Entry). Has f (uses_of l) m) (sym before) h;
      }

-- ---- the first fault
-- no token before this one has a fault
abbrev pub IsFree : List Token → ℕ → Type 0
IsFree ts k = (j : ℕ) (f : TextFault) → j < k → ¬ IsFaultAt ts j f

pub free-none : (ts : List Token) → IsFree ts 0
free-none ts j f below h = omega arith

-- a fault that is not the grammar's
entered-at : (ts : List Token) (k : ℕ) (f : TextFault) → k < length ts → f ≢ NoGrammar → IsEntered ts k f → IsFaultAt ts k f
entered-at ts k NoGrammar below other h = absurd (other refl)
entered-at ts k f below other h = (below, h)

at-entry : (ts : List Token) (k : ℕ) (f : TextFault) → BeginsText (take (k + 1) ts) → k < length ts → IsFaultAt ts k f → IsEntered ts k f
at-entry ts k NoGrammar b below (inl h) = absurd (h.1 b)
at-entry ts k NoGrammar b below (inr h) = absurd (omega (arith, h.0))
at-entry ts k f b below h = h.1

lowest-of-all : (f : TextFault) → 1 ≤ rank f
lowest-of-all NoGrammar = omega arith
lowest-of-all f = omega arith

-- a token that is not taken
pub first-untaken : (ts : List Token) (k : ℕ) (ms : Marked) (rest : Part) (kind : TokenKind) (t : Token) → Reached ts k ms rest → slice_get ts k ≡ Some t → IsKind kind t → (Begins grammar rest (number (terminal_of kind) ∷ []) → ⊥) → IsFree ts k → IsFirstTextFault ts k NoGrammar
first-untaken ts k ms rest kind t h at is none free = record {
  holds = inl (slice_get_within ts k t at, λ b. begins-no-more (take k ts) ms rest kind t h.are is none (subst BeginsText (taken-more ts k t at) b));
  lowest = λ g _. lowest-of-all g;
  first = free;
}

-- the end, where something has to come
pub first-end : (ts : List Token) (k : ℕ) (ms : Marked) (rest : Part) → Reached ts k ms rest → k ≡ length ts → ((xs : Events) → IsRead grammar rest [] xs → ⊥) → IsFree ts k → IsFirstTextFault ts k NoGrammar
first-end ts k ms rest h end none free = record { holds = inr (end, not-whole ts ms rest (subst (λ (us : List Token). AreRead us ms rest) (take_all k ts (let e = end in omega arith)) h.are) none); lowest = λ g _. lowest-of-all g; first = free }

module _ (ts : List Token) (k : ℕ) (ms ns : Marked) (left : Part) (m : Entry) (reached : Reached ts (k + 1) (ms ++ ns) left) (short : length (tokens_in ms) ≡ k) (entry_is : IsEntryOf ms ns m) where
  fault-has : (f : TextFault) → IsFaultAt ts k f → Has f (uses_of (entries_in ms)) m
  fault-has f h = entered-has ts k ms ns left m reached short entry_is f (at-entry ts k f (begins (take (k + 1) ts) (ms ++ ns) left reached.are) (let inside = reached.inside in omega arith) h)

  -- an entry with a fault, the lowest of those that it has
  pub first-entered : (f : TextFault) → f ≢ NoGrammar → Has f (uses_of (entries_in ms)) m → ((g : TextFault) → Has g (uses_of (entries_in ms)) m → rank f ≤ rank g) → IsFree ts k → IsFirstTextFault ts k f
  first-entered f other h low free = record { holds = entered-at ts k f (let inside = reached.inside in omega arith) other (has-entered ts k ms ns left m reached short entry_is f h); lowest = λ g here. low g (fault-has g here); first = free }

  -- an entry without one
  pub free-more : ((f : TextFault) → ¬ Has f (uses_of (entries_in ms)) m) → IsFree ts k → IsFree ts (k + 1)
  free-more none free j f below h = go (eq-or-lt_of_le (omega arith))
    where
      go : (j ≡ k) ⊎ (j < k) → ⊥
      go (inr less) = free j f less h
      go (inl same) = none f (fault-has f (subst (λ (i : ℕ). IsFaultAt ts i f) same h))

-- a whole text of which no token has a fault
pub free-whole : (ts : List Token) (k : ℕ) → k ≡ length ts → IsWholeText ts → IsFree ts k → (j : ℕ) (f : TextFault) → ¬ IsFaultAt ts j f
free-whole ts k end w free j NoGrammar (inl h) = free j NoGrammar (omega (arith, h.0)) (inl h)
free-whole ts k end w free j NoGrammar (inr h) = h.1 w
free-whole ts k end w free j f h = free j f (omega (arith, h.0)) h
