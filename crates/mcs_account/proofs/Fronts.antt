-- The first tokens of a text of a production: what they are there for is the same in each text that begins with them.
use Rattle.std.proofs.Common.{◌≡◌, ℕ, false, List, [], ◌∷◌, ◌++◌, inl, inr, refl, sym, ap, subst, ◌∙◌, append_assoc, append-nil}
use Rattle.mcs_syntax.specs.declared.part.Event.TheVariants.{Took, Told}
use Rattle.mcs_syntax.specs.Grammar.{Rule, Means, tokens}
use Rattle.mcs_syntax.specs.Reads.{Begins}
use Rattle.mcs_syntax.specs.Prompt.{Stops}
use Rattle.mcs_syntax.proofs.Fills.{fill}
use Rattle.mcs_syntax.proofs.Prompt.{done-alone}
use Rattle.mcs_system.specs.Plain as plain
use Rattle.mcs_grammar.specs.Entries.{Token, Use, EndsRead, Entry, entry, with_last, tokens_of}
use Rattle.mcs_productions.specs.Productions.{rules, grammar, wanted}
use Rattle.mcs_productions.specs.Readable.{reads}
use Rattle.mcs_productions.specs.Terminals.{terminal_of, number}
use Rattle.mcs_productions.specs.declared.class.Class.{Class}
use Rattle.mcs_productions.specs.declared.production.Action.{Action}
use Rattle.mcs_productions.specs.declared.production.Action.TheVariants as action
use Rattle.mcs_productions.specs.declared.production.Production.{Production}
use Rattle.mcs_account.specs.Mark.{Seen, Said, events_of, tokens_in}
use Rattle.mcs_account.specs.Marks.{Marked, Filled, bytes_for}
use Rattle.mcs_account.specs.Account.{Course, uses_at, course_step, read_ends, joined, followed, first_course, entries_in}
use Rattle.mcs_account.specs.Reading.{Events, AreReadFrom}
use Rattle.mcs_account.proofs.Values.{Value, value_marks}
use Rattle.mcs_account.proofs.TreeLemmas.{all-parts, split}
use Rattle.mcs_account.proofs.Forward.{Part, Of, events-append, inside-rule}
use Rattle.mcs_account.proofs.EntryLists.{some-append}
use Rattle.mcs_account.proofs.TextTrees.{written-back}
use Rattle.mcs_account.specs.Reading.{HasSome}
use Rattle.mcs_account.proofs.Courses.{last-append, followed-append}
use Rattle.mcs_account.proofs.Tokens.{join-filled, followed-tokens}
use Rattle.mcs_account.proofs.TokenKinds.{same-wanted, wanted-kind, some-fill}
use Rattle.mcs_tokens.specs.declared.kind.TokenKind.{TokenKind}
use Rattle.mcs_tokens.specs.Kinds.{IsKind}
use Rattle.mcs_account.specs.Turns.{Turn, Free, first_turn, passed}
use Rattle.mcs_account.proofs.ReadEnds.{passed-append, ends_late, late-or-token}

kinds : Marked → List ℕ
kinds ms = tokens grammar (events_of ms)

-- ---- marks of the same tokens
-- what a token is there for tells its kind, so the first tokens have the same kinds
pub same-kinds : (ms ns : Marked) (us : List Token) → Filled ms → Filled ns → tokens_in ns ≡ tokens_in ms ++ us → (more : List ℕ) × (tokens grammar (events_of ns) ≡ tokens grammar (events_of ms) ++ more)
same-kinds (Said a ∷ ms) ns us h k e = same-kinds ms ns us h.1 k e
same-kinds [] ns us h k e = (tokens grammar (events_of ns), refl)
same-kinds (Seen c t ∷ ms) [] us h k e = absurd (cc)
same-kinds (Seen c t ∷ ms) (Said a ∷ ns) us h k e = same-kinds (Seen c t ∷ ms) ns us h k.1 e
same-kinds (Seen c t ∷ ms) (Seen d u ∷ ns) us h k e =
    let token : u ≡ t = cc in
    let tail : tokens_in ns ≡ tokens_in ms ++ us = cc in
    let one : wanted d ≡ wanted c = same-wanted d c t (k.0).0 (h.0).0 ((k.0).1 ∙ token) (h.0).1 in
    let more = same-kinds ms ns us h.1 k.1 tail in
    (more.0, ap (λ (l : List ℕ). number (wanted d) ∷ l) more.1 ∙ ap (λ d'. number d' ∷ (tokens grammar (events_of ms) ++ more.0)) one)

pub same-marks : (ms ns : Marked) (us vs : List Token) → events_of ms ≡ events_of ns → tokens_in ms ++ us ≡ tokens_in ns ++ vs → ms ≡ ns
same-marks [] [] us vs e h = refl
same-marks [] (n ∷ ns) us vs e h = absurd (cc)
same-marks (m ∷ ms) [] us vs e h = absurd (cc)
same-marks (Said a ∷ ms) (Said b ∷ ns) us vs e h =
    let one : a ≡ b = cc in
    let more : events_of ms ≡ events_of ns = cc in
    ap (λ (x : Action). Said x ∷ ms) one ∙ ap (λ (l : Marked). Said b ∷ l) (same-marks ms ns us vs more h)
same-marks (Said a ∷ ms) (Seen d u ∷ ns) us vs e h = absurd (cc)
same-marks (Seen c t ∷ ms) (Said b ∷ ns) us vs e h = absurd (cc)
same-marks (Seen c t ∷ ms) (Seen d u ∷ ns) us vs e h =
    let one : c ≡ d = cc in
    let token : t ≡ u = cc in
    let more : events_of ms ≡ events_of ns = cc in
    let tail : tokens_in ms ++ us ≡ tokens_in ns ++ vs = cc in
    ap (λ (x : Class). Seen x t ∷ ms) one ∙ ap (λ (x : Token). Seen d x ∷ ms) token ∙ ap (λ (l : Marked). Seen d u ∷ l) (same-marks ms ns us vs more tail)

pub tokens-of-both : (ms ns : Marked) → tokens_in (ms ++ ns) ≡ tokens_in ms ++ tokens_in ns
tokens-of-both [] ns = refl
tokens-of-both (Seen c t ∷ ms) ns = ap (λ (l : List Token). t ∷ l) (tokens-of-both ms ns)
tokens-of-both (Said a ∷ ms) ns = tokens-of-both ms ns

-- ---- any events are those of marks
pub record Sample (ys : Events) : Type 0 where
  pub marks : Marked
  pub events : events_of marks ≡ ys
  pub filled : Filled marks

sampled : (ys : Events) → Sample ys
sampled [] = record { marks = []; events = refl; filled = tt }
sampled (Took c ∷ ys) =
    let more = sampled ys in
    let x = some-fill c in
    record { marks = Seen c (bytes_for c x) ∷ more.marks; events = ap (λ (l : Events). Took c ∷ l) more.events; filled = ((x, refl), more.filled) }
sampled (Told a ∷ ys) = let more = sampled ys in record { marks = Said a ∷ more.marks; events = ap (λ (l : Events). Told a ∷ l) more.events; filled = (tt, more.filled) }

-- ---- the entries of the front stay
pub entries-tokens : (ms : Marked) → tokens_of (entries_in ms) ≡ tokens_in ms
entries-tokens ms = followed-tokens first_course ms

abbrev pub Keeps : List Entry → List Entry → Type 0
Keeps es all = (more : List Entry) × (all ≡ es ++ more)

last-some : (us : List Use) (e : Entry) (es : List Entry) → HasSome (with_last us (e ∷ es))
last-some us e [] = tt
last-some us e (x ∷ es) = tt

ended-some : (us : List Use) (t : List Entry) → HasSome t → HasSome (with_last us t)
ended-some us [] h = absurd h
ended-some us (x ∷ xs) h = last-some us x xs

ends-keep : (s : Course) (es tail : List Entry) (ns : Marked) → s.entries ≡ es ++ tail → HasSome tail → ((s' : Course) (tail' : List Entry) → s'.entries ≡ es ++ tail' → HasSome tail' → Keeps es (followed s' ns).entries) → (fs : List plain.Formula) → Keeps es (followed (read_ends s fs) ns).entries
ends-keep s es tail ns e h more [] = more s tail e h
ends-keep s es tail ns e h more (f ∷ fs) =
    let us : List Use = EndsRead s.place.target s.place.context f ∷ [] in
    more (read_ends s (f ∷ fs)) (with_last us tail) (ap (with_last us) e ∙ last-append us es tail h) (ended-some us tail h)

-- after a token more only the last entries change
keeps-tail : (s : Course) (es tail : List Entry) (ns : Marked) → s.entries ≡ es ++ tail → HasSome tail → Keeps es (followed s ns).entries
keeps-tail s es tail [] e h = (tail, e)
keeps-tail s es tail (Seen c t ∷ ns) e h =
    let one : Entry = entry t (uses_at s.place c t) in
    keeps-tail (course_step s (Seen c t)) es (tail ++ one ∷ []) ns (ap (λ (l : List Entry). l ++ one ∷ []) e ∙ append_assoc es tail (one ∷ [])) (some-append tail (one ∷ []) h)
keeps-tail s es tail (Said action.EndsRead ∷ ns) e h = ends-keep s es tail ns e h (λ s' tail' e' h'. keeps-tail s' es tail' ns e' h') s.operands
keeps-tail s es tail (Said a ∷ ns) e h = keeps-tail (record s { operands = joined a s.operands }) es tail ns e h

pub keeps-entries : (s : Course) (ns : Marked) → ends_late (events_of ns) ≡ false → Keeps s.entries (followed s ns).entries
keeps-entries s [] e = ([], sym (append-nil s.entries))
keeps-entries s (Seen c t ∷ ns) e = keeps-tail (course_step s (Seen c t)) s.entries (entry t (uses_at s.place c t) ∷ []) ns refl tt
keeps-entries s (Said action.EndsRead ∷ ns) e = absurd (cc)
keeps-entries s (Said a ∷ ns) e = keeps-entries (record s { operands = joined a s.operands }) ns e

-- ---- tokens that come next
pub same-tail : (us vs ws : List Token) → us ++ vs ≡ us ++ ws → vs ≡ ws
same-tail [] vs ws e = e
same-tail (u ∷ us) vs ws e = let more : us ++ vs ≡ us ++ ws = cc in same-tail us vs ws more

pub first-kind : (k : TokenKind) (t : Token) (us : List Token) (ns : Marked) → IsKind k t → Filled ns → tokens_in ns ≡ t ∷ us → (w : List ℕ) × (tokens grammar (events_of ns) ≡ number (terminal_of k) ∷ w)
first-kind k t us [] is h e = absurd (cc)
first-kind k t us (Said a ∷ ns) is h e = first-kind k t us ns is h.1 e
first-kind k t us (Seen c u ∷ ns) is h e =
    let same : u ≡ t = cc in
    (tokens grammar (events_of ns), ap (λ d. number d ∷ tokens grammar (events_of ns)) (sym (wanted-kind k c t is (h.0).0 ((h.0).1 ∙ same))))

-- ---- productions and what was read of their texts
-- what is written of the production is a text of it, in which no read is left open
pub record IsStart (n : Production) : Type 0 where
  pub of : (v : Value n) → Of (Rule n) (value_marks n v)
  pub filled : (v : Value n) → Filled (value_marks n v)
  pub passed : (v : Value n) → (passed first_turn (events_of (value_marks n v))).phase ≡ Free

-- what is written of the production that goes on with these marks
pub record ValueOn (n : Production) (ms ns : Marked) : Type 0 where
  pub value : Value n
  pub marks : value_marks n value ≡ ms ++ ns

pub record SomeValue (n : Production) (ms : Marked) (rest : Part) : Type 0 where
  pub marks : Marked
  pub filled : Filled marks
  pub means : Of rest marks
  pub goes : ValueOn n ms marks

module _ (n : Production) (start : IsStart n) (ts : List Token) (ms : Marked) (rest : Part) (h : AreReadFrom n ts ms rest) where
  pub value-on : (ns : Marked) → Filled ns → Of rest ns → ValueOn n ms ns
  value-on ns filled m =
      let all : Of (Rule n) (ms ++ ns) = subst (Means Class Action Production rules (Rule n)) (sym (events-append ms ns)) (h.read.goes_on (events_of ns) m) in
      let v = written-back n (ms ++ ns) (inside-rule n (events_of (ms ++ ns)) all) (join-filled ms ns h.filled filled) in
      record { value = v.0; marks = v.1 }

  -- something begins with the tokens
  pub some-value : SomeValue n ms rest
  some-value =
      let ys = fill grammar reads rest in
      let s = sampled ys.0 in
      let m : Of rest s.marks = subst (Means Class Action Production rules rest) (sym s.events) ys.1 in
      record { marks = s.marks; filled = s.filled; means = m; goes = value-on s.marks s.filled m }

  -- and all that does goes on after the marks
  pub record GoesAfter (v : Value n) : Type 0 where
    pub more : Marked
    pub marks : value_marks n v ≡ ms ++ more
    pub means : Of rest more

  pub goes-after : (v : Value n) (us : List Token) → tokens_in (value_marks n v) ≡ ts ++ us → GoesAfter v
  goes-after v us first =
      let all : Marked = value_marks n v in
      let tokens' : tokens_in all ≡ tokens_in ms ++ us = first ∙ ap (λ (l : List Token). l ++ us) (sym h.tokens_are) in
      let k = same-kinds ms all us h.filled (start.filled v) tokens' in
      let r = h.read.holds_all (events_of all) k.0 (start.of v, k.1) in
      let s = split all (events_of ms) r.0 r.1 in
      let same : s.front ≡ ms = same-marks s.front ms (tokens_in s.rest) us s.first (sym (tokens-of-both s.front s.rest) ∙ ap (λ (l : Marked). tokens_in l) s.whole ∙ tokens') in
      record {
        more = s.rest;
        marks = sym s.whole ∙ ap (λ (l : Marked). l ++ s.rest) same;
        means = subst (Means Class Action Production rules rest) (sym s.later) r.2;
      }

  -- ---- no read of the front ends late
  pub passes-on : (ns : Marked) → ValueOn n ms ns → (passed (passed first_turn (events_of ms)) (events_of ns)).phase ≡ Free
  passes-on ns g =
      let all : passed first_turn (events_of (value_marks n g.value)) ≡ passed (passed first_turn (events_of ms)) (events_of ns) = ap (λ (l : Marked). passed first_turn (events_of l)) g.marks ∙ ap (passed first_turn) (events-append ms ns) ∙ passed-append first_turn (events_of ms) (events_of ns) in
      sym (ap (λ (s : Turn). s.phase) all) ∙ start.passed g.value

  pub none-late : (ns : Marked) → Filled ns → Of rest ns → ends_late (events_of ns) ≡ false
  none-late ns filled m = at h.stops
    where
      at : Stops grammar rest → ends_late (events_of ns) ≡ false
      at (inl d) = ap ends_late (done-alone grammar rest d (events_of ns) m)
      at (inr w) =
          let s = sampled (Took w.0 ∷ w.1) in
          let other : (passed (passed first_turn (events_of ms)) (Took w.0 ∷ w.1)).phase ≡ Free = ap (λ (l : Events). (passed (passed first_turn (events_of ms)) l).phase) (sym s.events) ∙ passes-on s.marks (value-on s.marks s.filled (subst (Means Class Action Production rules rest) (sym s.events) w.2)) in
          late-or-token (passed first_turn (events_of ms)) (events_of ns) w.1 w.0 (passes-on ns (value-on ns filled m)) other

  -- what is there for something in the front is there for it in all that begins with the tokens
  pub entries-kept : (v : Value n) (ns : Marked) → value_marks n v ≡ ms ++ ns → Of rest ns → Keeps (entries_in ms) (entries_in (value_marks n v))
  entries-kept v ns marks m =
      let filled : Filled ns = (all-parts _ ms ns (subst Filled marks (start.filled v))).1 in
      let k = keeps-entries (followed first_course ms) ns (none-late ns filled m) in
      (k.0, ap entries_in marks ∙ ap (λ (s : Course). s.entries) (followed-append first_course ms ns) ∙ k.1)

  -- ---- what comes next
  pub next-kind : (k : TokenKind) (t : Token) (us : List Token) (v : Value n) (more : Marked) → value_marks n v ≡ ms ++ more → Of rest more → IsKind k t → tokens_in (value_marks n v) ≡ ts ++ t ∷ us → Begins grammar rest (number (terminal_of k) ∷ [])
  next-kind k t us v more marks m is tokens' =
      let filled : Filled more = (all-parts _ ms more (subst Filled marks (start.filled v))).1 in
      let same : tokens_in more ≡ t ∷ us = same-tail ts (tokens_in more) (t ∷ us) (ap (λ (l : List Token). l ++ tokens_in more) (sym h.tokens_are) ∙ sym (tokens-of-both ms more) ∙ ap (λ (l : Marked). tokens_in l) (sym marks) ∙ tokens') in
      let w = first-kind k t us more is filled same in
      (w.0, (events_of more, (m, w.1)))
