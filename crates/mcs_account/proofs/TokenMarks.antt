-- What one token more brings: one entry, and what the account hears of it.
use Rattle.std.proofs.Common.{◌≡◌, ℕ, Bool, true, false, List, [], ◌∷◌, ◌++◌, refl, sym, ap, subst, ◌∙◌, inl, append_assoc}
use Rattle.mcs_syntax.specs.declared.part.Event.TheVariants.{Took, Told}
use Rattle.mcs_syntax.specs.Grammar.{Means, tokens}
use Rattle.mcs_syntax.specs.Reads.{HasRead}
use Rattle.mcs_system.specs.Plain.{Name}
use Rattle.mcs_system.specs.Plain as plain
use Rattle.mcs_grammar.specs.Entries.{Token, Use, EndsRead, Entry, entry, with_last}
use Rattle.mcs_productions.specs.Productions.{rules, grammar}
use Rattle.mcs_productions.specs.declared.class.Class.{Class}
use Rattle.mcs_productions.specs.declared.class.Class.TheVariants as class
use Rattle.mcs_productions.specs.declared.production.Action.{Action}
use Rattle.mcs_productions.specs.declared.production.Action.TheVariants as action
use Rattle.mcs_productions.specs.declared.production.Production.{Production}
use Rattle.mcs_account.specs.Mark.{Seen, Said, events_of}
use Rattle.mcs_account.specs.Marks.{Marked, Filled, marks_for}
use Rattle.mcs_account.specs.Account.{Account, Place, place_after, when, uses_at, uses_with, made_of, joined, took, told, no_account, accounted, Course, read_ends, course_step, course_told, followed, first_course}
use Rattle.mcs_account.specs.Known.{names_in}
use Rattle.mcs_account.specs.Reading.{AreReadFrom, Events, HasSome, class_in, ends_in, heard, ended_if, top_of}
use Rattle.mcs_account.specs.Turns.{Turn, Phase, Free, Due, Over, Broken, first_turn, ended, ends, comes, named_after, phase_if, phase_after, phase_told, turn_took, turn_told, passed}
use Rattle.mcs_account.specs.Turns as turns
use Rattle.mcs_account.proofs.Forward.{Part, events-append}
use Rattle.mcs_account.proofs.Courses.{last-append}
use Rattle.mcs_account.proofs.Fronts.{IsStart, ValueOn, some-value, passes-on, none-late}
use Rattle.mcs_account.proofs.FaultTheory.{events-for}
use Rattle.mcs_account.proofs.Tokens.{join-filled}
use Rattle.mcs_account.proofs.TreeLemmas.{all-parts}
use Rattle.mcs_account.proofs.ReadEnds.{EndsBelief, ends_late, stays-broken}
use Rattle.mcs_account.proofs.Numbers.{introduced, took-names}
use Rattle.mcs_account.specs.Items.{Making, OfOne, OfTwo, making}
use Rattle.mcs_account.proofs.Atoms.{IsFor, HasAtom, joined-top}

-- ---- after some of a text: the order of its events, what it says, and what its tokens are there for
pub record State : Type 0 where
  pub turn : Turn
  pub account : Account
  pub course : Course

abbrev pub took_at : State → Class → Token → State
took_at s c t = record { turn = turn_took s.turn c; account = took s.account c t; course = course_step s.course (Seen c t) }

abbrev pub told_at : State → Action → State
told_at s a = record { turn = turn_told s.turn a; account = told s.account a; course = course_told s.course a }

abbrev pub after : State → Marked → State
after s ms = record { turn = passed s.turn (events_of ms); account = accounted s.account ms; course = followed s.course ms }

-- before the first token, where this is the account
abbrev pub state_from : Account → State
state_from a = record { turn = first_turn; account = a; course = first_course }

abbrev pub first_state : State
first_state = state_from no_account

after-append : (s : State) (ms ns : Marked) → after s (ms ++ ns) ≡ after (after s ms) ns
after-append s [] ns = refl
after-append s (Seen c t ∷ ms) ns = after-append (took_at s c t) ms ns
after-append s (Said a ∷ ms) ns = after-append (told_at s a) ms ns

-- ---- the formulas that are whole: the account and the course have the same, and one is on top where the order tells so
record Agrees (s : State) : Type 0 where
  same : s.account.operands ≡ s.course.operands
  whole : s.turn.formed ≡ true → HasSome s.account.operands

made-some : (m : Making) (fs : List plain.Formula) → HasSome fs → HasSome (made_of m fs)
made-some (OfOne p) (f ∷ fs) h = tt
made-some (OfTwo j) (g ∷ f ∷ fs) h = tt
made-some m fs h = h

took-agrees : (s : State) (c : Class) (t : Token) → Agrees s → Agrees (took_at s c t)
took-agrees s class.EndsItem t h = record { same = refl; whole = λ e. absurd (cc) }
took-agrees s class.EndsBridge t h = record { same = refl; whole = λ e. absurd (cc) }
took-agrees s class.IsTrue t h = record { same = ap (λ (fs : List plain.Formula). plain.Truth ∷ fs) h.same; whole = λ e. tt }
took-agrees s class.IsFalse t h = record { same = ap (λ (fs : List plain.Formula). plain.Falsity ∷ fs) h.same; whole = λ e. tt }
took-agrees s class.IsAtom t h = record { same = ap (λ (fs : List plain.Formula). plain.Atom t ∷ fs) h.same; whole = λ e. tt }
took-agrees s c t h = record { same = h.same; whole = h.whole }

told-agrees : (s : State) (a : Action) → Agrees s → Agrees (told_at s a)
told-agrees s action.EndsRead h = record { same = at s.account.operands s.course.operands h.same; whole = λ e. absurd (cc) }
  where
    at : (fs gs : List plain.Formula) → fs ≡ gs → (told (record s.account { operands = fs }) action.EndsRead).operands ≡ (read_ends (record s.course { operands = gs }) gs).operands
    at [] gs e = rw (← e) refl
    at (f ∷ fs) gs e = rw (← e) refl
told-agrees s a h = record { same = ap (joined a) h.same; whole = λ e. made-some (making a) s.account.operands (h.whole e) }

all-agree : (s : State) (ms : Marked) → Agrees s → Agrees (after s ms)
all-agree s [] h = h
all-agree s (Seen c t ∷ ms) h = all-agree (took_at s c t) ms (took-agrees s c t h)
all-agree s (Said a ∷ ms) h = all-agree (told_at s a) ms (told-agrees s a h)

-- ---- the order of events
abbrev IsFree : State → Type 0
IsFree s = s.turn.phase ≡ Free

broken-free : (s : State) (ms : Marked) → s.turn.phase ≡ Broken → IsFree (after s ms) → ⊥
broken-free s ms b f = let same : Free ≡ Broken = sym f ∙ stays-broken s.turn (events_of ms) b in absurd (cc)

-- a read ends where one is due, with a formula that is whole
was-due : (p : Phase) (f : Bool) → ¬ (ended p f ≡ Broken) → (p ≡ Due) × (f ≡ true)
was-due Due true h = (refl, refl)
was-due p f h = absurd (h refl)

was-joined : (p : Phase) → turns.joined p ≡ Due → p ≡ Due
was-joined Over e = absurd (cc)
was-joined p e = e

-- a token comes only where it may, and a read is due only after the last token of a belief
not-broken : (b : Bool) (p : Phase) → ¬ (phase_if b p ≡ Broken) → b ≡ true
not-broken true p h = refl
not-broken false p h = absurd (h refl)

took-due : (n : Bool) (p : Phase) (b : Bool) → phase_if n (phase_after p b) ≡ Due → b ≡ true
took-due n p true e = refl
took-due true Free false e = absurd (cc)
took-due n p false e = absurd (cc)

-- nothing is said after the end of a read
nothing-after : (s : State) (t : Token) (xs : Events) (ns : Marked) → s.turn.phase ≡ Over → tokens grammar xs ≡ [] → IsFree (after s (marks_for t xs ++ ns)) → xs ≡ []
nothing-after s t [] ns o e f = refl
nothing-after s t (Took c ∷ xs) ns o e f = absurd (cc)
nothing-after s t (Told a ∷ xs) ns o e f = absurd (broken-free (told_at s a) (marks_for t xs ++ ns) (ap (λ (p : Phase). phase_told a p s.turn.formed) o ∙ over a) f)
  where
    over : (a : Action) → phase_told a Over s.turn.formed ≡ Broken
    over action.EndsRead = refl
    over a = refl

-- ---- the actions after a token of the class, whose entry is the last one so far
record Last (s : State) (c : Class) (t : Token) (xs : Events) : Type 0 where
  class_is : class_in c xs ≡ c
  due : ends_in xs ≡ true → s.turn.phase ≡ Due
  named : (after s (marks_for t xs)).turn.named ≡ s.turn.named
  account : accounted s.account (marks_for t xs) ≡ ended_if (ends_in xs) (heard s.account t xs)
  formed : ends_in xs ≡ true → HasSome (heard s.account t xs).operands
  entries : (es : List Entry) (m : Entry) → s.course.entries ≡ es ++ m ∷ []
      → (followed s.course (marks_for t xs)).entries ≡ es ++ entry m.token (when (ends_in xs) (EndsRead s.course.place.target s.course.place.context (top_of (heard s.account t xs).operands)) ++ m.uses) ∷ []
  place : (followed s.course (marks_for t xs)).place ≡ s.course.place
  names : names_in (heard s.account t xs) ≡ names_in s.account
  atom : HasAtom t s.account.operands → HasAtom t (heard s.account t xs).operands

-- the end of a read
ended-course : (s : Course) (fs gs : List plain.Formula) → fs ≡ gs → HasSome fs → ((read_ends s gs).place ≡ s.place)
    × ((es : List Entry) (m : Entry) → s.entries ≡ es ++ m ∷ [] → (read_ends s gs).entries ≡ es ++ entry m.token (EndsRead s.place.target s.place.context (top_of fs) ∷ m.uses) ∷ [])
ended-course s [] gs same h = absurd h
ended-course s (f ∷ fs) gs same h = let us : List Use = EndsRead s.place.target s.place.context f ∷ [] in rw (← same) (refl, λ es m e. ap (with_last us) e ∙ last-append us es (m ∷ []) tt)

last : (s : State) (c : Class) (t : Token) (xs : Events) (ns : Marked) → tokens grammar xs ≡ [] → IsFree (after s (marks_for t xs ++ ns)) → Agrees s → Last s c t xs
last s c t [] ns e f g = record { class_is = refl; due = λ k. absurd (cc); named = refl; account = refl; formed = λ k. absurd (cc); entries = λ es m e. e; place = refl; names = refl; atom = λ k. k }
last s c t (Took d ∷ xs) ns e f g = absurd (cc)
last s c t (Told action.EndsRead ∷ xs) ns e f g =
    let was = was-due s.turn.phase s.turn.formed (λ b. broken-free (told_at s action.EndsRead) (marks_for t xs ++ ns) b f) in
    let none : xs ≡ [] = nothing-after (told_at s action.EndsRead) t xs ns (ap (λ (p : Phase). ended p s.turn.formed) was.0 ∙ ap (ended Due) was.1) e f in
    let course = ended-course s.course s.account.operands s.course.operands g.same (g.whole was.1) in
    subst (λ (l : Events). Last s c t (Told action.EndsRead ∷ l)) (sym none)
    (record { class_is = refl; due = λ k. was.0; named = refl; account = refl; formed = λ k. g.whole was.1; entries = course.1; place = course.0; names = refl; atom = λ k. k })
last s c t (Told a ∷ xs) ns e f g =
    let r = last (told_at s a) c t xs ns e f (told-agrees s a g) in
    record { class_is = r.class_is; due = λ k. was-joined s.turn.phase (r.due k); named = r.named; account = r.account; formed = r.formed; entries = r.entries; place = r.place; names = r.names; atom = λ k. r.atom (joined-top t a s.account.operands k) }

-- ---- all of it: actions, the token, and again actions
pub record Brings (s z : State) (t : Token) (xs : Events) (c : Class) : Type 0 where
  -- it may come where contexts were named or not, and names one or not
  pub comes_is : comes c s.turn.named ≡ true
  pub named_is : z.turn.named ≡ named_after c s.turn.named
  pub account : z.account ≡ ended_if (ends_in xs) (heard s.account t xs)
  pub entry_is : z.course.entries ≡ s.course.entries ++ entry t (uses_with (ends_in xs) s.course.place c t (top_of (heard s.account t xs).operands)) ∷ []
  pub place_is : z.course.place ≡ place_after s.course.place c t
  pub names : names_in (heard s.account t xs) ≡ names_in s.account ++ introduced c t
  pub is_for : Filled (marks_for t xs) → IsFor c t
  -- where a read ends
  pub ends : ends_in xs ≡ true → EndsBelief c
  pub formed : ends_in xs ≡ true → HasSome (heard s.account t xs).operands
  pub atom : c ≡ class.IsAtom → HasAtom t (heard s.account t xs).operands

-- a token with which a belief ends names no context
same-contexts : (p : Place) (c : Class) (t : Token) → EndsBelief c → ((place_after p c t).context ≡ p.context) × ((place_after p c t).target ≡ p.target)
same-contexts p class.IsTrue t w = (refl, refl)
same-contexts p class.IsFalse t w = (refl, refl)
same-contexts p class.IsAtom t w = (refl, refl)
same-contexts p class.ClosesParenthesis t w = (refl, refl)
same-contexts p c t w = absurd (cc (w.2))

same-uses : (b : Bool) (p : Place) (c : Class) (t : Token) (us : List Use) (f : plain.Formula) → (b ≡ true → EndsBelief c)
    → when b (EndsRead (place_after p c t).target (place_after p c t).context f) ++ us ≡ when b (EndsRead p.target p.context f) ++ us
same-uses false p c t us f h = refl
same-uses true p c t us f h =
    let e = same-contexts p c t (h refl) in
    ap (λ (n : Name). EndsRead (place_after p c t).target n f ∷ us) e.0 ∙ ap (λ (n : Name). EndsRead n p.context f ∷ us) e.1

one : (s : State) (t : Token) (d : ℕ) (xs : Events) (ns : Marked) (c : Class) → tokens grammar xs ≡ d ∷ [] → ends_late (events_of (marks_for t xs ++ ns)) ≡ false → IsFree (after s (marks_for t xs ++ ns)) → Agrees s
    → Brings s (after s (marks_for t xs)) t xs (class_in c xs)
one s t d [] ns c e l f g = absurd (cc)
one s t d (Took k ∷ xs) ns c e l f g =
    let none : tokens grammar xs ≡ [] = cc in
    let r = last (took_at s k t) k t xs ns none f (took-agrees s k t g) in
    let p : Place = s.course.place in
    let ends' : (ends_in xs ≡ true → EndsBelief k) = λ i. (s.turn.reads, s.turn.depth, took-due (comes k s.turn.named) s.turn.phase (ends k s.turn.reads s.turn.depth) (r.due i)) in
    subst (Brings s (after s (marks_for t (Took k ∷ xs))) t (Took k ∷ xs)) (sym r.class_is) (record {
      comes_is = not-broken (comes k s.turn.named) (phase_after s.turn.phase (ends k s.turn.reads s.turn.depth)) (λ b. broken-free (took_at s k t) (marks_for t xs ++ ns) b f);
      named_is = r.named;
      account = r.account;
      entry_is = r.entries s.course.entries (entry t (uses_at p k t)) refl
          ∙ ap (λ (us : List Use). s.course.entries ++ entry t us ∷ []) (same-uses (ends_in xs) p k t (uses_at p k t) (top_of (heard (took s.account k t) t xs).operands) ends');
      place_is = r.place;
      names = r.names ∙ took-names s.account k t;
      is_for = λ filled. filled.0;
      ends = ends';
      formed = r.formed;
      atom = λ is. r.atom (subst (λ (i : Class). HasAtom t (took s.account i t).operands) (sym is) (inl refl));
    })
one s t d (Told action.EndsRead ∷ xs) ns c e l f g = absurd (cc)
one s t d (Told a ∷ xs) ns c e l f g =
    let r = one (told_at s a) t d xs ns c e l f (told-agrees s a g) in
    record { comes_is = r.comes_is; named_is = r.named_is; account = r.account; entry_is = r.entry_is; place_is = r.place_is; names = r.names; is_for = λ filled. r.is_for filled.1; ends = r.ends; formed = r.formed; atom = r.atom }

-- where this is the account before the first token
abbrev pub TokenBringsFrom : Account → Marked → Token → Events → Class → Type 0
TokenBringsFrom a ms t xs c = Brings (after (state_from a) ms) (after (state_from a) (ms ++ marks_for t xs)) t xs c

abbrev pub TokenBrings : Marked → Token → Events → Class → Type 0
TokenBrings ms t xs c = TokenBringsFrom no_account ms t xs c

pub token-brings : (n : Production) → IsStart n → (a : Account) → a.operands ≡ [] → (ts : List Token) (ms : Marked) (rest left : Part) (t : Token) (d : ℕ) (xs : Events) (c : Class) → AreReadFrom n ts ms rest → HasRead grammar rest (d ∷ []) xs left → AreReadFrom n (ts ++ t ∷ []) (ms ++ marks_for t xs) left
    → TokenBringsFrom a ms t xs (class_in c xs)
token-brings n start a none ts ms rest left t d xs c h r k =
    let some = some-value n start (ts ++ t ∷ []) (ms ++ marks_for t xs) left k in
    let more : Marked = marks_for t xs ++ some.marks in
    let whole : ValueOn n ms more = record { value = some.goes.value; marks = some.goes.marks ∙ append_assoc ms (marks_for t xs) some.marks } in
    let filled : Filled more = join-filled (marks_for t xs) some.marks (all-parts _ ms (marks_for t xs) k.filled).1 some.filled in
    let events : xs ++ events_of some.marks ≡ events_of more = sym (events-append (marks_for t xs) some.marks ∙ ap (λ (l : Events). l ++ events_of some.marks) (events-for t xs)) in
    let on-time = none-late n start ts ms rest h more filled (subst (Means Class Action Production rules rest) events (r.goes_on (events_of some.marks) some.means)) in
    subst (λ (z : State). Brings (after (state_from a) ms) z t xs (class_in c xs)) (sym (after-append (state_from a) ms (marks_for t xs)))
    (one (after (state_from a) ms) t d xs some.marks c r.tokens_are on-time (passes-on n start ts ms rest h more whole) (all-agree (state_from a) ms (record { same = none; whole = λ e. absurd (cc) })))
