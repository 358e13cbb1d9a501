-- The tokens of edits by themselves, and their faults.
use Rattle.std.proofs.Common.{◌≡◌, ℕ, zero, suc, ◌+◌, ◌<◌, ◌≤◌, List, [], ◌∷◌, ◌++◌, codes, take, length, Option, Some, None, refl, sym, ap, subst, ◌∙◌, inl, inr, arith}
use Rattle.std.specs.Prelude.{slice_get, slice_index, ◌≢◌, IsTrue}
use Rattle.std.proofs.lemmas.Bool.{eqb-false}
use Rattle.std.proofs.lemmas.Option.{same_Some}
use Rattle.mcs_base.specs.Listings.{IsAmong}
use Rattle.mcs_base.specs.Words.{reserved_words}
use Rattle.mcs_system.specs.Plain.{Name}
use Rattle.mcs_system.specs.declared.limit.Limit.TheVariants.{Weight, OpenParentheses, NameBytes}
use Rattle.mcs_grammar.specs.Written.{WrittenBridge, IsWrittenBridge, IsNameWord}
use Rattle.mcs_grammar.specs.Entries.{Token, Entry, entry, bridge_entries, tokens_of}
use Rattle.mcs_grammar.specs.Faults.{TextFault, NoGrammar, NoContext, Exceeds, rank, Has}
use Rattle.mcs_grammar.specs.Alone.{is_told, contexts_said, Begins, IsWhole, IsEnteredNext, IsFaultNext, AreFree}
use Rattle.mcs_script.specs.Edits.{WrittenEdit, Adds, Drops, Lists, IsWrittenEdit, edit_entries}

abbrev pub add : Token
add = codes "add"

abbrev pub drop : Token
drop = codes "drop"

abbrev pub list : Token
list = codes "list"

abbrev pub period : Token
period = codes "."

abbrev pub EditBegins : List Token → Type 0
EditBegins ts = Begins IsWrittenEdit edit_entries ts

abbrev pub EditIsWhole : List Token → Type 0
EditIsWhole ts = IsWhole IsWrittenEdit edit_entries ts

abbrev pub EditFault : List Name → List Token → Option Token → TextFault → Type 0
EditFault names ts next f = IsFaultNext IsWrittenEdit edit_entries names ts next f

pub lowest-of-all : (f : TextFault) → 1 ≤ rank f
lowest-of-all NoGrammar = omega arith
lowest-of-all f = omega arith

-- ---- tokens that are there for nothing but the grammar
abbrev IsPlain : Entry → Type 0
IsPlain m = (m.uses ≡ []) × (length m.token ≤ 64)

plain-free : (names : List Name) (m : Entry) → IsPlain m → (f : TextFault) → IsTrue (is_told f) → ¬ Has f (contexts_said names) m
plain-free names m h NoGrammar y has = has
plain-free names m h NoContext y (c, inl there, missing) = subst (IsAmong _) h.0 there
plain-free names m h NoContext y (c, inr there, missing) = subst (IsAmong _) h.0 there
plain-free names m h (Exceeds Weight) y (w, there, heavy) = subst (IsAmong _) h.0 there
plain-free names m h (Exceeds OpenParentheses) y there = subst (IsAmong _) h.0 there
plain-free names m h (Exceeds NameBytes) y (word, long) = absurd (omega (arith, long, h.1))
plain-free names m h f y has = absurd (cc)

-- where each edit that begins so has a plain token there, it has no fault
plain-next : (names : List Name) (ts : List Token) (t : Token) → EditBegins (ts ++ t ∷ [])
    → ((w : WrittenEdit) → IsWrittenEdit w → take (length ts + 1) (tokens_of (edit_entries w)) ≡ ts ++ t ∷ [] → (here : Entry) → slice_get (edit_entries w) (length ts) ≡ Some here → IsPlain here) → (f : TextFault) → ¬ EditFault names ts (Some t) f
plain-next names ts t begins are NoGrammar h = h begins
plain-next names ts t begins are f h = let e = h.1 in plain-free names e.here (are e.written e.grammar e.first e.here e.is_here) f h.0 e.has

plain-of : (m here : Entry) → Some m ≡ Some here → IsPlain m → IsPlain here
plain-of m here e h = subst IsPlain (same_Some m here e) h

-- ---- the first token
abbrev byte_of : List Token → ℕ
byte_of [] = 0
byte_of (t ∷ ts) = slice_index t 0

first-plain : (w : WrittenEdit) (here : Entry) → slice_get (edit_entries w) 0 ≡ Some here → IsPlain here
first-plain (Adds b) here e = plain-of (entry add []) here e (refl, omega arith)
first-plain (Drops n) here e = plain-of (entry drop []) here e (refl, omega arith)
first-plain Lists here e = plain-of (entry list []) here e (refl, omega arith)

pub add-free : (names : List Name) (b : WrittenBridge) → IsWrittenBridge b → (f : TextFault) → ¬ EditFault names [] (Some add) f
add-free names b g = plain-next names [] add (Adds b, g, refl) (λ w _ _ here e. first-plain w here e)

pub drop-free : (names : List Name) (f : TextFault) → ¬ EditFault names [] (Some drop) f
unfolding reserved_words
drop-free names = plain-next names [] drop (Drops (codes "r"), refl, refl) (λ w _ _ here e. first-plain w here e)

pub list-free : (names : List Name) (f : TextFault) → ¬ EditFault names [] (Some list) f
list-free names = plain-next names [] list (Lists, tt, refl) (λ w _ _ here e. first-plain w here e)

pub other-word : (t : Token) → t ≢ add → t ≢ drop → t ≢ list → ¬ EditBegins ([] ++ t ∷ [])
other-word t a d l (Adds b, g, e) = a (cc e)
other-word t a d l (Drops n, g, e) = d (cc e)
other-word t a d l (Lists, g, e) = l (cc e)

pub none-whole : ¬ EditIsWhole []
none-whole (Adds b, g, e) = absurd (cc e)
none-whole (Drops n, g, e) = absurd (cc e)
none-whole (Lists, g, e) = absurd (cc e)

-- ---- a listing
pub list-open : ¬ EditIsWhole (list ∷ [])
list-open (Adds b, g, e) = eqb-false 97 108 refl (ap byte_of e)
list-open (Drops n, g, e) = eqb-false 100 108 refl (ap byte_of e)
list-open (Lists, g, e) = absurd (cc e)

pub list-other : (t : Token) → t ≢ period → ¬ EditBegins ((list ∷ []) ++ t ∷ [])
list-other t other (Adds b, g, e) = eqb-false 97 108 refl (ap byte_of e)
list-other t other (Drops n, g, e) = eqb-false 100 108 refl (ap byte_of e)
list-other t other (Lists, g, e) = other (cc e)

pub list-ended : (names : List Name) (f : TextFault) → ¬ EditFault names (list ∷ []) (Some period) f
list-ended names = plain-next names (list ∷ []) period (Lists, tt, refl) at
  where
    at : (w : WrittenEdit) → IsWrittenEdit w → take 2 (tokens_of (edit_entries w)) ≡ list ∷ period ∷ [] → (here : Entry) → slice_get (edit_entries w) 1 ≡ Some here → IsPlain here
    at (Adds b) g e here is = absurd (eqb-false 97 108 refl (ap byte_of e))
    at (Drops n) g e here is = absurd (eqb-false 100 108 refl (ap byte_of e))
    at Lists g e here is = plain-of (entry period []) here is (refl, omega arith)

-- ---- a drop
pub drop-open : ¬ EditIsWhole (drop ∷ [])
drop-open (Adds b, g, e) = eqb-false 97 100 refl (ap byte_of e)
drop-open (Drops n, g, e) = absurd (cc e)
drop-open (Lists, g, e) = eqb-false 108 100 refl (ap byte_of e)

pub drop-unnamed : (t : Token) → ¬ IsNameWord t → ¬ EditBegins ((drop ∷ []) ++ t ∷ [])
drop-unnamed t none (Adds b, g, e) = eqb-false 97 100 refl (ap byte_of e)
drop-unnamed t none (Drops n, g, e) = let same : n ≡ t = cc e in none (subst IsNameWord same g)
drop-unnamed t none (Lists, g, e) = eqb-false 108 100 refl (ap byte_of e)

named-at : (n : Token) (w : WrittenEdit) → take 2 (tokens_of (edit_entries w)) ≡ drop ∷ n ∷ [] → w ≡ Drops n
named-at n (Adds b) e = absurd (eqb-false 97 100 refl (ap byte_of e))
named-at n (Drops k) e = let same : k ≡ n = cc e in ap (λ (x : Token). Drops x) same
named-at n Lists e = absurd (eqb-false 108 100 refl (ap byte_of e))

pub drop-named : (names : List Name) (n : Token) → IsNameWord n → length n ≤ 64 → (f : TextFault) → ¬ EditFault names (drop ∷ []) (Some n) f
drop-named names n word short = plain-next names (drop ∷ []) n (Drops n, word, refl) (λ w _ e here is. plain-of (entry n []) here (sym (ap (λ (x : WrittenEdit). slice_get (edit_entries x) 1) (named-at n w e)) ∙ is) (refl, short))

-- a name that is too long
pub long-name : (names : List Name) (n : Token) → IsNameWord n → 64 < length n → EditFault names (drop ∷ []) (Some n) (Exceeds NameBytes)
long-name names n word long = (refl, record { written = Drops n; grammar = word; first = refl; here = entry n []; is_here = refl; has = (word, long) })

none-named : (names : List Name) (n : Token) (g : TextFault) → g ≢ Exceeds NameBytes → IsTrue (is_told g) → Has g (contexts_said names) (entry n []) → ⊥
none-named names n NoGrammar other y has = has
none-named names n NoContext other y (c, inl there, missing) = there
none-named names n NoContext other y (c, inr there, missing) = there
none-named names n (Exceeds Weight) other y (w, there, heavy) = there
none-named names n (Exceeds OpenParentheses) other y there = there
none-named names n (Exceeds NameBytes) other y has = absurd (other refl)
none-named names n g other y has = absurd (cc)

named-here : (names : List Name) (n : Token) (g : TextFault) (e : IsEnteredNext IsWrittenEdit edit_entries names (drop ∷ []) n g) → e.here ≡ entry n []
named-here names n g e = sym (same_Some _ _ (sym (ap (λ (x : WrittenEdit). slice_get (edit_entries x) 1) (named-at n e.written e.first)) ∙ e.is_here))

pub long-lowest : (names : List Name) (n : Token) → IsNameWord n → (g : TextFault) → EditFault names (drop ∷ []) (Some n) g → rank (Exceeds NameBytes) ≤ rank g
long-lowest names n word NoGrammar h = absurd (h (Drops n, word, refl))
long-lowest names n word (Exceeds NameBytes) h = omega arith
long-lowest names n word g h = absurd (none-named names n g (λ e. absurd (cc)) h.0 (subst (Has g (contexts_said names)) (named-here names n g h.1) h.1.has))

pub drop-going : (n : Token) → ¬ EditIsWhole (drop ∷ n ∷ [])
drop-going n (Adds b, g, e) = eqb-false 97 100 refl (ap byte_of e)
drop-going n (Drops k, g, e) = absurd (cc e)
drop-going n (Lists, g, e) = eqb-false 108 100 refl (ap byte_of e)

pub drop-other : (n t : Token) → t ≢ period → ¬ EditBegins ((drop ∷ n ∷ []) ++ t ∷ [])
drop-other n t other (Adds b, g, e) = eqb-false 97 100 refl (ap byte_of e)
drop-other n t other (Drops k, g, e) = other (cc e)
drop-other n t other (Lists, g, e) = eqb-false 108 100 refl (ap byte_of e)

pub drop-ended : (names : List Name) (n : Token) → IsNameWord n → (f : TextFault) → ¬ EditFault names (drop ∷ n ∷ []) (Some period) f
drop-ended names n word = plain-next names (drop ∷ n ∷ []) period (Drops n, word, refl) at
  where
    at : (w : WrittenEdit) → IsWrittenEdit w → take 3 (tokens_of (edit_entries w)) ≡ drop ∷ n ∷ period ∷ [] → (here : Entry) → slice_get (edit_entries w) 2 ≡ Some here → IsPlain here
    at (Adds b) g e here is = absurd (eqb-false 97 100 refl (ap byte_of e))
    at (Drops k) g e here is = plain-of (entry period []) here is (refl, omega arith)
    at Lists g e here is = absurd (eqb-false 108 100 refl (ap byte_of e))

-- ---- an added rule
module _ (us : List Token) where
  pub added-begins : Begins IsWrittenBridge bridge_entries us → EditBegins (add ∷ us)
  added-begins (b, g, e) = (Adds b, g, ap (λ (ts : List Token). add ∷ ts) e)

  pub begins-added : EditBegins (add ∷ us) → Begins IsWrittenBridge bridge_entries us
  begins-added (Adds b, g, e) = (b, g, cc e)
  begins-added (Drops n, g, e) = absurd (eqb-false 100 97 refl (ap byte_of e))
  begins-added (Lists, g, e) = absurd (eqb-false 108 97 refl (ap byte_of e))

  pub added-whole : EditIsWhole (add ∷ us) → IsWhole IsWrittenBridge bridge_entries us
  added-whole (Adds b, g, e) = (b, g, cc e)
  added-whole (Drops n, g, e) = absurd (eqb-false 100 97 refl (ap byte_of e))
  added-whole (Lists, g, e) = absurd (eqb-false 108 97 refl (ap byte_of e))

  pub whole-added : IsWhole IsWrittenBridge bridge_entries us → EditIsWhole (add ∷ us)
  whole-added (b, g, e) = (Adds b, g, ap (λ (ts : List Token). add ∷ ts) e)

longer : (us : List Token) → suc (length us + 1) ≡ length (add ∷ us) + 1
longer us = omega arith

module _ (names : List Name) (us : List Token) (t : Token) (f : TextFault) where
  entered-added : IsEnteredNext IsWrittenEdit edit_entries names (add ∷ us) t f → IsEnteredNext IsWrittenBridge bridge_entries names us t f
  entered-added e = at e.written refl
    where
      at : (w : WrittenEdit) → e.written ≡ w → IsEnteredNext IsWrittenBridge bridge_entries names us t f
      at (Adds b) is =
          let first : add ∷ take (length us + 1) (tokens_of (bridge_entries b)) ≡ add ∷ (us ++ t ∷ []) = ap (λ (k : ℕ). take k (add ∷ tokens_of (bridge_entries b))) (longer us) ∙ ap (λ (x : WrittenEdit). take (length (add ∷ us) + 1) (tokens_of (edit_entries x))) (sym is) ∙ e.first in
          record { written = b; grammar = subst IsWrittenEdit is e.grammar; first = cc first; here = e.here; is_here = ap (λ (x : WrittenEdit). slice_get (edit_entries x) (suc (length us))) (sym is) ∙ e.is_here; has = e.has }
      at (Drops n) is = absurd (eqb-false 100 97 refl (ap byte_of (ap (λ (k : ℕ). take k (tokens_of (edit_entries (Drops n)))) (longer us) ∙ ap (λ (x : WrittenEdit). take (length (add ∷ us) + 1) (tokens_of (edit_entries x))) (sym is) ∙ e.first)))
      at Lists is = absurd (eqb-false 108 97 refl (ap byte_of (ap (λ (k : ℕ). take k (tokens_of (edit_entries Lists))) (longer us) ∙ ap (λ (x : WrittenEdit). take (length (add ∷ us) + 1) (tokens_of (edit_entries x))) (sym is) ∙ e.first)))

  added-entered : IsEnteredNext IsWrittenBridge bridge_entries names us t f → IsEnteredNext IsWrittenEdit edit_entries names (add ∷ us) t f
  added-entered e = record { written = Adds e.written; grammar = e.grammar; first = ap (λ (k : ℕ). take k (add ∷ tokens_of (bridge_entries e.written))) (sym (longer us)) ∙ ap (λ (ts : List Token). add ∷ ts) e.first; here = e.here; is_here = e.is_here; has = e.has }

pub added-fault : (names : List Name) (us : List Token) (next : Option Token) (f : TextFault) → IsFaultNext IsWrittenBridge bridge_entries names us next f → EditFault names (add ∷ us) next f
added-fault names us None NoGrammar h = λ w. h (added-whole us w)
added-fault names us None f h = h
added-fault names us (Some t) NoGrammar h = λ b. h (begins-added (us ++ t ∷ []) b)
added-fault names us (Some t) f h = (h.0, added-entered names us t f h.1)

pub fault-added : (names : List Name) (us : List Token) (next : Option Token) (f : TextFault) → EditFault names (add ∷ us) next f → IsFaultNext IsWrittenBridge bridge_entries names us next f
fault-added names us None NoGrammar h = λ w. h (whole-added us w)
fault-added names us None f h = h
fault-added names us (Some t) NoGrammar h = λ b. h (added-begins (us ++ t ∷ []) b)
fault-added names us (Some t) f h = (h.0, entered-added names us t f h.1)

pub added-free : (names : List Name) (us : List Token) (b : WrittenBridge) → IsWrittenBridge b → AreFree IsWrittenBridge bridge_entries names us → AreFree IsWrittenEdit edit_entries names (add ∷ us)
added-free names us b g free zero f below h = add-free names b g f h
added-free names us b g free (suc j) f below h = free j f (omega (arith, below)) (fault-added names (take j us) (slice_get us j) f h)
