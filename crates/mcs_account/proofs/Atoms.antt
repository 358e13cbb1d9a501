-- The atoms of the formulas that wait: none is too long where no token is, and a read that ends with a name has it.
use Rattle.std.proofs.Common.{◌≡◌, ◌≤◌, Bool, true, false, List, [], ◌∷◌, ◌++◌, length, refl, sym, subst, inl, inr, true≢false}
use Rattle.mcs_base.specs.Listings.{IsAmong}
use Rattle.mcs_base.specs.Words.{most_name_bytes, reserved_words}
use Rattle.mcs_base.proofs.Among.{among_right, among_either}
use Rattle.mcs_syntax.specs.declared.part.Event.TheVariants.{Took, Told}
use Rattle.mcs_system.specs.Plain.{Name}
use Rattle.mcs_system.specs.Plain as plain
use Rattle.mcs_system.specs.Logic.{atoms}
use Rattle.mcs_grammar.specs.Entries.{Token}
use Rattle.mcs_grammar.specs.Written.{IsNameWord}
use Rattle.mcs_productions.specs.declared.class.Class.{Class}
use Rattle.mcs_productions.specs.declared.class.Class.TheVariants as class
use Rattle.mcs_productions.specs.declared.production.Action.{Action}
use Rattle.mcs_productions.specs.declared.production.Action.TheVariants as action
use Rattle.mcs_account.specs.Items.{Making, OfOne, OfTwo, making}
use Rattle.mcs_account.specs.Marks.{Fill, bytes_for, Filled, marks_for}
use Rattle.mcs_account.specs.Account.{Account, made_of, joined, took, told}
use Rattle.mcs_account.specs.Images.{AreShort}
use Rattle.mcs_account.specs.Known.{AllShort}
use Rattle.mcs_account.specs.Reading.{Events, heard, ended_if, top_of}
use Rattle.mcs_account.proofs.Signs.{prefix-atoms}
use Rattle.mcs_account.proofs.ReadEnds.{EndsBelief}

-- the token is one that may be there for this
abbrev pub IsFor : Class → Token → Type 0
IsFor c t = (x : Fill c) × (bytes_for c x ≡ t)

-- ---- none is too long
both-short : (xs ys : List Name) → AreShort xs → AreShort ys → AreShort (xs ++ ys)
both-short xs ys h k n there = elim (among_either n xs ys there) [ inl l ↦ h n l | inr r ↦ k n r ]

made-short : (m : Making) (fs : List plain.Formula) → AllShort fs → AllShort (made_of m fs)
made-short (OfOne p) (f ∷ fs) h = (subst AreShort (sym (prefix-atoms p f)) h.0, h.1)
made-short (OfTwo j) (g ∷ f ∷ fs) h = (both-short (atoms f) (atoms g) h.1.0 h.0, h.1.1)
made-short m fs h = h

none-short : AreShort []
none-short n h = absurd h

one-short : (m : Name) → length m ≤ most_name_bytes → AreShort (m ∷ [])
one-short m short n (inl e) = subst (λ (k : Name). length k ≤ most_name_bytes) (sym e) short
one-short m short n (inr none) = absurd none

took-short : (a : Account) (c : Class) (t : Token) → IsFor c t → (IsNameWord t → length t ≤ most_name_bytes) → AllShort a.operands → AllShort (took a c t).operands
took-short a class.IsTrue t x w h = (none-short, h)
took-short a class.IsFalse t x w h = (none-short, h)
took-short a class.IsAtom t x w h = (one-short t (w (subst IsNameWord x.1 (x.0).1)), h)
took-short a class.EndsItem t x w h = tt
took-short a class.EndsBridge t x w h = tt
took-short a c t x w h = h

pub heard-short : (a : Account) (t : Token) (xs : Events) → Filled (marks_for t xs) → (IsNameWord t → length t ≤ most_name_bytes) → AllShort a.operands → AllShort (heard a t xs).operands
heard-short a t [] f w h = h
heard-short a t (Took c ∷ xs) f w h = heard-short (took a c t) t xs f.1 w (took-short a c t f.0 w h)
heard-short a t (Told action.EndsRead ∷ xs) f w h = heard-short a t xs f.1 w h
heard-short a t (Told b ∷ xs) f w h = heard-short (told a b) t xs f.1 w (made-short (making b) a.operands h)

pub ended-short : (b : Bool) (a : Account) → AllShort a.operands → AllShort (ended_if b a).operands
ended-short false a h = h
ended-short true a h = at a.operands h
  where
    at : (fs : List plain.Formula) → AllShort fs → AllShort (told (record a { operands = fs }) action.EndsRead).operands
    at [] h = tt
    at (f ∷ fs) h = h.1

pub top-short : (fs : List plain.Formula) → AllShort fs → AreShort (atoms (top_of fs))
top-short [] h = none-short
top-short (f ∷ fs) h = h.0

-- ---- the read has the name with which it ends
abbrev pub HasAtom : Token → List plain.Formula → Type 0
HasAtom t fs = IsAmong t (atoms (top_of fs))

made-top : (t : Token) (m : Making) (fs : List plain.Formula) → HasAtom t fs → HasAtom t (made_of m fs)
made-top t (OfOne p) (f ∷ fs) h = subst (IsAmong t) (sym (prefix-atoms p f)) h
made-top t (OfTwo j) (g ∷ f ∷ fs) h = among_right t (atoms f) (atoms g) h
made-top t m fs h = h

pub joined-top : (t : Token) (a : Action) (fs : List plain.Formula) → HasAtom t fs → HasAtom t (joined a fs)
joined-top t a fs h = made-top t (making a) fs h

-- a belief that ends with a name ends with an atom
pub name-atom : (c : Class) (t : Token) → EndsBelief c → IsFor c t → IsNameWord t → c ≡ class.IsAtom
unfolding reserved_words
name-atom class.IsAtom t e x h = refl
name-atom class.IsTrue t e x h = absurd (true≢false (sym (subst IsNameWord (sym x.1) h)))
name-atom class.IsFalse t e x h = absurd (true≢false (sym (subst IsNameWord (sym x.1) h)))
name-atom class.ClosesParenthesis t e x h = absurd (true≢false (sym (subst IsNameWord (sym x.1) h)))
name-atom c t e x h = absurd (cc (e.2))
