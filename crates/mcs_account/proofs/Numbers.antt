-- The contexts of a text by their numbers.
use Rattle.std.proofs.Common.{◌≡◌, ℕ, Bool, true, false, List, [], ◌∷◌, ◌++◌, map, length, Option, Some, None, refl, sym, ap, ◌∙◌, inl, inr, append_assoc, append-nil}
use Rattle.std.specs.Prelude.{slice_get}
use Rattle.std.proofs.lemmas.List.{map-append}
use Rattle.mcs_base.proofs.Lists.{slice_get_kept, slice_get_seam}
use Rattle.mcs_system.specs.Plain.{Name}
use Rattle.mcs_system.specs.Plain as plain
use Rattle.mcs_grammar.specs.Entries.{Token, Use}
use Rattle.mcs_productions.specs.declared.class.Class.{Class}
use Rattle.mcs_productions.specs.declared.class.Class.TheVariants as class
use Rattle.mcs_account.specs.declared.place.Place as code_place
use Rattle.mcs_account.specs.Account.{Account, Place, place_after, own_uses, uses_at, uses_with, in_last, with_kb, with_item, of_kind, took, read_added}
use Rattle.mcs_account.specs.Items.{kind_said}
use Rattle.mcs_account.specs.Images.{context_chosen, target_chosen}
use Rattle.mcs_account.specs.Reading.{ended_if}
use Rattle.mcs_account.specs.Turns.{comes, named_after}
use Rattle.mcs_account.specs.Known.{IsKnown, context_named, contexts_named, names_in, AreNumbers}

-- the name that a token introduces
abbrev pub introduced : Class → Token → List Name
introduced class.NamesContext t = t ∷ []
introduced c t = []

-- ---- in the account
last-names : (f : plain.Context → plain.Context) → ((c : plain.Context) → (f c).name ≡ c.name) → (cs : List plain.Context) → map (λ (c : plain.Context). c.name) (in_last f cs) ≡ map (λ (c : plain.Context). c.name) cs
last-names f h [] = refl
last-names f h (c ∷ []) = ap (λ (n : Name). n ∷ []) (h c)
last-names f h (c ∷ d ∷ cs) = ap (λ (ns : List Name). c.name ∷ ns) (last-names f h (d ∷ cs))

kind-names : (k : Option plain.Kind) (a : Account) → names_in (of_kind k a) ≡ names_in a
kind-names None a = refl
kind-names (Some k) a = last-names (with_kb (plain.OfKind k [])) (λ c. refl) a.contexts

pub took-names : (a : Account) (c : Class) (t : Token) → names_in (took a c t) ≡ names_in a ++ introduced c t
took-names a class.NamesContext t = map-append (λ (c : plain.Context). c.name) a.contexts (record { name = t; kb = plain.Classical [] } ∷ [])
took-names a class.EndsItem t = last-names (with_item a.operands a.rule) (λ c. refl) a.contexts ∙ sym (append-nil (names_in a))
took-names a c t = kind-names (kind_said c) a ∙ sym (append-nil (names_in a))

pub ended-names : (b : Bool) (a : Account) → names_in (ended_if b a) ≡ names_in a
ended-names false a = refl
ended-names true a = at a.operands
  where
    at : (fs : List plain.Formula) → names_in (read_added a fs) ≡ names_in a
    at [] = refl
    at (f ∷ fs) = refl

-- ---- in what the token is there for
named-append : (us vs : List Use) → contexts_named (us ++ vs) ≡ contexts_named us ++ contexts_named vs
named-append [] vs = refl
named-append (u ∷ us) vs = ap (λ (ns : List Name). context_named u ++ ns) (named-append us vs) ∙ sym (append_assoc (context_named u) (contexts_named us) (contexts_named vs))

own-names : (p : Place) (c : Class) (t : Token) → contexts_named (own_uses p c t) ≡ introduced c t
own-names p class.NamesContext t = refl
own-names p c t = refl

begins-names : (before : List Use) (n : Bool) (p : Place) → IsKnown before n p → contexts_named p.begins ≡ []
begins-names before n p h = elim h.begins [
  | inl none ↦ ap contexts_named none
  | inr some ↦ elim some.1 [ inl item ↦ ap contexts_named item | inr belief ↦ ap contexts_named belief ]
]

at-names : (before : List Use) (n : Bool) (p : Place) → IsKnown before n p → (c : Class) (t : Token) → contexts_named (uses_at p c t) ≡ introduced c t
at-names before n p h class.ClosesItems t = refl
at-names before n p h c t = named-append p.begins (own_uses p c t) ∙ ap (λ (ns : List Name). ns ++ contexts_named (own_uses p c t)) (begins-names before n p h) ∙ own-names p c t

pub uses-names : (before : List Use) (n : Bool) (p : Place) → IsKnown before n p → (b : Bool) (c : Class) (t : Token) (f : plain.Formula) → contexts_named (uses_with b p c t f) ≡ introduced c t
uses-names before n p h false c t f = at-names before n p h c t
uses-names before n p h true c t f = at-names before n p h c t

pub more-names : (us vs : List Use) (names more : List Name) → names ≡ contexts_named us → contexts_named vs ≡ more → names ++ more ≡ contexts_named (us ++ vs)
more-names us vs names more e h = ap (λ (ns : List Name). ns ++ more) e ∙ ap (λ (ns : List Name). contexts_named us ++ ns) (sym h) ∙ sym (named-append us vs)

-- ---- the numbers after a token
-- the token's name has this number, if it is the name of a context
abbrev pub IsNumbered : List Name → Class → Token → ℕ → Type 0
IsNumbered names class.NamesContext t number = number ≡ length names
IsNumbered names class.NamesTarget t number = slice_get names number ≡ Some t
IsNumbered names class.NamesSource t number = slice_get names number ≡ Some t
IsNumbered names c t number = Unit {0}

true-false : (b : Bool) → b ≡ true → b ≡ false → ⊥
true-false b e h = absurd (cc)

module _ (names : List Name) (n : Bool) (p : Place) (old now : code_place.Place) (t : Token) (number : ℕ) (h : AreNumbers names n p old) where
  pub numbers-after : (c : Class) → comes c n ≡ true → IsNumbered names c t number → now.context ≡ context_chosen c number old.context → now.target ≡ target_chosen c number old.target
      → AreNumbers (names ++ introduced c t) (named_after c n) (place_after p c t) now
  numbers-after class.NamesContext e is x y = record {
    context = λ _. ap (slice_get (names ++ t ∷ [])) x ∙ slice_get_seam names t [] number is;
    target = λ _. ap (slice_get (names ++ t ∷ [])) y ∙ slice_get_seam names t [] number is;
    none = λ f. absurd (cc);
  }
  numbers-after class.NamesTarget e is x y = record {
    context = λ _. ap (slice_get (names ++ [])) x ∙ slice_get_kept names [] number t is;
    target = λ _. ap (slice_get (names ++ [])) y ∙ slice_get_kept names [] number t is;
    none = λ f. absurd (cc);
  }
  numbers-after class.NamesSource e is x y = record {
    context = λ _. ap (slice_get (names ++ [])) x ∙ slice_get_kept names [] number t is;
    target = λ i. ap (slice_get (names ++ [])) y ∙ slice_get_kept names [] old.target p.target (h.target i);
    none = λ f. absurd (true-false n e f);
  }
  numbers-after c e is x y = record {
    context = λ i. ap (slice_get (names ++ [])) x ∙ slice_get_kept names [] old.context p.context (h.context i);
    target = λ i. ap (slice_get (names ++ [])) y ∙ slice_get_kept names [] old.target p.target (h.target i);
    none = λ f. let k = h.none f in (append-nil names ∙ k.0, x ∙ k.1, y ∙ k.2);
  }
