-- The contexts that a text speaks of were named before.
use Rattle.std.proofs.Common.{◌≡◌, ℕ, ◌+◌, Bool, true, false, List, [], ◌∷◌, ◌++◌, refl, sym, subst, inl, inr, ◌⊎◌}
use Rattle.std.specs.List.{AllByRecursion}
use Rattle.mcs_base.specs.Listings.{IsAmong}
use Rattle.mcs_base.proofs.Among.{among_left, among_right}
use Rattle.mcs_system.specs.Plain.{Name}
use Rattle.mcs_system.specs.Plain as plain
use Rattle.mcs_grammar.specs.Entries.{Token, Use, NamesContext, NamesTarget, NamesSource, EndsRead, IsNumber, Entry}
use Rattle.mcs_grammar.specs.Faults.{TextFault, NoContext, Has}
use Rattle.mcs_productions.specs.declared.class.Class.{Class}
use Rattle.mcs_productions.specs.declared.class.Class.TheVariants as class
use Rattle.mcs_account.specs.Items.{is_counted}
use Rattle.mcs_account.specs.Account.{Place, place_after, own_uses, uses_at, when, uses_with}
use Rattle.mcs_account.specs.Images.{WasNamed, IsSpokenOf}
use Rattle.mcs_account.specs.Known.{IsKnown}
use Rattle.mcs_account.specs.Turns.{comes, named_after}
use Rattle.mcs_account.proofs.ReadEnds.{EndsBelief}

-- ---- where a text is
abbrev AreSpoken : List Use → List Use → Type 0
AreSpoken before us = AllByRecursion (IsSpokenOf before) us

both-spoken : (before us vs : List Use) → AreSpoken before us → AreSpoken before vs → AreSpoken before (us ++ vs)
both-spoken before [] vs h k = k
both-spoken before (u ∷ us) vs h k = (h.0, both-spoken before us vs h.1 k)

module _ (before : List Use) (n : Bool) (p : Place) (h : IsKnown before n p) where
  begins-spoken : AreSpoken before p.begins
  begins-spoken = elim h.begins [
    | inl none ↦ subst (AreSpoken before) (sym none) tt
    | inr some ↦ elim some.1 [
      | inl item ↦ subst (AreSpoken before) (sym item) ((h.contexts some.0).0, tt)
      | inr belief ↦ subst (AreSpoken before) (sym belief) ((h.contexts some.0).0, tt)
    ]
  ]

  number-spoken : (b : Bool) (k : ℕ) → AreSpoken before (when b (IsNumber k))
  number-spoken true k = (tt, tt)
  number-spoken false k = tt

  own-spoken : (c : Class) (t : Token) → comes c n ≡ true → AreSpoken before (own_uses p c t)
  own-spoken class.SaysProgram t e = ((h.contexts e).0, tt)
  own-spoken class.BeginsDefault t e = ((h.contexts e).0, tt)
  own-spoken class.IsHeadAtom t e = ((h.contexts e).0, (tt, tt))
  own-spoken class.IsBodyAtom t e = ((h.contexts e).0, (tt, tt))
  own-spoken class.IsAtom t e = ((h.contexts e).0, (tt, tt))
  own-spoken class.BeginsContext t e = (tt, tt)
  own-spoken class.NamesContext t e = (tt, tt)
  own-spoken class.BeginsBridge t e = (tt, tt)
  own-spoken class.NamesBridge t e = (tt, tt)
  own-spoken class.Weighs t e = (tt, tt)
  own-spoken class.WeighsTwo t e = (tt, tt)
  own-spoken class.NamesTarget t e = (tt, tt)
  own-spoken class.NamesSource t e = (tt, tt)
  own-spoken class.OpensParenthesis t e = (tt, tt)
  own-spoken c t e = number-spoken (is_counted c) (p.counted + 1)

  at-spoken : (c : Class) (t : Token) → comes c n ≡ true → AreSpoken before (uses_at p c t)
  at-spoken class.ClosesItems t e = tt
  at-spoken c t e = both-spoken before p.begins (own_uses p c t) begins-spoken (own-spoken c t e)

  -- the belief of a read ends with it
  pub ends-named : (c : Class) → EndsBelief c → comes c n ≡ true → n ≡ true
  ends-named class.IsTrue w e = e
  ends-named class.IsFalse w e = e
  ends-named class.IsAtom w e = e
  ends-named class.ClosesParenthesis w e = e
  ends-named c w e = absurd (cc (w.2))

  pub uses-spoken : (b : Bool) (c : Class) (t : Token) (f : plain.Formula) → comes c n ≡ true → (b ≡ true → EndsBelief c) → AreSpoken before (uses_with b p c t f)
  uses-spoken false c t f e w = at-spoken c t e
  uses-spoken true c t f e w = let there = h.contexts (ends-named c (w refl) e) in ((there.1, there.0), at-spoken c t e)

-- ---- after a token without a fault
module _ (before us : List Use) (n : Bool) (p : Place) (t : Token) (h : IsKnown before n p) where
  later : (d : Name) → WasNamed before d → WasNamed (before ++ us) d
  later d k = among_left (NamesContext d) before us k

  both-later : n ≡ true → WasNamed (before ++ us) p.context × WasNamed (before ++ us) p.target
  both-later e = let k = h.contexts e in (later p.context k.0, later p.target k.1)

  -- the names that the token has for contexts
  abbrev pub AreNames : Class → Type 0
  AreNames class.NamesContext = IsAmong (NamesContext t) us
  AreNames class.NamesTarget = WasNamed before t
  AreNames class.NamesSource = WasNamed before t
  AreNames c = Unit {0}

  pub known-after : (c : Class) → comes c n ≡ true → AreNames c → IsKnown (before ++ us) (named_after c n) (place_after p c t)
  known-after class.NamesContext e k = record { contexts = λ _. (among_right (NamesContext t) before us k, among_right (NamesContext t) before us k); begins = inl refl }
  known-after class.NamesTarget e k = record { contexts = λ _. (later t k, later t k); begins = inl refl }
  known-after class.NamesSource e k = record { contexts = λ i. (later t k, (both-later i).1); begins = inl refl }
  known-after class.OpensItems e k = record { contexts = both-later; begins = inr (e, inl refl) }
  known-after class.EndsItem e k = record { contexts = both-later; begins = inr (e, inl refl) }
  known-after class.BeginsBelief e k = record { contexts = both-later; begins = inr (e, inr refl) }
  known-after c e k = record { contexts = both-later; begins = inl refl }

-- they are so where the token has no fault
module _ (before : List Use) (n : Bool) (p : Place) (m : Entry) (b : Bool) (t : Token) (f : plain.Formula) (h : IsKnown before n p) (known : (c : Name) → WasNamed before c ⊎ (¬ WasNamed before c)) (free : (g : TextFault) → ¬ Has g before m) where
  named-unless : ¬ ¬ WasNamed before t → WasNamed before t
  named-unless unless = elim (known t) [ inl h ↦ h | inr none ↦ absurd (unless none) ]

  among-own : (u : Use) → m.uses ≡ when b (EndsRead p.target p.context f) ++ (p.begins ++ u ∷ []) → IsAmong u m.uses
  among-own u uses = rw uses (among_right u (when b (EndsRead p.target p.context f)) _ (among_right u p.begins (u ∷ []) (inl refl)))

  pub are-names : (c : Class) → m.uses ≡ uses_with b p c t f → AreNames before m.uses n p t h c
  are-names class.NamesContext uses = among-own (NamesContext t) uses
  are-names class.NamesTarget uses = named-unless (λ none. free NoContext (t, inl (among-own (NamesTarget t) uses), none))
  are-names class.NamesSource uses = named-unless (λ none. free NoContext (t, inr (among-own (NamesSource t) uses), none))
  are-names c uses = tt
