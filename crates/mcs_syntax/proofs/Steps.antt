-- What stands next is taken apart: which texts are left.
use Rattle.std.proofs.Common.{◌≡◌, ℕ, List, [], ◌∷◌, ◌++◌, Option, Some, ◌⊎◌, inl, inr, refl, sym, ap, subst, ◌∙◌, append_assoc, append-nil}
use Rattle.mcs_syntax.specs.declared.part.Event.{Event}
use Rattle.mcs_syntax.specs.declared.part.Event.TheVariants.{Took, Told}
use Rattle.mcs_syntax.specs.Grammar.{Expr, Take, Say, Rule, Nothing, Then, Or, Maybe, Many, takes, says, by_rule, nothing, both, left, right, without, with_it, no_more, one_more, Grammar, tokens}
use Rattle.mcs_syntax.specs.Reads.{IsRead, HasRead, Turns, Leads, head_of}
use Rattle.mcs_syntax.proofs.Fronts.{Of, tokens-append}

module _ {C A N : Type 0} (g : Grammar C A N) where
  -- ---- what a text of an expression is made of
  pub nothing-inv : (xs : List (Event C A)) → Of g Nothing xs → xs ≡ []
  nothing-inv xs nothing = refl

  pub take-inv : (c : C) (xs : List (Event C A)) → Of g (Take c) xs → xs ≡ Took c ∷ []
  take-inv c xs (takes d) = refl

  say-inv : (a : A) (xs : List (Event C A)) → Of g (Say a) xs → xs ≡ Told a ∷ []
  say-inv a xs (says b) = refl

  pub rule-inv : (n : N) (xs : List (Event C A)) → Of g (Rule n) xs → Of g (g.rules n) xs
  rule-inv n zs (by_rule m xs t) = t

  pub then-inv : (e f : Expr C A N) (zs : List (Event C A)) → Of g (Then e f) zs → (xs : List (Event C A)) × (ys : List (Event C A)) × (zs ≡ xs ++ ys) × Of g e xs × Of g f ys
  then-inv e f zs (both a b xs ys m n) = (xs, ys, refl, m, n)

  or-inv : (a b : Expr C A N) (zs : List (Event C A)) → Of g (Or a b) zs → Of g a zs ⊎ Of g b zs
  or-inv a b zs (left e f xs m) = inl m
  or-inv a b zs (right e f xs m) = inr m

  maybe-inv : (a : Expr C A N) (zs : List (Event C A)) → Of g (Maybe a) zs → (zs ≡ []) ⊎ Of g a zs
  maybe-inv a zs (without e) = inl refl
  maybe-inv a zs (with_it e xs m) = inr m

  pub record More (a : Expr C A N) (zs : List (Event C A)) : Type 0 where
    pub one : List (Event C A)
    pub more : List (Event C A)
    pub whole : zs ≡ one ++ more
    pub means : Of g a one
    pub others : Of g (Many a) more

  many-inv : (a : Expr C A N) (zs : List (Event C A)) → Of g (Many a) zs → (zs ≡ []) ⊎ More a zs
  many-inv a zs (no_more e) = inl refl
  many-inv a zs (one_more e xs ys m n) = inr (record { one = xs; more = ys; whole = refl; means = m; others = n })

  -- a text of the first, then one of the others
  pub joined : (e r : Expr C A N) (zs xs ys : List (Event C A)) → zs ≡ xs ++ ys → Of g e xs → Of g r ys → Of g (Then e r) zs
  joined e r zs xs ys is m n = subst (Of g (Then e r)) (sym is) (both e r xs ys m n)

  dropped : (r : Expr C A N) (zs xs ys ws : List (Event C A)) → zs ≡ xs ++ ys → xs ≡ ws → zs ≡ ws ++ ys
  dropped r zs xs ys ws is e = is ∙ ap (λ l. l ++ ys) e

  -- ---- steps that no token decides
  unchanged : (s t : Expr C A N) (xs : List (Event C A)) → tokens g xs ≡ [] → ((ys : List (Event C A)) → Of g t ys → Of g s (xs ++ ys)) → ((zs : List (Event C A)) → Of g s zs → (ys : List (Event C A)) × (zs ≡ xs ++ ys) × Of g t ys) → HasRead g s [] xs t
  unchanged s t xs none go hold = record { tokens_are = none; goes_on = go; holds_all = λ zs more r. hold zs r.0 }

  pub say-read : (a : A) (r : Expr C A N) → HasRead g (Then (Say a) r) [] (Told a ∷ []) r
  say-read a r = unchanged (Then (Say a) r) r (Told a ∷ []) refl (λ ys m. both (Say a) r (Told a ∷ []) ys (says a) m) (λ zs m. let i = then-inv (Say a) r zs m in (i.1, dropped r zs i.0 i.1 (Told a ∷ []) i.2 (say-inv a i.0 i.3), i.4))

  pub nothing-read : (r : Expr C A N) → HasRead g (Then Nothing r) [] [] r
  nothing-read r = unchanged (Then Nothing r) r [] refl (λ ys m. both Nothing r [] ys nothing m) (λ zs m. let i = then-inv Nothing r zs m in (i.1, dropped r zs i.0 i.1 [] i.2 (nothing-inv i.0 i.3), i.4))

  pub then-read : (a b r : Expr C A N) → HasRead g (Then (Then a b) r) [] [] (Then a (Then b r))
  then-read a b r =
      unchanged (Then (Then a b) r) (Then a (Then b r)) [] refl
      (λ ys m.
      let i = then-inv a (Then b r) ys m in
      let j = then-inv b r i.1 i.4 in
      joined (Then a b) r ys (i.0 ++ j.0) j.1 (i.2 ∙ ap (λ l. i.0 ++ l) j.2 ∙ sym (append_assoc i.0 j.0 j.1)) (both a b i.0 j.0 i.3 j.3) j.4)
      (λ zs m.
      let i = then-inv (Then a b) r zs m in
      let j = then-inv a b i.0 i.3 in
      (zs, refl, joined a (Then b r) zs j.0 (j.1 ++ i.1) (i.2 ∙ ap (λ l. l ++ i.1) j.2 ∙ append_assoc j.0 j.1 i.1) j.3 (both b r j.1 i.1 j.4 i.4)))

  pub rule-read : (n : N) (r : Expr C A N) → HasRead g (Then (Rule n) r) [] [] (Then (g.rules n) r)
  rule-read n r =
      unchanged (Then (Rule n) r) (Then (g.rules n) r) [] refl
      (λ ys m. let i = then-inv (g.rules n) r ys m in joined (Rule n) r ys i.0 i.1 i.2 (by_rule n i.0 i.3) i.4)
      (λ zs m. let i = then-inv (Rule n) r zs m in (zs, refl, joined (g.rules n) r zs i.0 i.1 i.2 (rule-inv n i.0 i.3) i.4))

  pub take-read : (c : C) (r : Expr C A N) → HasRead g (Then (Take c) r) (g.wants c ∷ []) (Took c ∷ []) r
  take-read c r = record {
    tokens_are = refl;
    goes_on = λ ys m. both (Take c) r (Took c ∷ []) ys (takes c) m;
    holds_all = λ zs more t. let i = then-inv (Take c) r zs t.0 in (i.1, dropped r zs i.0 i.1 (Took c ∷ []) i.2 (take-inv c i.0 i.3), i.4);
  }

  -- ---- steps that the first token decides
  module _ (k : Option ℕ) where
    pub from-read : (s t : Expr C A N) (xs : List (Event C A)) → HasRead g s [] xs t → Turns g k s xs t
    from-read s t xs h = record { silent = h.tokens_are; goes_on = h.goes_on; holds_all = λ zs m is. h.holds_all zs (tokens g zs) (m, refl) }

    chosen : (s t : Expr C A N) → ((ys : List (Event C A)) → Of g t ys → Of g s ys) → ((zs : List (Event C A)) → Of g s zs → head_of (tokens g zs) ≡ k → Of g t zs) → Turns g k s [] t
    chosen s t go hold = record { silent = refl; goes_on = go; holds_all = λ zs m is. (zs, refl, hold zs m is) }

    -- no text with this first token
    abbrev pub Never : Expr C A N → Type 0
    Never e = (zs : List (Event C A)) → Of g e zs → head_of (tokens g zs) ≡ k → ⊥

    -- none of the two in turn, if the first is not empty
    abbrev pub NotIn : Expr C A N → Type 0
    NotIn a = (xs ys : List (Event C A)) → Of g a xs → head_of (tokens g (xs ++ ys)) ≡ k → ⊥

    module _ (a b r : Expr C A N) where
      pub or-left : Never (Then b r) → Turns g k (Then (Or a b) r) [] (Then a r)
      or-left off =
          chosen (Then (Or a b) r) (Then a r)
          (λ ys m. let i = then-inv a r ys m in joined (Or a b) r ys i.0 i.1 i.2 (left a b i.0 i.3) i.4)
          (λ zs m is.
          let i = then-inv (Or a b) r zs m in
          elim (or-inv a b i.0 i.3) [ inl t ↦ joined a r zs i.0 i.1 i.2 t i.4 | inr t ↦ absurd (off zs (joined b r zs i.0 i.1 i.2 t i.4) is) ])

      pub or-right : Never (Then a r) → Turns g k (Then (Or a b) r) [] (Then b r)
      or-right off =
          chosen (Then (Or a b) r) (Then b r)
          (λ ys m. let i = then-inv b r ys m in joined (Or a b) r ys i.0 i.1 i.2 (right a b i.0 i.3) i.4)
          (λ zs m is.
          let i = then-inv (Or a b) r zs m in
          elim (or-inv a b i.0 i.3) [ inl t ↦ absurd (off zs (joined a r zs i.0 i.1 i.2 t i.4) is) | inr t ↦ joined b r zs i.0 i.1 i.2 t i.4 ])

    module _ (a r : Expr C A N) where
      left-out : (zs xs ys : List (Event C A)) → zs ≡ xs ++ ys → xs ≡ [] → Of g r ys → Of g r zs
      left-out zs xs ys is none m = subst (Of g r) (sym (dropped r zs xs ys [] is none)) m

      head-is : (zs xs ys : List (Event C A)) → zs ≡ xs ++ ys → head_of (tokens g zs) ≡ k → head_of (tokens g (xs ++ ys)) ≡ k
      head-is zs xs ys is e = ap (λ l. head_of (tokens g l)) (sym is) ∙ e

      pub maybe-in : Never r → Turns g k (Then (Maybe a) r) [] (Then a r)
      maybe-in off =
          chosen (Then (Maybe a) r) (Then a r)
          (λ ys m. let i = then-inv a r ys m in joined (Maybe a) r ys i.0 i.1 i.2 (with_it a i.0 i.3) i.4)
          (λ zs m is.
          let i = then-inv (Maybe a) r zs m in
          elim (maybe-inv a i.0 i.3) [ inl none ↦ absurd (off zs (left-out zs i.0 i.1 i.2 none i.4) is) | inr t ↦ joined a r zs i.0 i.1 i.2 t i.4 ])

      pub maybe-out : NotIn a → Turns g k (Then (Maybe a) r) [] r
      maybe-out off =
          chosen (Then (Maybe a) r) r
          (λ ys m. both (Maybe a) r [] ys (without a) m)
          (λ zs m is.
          let i = then-inv (Maybe a) r zs m in
          elim (maybe-inv a i.0 i.3) [ inl none ↦ left-out zs i.0 i.1 i.2 none i.4 | inr t ↦ absurd (off i.0 i.1 t (head-is zs i.0 i.1 i.2 is)) ])

      pub many-in : Never r → Turns g k (Then (Many a) r) [] (Then a (Then (Many a) r))
      many-in off =
          chosen (Then (Many a) r) (Then a (Then (Many a) r))
          (λ ys m.
          let i = then-inv a (Then (Many a) r) ys m in
          let j = then-inv (Many a) r i.1 i.4 in
          joined (Many a) r ys (i.0 ++ j.0) j.1 (i.2 ∙ ap (λ l. i.0 ++ l) j.2 ∙ sym (append_assoc i.0 j.0 j.1)) (one_more a i.0 j.0 i.3 j.3) j.4)
          (λ zs m is.
          let i = then-inv (Many a) r zs m in
          elim (many-inv a i.0 i.3) [
            | inl none ↦ absurd (off zs (left-out zs i.0 i.1 i.2 none i.4) is)
            | inr t ↦ joined a (Then (Many a) r) zs t.one (t.more ++ i.1) (i.2 ∙ ap (λ l. l ++ i.1) t.whole ∙ append_assoc t.one t.more i.1) t.means (both (Many a) r t.more i.1 t.others i.4)
          ])

      pub many-out : NotIn a → Turns g k (Then (Many a) r) [] r
      many-out off =
          chosen (Then (Many a) r) r
          (λ ys m. both (Many a) r [] ys (no_more a) m)
          (λ zs m is.
          let i = then-inv (Many a) r zs m in
          elim (many-inv a i.0 i.3) [
            | inl none ↦ left-out zs i.0 i.1 i.2 none i.4
            | inr t ↦ absurd (off t.one (t.more ++ i.1) t.means (head-is zs t.one (t.more ++ i.1) (i.2 ∙ ap (λ l. l ++ i.1) t.whole ∙ append_assoc t.one t.more i.1) is))
          ])

    -- ---- one step after another
    after-silent : (zs xs ys : List (Event C A)) → tokens g xs ≡ [] → zs ≡ xs ++ ys → tokens g zs ≡ tokens g ys
    after-silent zs xs ys none is = ap (tokens g) is ∙ tokens-append g xs ys ∙ ap (λ l. l ++ tokens g ys) none

    pub turns-none : (s : Expr C A N) → Turns g k s [] s
    turns-none s = record { silent = refl; goes_on = λ ys m. m; holds_all = λ zs m is. (zs, refl, m) }

    module _ (s t : Expr C A N) (xs : List (Event C A)) (p : Turns g k s xs t) where
      pub turns-more : (u : Expr C A N) (ys : List (Event C A)) → Turns g k t ys u → Turns g k s (xs ++ ys) u
      turns-more u ys q = record {
        silent = tokens-append g xs ys ∙ ap (λ l. l ++ tokens g ys) p.silent ∙ q.silent;
        goes_on = λ zs m. subst (Of g s) (sym (append_assoc xs ys zs)) (p.goes_on (ys ++ zs) (q.goes_on zs m));
        holds_all = λ zs m is.
            let v = p.holds_all zs m is in
            let w = q.holds_all v.0 v.2 (ap head_of (sym (after-silent zs xs v.0 p.silent v.1)) ∙ is) in
            (w.0, v.1 ∙ ap (λ l. xs ++ l) w.1 ∙ sym (append_assoc xs ys w.0), w.2);
      }

      pub leads-on : Leads g s k → Leads g t k
      leads-on l = let v = p.holds_all l.0 l.1 l.2 in (v.0, v.2, ap head_of (sym (after-silent l.0 xs v.0 p.silent v.1)) ∙ l.2)

      pub turns-read : (d : ℕ) (u : Expr C A N) (ys : List (Event C A)) → k ≡ Some d → HasRead g t (d ∷ []) ys u → HasRead g s (d ∷ []) (xs ++ ys) u
      turns-read d u ys one q = record {
        tokens_are = tokens-append g xs ys ∙ ap (λ l. l ++ tokens g ys) p.silent ∙ q.tokens_are;
        goes_on = λ zs m. subst (Of g s) (sym (append_assoc xs ys zs)) (p.goes_on (ys ++ zs) (q.goes_on zs m));
        holds_all = λ zs more r.
            let v = p.holds_all zs r.0 (ap head_of r.1 ∙ sym one) in
            let w = q.holds_all v.0 more (v.2, sym (after-silent zs xs v.0 p.silent v.1) ∙ r.1) in
            (w.0, v.1 ∙ ap (λ l. xs ++ l) w.1 ∙ sym (append_assoc xs ys w.0), w.2);
      }

  pub turns-end : (k : Option ℕ) (s : Expr C A N) (xs : List (Event C A)) → Turns g k s xs Nothing → IsRead g s [] xs
  turns-end k s xs p = (subst (Of g s) (append-nil xs) (p.goes_on [] nothing), p.silent)
