-- The first token tells what to do, where the grammar fits.
use Rattle.std.proofs.Common.{◌≡◌, ℕ, Bool, true, false, not, ◌&&◌, ◌||◌, List, [], ◌∷◌, ◌++◌, Option, Some, None, inl, inr, refl, sym, ap, ◌∙◌, true≢false}
use Rattle.mcs_sets.specs.Sets.{has, union}
use Rattle.mcs_syntax.specs.declared.part.Event.{Event}
use Rattle.mcs_syntax.specs.declared.front.Front.{Front}
use Rattle.mcs_syntax.specs.Grammar.{Expr, Take, Say, Rule, Nothing, Then, Or, Maybe, Many, Grammar, IsReadable, before, apart, in_turn, or_nothing, front, fits, tokens}
use Rattle.mcs_syntax.specs.Reads.{Turns, head_of, starts, begun}
use Rattle.mcs_syntax.proofs.Options.{and-parts, not-both, not-one, or-cases, left-or, right-or, both-and}
use Rattle.mcs_syntax.proofs.KindSets.{none-in, union-cases, left-union, right-union, given-parts, both-given, apart-is, apart-within, minus-within, within-minus, before-grows}
use Rattle.mcs_syntax.proofs.Fronts.{Heads, Of, tokens-append, heads, start-of}
use Rattle.mcs_syntax.proofs.Steps.{Never, NotIn, or-left, or-right}

-- ---- two ways with one first token
-- p and q: the two ways; u: what comes after both, of which the kinds are in s
module _ (p q u : Front) (s : ℕ) (sub : (d : ℕ) → has u.first d ≡ true → has s d ≡ true) where
  abbrev pub AreApart : Type 0
  AreApart = (apart (before p s) (before q s) && not (p.is_null && q.is_null)) ≡ true

  pub not-two : AreApart → (k : Option ℕ) → starts k (in_turn p u) ≡ true → starts k (in_turn q u) ≡ true → ⊥
  not-two f None i j = not-both p.is_null q.is_null (and-parts _ _ f).1 (and-parts p.is_null _ i).0 (and-parts q.is_null _ j).0
  not-two f (Some d) i j = apart-is (before p s) (before q s) d (and-parts _ _ f).0 (before-grows p u.first s sub d i) (before-grows q u.first s sub d j)

  -- how the code chooses
  abbrev pub chooses : Option ℕ → Bool
  chooses k = begun k p || (p.is_null && not (begun k q))

  pub first-chosen : AreApart → (k : Option ℕ) → chooses k ≡ true → starts k (in_turn q u) ≡ true → ⊥
  first-chosen f None c j = not-both p.is_null q.is_null (and-parts _ _ f).1 (and-parts p.is_null _ c).0 (and-parts q.is_null _ j).0
  first-chosen f (Some d) c j = elim (or-cases (has p.first d) _ c) [
    | inl l ↦ apart-is (before p s) (before q s) d (and-parts _ _ f).0 (left-union p.first _ d l) (before-grows q u.first s sub d j)
    | inr r ↦
        let w = and-parts p.is_null _ r in
        elim (union-cases q.first _ d j) [
          | inl l ↦ absurd (not-one (has q.first d) w.1 l)
          | inr l ↦ not-both p.is_null q.is_null (and-parts _ _ f).1 w.0 (given-parts q.is_null u.first d l).0
        ]
  ]

  pub second-chosen : AreApart → (k : Option ℕ) → chooses k ≡ false → starts k (in_turn p u) ≡ true → ⊥
  second-chosen f None c i = true≢false (sym (both-and p.is_null true (and-parts p.is_null _ i).0 refl) ∙ c)
  second-chosen f (Some d) c i = elim (union-cases p.first _ d i) [
    | inl l ↦ true≢false (sym (left-or (has p.first d) _ l) ∙ c)
    | inr r ↦
        let w = given-parts p.is_null u.first d r in
        at (has q.first d) refl w.0 w.1
  ]
    where
      at : (b : Bool) → has q.first d ≡ b → p.is_null ≡ true → has u.first d ≡ true → ⊥
      at true e n m = apart-is (before p s) (before q s) d (and-parts _ _ f).0 (right-union p.first _ d (both-given p.is_null s d n (sub d m))) (left-union q.first _ d e)
      at false e n m = true≢false (sym (right-or (has p.first d) _ (both-and p.is_null _ n (ap not e))) ∙ c)

-- ---- a way or none
module _ (p u : Front) (s : ℕ) (sub : (d : ℕ) → has u.first d ≡ true → has s d ≡ true) (f : (apart p.first s && not p.is_null) ≡ true) where
  pub not-after : (k : Option ℕ) → begun k p ≡ true → starts k u ≡ true → ⊥
  not-after None b i = true≢false (sym b)
  not-after (Some d) b i = apart-is p.first s d (and-parts _ _ f).0 b (sub d i)

  pub not-begun : (k : Option ℕ) (ts us : List ℕ) → begun k p ≡ false → Heads p ts → head_of (ts ++ us) ≡ k → ⊥
  not-begun k [] us b a is = not-one p.is_null (and-parts _ _ f).1 a
  not-begun None (d ∷ w) us b a is = absurd (cc)
  not-begun (Some e) (d ∷ w) us b a is = let same : d ≡ e = cc in true≢false (sym a ∙ ap (has p.first) same ∙ b)

  pub has-begun : (k : Option ℕ) (ts us : List ℕ) → Heads p ts → head_of (ts ++ us) ≡ k → begun k p ≡ true
  has-begun k [] us a is = absurd (not-one p.is_null (and-parts _ _ f).1 a)
  has-begun None (d ∷ w) us a is = absurd (cc)
  has-begun (Some e) (d ∷ w) us a is = let same : d ≡ e = cc in ap (has p.first) (sym same) ∙ a

module _ {C A N : Type 0} (g : Grammar C A N) where
  -- ---- what fits where more may come after fits where less may
  pub fits-less : (e : Expr C A N) (s t : ℕ) → ((d : ℕ) → has s d ≡ true → has t d ≡ true) → fits g t e ≡ true → fits g s e ≡ true
  fits-less (Take c) s t i f = refl
  fits-less (Say a) s t i f = refl
  fits-less (Rule n) s t i f = within-minus s (g.after n) (λ d m. minus-within t (g.after n) d f (i d m))
  fits-less Nothing s t i f = refl
  fits-less (Then a b) s t i f =
      let w = and-parts (fits g (before (front g b) t) a) _ f in
      both-and _ _ (fits-less a (before (front g b) s) (before (front g b) t) (before-grows (front g b) s t i) w.0) (fits-less b s t i w.1)
  fits-less (Or a b) s t i f =
      let w = and-parts (apart (before (front g a) t) (before (front g b) t) && not ((front g a).is_null && (front g b).is_null)) _ f in
      let v = and-parts (apart (before (front g a) t) (before (front g b) t)) _ w.0 in
      let u = and-parts (fits g t a) _ w.1 in
      both-and _ _ (both-and _ _ (apart-within _ _ _ _ (before-grows (front g a) s t i) (before-grows (front g b) s t i) v.0) v.1) (both-and _ _ (fits-less a s t i u.0) (fits-less b s t i u.1))
  fits-less (Maybe a) s t i f =
      let w = and-parts (apart (front g a).first t && not (front g a).is_null) _ f in
      let v = and-parts (apart (front g a).first t) _ w.0 in
      both-and _ _ (both-and _ _ (apart-within (front g a).first t (front g a).first s (λ d m. m) i v.0) v.1) (fits-less a s t i w.1)
  fits-less (Many a) s t i f =
      let w = and-parts (apart (front g a).first t && not (front g a).is_null) _ f in
      let v = and-parts (apart (front g a).first t) _ w.0 in
      both-and _ _ (both-and _ _ (apart-within (front g a).first t (front g a).first s (λ d m. m) i v.0) v.1) (fits-less a _ _ (more (front g a).first) w.1)
    where
      more : (q : ℕ) (d : ℕ) → has (union q s) d ≡ true → has (union q t) d ≡ true
      more q d m = elim (union-cases q s d m) [ inl l ↦ left-union q t d l | inr r ↦ right-union q t d (i d r) ]

  -- ---- what stands next above the rest, where nothing comes after
  -- what the rest begins with may come after
  pub rest-within : (r : Expr C A N) (d : ℕ) → has (front g r).first d ≡ true → has (before (front g r) 0) d ≡ true
  rest-within r d m = left-union (front g r).first _ d m

  pub top-fits : (e r : Expr C A N) → fits g 0 (Then e r) ≡ true → (fits g (before (front g r) 0) e ≡ true) × (fits g 0 r ≡ true)
  top-fits e r f = and-parts (fits g (before (front g r) 0) e) _ f

  -- what begins with the next and then the rest begins with what begins the next, and then the rest
  turn-within : (q u : Front) (d : ℕ) → has (before (in_turn q u) 0) d ≡ true → has (before q (before u 0)) d ≡ true
  turn-within q u d m = elim (union-cases (before q u.first) _ d m) [
    | inl l ↦ before-grows q u.first (before u 0) (λ k. left-union u.first _ k) d l
    | inr r ↦ absurd (none-in d (given-parts (q.is_null && u.is_null) 0 d r).1)
  ]

  pub then-fits : (a b r : Expr C A N) → fits g 0 (Then (Then a b) r) ≡ true → fits g 0 (Then a (Then b r)) ≡ true
  then-fits a b r f =
      let w = top-fits (Then a b) r f in
      let v = and-parts (fits g (before (front g b) (before (front g r) 0)) a) _ w.0 in
      both-and _ _ (fits-less a _ _ (turn-within (front g b) (front g r)) v.0) (both-and _ _ v.1 w.1)

  pub or-fits : (a b r : Expr C A N) → fits g 0 (Then (Or a b) r) ≡ true → (fits g 0 (Then a r) ≡ true) × (fits g 0 (Then b r) ≡ true)
  or-fits a b r f =
      let w = top-fits (Or a b) r f in
      let v = and-parts (fits g (before (front g r) 0) a) _ (and-parts _ _ w.0).1 in
      (both-and _ _ v.0 w.1, both-and _ _ v.1 w.1)

  pub maybe-fits : (a r : Expr C A N) → fits g 0 (Then (Maybe a) r) ≡ true → fits g 0 (Then a r) ≡ true
  maybe-fits a r f = let w = top-fits (Maybe a) r f in both-and _ _ (and-parts _ _ w.0).1 w.1

  pub many-fits : (a r : Expr C A N) → fits g 0 (Then (Many a) r) ≡ true → fits g 0 (Then a (Then (Many a) r)) ≡ true
  many-fits a r f =
      let w = top-fits (Many a) r f in
      both-and _ _ (fits-less a _ _ within (and-parts _ _ w.0).1) (both-and _ _ w.0 w.1)
    where
      within : (d : ℕ) → has (before (in_turn (or_nothing (front g a)) (front g r)) 0) d ≡ true → has (union (front g a).first (before (front g r) 0)) d ≡ true
      within d m = turn-within (or_nothing (front g a)) (front g r) d m

  pub rule-fits : IsReadable g → (n : N) (r : Expr C A N) → fits g 0 (Then (Rule n) r) ≡ true → fits g 0 (Then (g.rules n) r) ≡ true
  rule-fits h n r f =
      let w = top-fits (Rule n) r f in
      both-and _ _ (fits-less (g.rules n) (before (front g r) 0) (g.after n) (λ d m. minus-within (before (front g r) 0) (g.after n) d w.0 m) (and-parts (fits g (g.after n) (g.rules n)) _ (h.tested n)).0) w.1

  -- a rule alone
  pub nothing-before : (d : ℕ) → has (before (front g Nothing) 0) d ≡ true → ⊥
  nothing-before d m = elim (union-cases 0 0 d m) [ inl l ↦ none-in d l | inr l ↦ none-in d l ]

  pub start-fits : IsReadable g → (n : N) → fits g 0 (Then (g.rules n) Nothing) ≡ true
  start-fits h n = both-and _ _ (fits-less (g.rules n) (before (front g Nothing) 0) (g.after n) (λ d m. absurd (nothing-before d m)) (and-parts (fits g (g.after n) (g.rules n)) _ (h.tested n)).0) refl

  -- ---- which way no text goes
  module _ (h : IsReadable g) (k : Option ℕ) where
    module _ (a b r : Expr C A N) (f : fits g 0 (Then (Or a b) r) ≡ true) where
      two : AreApart (front g a) (front g b) (front g r) (before (front g r) 0) (rest-within r)
      two = (and-parts _ _ (top-fits (Or a b) r f).0).0

      pub left-chosen : chooses (front g a) (front g b) (front g r) (before (front g r) 0) (rest-within r) k ≡ true → Turns g k (Then (Or a b) r) [] (Then a r)
      left-chosen c = or-left g k a b r (λ zs m is. first-chosen (front g a) (front g b) (front g r) _ (rest-within r) two k c (start-of g h (Then b r) zs k m is))

      pub right-chosen : chooses (front g a) (front g b) (front g r) (before (front g r) 0) (rest-within r) k ≡ false → Turns g k (Then (Or a b) r) [] (Then b r)
      right-chosen c = or-right g k a b r (λ zs m is. second-chosen (front g a) (front g b) (front g r) _ (rest-within r) two k c (start-of g h (Then a r) zs k m is))

      pub left-only : starts k (front g (Then a r)) ≡ true → Turns g k (Then (Or a b) r) [] (Then a r)
      left-only i = or-left g k a b r (λ zs m is. not-two (front g a) (front g b) (front g r) _ (rest-within r) two k i (start-of g h (Then b r) zs k m is))

      pub right-only : starts k (front g (Then b r)) ≡ true → Turns g k (Then (Or a b) r) [] (Then b r)
      right-only i = or-right g k a b r (λ zs m is. not-two (front g a) (front g b) (front g r) _ (rest-within r) two k (start-of g h (Then a r) zs k m is) i)

    module _ (a r : Expr C A N) (f : (apart (front g a).first (before (front g r) 0) && not (front g a).is_null) ≡ true) where
      pub never-after : begun k (front g a) ≡ true → Never g k r
      never-after b zs m is = not-after (front g a) (front g r) _ (rest-within r) f k b (start-of g h r zs k m is)

      pub not-in : begun k (front g a) ≡ false → NotIn g k a
      not-in b xs ys m is = not-begun (front g a) (front g r) _ (rest-within r) f k (tokens g xs) (tokens g ys) b (heads g h a xs m) (ap head_of (sym (tokens-append g xs ys)) ∙ is)

      pub is-begun : (xs ys : List (Event C A)) → Of g a xs → head_of (tokens g (xs ++ ys)) ≡ k → begun k (front g a) ≡ true
      is-begun xs ys m is = has-begun (front g a) (front g r) _ (rest-within r) f k (tokens g xs) (tokens g ys) (heads g h a xs m) (ap head_of (sym (tokens-append g xs ys)) ∙ is)

      pub not-started : starts k (front g r) ≡ true → NotIn g k a
      not-started i xs ys m is = not-after (front g a) (front g r) _ (rest-within r) f k (is-begun xs ys m is) i

    pub maybe-apart : (a r : Expr C A N) → fits g 0 (Then (Maybe a) r) ≡ true → (apart (front g a).first (before (front g r) 0) && not (front g a).is_null) ≡ true
    maybe-apart a r f = (and-parts _ _ (top-fits (Maybe a) r f).0).0

    pub many-apart : (a r : Expr C A N) → fits g 0 (Then (Many a) r) ≡ true → (apart (front g a).first (before (front g r) 0) && not (front g a).is_null) ≡ true
    many-apart a r f = (and-parts _ _ (top-fits (Many a) r f).0).0
