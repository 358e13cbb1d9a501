-- With which tokens texts begin: FIRST tells it exactly.
use Rattle.std.proofs.Common.{◌≡◌, ℕ, zero, suc, true, List, [], ◌∷◌, ◌++◌, Option, Some, None, inl, inr, refl, sym, ap, subst, ◌∙◌, true≢false}
use Rattle.mcs_syntax.specs.declared.part.Event.{Event}
use Rattle.mcs_syntax.specs.declared.part.Event.TheVariants.{Took, Told}
use Rattle.mcs_syntax.specs.declared.front.Front.{Front}
use Rattle.mcs_syntax.specs.Grammar.{Expr, Take, Say, Rule, Nothing, Then, Or, Maybe, Many, Means, takes, says, by_rule, nothing, both, left, right, without, with_it, no_more, one_more, Grammar, IsReadable, tokens, in_turn, either, or_nothing, front, front_by, front_at}
use Rattle.mcs_syntax.specs.Reads.{head_of, starts, Leads}
use Rattle.mcs_syntax.proofs.Options.{and-parts, or-cases, left-or, right-or, both-and}
use Rattle.mcs_syntax.proofs.KindSets.{nat_eq-is, nat_eq-same, single-is, none-in, union-cases, left-union, right-union, given-parts, both-given}
use Rattle.mcs_syntax.proofs.Fills.{fill}

abbrev pub Heads : Front → List ℕ → Type 0
Heads p ts = starts (head_of ts) p ≡ true

in-turn : (p q : Front) (ts us : List ℕ) → Heads p ts → Heads q us → Heads (in_turn p q) (ts ++ us)
in-turn p q [] [] a b = both-and p.is_null q.is_null a b
in-turn p q [] (d ∷ w) a b = right-union p.first _ d (both-given p.is_null q.first d a b)
in-turn p q (d ∷ w) us a b = left-union p.first _ d a

either-left : (p q : Front) (ts : List ℕ) → Heads p ts → Heads (either p q) ts
either-left p q [] a = left-or p.is_null q.is_null a
either-left p q (d ∷ w) a = left-union p.first q.first d a

either-right : (p q : Front) (ts : List ℕ) → Heads q ts → Heads (either p q) ts
either-right p q [] a = right-or p.is_null q.is_null a
either-right p q (d ∷ w) a = right-union p.first q.first d a

with-more : (p : Front) (ts us : List ℕ) → Heads p ts → Heads (or_nothing p) us → Heads (or_nothing p) (ts ++ us)
with-more p [] us a b = b
with-more p (d ∷ w) us a b = a

with-it : (p : Front) (ts : List ℕ) → Heads p ts → Heads (or_nothing p) ts
with-it p [] a = refl
with-it p (d ∷ w) a = a

-- the first token of two texts in turn
second-head : (ts us : List ℕ) (k : Option ℕ) → head_of ts ≡ None → head_of us ≡ k → head_of (ts ++ us) ≡ k
second-head [] us k a b = b
second-head (d ∷ w) us k a b = absurd (cc)

first-head : (ts us : List ℕ) (d : ℕ) → head_of ts ≡ Some d → head_of (ts ++ us) ≡ Some d
first-head [] us d a = absurd (cc)
first-head (c ∷ w) us d a = a

module _ {C A N : Type 0} (g : Grammar C A N) where
  abbrev pub Of : Expr C A N → List (Event C A) → Type 0
  Of e xs = Means C A N g.rules e xs

  pub tokens-append : (xs ys : List (Event C A)) → tokens g (xs ++ ys) ≡ tokens g xs ++ tokens g ys
  tokens-append [] ys = refl
  tokens-append (Took c ∷ xs) ys = ap (λ l. g.wants c ∷ l) (tokens-append xs ys)
  tokens-append (Told a ∷ xs) ys = tokens-append xs ys

  module _ (h : IsReadable g) where
    pub heads : (e : Expr C A N) (xs : List (Event C A)) → Of e xs → Heads (front g e) (tokens g xs)
    heads e zs (takes c) = single-is (g.wants c) (g.wants c) ∙ nat_eq-same (g.wants c)
    heads e zs (says a) = refl
    heads e zs (by_rule n xs m) = subst (λ p. Heads p (tokens g xs)) (h.steady n) (heads (g.rules n) xs m)
    heads e zs nothing = refl
    heads e zs (both a b xs ys m n) = subst (Heads (front g (Then a b))) (sym (tokens-append xs ys)) (in-turn (front g a) (front g b) (tokens g xs) (tokens g ys) (heads a xs m) (heads b ys n))
    heads e zs (left a b xs m) = either-left (front g a) (front g b) (tokens g xs) (heads a xs m)
    heads e zs (right a b xs m) = either-right (front g a) (front g b) (tokens g xs) (heads b xs m)
    heads e zs (without a) = refl
    heads e zs (with_it a xs m) = with-it (front g a) (tokens g xs) (heads a xs m)
    heads e zs (no_more a) = refl
    heads e zs (one_more a xs ys m n) = subst (Heads (front g (Many a))) (sym (tokens-append xs ys)) (with-more (front g a) (tokens g xs) (tokens g ys) (heads a xs m) (heads (Many a) ys n))

    pub start-of : (e : Expr C A N) (zs : List (Event C A)) (k : Option ℕ) → Of e zs → head_of (tokens g zs) ≡ k → starts k (front g e) ≡ true
    start-of e zs k m is = subst (λ k. starts k (front g e) ≡ true) is (heads e zs m)

    -- ---- and there is a text for each
    turned : (a b : Expr C A N) (k : Option ℕ) → Leads g a None → Leads g b k → Leads g (Then a b) k
    turned a b k p q = (p.0 ++ q.0, both a b p.0 q.0 p.1 q.1, ap head_of (tokens-append p.0 q.0) ∙ second-head (tokens g p.0) (tokens g q.0) k p.2 q.2)

    leads_by : (on : N → Front) → ((n : N) (k : Option ℕ) → starts k (on n) ≡ true → Leads g (Rule n) k) → (e : Expr C A N) (k : Option ℕ) → starts k (front_by g on e) ≡ true → Leads g e k
    leads_by on r (Take c) None i = absurd (true≢false (sym i))
    leads_by on r (Take c) (Some d) i = (Took c ∷ [], takes c, ap Some (nat_eq-is (g.wants c) d (sym (single-is (g.wants c) d) ∙ i)))
    leads_by on r (Say a) None i = (Told a ∷ [], says a, refl)
    leads_by on r (Say a) (Some d) i = absurd (none-in d i)
    leads_by on r (Rule n) k i = r n k i
    leads_by on r Nothing None i = ([], nothing, refl)
    leads_by on r Nothing (Some d) i = absurd (none-in d i)
    leads_by on r (Then a b) None i = let w = and-parts (front_by g on a).is_null _ i in turned a b None (leads_by on r a None w.0) (leads_by on r b None w.1)
    leads_by on r (Then a b) (Some d) i = elim (union-cases (front_by g on a).first _ d i) [
      | inl l ↦
          let p = leads_by on r a (Some d) l in
          let q = fill g h b in
          (p.0 ++ q.0, both a b p.0 q.0 p.1 q.1, ap head_of (tokens-append p.0 q.0) ∙ first-head (tokens g p.0) (tokens g q.0) d p.2)
      | inr l ↦ let w = given-parts (front_by g on a).is_null _ d l in turned a b (Some d) (leads_by on r a None w.0) (leads_by on r b (Some d) w.1)
    ]
    leads_by on r (Or a b) None i = elim (or-cases (front_by g on a).is_null _ i) [
      | inl l ↦ let p = leads_by on r a None l in (p.0, left a b p.0 p.1, p.2)
      | inr l ↦ let p = leads_by on r b None l in (p.0, right a b p.0 p.1, p.2)
    ]
    leads_by on r (Or a b) (Some d) i = elim (union-cases (front_by g on a).first _ d i) [
      | inl l ↦ let p = leads_by on r a (Some d) l in (p.0, left a b p.0 p.1, p.2)
      | inr l ↦ let p = leads_by on r b (Some d) l in (p.0, right a b p.0 p.1, p.2)
    ]
    leads_by on r (Maybe a) None i = ([], without a, refl)
    leads_by on r (Maybe a) (Some d) i = let p = leads_by on r a (Some d) i in (p.0, with_it a p.0 p.1, p.2)
    leads_by on r (Many a) None i = ([], no_more a, refl)
    leads_by on r (Many a) (Some d) i =
        let p = leads_by on r a (Some d) i in
        (p.0 ++ [], one_more a p.0 [] p.1 (no_more a), ap head_of (tokens-append p.0 []) ∙ first-head (tokens g p.0) [] d p.2)

    leads_at : (m : ℕ) (n : N) (k : Option ℕ) → starts k (front_at g m n) ≡ true → Leads g (Rule n) k
    leads_at zero n None i = absurd (true≢false (sym i))
    leads_at zero n (Some d) i = absurd (none-in d i)
    leads_at (suc m) n k i = let p = leads_by (front_at g m) (leads_at m) (g.rules n) k i in (p.0, by_rule n p.0 p.1, p.2)

    pub leads : (e : Expr C A N) (k : Option ℕ) → starts k (front g e) ≡ true → Leads g e k
    leads e k i = leads_by (front_at g g.depth) (leads_at g.depth) e k i
