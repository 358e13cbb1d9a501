-- Each event of a text finds the operands that it takes.
use Rattle.std.proofs.Common.{arith, ◌≡◌, ℕ, ◌+◌, ◌-◌, ◌≤◌, Bool, true, false, cond, leb, nat_eq, List, [], ◌∷◌, ◌++◌, Option, Some, None, is_some, option_and_then, refl, sym, ap, ◌∙◌}
use Rattle.std.proofs.lemmas.Bool.{leb-true, le-leb}
use Rattle.mcs_syntax.specs.declared.part.Event.{Event}
use Rattle.mcs_syntax.specs.declared.part.Event.TheVariants.{Took, Told}
use Rattle.mcs_syntax.specs.Grammar.{Expr, Rule, Many, Means, takes, says, by_rule, nothing, both, left, right, without, with_it, no_more, one_more, Grammar, IsReadable}
use Rattle.mcs_syntax.specs.Operands.{Operands, IsBalanced, held, held_by, traded, exactly, if_both}
use Rattle.mcs_syntax.specs.Reads.{HasRead}
use Rattle.mcs_syntax.proofs.KindSets.{nat_eq-is}
use Rattle.mcs_syntax.proofs.Fills.{fill}

none-some : {X : Type 0} (x : X) → None ≡ Some x → ⊥
none-some x e = absurd (cc)

some-inj : {X : Type 0} (x y : X) → Some x ≡ Some y → x ≡ y
some-inj x y e = cc

cond-parts : {X : Type 0} (b : Bool) (x z : X) → cond b (Some x) None ≡ Some z → (b ≡ true) × (z ≡ x)
cond-parts true x z e = (refl, sym (some-inj x z e))
cond-parts false x z e = absurd (none-some z e)

then-parts : {X Y : Type 0} (o : Option X) (f : X → Option Y) (y : Y) → option_and_then f o ≡ Some y → (x : X) × (o ≡ Some x) × (f x ≡ Some y)
then-parts None f y e = absurd (none-some y e)
then-parts (Some x) f y e = (x, refl, e)

exactly-parts : (k m : ℕ) (o : Option ℕ) → exactly k o ≡ Some m → (o ≡ Some k) × (m ≡ k)
exactly-parts k m None e = absurd (none-some m e)
exactly-parts k m (Some n) e = let w = cond-parts (nat_eq n k) n m e in let is = nat_eq-is n k w.0 in (ap Some is, w.1 ∙ is)

both-parts : (o q : Option ℕ) (m : ℕ) → if_both o q ≡ Some m → (o ≡ Some m) × (q ≡ Some m)
both-parts None q m e = absurd (none-some m e)
both-parts (Some k) q m e = let w = exactly-parts k m q e in (ap Some (sym w.1), w.0 ∙ ap Some (sym w.1))

traded-parts : (t l k m : ℕ) → traded t l k ≡ Some m → (t ≤ k) × (m ≡ k - t + l)
traded-parts t l k m e = let w = cond-parts (leb t k) (k - t + l) m e in (leb-true t k w.0, w.1)

traded-more : (t l k m x : ℕ) → t ≤ k → m ≡ k - t + l → traded t l (k + x) ≡ Some (m + x)
traded-more t l k m x few is =
    let yes : leb t (k + x) ≡ true = le-leb t (k + x) (omega (arith, few)) in
    ap (λ b. cond b (Some (k + x - t + l)) None) yes ∙ ap Some (omega (arith, few, is))

module _ {C A N : Type 0} (o : Operands C A N) where
  pub held-append : (xs ys : List (Event C A)) (k : ℕ) → held o (xs ++ ys) k ≡ option_and_then (held o ys) (held o xs k)
  held-append [] ys k = refl
  held-append (Took c ∷ xs) ys k = held-append xs ys (k + o.brings c)
  held-append (Told a ∷ xs) ys k = at (traded (o.takes a) (o.leaves a) k) (held-append xs ys)
    where
      at : (q : Option ℕ) → ((j : ℕ) → held o (xs ++ ys) j ≡ option_and_then (held o ys) (held o xs j)) → option_and_then (held o (xs ++ ys)) q ≡ option_and_then (held o ys) (option_and_then (held o xs) q)
      at None h = refl
      at (Some j) h = h j

  pub held-front : (xs ys : List (Event C A)) (k m : ℕ) → held o (xs ++ ys) k ≡ Some m → is_some (held o xs k) ≡ true
  held-front xs ys k m e = let p = then-parts (held o xs k) (held o ys) m (sym (held-append xs ys k) ∙ e) in ap is_some p.1

  module _ (g : Grammar C A N) (b : IsBalanced g o) where
    held-means : (e : Expr C A N) (xs : List (Event C A)) → Means C A N g.rules e xs → (k m x : ℕ) → held_by o e k ≡ Some m → held o xs (k + x) ≡ Some (m + x)
    held-means e zs (takes c) k m x is = let w = some-inj (k + o.brings c) m is in ap Some (omega (arith, w))
    held-means e zs (says a) k m x is =
        let w = traded-parts (o.takes a) (o.leaves a) k m is in
        ap (option_and_then (held o [])) (traded-more (o.takes a) (o.leaves a) k m x w.0 w.1)
    held-means e zs (by_rule n xs t) k m x is =
        let w = traded-parts (o.finds n) (o.makes n) k m is in
        let from : k + x ≡ o.finds n + (k - o.finds n + x) = omega (arith, w.0) in
        let to : o.makes n + (k - o.finds n + x) ≡ m + x = omega (arith, w.0, w.1) in
        ap (held o xs) from ∙ held-means (g.rules n) xs t (o.finds n) (o.makes n) (k - o.finds n + x) (b n) ∙ ap Some to
    held-means e zs nothing k m x is = ap (λ j. Some (j + x)) (some-inj k m is)
    held-means e zs (both f h xs ys t u) k m x is =
        let p = then-parts (held_by o f k) (held_by o h) m is in
        held-append xs ys (k + x) ∙ ap (option_and_then (held o ys)) (held-means f xs t k p.0 x p.1) ∙ held-means h ys u p.0 m x p.2
    held-means e zs (left f h xs t) k m x is = held-means f xs t k m x (both-parts (held_by o f k) (held_by o h k) m is).0
    held-means e zs (right f h xs t) k m x is = held-means h xs t k m x (both-parts (held_by o f k) (held_by o h k) m is).1
    held-means e zs (without f) k m x is = ap (λ j. Some (j + x)) (sym (exactly-parts k m (held_by o f k) is).1)
    held-means e zs (with_it f xs t) k m x is =
        let w = exactly-parts k m (held_by o f k) is in
        held-means f xs t k k x w.0 ∙ ap (λ j. Some (j + x)) (sym w.1)
    held-means e zs (no_more f) k m x is = ap (λ j. Some (j + x)) (sym (exactly-parts k m (held_by o f k) is).1)
    held-means e zs (one_more f xs ys t u) k m x is =
        let w = exactly-parts k m (held_by o f k) is in
        held-append xs ys (k + x) ∙ ap (option_and_then (held o ys)) (held-means f xs t k k x w.0) ∙ held-means (Many f) ys u k m x is

    -- a text of a rule leaves what is said of it
    pub rule-leaves : (n : N) (xs : List (Event C A)) → Means C A N g.rules (Rule n) xs → (x : ℕ) → held o xs (o.finds n + x) ≡ Some (o.makes n + x)
    rule-leaves n zs (by_rule m xs t) x = held-means (g.rules n) xs t (o.finds n) (o.makes n) x (b n)

    -- and along a text no event meets too few
    pub never-short : IsReadable g → (n : N) (ds : List ℕ) (xs : List (Event C A)) (s : Expr C A N) → HasRead g (Rule n) ds xs s → (x : ℕ) → is_some (held o xs (o.finds n + x)) ≡ true
    never-short h n ds xs s r x =
        let p = fill g h s in
        held-front xs p.0 (o.finds n + x) (o.makes n + x) (rule-leaves n (xs ++ p.0) (r.goes_on p.0 p.1) x)
