-- Each rule has a text, and so has each expression.
use Rattle.std.proofs.Common.{◌≡◌, ℕ, zero, suc, Bool, true, List, [], ◌∷◌, ◌++◌, inl, inr, sym, true≢false}
use Rattle.mcs_syntax.specs.declared.part.Event.{Event}
use Rattle.mcs_syntax.specs.declared.part.Event.TheVariants.{Took, Told}
use Rattle.mcs_syntax.specs.Grammar.{Expr, Take, Say, Rule, Nothing, Then, Or, Maybe, Many, Means, takes, says, by_rule, nothing, both, left, right, without, no_more, Grammar, IsReadable, is_filled_by, is_filled_at, fits}
use Rattle.mcs_syntax.proofs.Options.{and-parts, or-cases}

module _ {C A N : Type 0} (g : Grammar C A N) where
  abbrev pub HasText : Expr C A N → Type 0
  HasText e = (xs : List (Event C A)) × Means C A N g.rules e xs

  filled_by : (on : N → Bool) → ((n : N) → on n ≡ true → HasText (Rule n)) → (e : Expr C A N) → is_filled_by g on e ≡ true → HasText e
  filled_by on h (Take c) i = (Took c ∷ [], takes c)
  filled_by on h (Say a) i = (Told a ∷ [], says a)
  filled_by on h (Rule n) i = h n i
  filled_by on h Nothing i = ([], nothing)
  filled_by on h (Then a b) i =
      let w = and-parts (is_filled_by g on a) _ i in
      let p = filled_by on h a w.0 in
      let q = filled_by on h b w.1 in
      (p.0 ++ q.0, both a b p.0 q.0 p.1 q.1)
  filled_by on h (Or a b) i = elim (or-cases (is_filled_by g on a) _ i) [
    | inl l ↦ let p = filled_by on h a l in (p.0, left a b p.0 p.1)
    | inr r ↦ let p = filled_by on h b r in (p.0, right a b p.0 p.1)
  ]
  filled_by on h (Maybe a) i = ([], without a)
  filled_by on h (Many a) i = ([], no_more a)

  filled_at : (k : ℕ) (n : N) → is_filled_at g k n ≡ true → HasText (Rule n)
  filled_at zero n i = absurd (true≢false (sym i))
  filled_at (suc k) n i = let p = filled_by (is_filled_at g k) (filled_at k) (g.rules n) i in (p.0, by_rule n p.0 p.1)

  pub filled : IsReadable g → (n : N) → HasText (Rule n)
  filled h n = filled_at g.depth n (and-parts _ _ (and-parts (fits g (g.after n) (g.rules n)) _ (h.tested n)).1).1

  pub fill : IsReadable g → (e : Expr C A N) → HasText e
  fill h (Take c) = (Took c ∷ [], takes c)
  fill h (Say a) = (Told a ∷ [], says a)
  fill h (Rule n) = filled h n
  fill h Nothing = ([], nothing)
  fill h (Then a b) = let p = fill h a in let q = fill h b in (p.0 ++ q.0, both a b p.0 q.0 p.1 q.1)
  fill h (Or a b) = let p = fill h a in (p.0, left a b p.0 p.1)
  fill h (Maybe a) = ([], without a)
  fill h (Many a) = ([], no_more a)
