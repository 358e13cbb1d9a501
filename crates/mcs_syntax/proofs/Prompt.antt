-- Where a reader leaves no action for later that it could tell.
use Rattle.std.proofs.Common.{◌≡◌, ℕ, zero, suc, ◌<◌, ◌≤◌, Bool, true, false, ◌&&◌, ◌||◌, ◌⊎◌, inl, inr, List, [], ◌∷◌, ◌++◌, map, reverse, length, refl, sym, ap, subst, ◌∙◌, arith, true≢false}
use Rattle.std.specs.List.{AllByRecursion}
use Rattle.std.proofs.Math.Nat.{eq-or-lt_of_le}
use Rattle.std.proofs.lemmas.Option.{slice_get_past, slice_get_cases}
use Rattle.mcs_syntax.specs.declared.part.Event.{Event}
use Rattle.mcs_syntax.specs.declared.part.Event.TheVariants.{Took}
use Rattle.mcs_syntax.specs.declared.part.Part.{Part}
use Rattle.mcs_syntax.specs.Grammar.{Expr, Take, Say, Rule, Nothing, Then, Or, Maybe, Many, Means, takes, by_rule, nothing, both, left, right, with_it, no_more, one_more, Grammar, IsReadable}
use Rattle.mcs_syntax.specs.Reads.{is_done, says_next}
use Rattle.mcs_syntax.specs.Parts.{made_of, decoded, expr_at, state, tops, coming}
use Rattle.mcs_syntax.specs.Prompt.{opens_by, opens_at, is_prompt, are_prompt, Stops}
use Rattle.mcs_syntax.proofs.Options.{or-cases, and-parts}
use Rattle.mcs_syntax.proofs.Fills.{fill}

no-or : (x y : Bool) → (x || y) ≡ false → (x ≡ false) × (y ≡ false)
no-or true y e = absurd (true≢false e)
no-or false y e = (refl, e)

-- the place is one of the list, or nothing stands there
at-nothing : {C A N : Type 0} (parts : List (Part C A N)) (k : ℕ) → length parts ≤ k → expr_at parts k ≡ Nothing
unfolding expr_at
at-nothing [] k h = refl
at-nothing (p ∷ ps) k h = ap (made_of (decoded (length ps) (p ∷ ps))) (slice_get_past (p ∷ ps) k h)

module _ {C A N : Type 0} (g : Grammar C A N) where
  -- a text that begins with a token
  abbrev pub HasFirst : Expr C A N → Type 0
  HasFirst e = (c : C) × (xs : List (Event C A)) × Means C A N g.rules e (Took c ∷ xs)

  -- nothing is left of what is done
  pub done-text : (e : Expr C A N) → is_done e ≡ true → Means C A N g.rules e []
  done-text Nothing d = nothing
  done-text (Then a b) d = let p = and-parts (is_done a) (is_done b) d in both a b [] [] (done-text a p.0) (done-text b p.1)
  done-text (Take c) d = absurd (true≢false (sym d))
  done-text (Say a) d = absurd (true≢false (sym d))
  done-text (Rule n) d = absurd (true≢false (sym d))
  done-text (Or a b) d = absurd (true≢false (sym d))
  done-text (Maybe a) d = absurd (true≢false (sym d))
  done-text (Many a) d = absurd (true≢false (sym d))

  pub done-alone : (e : Expr C A N) → is_done e ≡ true → (xs : List (Event C A)) → Means C A N g.rules e xs → xs ≡ []
  done-alone (Take c) d zs m = absurd (true≢false (sym d))
  done-alone (Say a) d zs m = absurd (true≢false (sym d))
  done-alone (Rule n) d zs m = absurd (true≢false (sym d))
  done-alone (Or a b) d zs m = absurd (true≢false (sym d))
  done-alone (Maybe a) d zs m = absurd (true≢false (sym d))
  done-alone (Many a) d zs m = absurd (true≢false (sym d))
  done-alone Nothing d zs nothing = refl
  done-alone (Then a b) d zs (both _ _ xs ys m n) =
      let p = and-parts (is_done a) (is_done b) d in
      ap (λ (l : List (Event C A)). l ++ ys) (done-alone a p.0 xs m) ∙ done-alone b p.1 ys n

  module _ (h : IsReadable g) where
    opens-by : (on : N → Bool) → ((n : N) → on n ≡ true → HasFirst (Rule n)) → (e : Expr C A N) → opens_by g on e ≡ true → HasFirst e
    opens-by on r (Take c) o = (c, [], takes c)
    opens-by on r (Say a) o = absurd (true≢false (sym o))
    opens-by on r (Rule n) o = r n o
    opens-by on r Nothing o = absurd (true≢false (sym o))
    opens-by on r (Then a b) o = let p = opens-by on r a o in let q = fill g h b in (p.0, p.1 ++ q.0, both a b (Took p.0 ∷ p.1) q.0 p.2 q.1)
    opens-by on r (Or a b) o = elim (or-cases (opens_by g on a) _ o) [
      | inl l ↦ let p = opens-by on r a l in (p.0, p.1, left a b _ p.2)
      | inr k ↦ let p = opens-by on r b k in (p.0, p.1, right a b _ p.2)
    ]
    opens-by on r (Maybe a) o = let p = opens-by on r a o in (p.0, p.1, with_it a _ p.2)
    opens-by on r (Many a) o = let p = opens-by on r a o in (p.0, p.1 ++ [], one_more a (Took p.0 ∷ p.1) [] p.2 (no_more a))

    opens-at : (k : ℕ) (n : N) → opens_at g k n ≡ true → HasFirst (Rule n)
    opens-at zero n o = absurd (true≢false (sym o))
    opens-at (suc k) n o = let p = opens-by (opens_at g k) (opens-at k) (g.rules n) o in (p.0, p.1, by_rule n _ p.2)

    -- a stack of what is prompt
    pub state-stops : (es : List (Expr C A N)) → AllByRecursion (λ e. is_prompt g e ≡ true) es → says_next (state es) ≡ false → Stops g (state es)
    state-stops [] p s = inl refl
    state-stops (e ∷ es) p s =
        let q = no-or (says_next e) _ s in
        elim (or-cases (says_next e) _ p.0) [
          | inl says ↦ absurd (true≢false (sym says ∙ q.0))
          | inr i ↦ elim (or-cases (is_done e) _ i) [
            | inl d ↦ below d (state-stops es p.1 (sym (ap (λ (b : Bool). b && says_next (state es)) d) ∙ q.1))
            | inr o ↦ let t = opens-by (opens_at g g.depth) (opens-at g.depth) e o in let f = fill g h (state es) in inr (t.0, t.1 ++ f.0, both e (state es) (Took t.0 ∷ t.1) f.0 t.2 f.1)
          ]
        ]
      where
        below : is_done e ≡ true → Stops g (state es) → Stops g (state (e ∷ es))
        below d (inl r) = inl (ap (λ (b : Bool). b && is_done (state es)) d ∙ r)
        below d (inr t) = inr (t.0, t.1, both e (state es) [] _ (done-text e d) t.2)

    module _ (parts : List (Part C A N)) (all : are_prompt g parts (length parts) ≡ true) where
      prompt-below : (n k : ℕ) → are_prompt g parts n ≡ true → k < n → is_prompt g (expr_at parts k) ≡ true
      prompt-below zero k a l = absurd (omega arith)
      prompt-below (suc n) k a l =
          let p = and-parts (is_prompt g (expr_at parts n)) (are_prompt g parts n) a in
          let below : (k ≡ n) ⊎ (k < n) = eq-or-lt_of_le (omega arith) in
          elim below [
            | inl e ↦ subst (λ (j : ℕ). is_prompt g (expr_at parts j) ≡ true) (sym e) p.0
            | inr b ↦ prompt-below n k p.1 b
          ]

      prompt-at : (k : ℕ) → is_prompt g (expr_at parts k) ≡ true
      prompt-at k = elim (slice_get_cases parts k).1 [
        | inl w ↦ prompt-below (length parts) k all w.1
        | inr p ↦ ap (is_prompt g) (at-nothing parts k p.0)
      ]

      all-prompt : (ks : List ℕ) → AllByRecursion (λ e. is_prompt g e ≡ true) (map (expr_at parts) ks)
      all-prompt [] = tt
      all-prompt (k ∷ ks) = (prompt-at k, all-prompt ks)

      -- what is left where no action stands next
      pub stops : (places : List ℕ) → says_next (coming parts places) ≡ false → Stops g (coming parts places)
      stops places s = state-stops (tops parts places) (all-prompt (reverse places)) s
