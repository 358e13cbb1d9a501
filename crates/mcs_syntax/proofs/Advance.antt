-- Each front of a text is read: something is left that the texts that begin with it go on with.
use Rattle.std.proofs.Common.{◌≡◌, ℕ, true, false, ◌⊎◌, inl, inr, List, [], ◌∷◌, ◌++◌, Option, Some, refl, sym, ap, subst, ◌∙◌, append_assoc, append-nil}
use Rattle.std.specs.List.{AllByRecursion}
use Rattle.mcs_syntax.specs.declared.part.Event.{Event}
use Rattle.mcs_syntax.specs.declared.part.Event.TheVariants.{Took, Told}
use Rattle.mcs_syntax.specs.Grammar.{Expr, Take, Say, Rule, Nothing, Then, Or, Maybe, Many, takes, says, by_rule, nothing, both, left, right, without, with_it, no_more, one_more, Grammar, IsReadable, fits, tokens}
use Rattle.mcs_syntax.specs.Reads.{HasRead, Turns, IsRead, head_of, says_next}
use Rattle.mcs_syntax.specs.Parts.{state}
use Rattle.mcs_syntax.specs.Prompt.{is_prompt, is_deep, Stops}
use Rattle.mcs_syntax.proofs.Options.{and-parts}
use Rattle.mcs_syntax.proofs.Fronts.{Of, tokens-append, start-of}
use Rattle.mcs_syntax.proofs.Steps.{nothing-inv, rule-inv, then-inv, take-read, say-read, nothing-read, then-read, rule-read, from-read, maybe-in, maybe-out, many-in, many-out, turns-more, turns-read}
use Rattle.mcs_syntax.proofs.Choices.{top-fits, then-fits, or-fits, maybe-fits, many-fits, rule-fits, start-fits, left-only, right-only, is-begun, never-after, not-started, maybe-apart, many-apart}
use Rattle.mcs_syntax.proofs.Texts.{read-start, read-more, cancel}
use Rattle.mcs_syntax.proofs.Prompt.{state-stops}

module _ {C A N : Type 0} (g : Grammar C A N) where
  abbrev AllDeep : List (Expr C A N) → Type 0
  AllDeep es = AllByRecursion (λ (e : Expr C A N). is_deep g e ≡ true) es

  -- a list of expressions that is left, with a text
  record Left (s : Expr C A N) (ds : List ℕ) (zs : List (Event C A)) : Type 0 where
    told : List (Event C A)
    es : List (Expr C A N)
    read : HasRead g s ds told (state es)
    fit : fits g 0 (state es) ≡ true
    deep : AllDeep es
    rest : List (Event C A)
    whole : zs ≡ told ++ rest
    means : Of g (state es) rest

  -- s: what stands next and r; xs: a text of what stands next; zs: with one of r after it
  abbrev Outcome : Option ℕ → (s r : Expr C A N) → (xs zs : List (Event C A)) → Type 0
  Outcome k s r xs zs = (Turns g k s xs r × (tokens g xs ≡ [])) ⊎ ((d : ℕ) × (k ≡ Some d) × Left s (d ∷ []) zs)

  turned-in : (k : Option ℕ) (s t r : Expr C A N) (xs zs : List (Event C A)) → Turns g k s [] t → Outcome k t r xs zs → Outcome k s r xs zs
  turned-in k s t r xs zs p (inl q) = inl (turns-more g k s t [] p r xs q.0, q.1)
  turned-in k s t r xs zs p (inr q) =
      let l = q.2 in
      inr (q.0, q.1, record { told = l.told; es = l.es; read = turns-read g k s t [] p q.0 (state l.es) l.told q.1 l.read; fit = l.fit; deep = l.deep; rest = l.rest; whole = l.whole; means = l.means })

  -- one part after another
  then-on : (k : Option ℕ) (s t r : Expr C A N) (xs vs ws : List (Event C A)) → Outcome k s t xs (xs ++ ws) → (tokens g xs ≡ [] → Outcome k t r vs ws) → Outcome k s r (xs ++ vs) (xs ++ ws)
  then-on k s t r xs vs ws (inr q) more = inr q
  then-on k s t r xs vs ws (inl q) more = elim (more q.1) [
    | inl v ↦ inl (turns-more g k s t xs q.0 r vs v.0, tokens-append g xs vs ∙ ap (λ l. l ++ tokens g vs) q.1 ∙ v.1)
    | inr v ↦
        let l = v.2 in
        inr (v.0, v.1, record { told = xs ++ l.told; es = l.es; read = turns-read g k s t xs q.0 v.0 (state l.es) l.told v.1 l.read; fit = l.fit; deep = l.deep; rest = l.rest; whole = ap (λ z. xs ++ z) l.whole ∙ sym (append_assoc xs l.told l.rest); means = l.means })
  ]

  same-head : (k : Option ℕ) (xs ws : List (Event C A)) → tokens g xs ≡ [] → head_of (tokens g (xs ++ ws)) ≡ k → head_of (tokens g ws) ≡ k
  same-head k xs ws none is = ap head_of (sym (tokens-append g xs ws ∙ ap (λ l. l ++ tokens g ws) none)) ∙ is

  alone : (n : N) → HasRead g (Rule n) [] [] (Then (g.rules n) Nothing)
  alone n = record {
    tokens_are = refl;
    goes_on = λ ys m. let i = then-inv g (g.rules n) Nothing ys m in by_rule n ys (subst (Of g (g.rules n)) (sym (i.2 ∙ ap (λ l. i.0 ++ l) (nothing-inv g i.1 i.4) ∙ append-nil i.0)) i.3);
    holds_all = λ zs more r. (zs, refl, subst (Of g (Then (g.rules n) Nothing)) (append-nil zs) (both (g.rules n) Nothing zs [] (rule-inv g n zs r.0) nothing));
  }

  module _ (h : IsReadable g) (prompt : (n : N) → is_deep g (g.rules n) ≡ true) where
    advance : (k : Option ℕ) (e : Expr C A N) (xs : List (Event C A)) → Of g e xs → (es : List (Expr C A N)) → fits g 0 (Then e (state es)) ≡ true → is_deep g e ≡ true → AllDeep es → (ys : List (Event C A)) → Of g (state es) ys
        → head_of (tokens g (xs ++ ys)) ≡ k → Outcome k (Then e (state es)) (state es) xs (xs ++ ys)
    advance k e xs (takes c) es f i all ys m is = inr (g.wants c, sym is, record { told = Took c ∷ []; es = es; read = take-read g c (state es); fit = (top-fits g (Take c) (state es) f).1; deep = all; rest = ys; whole = refl; means = m })
    advance k e xs (says a) es f i all ys m is = inl (from-read g k (Then (Say a) (state es)) (state es) (Told a ∷ []) (say-read g a (state es)), refl)
    advance k e zs (by_rule q xs t) es f i all ys m is =
        turned-in k (Then (Rule q) (state es)) (Then (g.rules q) (state es)) (state es) xs (xs ++ ys) (from-read g k _ _ [] (rule-read g q (state es)))
        (advance k (g.rules q) xs t es (rule-fits g h q (state es) f) (prompt q) all ys m is)
    advance k e xs nothing es f i all ys m is = inl (from-read g k (Then Nothing (state es)) (state es) [] (nothing-read g (state es)), refl)
    advance k e zs (both a b xs vs t u) es f i all ys m is =
        let r : Expr C A N = state es in
        let fit = then-fits g a b r f in
        let d = and-parts (is_deep g a) (is_deep g b) (and-parts (is_prompt g (Then a b)) _ i).1 in
        let head : head_of (tokens g (xs ++ (vs ++ ys))) ≡ k = ap (λ l. head_of (tokens g l)) (sym (append_assoc xs vs ys)) ∙ is in
        subst (Outcome k (Then (Then a b) r) r (xs ++ vs)) (sym (append_assoc xs vs ys))
        (turned-in k (Then (Then a b) r) (Then a (Then b r)) r (xs ++ vs) (xs ++ (vs ++ ys)) (from-read g k _ _ [] (then-read g a b r))
        (then-on k (Then a (Then b r)) (Then b r) r xs vs (vs ++ ys) (advance k a xs t (b ∷ es) fit d.0 (d.1, all) (vs ++ ys) (both b r vs ys u m) head)
        (λ none. advance k b vs u es (top-fits g a (Then b r) fit).1 d.1 all ys m (same-head k xs (vs ++ ys) none head))))
    advance k e zs (left a b xs t) es f i all ys m is =
        let r : Expr C A N = state es in
        let d = and-parts (is_deep g a) (is_deep g b) (and-parts (is_prompt g (Or a b)) _ i).1 in
        turned-in k (Then (Or a b) r) (Then a r) r xs (xs ++ ys) (left-only g h k a b r f (start-of g h (Then a r) (xs ++ ys) k (both a r xs ys t m) is))
        (advance k a xs t es (or-fits g a b r f).0 d.0 all ys m is)
    advance k e zs (right a b xs t) es f i all ys m is =
        let r : Expr C A N = state es in
        let d = and-parts (is_deep g a) (is_deep g b) (and-parts (is_prompt g (Or a b)) _ i).1 in
        turned-in k (Then (Or a b) r) (Then b r) r xs (xs ++ ys) (right-only g h k a b r f (start-of g h (Then b r) (xs ++ ys) k (both b r xs ys t m) is))
        (advance k b xs t es (or-fits g a b r f).1 d.1 all ys m is)
    advance k e xs (without a) es f i all ys m is =
        let r : Expr C A N = state es in
        inl (maybe-out g k a r (not-started g h k a r (maybe-apart g h k a r f) (start-of g h r ys k m is)), refl)
    advance k e zs (with_it a xs t) es f i all ys m is =
        let r : Expr C A N = state es in
        let u = maybe-apart g h k a r f in
        turned-in k (Then (Maybe a) r) (Then a r) r xs (xs ++ ys) (maybe-in g k a r (never-after g h k a r u (is-begun g h k a r u xs ys t is)))
        (advance k a xs t es (maybe-fits g a r f) (and-parts (is_prompt g (Maybe a)) _ i).1 all ys m is)
    advance k e xs (no_more a) es f i all ys m is =
        let r : Expr C A N = state es in
        inl (many-out g k a r (not-started g h k a r (many-apart g h k a r f) (start-of g h r ys k m is)), refl)
    advance k e zs (one_more a xs vs t u) es f i all ys m is =
        let r : Expr C A N = state es in
        let v = many-apart g h k a r f in
        let fit = many-fits g a r f in
        let d = (and-parts (is_prompt g (Many a)) _ i).1 in
        let head : head_of (tokens g (xs ++ (vs ++ ys))) ≡ k = ap (λ l. head_of (tokens g l)) (sym (append_assoc xs vs ys)) ∙ is in
        subst (Outcome k (Then (Many a) r) r (xs ++ vs)) (sym (append_assoc xs vs ys))
        (turned-in k (Then (Many a) r) (Then a (Then (Many a) r)) r (xs ++ vs) (xs ++ (vs ++ ys)) (many-in g k a r (never-after g h k a r v (is-begun g h k a r v xs (vs ++ ys) t head)))
        (then-on k (Then a (Then (Many a) r)) (Then (Many a) r) r xs vs (vs ++ ys) (advance k a xs t (Many a ∷ es) fit d (i, all) (vs ++ ys) (both (Many a) r vs ys u m) head)
        (λ none. advance k (Many a) vs u es f i all ys m (same-head k xs (vs ++ ys) none head))))

    -- the first token of a text of a list of expressions
    take-one : (d : ℕ) (es : List (Expr C A N)) (zs : List (Event C A)) → Of g (state es) zs → fits g 0 (state es) ≡ true → AllDeep es → head_of (tokens g zs) ≡ Some d → Left (state es) (d ∷ []) zs
    take-one d [] zs m f all is = let none : zs ≡ [] = nothing-inv g zs m in absurd (cc (ap (λ l. head_of (tokens g l)) none))
    take-one d (e ∷ es) zs (both _ _ xs ys t m) f all is = elim (advance (Some d) e xs t es f all.0 all.1 ys m is) [
      | inr q ↦ let same : d ≡ q.0 = (let same' = q.1 in cc) in subst (λ (c : ℕ). Left (state (e ∷ es)) (c ∷ []) (xs ++ ys)) (sym same) q.2
      | inl q ↦
          let l = take-one d es ys m (top-fits g e (state es) f).1 all.1 (same-head (Some d) xs ys q.1 is) in
          record { told = xs ++ l.told; es = l.es; read = turns-read g (Some d) (state (e ∷ es)) (state es) xs q.0 d (state l.es) l.told refl l.read; fit = l.fit; deep = l.deep; rest = l.rest; whole = ap (λ z. xs ++ z) l.whole ∙ sym (append_assoc xs l.told l.rest); means = l.means }
    ]

    -- all tokens of a front
    take-all : (ds more : List ℕ) (es : List (Expr C A N)) (zs : List (Event C A)) → Of g (state es) zs → fits g 0 (state es) ≡ true → AllDeep es → tokens g zs ≡ ds ++ more → Left (state es) ds zs
    take-all [] more es zs m f all is = record { told = []; es = es; read = read-start g (state es); fit = f; deep = all; rest = zs; whole = refl; means = m }
    take-all (d ∷ ds) more es zs m f all is =
        let one = take-one d es zs m f all (ap head_of is) in
        let later : tokens g one.rest ≡ ds ++ more = cancel (d ∷ []) _ _ (ap (λ l. l ++ tokens g one.rest) (sym one.read.tokens_are) ∙ sym (tokens-append g one.told one.rest) ∙ ap (tokens g) (sym one.whole) ∙ is) in
        let l = take-all ds more one.es one.rest one.means one.fit one.deep later in
        record { told = one.told ++ l.told; es = l.es; read = read-more g (state es) (state one.es) (state l.es) (d ∷ []) ds one.told l.told one.read l.read; fit = l.fit; deep = l.deep; rest = l.rest; whole = one.whole ∙ ap (λ z. one.told ++ z) l.whole ∙ sym (append_assoc one.told l.told l.rest); means = l.means }

    -- ---- the actions that stand next are told
    record Settled (s : Expr C A N) : Type 0 where
      told : List (Event C A)
      es : List (Expr C A N)
      read : HasRead g s [] told (state es)
      deep : AllDeep es
      quiet : says_next (state es) ≡ false

    settled-in : (s t : Expr C A N) (xs : List (Event C A)) → HasRead g s [] xs t → Settled t → Settled s
    settled-in s t xs r l = record { told = xs ++ l.told; es = l.es; read = read-more g s t (state l.es) [] [] xs l.told r l.read; deep = l.deep; quiet = l.quiet }

    stays : (e : Expr C A N) (es : List (Expr C A N)) → is_deep g e ≡ true → AllDeep es → says_next (Then e (state es)) ≡ false → Settled (state (e ∷ es))
    stays e es i all quiet = record { told = []; es = e ∷ es; read = read-start g (state (e ∷ es)); deep = (i, all); quiet = quiet }

    settle-in : (e : Expr C A N) (es : List (Expr C A N)) → is_deep g e ≡ true → AllDeep es → Settled (state es) → Settled (state (e ∷ es))
    settle-in (Say a) es i all more = settled-in _ (state es) (Told a ∷ []) (say-read g a (state es)) more
    settle-in Nothing es i all more = settled-in _ (state es) [] (nothing-read g (state es)) more
    settle-in (Then a b) es i all more =
        let d = and-parts (is_deep g a) (is_deep g b) (and-parts (is_prompt g (Then a b)) _ i).1 in
        settled-in _ (state (a ∷ b ∷ es)) [] (then-read g a b (state es)) (settle-in a (b ∷ es) d.0 (d.1, all) (settle-in b es d.1 all more))
    settle-in (Take c) es i all more = stays (Take c) es i all refl
    settle-in (Rule n) es i all more = stays (Rule n) es i all refl
    settle-in (Or a b) es i all more = stays (Or a b) es i all refl
    settle-in (Maybe a) es i all more = stays (Maybe a) es i all refl
    settle-in (Many a) es i all more = stays (Many a) es i all refl

    settle : (es : List (Expr C A N)) → AllDeep es → Settled (state es)
    settle [] all = record { told = []; es = []; read = read-start g Nothing; deep = tt; quiet = refl }
    settle (e ∷ es) all = settle-in e es all.0 all.1 (settle es all.1)

    deep-prompt : (e : Expr C A N) → is_deep g e ≡ true → is_prompt g e ≡ true
    deep-prompt (Take c) i = refl
    deep-prompt (Say a) i = refl
    deep-prompt (Rule n) i = i
    deep-prompt Nothing i = refl
    deep-prompt (Then a b) i = (and-parts (is_prompt g (Then a b)) _ i).0
    deep-prompt (Or a b) i = (and-parts (is_prompt g (Or a b)) _ i).0
    deep-prompt (Maybe a) i = (and-parts (is_prompt g (Maybe a)) _ i).0
    deep-prompt (Many a) i = (and-parts (is_prompt g (Many a)) _ i).0

    all-prompt : (es : List (Expr C A N)) → AllDeep es → AllByRecursion (λ (e : Expr C A N). is_prompt g e ≡ true) es
    all-prompt [] all = tt
    all-prompt (e ∷ es) all = (deep-prompt e all.0, all-prompt es all.1)

    -- a front of a text of a rule is read, and no action is left that could be told
    pub front-read : (n : N) (zs : List (Event C A)) (ds more : List ℕ) → IsRead g (Rule n) (ds ++ more) zs → (xs : List (Event C A)) × (rest : Expr C A N) × HasRead g (Rule n) ds xs rest × Stops g rest
    front-read n zs ds more r =
        let start : HasRead g (Rule n) [] [] (state (g.rules n ∷ [])) = alone n in
        let p = start.holds_all zs (ds ++ more) r in
        let same : zs ≡ p.0 = p.1 in
        let l = take-all ds more (g.rules n ∷ []) p.0 p.2 (start-fits g h n) (prompt n, tt) (ap (tokens g) (sym same) ∙ r.1) in
        let s = settle l.es l.deep in
        let all : HasRead g (Rule n) (ds ++ []) (l.told ++ s.told) (state s.es) = read-more g (Rule n) (state l.es) (state s.es) ds [] l.told s.told (read-more g (Rule n) _ (state l.es) [] ds [] l.told start l.read) s.read in
        (l.told ++ s.told, state s.es, subst (λ (vs : List ℕ). HasRead g (Rule n) vs (l.told ++ s.told) (state s.es)) (append-nil ds) all, state-stops g h s.es (all-prompt s.es s.deep) s.quiet)
