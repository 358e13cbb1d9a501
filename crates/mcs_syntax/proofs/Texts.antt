-- Texts of a grammar: what was read goes on to a text, and what begins a text of it begins one of what is left.
use Rattle.std.proofs.Common.{◌≡◌, ℕ, List, [], ◌∷◌, ◌++◌, Some, None, refl, sym, ap, subst, ◌∙◌, append_assoc, append-nil}
use Rattle.mcs_syntax.specs.declared.part.Event.{Event}
use Rattle.mcs_syntax.specs.Grammar.{Expr, Grammar, IsReadable, tokens}
use Rattle.mcs_syntax.specs.Reads.{IsRead, Begins, HasRead, Leads, head_of}
use Rattle.mcs_syntax.proofs.Fronts.{Of, tokens-append}
use Rattle.mcs_syntax.proofs.Fills.{fill}

pub cancel : (ds : List ℕ) (a b : List ℕ) → ds ++ a ≡ ds ++ b → a ≡ b
cancel [] a b e = e
cancel (d ∷ ds) a b e = let rest : ds ++ a ≡ ds ++ b = cc in cancel ds a b rest

module _ {C A N : Type 0} (g : Grammar C A N) where
  -- ---- what has been read
  pub read-start : (e : Expr C A N) → HasRead g e [] [] e
  read-start e = record { tokens_are = refl; goes_on = λ ys m. m; holds_all = λ zs more r. (zs, refl, r.0) }

  pub read-more : (e s r : Expr C A N) (ds vs : List ℕ) (xs ys : List (Event C A)) → HasRead g e ds xs s → HasRead g s vs ys r → HasRead g e (ds ++ vs) (xs ++ ys) r
  read-more e s r ds vs xs ys h k = record {
    tokens_are = tokens-append g xs ys ∙ ap (λ l. l ++ tokens g ys) h.tokens_are ∙ ap (λ l. ds ++ l) k.tokens_are;
    goes_on = λ zs m. subst (Of g e) (sym (append_assoc xs ys zs)) (h.goes_on (ys ++ zs) (k.goes_on zs m));
    holds_all = λ zs more t.
        let p = h.holds_all zs (vs ++ more) (t.0, t.1 ∙ append_assoc ds vs more) in
        let left = cancel ds (tokens g p.0) (vs ++ more) (ap (λ l. l ++ tokens g p.0) (sym h.tokens_are) ∙ sym (tokens-append g xs p.0) ∙ ap (tokens g) (sym p.1) ∙ t.1 ∙ append_assoc ds vs more) in
        let q = k.holds_all p.0 more (p.2, left) in
        (q.0, p.1 ∙ ap (λ l. xs ++ l) q.1 ∙ sym (append_assoc xs ys q.0), q.2);
  }

  -- the text may end
  pub read-ends : (e s : Expr C A N) (ds : List ℕ) (xs ys : List (Event C A)) → HasRead g e ds xs s → IsRead g s [] ys → IsRead g e ds (xs ++ ys)
  read-ends e s ds xs ys h r = (h.goes_on ys r.0, tokens-append g xs ys ∙ ap (λ l. l ++ tokens g ys) h.tokens_are ∙ ap (λ l. ds ++ l) r.1 ∙ append-nil ds)

  -- what begins a text of what was read begins one of what is left
  pub read-begins : (e s : Expr C A N) (ds vs : List ℕ) (xs : List (Event C A)) → HasRead g e ds xs s → Begins g e (ds ++ vs) → Begins g s vs
  read-begins e s ds vs xs h b =
      let t = (b.1).1 in
      let is = t.1 ∙ append_assoc ds vs b.0 in
      let p = h.holds_all (b.1).0 (vs ++ b.0) (t.0, is) in
      (b.0, (p.0, (p.2, cancel ds (tokens g p.0) (vs ++ b.0) (ap (λ l. l ++ tokens g p.0) (sym h.tokens_are) ∙ sym (tokens-append g xs p.0) ∙ ap (tokens g) (sym p.1) ∙ is))))

  -- and the other way round
  pub begins-read : (e s : Expr C A N) (ds vs : List ℕ) (xs : List (Event C A)) → HasRead g e ds xs s → Begins g s vs → Begins g e (ds ++ vs)
  begins-read e s ds vs xs h b =
      let t = (b.1).1 in
      let ys = (b.1).0 in
      (b.0, (xs ++ ys, (h.goes_on ys t.0, tokens-append g xs ys ∙ ap (λ l. l ++ tokens g ys) h.tokens_are ∙ ap (λ l. ds ++ l) t.1 ∙ sym (append_assoc ds vs b.0))))

  -- ---- the first token
  head-some : (ts : List ℕ) (d : ℕ) → head_of ts ≡ Some d → (w : List ℕ) × (ts ≡ d ∷ w)
  head-some [] d e = absurd (cc)
  head-some (c ∷ w) d e = let same : c ≡ d = cc in (w, ap (λ x. x ∷ w) same)

  head-none : (ts : List ℕ) → head_of ts ≡ None → ts ≡ []
  head-none [] e = refl
  head-none (c ∷ w) e = absurd (cc)

  pub leads-begins : (e : Expr C A N) (d : ℕ) → Leads g e (Some d) → Begins g e (d ∷ [])
  leads-begins e d l = let w = head-some (tokens g l.0) d l.2 in (w.0, (l.0, (l.1, w.1)))

  pub begins-leads : (e : Expr C A N) (d : ℕ) → Begins g e (d ∷ []) → Leads g e (Some d)
  begins-leads e d b = let r = b.1 in (r.0, (r.1).0, ap head_of (r.1).1)

  pub leads-ends : (e : Expr C A N) → Leads g e None → (xs : List (Event C A)) × IsRead g e [] xs
  leads-ends e l = (l.0, (l.1, head-none (tokens g l.0) l.2))

  pub ends-leads : (e : Expr C A N) (xs : List (Event C A)) → IsRead g e [] xs → Leads g e None
  ends-leads e xs r = (xs, r.0, ap head_of r.1)

  -- after a token there is a text
  pub read-leads : IsReadable g → (e s : Expr C A N) (d : ℕ) (xs : List (Event C A)) → HasRead g e (d ∷ []) xs s → Begins g e (d ∷ [])
  read-leads h e s d xs r =
      let p = fill g h s in
      (tokens g p.0, (xs ++ p.0, (r.goes_on p.0 p.1, tokens-append g xs p.0 ∙ ap (λ l. l ++ tokens g p.0) r.tokens_are)))
