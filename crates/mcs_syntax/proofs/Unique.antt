-- The tokens of a text tell its events.
use Rattle.std.proofs.Common.{◌≡◌, ℕ, true, List, [], ◌++◌, refl, sym, ap, subst, ◌∙◌, append_assoc, append-nil}
use Rattle.mcs_syntax.specs.declared.part.Event.{Event}
use Rattle.mcs_syntax.specs.Grammar.{Expr, Rule, Nothing, Then, Many, takes, says, by_rule, nothing, both, left, right, without, with_it, no_more, one_more, Grammar, IsReadable, fits, front, tokens, before}
use Rattle.mcs_syntax.specs.Reads.{IsRead, head_of}
use Rattle.mcs_syntax.proofs.KindSets.{within-minus}
use Rattle.mcs_syntax.proofs.Options.{both-and}
use Rattle.mcs_syntax.proofs.Fronts.{Of, tokens-append, start-of}
use Rattle.mcs_syntax.proofs.Steps.{nothing-inv, take-read, say-read, nothing-read, then-read, rule-read, maybe-in, maybe-out, many-in, many-out}
use Rattle.mcs_syntax.proofs.Choices.{nothing-before, top-fits, then-fits, or-fits, maybe-fits, many-fits, rule-fits, left-only, right-only, is-begun, never-after, not-started, maybe-apart, many-apart}
use Rattle.mcs_syntax.proofs.Texts.{cancel}

glued : {X : Type 0} (zs ps xs vs os qs : List X) → zs ≡ ps → ps ≡ xs ++ os → os ≡ vs ++ qs → zs ≡ (xs ++ vs) ++ qs
glued zs ps xs vs os qs a b c = a ∙ b ∙ ap (λ l. xs ++ l) c ∙ sym (append_assoc xs vs qs)

module _ {C A N : Type 0} (g : Grammar C A N) (h : IsReadable g) where
  abbrev pub Begun : Expr C A N → List (Event C A) → List (Event C A) → Type 0
  Begun r xs zs = (ws : List (Event C A)) × (zs ≡ xs ++ ws) × Of g r ws

  -- each text of what stands next and the rest with the same tokens begins with the same events
  same-events : (e : Expr C A N) (xs : List (Event C A)) → Of g e xs → (r : Expr C A N) → fits g 0 (Then e r) ≡ true → (ys zs : List (Event C A)) → Of g r ys → Of g (Then e r) zs → tokens g zs ≡ tokens g (xs ++ ys) → Begun r xs zs
  same-events e xs (takes c) r f ys zs m n is = (take-read g c r).holds_all zs (tokens g ys) (n, is)
  same-events e xs (says a) r f ys zs m n is = (say-read g a r).holds_all zs (tokens g zs) (n, refl)
  same-events e zs' (by_rule q xs t) r f ys zs m n is =
      let p = (rule-read g q r).holds_all zs (tokens g zs) (n, refl) in
      let o = same-events (g.rules q) xs t r (rule-fits g h q r f) ys p.0 m p.2 (ap (tokens g) (sym p.1) ∙ is) in
      (o.0, p.1 ∙ o.1, o.2)
  same-events e xs nothing r f ys zs m n is = (nothing-read g r).holds_all zs (tokens g zs) (n, refl)
  same-events e zs' (both a b xs vs t u) r f ys zs m n is =
      let p = (then-read g a b r).holds_all zs (tokens g zs) (n, refl) in
      let fit = then-fits g a b r f in
      let whole : tokens g p.0 ≡ tokens g (xs ++ (vs ++ ys)) = ap (tokens g) (sym p.1) ∙ is ∙ ap (tokens g) (append_assoc xs vs ys) in
      let o = same-events a xs t (Then b r) fit (vs ++ ys) p.0 (both b r vs ys u m) p.2 whole in
      let later : tokens g o.0 ≡ tokens g (vs ++ ys) = cancel (tokens g xs) _ _ (sym (tokens-append g xs o.0) ∙ ap (tokens g) (sym o.1) ∙ whole ∙ tokens-append g xs (vs ++ ys)) in
      let q = same-events b vs u r (top-fits g a (Then b r) fit).1 ys o.0 m o.2 later in
      (q.0, glued zs p.0 xs vs o.0 q.0 p.1 o.1 q.1, q.2)
  same-events e zs' (left a b xs t) r f ys zs m n is =
      let k = head_of (tokens g (xs ++ ys)) in
      let p = (left-only g h k a b r f (start-of g h (Then a r) (xs ++ ys) k (both a r xs ys t m) refl)).holds_all zs n (ap head_of is) in
      let o = same-events a xs t r (or-fits g a b r f).0 ys p.0 m p.2 (ap (tokens g) (sym p.1) ∙ is) in
      (o.0, p.1 ∙ o.1, o.2)
  same-events e zs' (right a b xs t) r f ys zs m n is =
      let k = head_of (tokens g (xs ++ ys)) in
      let p = (right-only g h k a b r f (start-of g h (Then b r) (xs ++ ys) k (both b r xs ys t m) refl)).holds_all zs n (ap head_of is) in
      let o = same-events b xs t r (or-fits g a b r f).1 ys p.0 m p.2 (ap (tokens g) (sym p.1) ∙ is) in
      (o.0, p.1 ∙ o.1, o.2)
  same-events e xs (without a) r f ys zs m n is =
      let k = head_of (tokens g ys) in
      (maybe-out g k a r (not-started g h k a r (maybe-apart g h k a r f) (start-of g h r ys k m refl))).holds_all zs n (ap head_of is)
  same-events e zs' (with_it a xs t) r f ys zs m n is =
      let k = head_of (tokens g (xs ++ ys)) in
      let u = maybe-apart g h k a r f in
      let p = (maybe-in g k a r (never-after g h k a r u (is-begun g h k a r u xs ys t refl))).holds_all zs n (ap head_of is) in
      let o = same-events a xs t r (maybe-fits g a r f) ys p.0 m p.2 (ap (tokens g) (sym p.1) ∙ is) in
      (o.0, p.1 ∙ o.1, o.2)
  same-events e xs (no_more a) r f ys zs m n is =
      let k = head_of (tokens g ys) in
      (many-out g k a r (not-started g h k a r (many-apart g h k a r f) (start-of g h r ys k m refl))).holds_all zs n (ap head_of is)
  same-events e zs' (one_more a xs vs t u) r f ys zs m n is =
      let whole : tokens g zs ≡ tokens g (xs ++ (vs ++ ys)) = is ∙ ap (tokens g) (append_assoc xs vs ys) in
      let k = head_of (tokens g (xs ++ (vs ++ ys))) in
      let v = many-apart g h k a r f in
      let fit = many-fits g a r f in
      let p = (many-in g k a r (never-after g h k a r v (is-begun g h k a r v xs (vs ++ ys) t refl))).holds_all zs n (ap head_of whole) in
      let o = same-events a xs t (Then (Many a) r) fit (vs ++ ys) p.0 (both (Many a) r vs ys u m) p.2 (ap (tokens g) (sym p.1) ∙ whole) in
      let later : tokens g o.0 ≡ tokens g (vs ++ ys) = cancel (tokens g xs) _ _ (sym (tokens-append g xs o.0) ∙ ap (tokens g) (sym o.1) ∙ ap (tokens g) (sym p.1) ∙ whole ∙ tokens-append g xs (vs ++ ys)) in
      let q = same-events (Many a) vs u r f ys o.0 m o.2 later in
      (q.0, glued zs p.0 xs vs o.0 q.0 p.1 o.1 q.1, q.2)

  pub one-way : (n : N) (ds : List ℕ) (xs ys : List (Event C A)) → IsRead g (Rule n) ds xs → IsRead g (Rule n) ds ys → xs ≡ ys
  one-way n ds xs ys r t =
      let alone : fits g 0 (Then (Rule n) Nothing) ≡ true = both-and _ _ (within-minus (before (front g Nothing) 0) (g.after n) (λ d m. absurd (nothing-before g d m))) refl in
      let o = same-events (Rule n) xs r.0 Nothing alone [] ys nothing (subst (Of g (Then (Rule n) Nothing)) (append-nil ys) (both (Rule n) Nothing ys [] t.0 nothing)) (t.1 ∙ sym r.1 ∙ ap (tokens g) (sym (append-nil xs))) in
      sym (o.1 ∙ ap (λ l. xs ++ l) (nothing-inv g o.0 o.2) ∙ append-nil xs)
