-- What the reader promises, from what is known of its stack.
use Rattle.std.proofs.Common.{◌≡◌, ◌↔◌, ℕ, Bool, true, false, IsTrue, List, [], ◌∷◌, Option, Some, None, refl, sym, ◌∙◌, true≢false}
use Rattle.mcs_syntax.specs.declared.part.Event.{Event}
use Rattle.mcs_syntax.specs.declared.part.Part.{Part}
use Rattle.mcs_syntax.specs.Grammar.{Expr, Grammar, IsReadable, front}
use Rattle.mcs_syntax.specs.Reads.{Goes, IsEnded, IsRead, IsTaken, Leads, starts}
use Rattle.mcs_syntax.specs.Parts.{coming, IsStack, IsGone}
use Rattle.mcs_syntax.proofs.Fronts.{leads, start-of}
use Rattle.mcs_syntax.proofs.Texts.{leads-begins, begins-leads, leads-ends, ends-leads}

module _ {C A N : Type 0} (g : Grammar C A N) (parts : List (Part C A N)) where
  pub no-stack : IsStack g parts []
  no-stack = (tt, refl)

  pub ended-told : (ks new : List ℕ) (left : Expr C A N) (old all : List (Event C A)) → IsGone g parts None ks new old all → IsEnded g true (coming parts ks) left old all
  ended-told ks new left old all p = (λ _. (p.0, p.1, p.3 refl), λ e. absurd (true≢false e))

  module _ (h : IsReadable g) (ks : List ℕ) where
    pub leading : (k : Option ℕ) (b : Bool) → b ≡ starts k (front g (coming parts ks)) → b ≡ true → Leads g (coming parts ks) k
    leading k b is on = leads g h (coming parts ks) k (sym is ∙ on)

    pub taken-told : (left : Expr C A N) (d : ℕ) (b : Bool) (old new : List (Event C A)) → b ≡ starts (Some d) (front g (coming parts ks)) → b ≡ true → Goes g (coming parts ks) (d ∷ []) left old new → IsTaken g true d (coming parts ks) left old new
    taken-told left d b old new is on w = (λ _. (leads-begins g (coming parts ks) d (leading (Some d) b is on), w), λ e. absurd (true≢false e))

    pub refused : (d : ℕ) (b : Bool) (old new : List (Event C A)) → b ≡ starts (Some d) (front g (coming parts ks)) → b ≡ false → new ≡ old → IsTaken g false d (coming parts ks) (coming parts ks) old new
    refused d b old new is off same = (
      λ e. absurd (true≢false (sym e)),
      λ _. (λ m. let l = begins-leads g (coming parts ks) d m in true≢false (sym (start-of g h (coming parts ks) l.0 (Some d) l.1 l.2) ∙ sym is ∙ off), refl, same),
    )

    pub not-ended : (b : Bool) (old new : List (Event C A)) → b ≡ starts None (front g (coming parts ks)) → b ≡ false → new ≡ old → IsEnded g false (coming parts ks) (coming parts ks) old new
    not-ended b old new is off same = (
      λ e. absurd (true≢false (sym e)),
      λ _. (λ xs r. let l = ends-leads g (coming parts ks) xs r in true≢false (sym (start-of g h (coming parts ks) l.0 None l.1 l.2) ∙ sym is ∙ off), refl, same),
    )

    pub end-told : (b : Bool) → b ≡ starts None (front g (coming parts ks)) → IsTrue b ↔ ((xs : List (Event C A)) × IsRead g (coming parts ks) [] xs)
    end-told b is = (
      λ e. leads-ends g (coming parts ks) (leading None b is e),
      λ r. let l = ends-leads g (coming parts ks) r.0 r.1 in is ∙ start-of g h (coming parts ks) l.0 None l.1 l.2,
    )
