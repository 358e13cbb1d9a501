-- What a read of a table tells.
use Rattle.std.proofs.Common.{arith, ◌≡◌, ℕ, ◌<◌, true, List, length, get_or, Some, refl, ap, subst, ◌∙◌}
use Rattle.std.proofs.lemmas.Option.{slice_get_read}
use Rattle.mcs_syntax.specs.declared.part.Part.{Part}
use Rattle.mcs_syntax.specs.declared.front.Front.{Front}
use Rattle.mcs_syntax.specs.Grammar.{Grammar, front}
use Rattle.mcs_syntax.specs.Parts.{made_of, expr_at, is_later, IsTable}
use Rattle.mcs_syntax.specs.Fronts.{AreFronts}
use Rattle.mcs_syntax.proofs.Places.{part-is, later-is}

module _ {C A N : Type 0} (g : Grammar C A N) (root : N → ℕ) (inside now : List (Part C A N)) (v : inside ≡ now) where
  pub table-now : IsTable g root inside → IsTable g root now
  table-now t = subst (IsTable g root) v t

  module _ (t : IsTable g root inside) (k : ℕ) (p : Part C A N) (h : k < length now) (is : p ≡ get_or inside k p) where
    pub part-seen : (q : Part C A N) → p ≡ q → expr_at now k ≡ made_of (expr_at now) (Some q)
    part-seen q e = part-is g root now (table-now t) k p h (is ∙ ap (λ ps. get_or ps k p) v) q e

    pub later-seen : (q : Part C A N) → p ≡ q → is_later k (length now) q ≡ true
    later-seen q e = later-is g root now (table-now t) k p h (is ∙ ap (λ ps. get_or ps k p) v) q e

  pub front-seen : (fronts : List Front) → AreFronts g inside fronts → (k : ℕ) (f : Front) → k < length now → f ≡ get_or fronts k f → f ≡ front g (expr_at now k)
  front-seen fronts a k f h is =
      let b = subst (λ ps. AreFronts g ps fronts) v a in
      b.1 k f (slice_get_read fronts (length fronts) k f refl (omega (arith, b.0, h)) is)
