-- Trees, what their first denials deny, and trees with as many denials.
use Rattle.std.proofs.Common.{◌≡◌, refl, sym, ap, ◌∙◌}
use Rattle.mcs_system.specs.Trees.{Tree, Not}
use Rattle.mcs_system.specs.Denials.{denied, with_denials}

module _ {A : Type 0} where
  -- one more denial before it, inside or outside
  denial_out : (t u : Tree A) → with_denials t (Not u) ≡ Not (with_denials t u)
  denial_out (Not t) u = denial_out t (Not u)
  denial_out t u = refl

  -- what is denied, with the denials, is the tree
  pub denied_again : (t : Tree A) → with_denials t (denied t) ≡ t
  denied_again (Not t) = denial_out t (denied t) ∙ ap Not (denied_again t)
  denied_again t = refl

  -- a copy of what is denied, with the denials of the tree
  pub copied_whole : (t u core copy : Tree A) → t ≡ Not u → core ≡ denied u → copy ≡ with_denials t core → copy ≡ t
  copied_whole t u core copy is below with = with ∙ ap (with_denials t) (below ∙ sym (ap denied is)) ∙ denied_again t
