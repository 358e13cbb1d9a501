-- Nodes that are made one after the other, each with its oracle.
use Rattle.std.proofs.Common.{◌≡◌, ℕ, List, [], ◌∷◌, ◌++◌, map, length, Some, slice_get, sym, ap, ◌∙◌, subst, inl, inr}
use Rattle.std.proofs.lemmas.List.{length-map}
use Rattle.std.proofs.lemmas.Option.{none-some}
use Rattle.mcs_base.proofs.Lists.{slice_get_push_at}
use Rattle.mcs_base.proofs.Mapped.{map_push_as}
use Rattle.mcs_system.specs.Plain.{System}
use Rattle.mcs_states.specs.Oracles.{OracleState}
use Rattle.mcs_node.specs.Nodes.{IsNewNode, NodeData}
use Rattle.mcs_mesh.specs.Players.{oracles_of}
use Rattle.mcs_mesh.specs.Rounds.{AreNew}

-- each of the nodes is new
abbrev pub AreEachNew : System → ℕ → List NodeData → Type 0
AreEachNew m budget nodes = (i : ℕ) (d : NodeData) → slice_get nodes i ≡ Some d → IsNewNode m i budget d.oracle d

pub none_new : (m : System) (budget : ℕ) (nodes : List NodeData) → nodes ≡ [] → AreEachNew m budget nodes
none_new m budget nodes is i d at = absurd (none-some d (sym (ap (λ (ns : List NodeData). slice_get ns i) is) ∙ at))

-- one node more
module _ (m : System) (budget i : ℕ) (nodes now : List NodeData) (o : OracleState) (d : NodeData) (here : IsNewNode m i budget o d) (is : now ≡ nodes ++ d ∷ []) where
  its_oracle : d.oracle ≡ o
  its_oracle = ap (λ (z : NodeData). z.oracle) here.rest

  pub new_more : i ≡ length nodes → AreEachNew m budget nodes → AreEachNew m budget now
  new_more at so_far j e there = elim (slice_get_push_at nodes d j e (ap (λ (ns : List NodeData). slice_get ns j) (sym is) ∙ there)) [
    | inl old ↦ so_far j e old
    | inr last ↦
        subst (λ (z : NodeData). IsNewNode m j budget z.oracle z) (sym last.1)
        (subst (λ n. IsNewNode m n budget d.oracle d) (at ∙ sym last.0) (subst (λ z. IsNewNode m i budget z d) (sym its_oracle) here))
  ]

  pub oracles_more : (given : List OracleState) → oracles_of nodes ≡ given → oracles_of now ≡ given ++ o ∷ []
  oracles_more given so_far =
      map_push_as (λ (z : NodeData). z.oracle) nodes now d is ∙ ap (λ os. os ++ d.oracle ∷ []) so_far ∙ ap (λ z. given ++ z ∷ []) its_oracle

-- as many as were taken
pub as_many : {A : Type 0} (nodes : List NodeData) (f : A → OracleState) (xs : List A) → oracles_of nodes ≡ map f xs → length nodes ≡ length xs
as_many nodes f xs are = sym (length-map nodes (λ (z : NodeData). z.oracle)) ∙ ap length are ∙ length-map xs f

-- one for each context
pub new_end : (m : System) (budget : ℕ) (given : List OracleState) (nodes : List NodeData) → length given ≡ length m.contexts → oracles_of nodes ≡ given → AreEachNew m budget nodes → AreNew m budget given nodes
new_end m budget given nodes many are each = record { one_each = sym (length-map nodes (λ (z : NodeData). z.oracle)) ∙ ap length are ∙ many; oracles_are = are; each = each }
