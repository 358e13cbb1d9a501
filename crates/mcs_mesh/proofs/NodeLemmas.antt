-- The nodes of all contexts: what a change of one of them leaves as it was.
use Rattle.std.proofs.Common.{◌≡◌, ℕ, ◌<◌, List, [], ◌∷◌, map, length, Some, slice_get, refl, sym, ap, ◌∙◌, subst}
use Rattle.std.proofs.lemmas.List.{length-map}
use Rattle.mcs_base.specs.Listings.{IsListing}
use Rattle.mcs_base.proofs.Lists.{map_slice_get, slice_get-map_some}
use Rattle.mcs_system.specs.Plain.{System}
use Rattle.mcs_states.specs.Oracles.{with_journal}
use Rattle.mcs_states.specs.Evaluators.{unasked}
use Rattle.mcs_node.specs.Rounds.{Supplies}
use Rattle.mcs_node.specs.Nodes.{NodeData}
use Rattle.mcs_mesh.specs.Players.{AreNodesOf, as_new, oracles_of}

-- ---- what no round changes
module _ (xs ys : List NodeData) (same : map as_new xs ≡ map as_new ys) where
  -- the node that stood there
  pub was_there : (i : ℕ) (d : NodeData) → slice_get xs i ≡ Some d → (e : NodeData) × (slice_get ys i ≡ Some e) × (as_new e ≡ as_new d)
  was_there i d at = map_slice_get as_new ys i (as_new d) (subst (λ (ns : List NodeData). slice_get ns i ≡ Some (as_new d)) same (slice_get-map_some as_new xs i d at))

  pub same_length : length xs ≡ length ys
  same_length = sym (length-map xs as_new) ∙ ap length same ∙ length-map ys as_new

  -- the nodes are still those of the contexts
  pub still_nodes : (m : System) (budget : ℕ) → AreNodesOf m budget ys → AreNodesOf m budget xs
  still_nodes m budget own = record {
    one_each = same_length ∙ own.one_each;
    each = λ i d at.
        let (e, there, is) = was_there i d at in
        let one = own.each i e there in record {
          plan = sym (ap (λ (n : NodeData). n.plan) is) ∙ one.plan;
          context = sym (ap (λ (n : NodeData). n.context) is) ∙ one.context;
          budget_is = sym (ap (λ (n : NodeData). n.budget) is) ∙ one.budget_is;
          receivers = subst (λ js. IsListing (Supplies m i) (λ a b. a < b) js) (ap (λ (n : NodeData). n.receivers) is) one.receivers;
        };
  }

unasked_image : (xs : List NodeData) → unasked (oracles_of xs) ≡ map (λ (d : NodeData). d.oracle) (map as_new xs)
unasked_image [] = refl
unasked_image (d ∷ xs) = ap (λ os. with_journal [] d.oracle ∷ os) (unasked_image xs)

pub oracles_rest : (xs ys : List NodeData) → map as_new xs ≡ map as_new ys → unasked (oracles_of xs) ≡ unasked (oracles_of ys)
oracles_rest xs ys same = unasked_image xs ∙ ap (map (λ (d : NodeData). d.oracle)) same ∙ sym (unasked_image ys)
