use Rattle.std.proofs.Common.{ℕ, List, [], ◌∷◌, ◌++◌, ◌⊎◌, ◌↔◌, IsTrue}
use Rattle.std.specs.List.{AllByRecursion}
use Rattle.mcs_sets.specs.Sets.{has, members}
use Rattle.mcs_base.specs.Listings.{IsAmong}
use Rattle.mcs_base.specs.Minimal.{IsMinimal}
use Rattle.mcs_base.specs.Transversals.{IsTransversalOf}
use Rattle.mcs_base.proofs.SetParts.{AreBelow}
use Rattle.mcs_transversal.proofs.BergeLemmas.{GrowsBy}
use Rattle.mcs_transversal.proofs.berge.grow_by_sets.Given as goal

abbrev pub invariant-loop-mark : goal.invariant-loop-mark
invariant-loop-mark l = record {
  below : AreBelow 128 l.mark-iterator;
  in_edge : AllByRecursion (λ k. IsTrue (has l.edge k)) l.mark-iterator;
  put : (before : List ℕ) → ((x : ℕ) → IsAmong x l.ts ↔ IsMinimal (IsTransversalOf before) x) → (x : ℕ)
      → (IsAmong x l.fn.out.items ⊎ GrowsBy (before ++ l.edge ∷ []) l.t (members l.edge) x) ↔ (IsAmong x l.out.items ⊎ GrowsBy (before ++ l.edge ∷ []) l.t l.mark-iterator x);
}
