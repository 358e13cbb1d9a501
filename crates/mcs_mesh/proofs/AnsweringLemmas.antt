-- Nodes that are done in one round: all is known of their contexts.
use Rattle.std.proofs.Common.{◌≡◌, ℕ, ◌≤◌, cond, List, length, get_or, slice_get, Option, Some, refl, sym, ap, ◌∙◌, subst, unwrap_or, arith}
use Rattle.std.proofs.lemmas.Option.{slice_get_read}
use Rattle.mcs_base.proofs.Lists.{map_slice_get}
use Rattle.mcs_system.specs.Plain.{System}
use Rattle.mcs_node.specs.Known.{IsKnown, IsKnownAt, Knowledge}
use Rattle.mcs_node.specs.Nodes.{IsNodeData, NodeData, done_level, round_at}
use Rattle.mcs_node.proofs.RuleLemmas.{done_finishes}
use Rattle.mcs_mesh.specs.Players.{known_to}
use Rattle.mcs_mesh.specs.Rounds.{AreDone, AreKnown, IsDoneIn}

known_done : (m : System) (level i : ℕ) (d : NodeData) → IsDoneIn m level i d → IsNodeData d → IsKnown m level i d.known
known_done m level i d one node =
    let f = done_finishes (round_at d level) d.context d.state (node.rule level one.level_is) one.done in
    let reached : done_level d ≡ Some level = ap (λ b. cond b d.level d.before) one.done ∙ one.level_is in
    subst (λ (c : ℕ). IsKnown m level c d.known) one.context
    (subst (λ (p : System). IsKnown p level d.context d.known) one.plan (subst (λ (o : Option ℕ). IsKnownAt d.plan o d.context d.known) reached (node.known f.halt)))

module _ (m : System) (least : ℕ) (nodes : List NodeData) (done : AreDone m least nodes) (each : (i : ℕ) (d : NodeData) → slice_get nodes i ≡ Some d → IsNodeData d) where
  pub all_known_done : AreKnown m done.level (known_to nodes)
  all_known_done i k at =
      let (d, there, is) = map_slice_get (λ (d : NodeData). d.known) nodes i k at in
      subst (λ (z : Knowledge). IsKnown m done.level i z) is (known_done m done.level i d (done.each i d there) (each i d there))

  -- the level that the first of them tells
  pub level_told : (first : NodeData) → 1 ≤ length nodes → first ≡ get_or nodes 0 first → (told : Option ℕ) → told ≡ first.level → (least ≤ unwrap_or told least) × AreKnown m (unwrap_or told least) (known_to nodes)
  level_told first some is told told_is =
      let there : slice_get nodes 0 ≡ Some first = slice_get_read nodes (length nodes) 0 first refl (omega (arith, some)) is in
      let level_is : done.level ≡ unwrap_or told least = sym (ap (λ (o : Option ℕ). unwrap_or o least) (told_is ∙ (done.each 0 first there).level_is)) in
      (subst (λ k. least ≤ k) level_is done.no_less, subst (λ k. AreKnown m k (known_to nodes)) level_is all_known_done)
