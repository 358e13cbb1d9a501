-- Configurations whose letters are listed node by node: when they are sound, and rounds in which every node has finished.
use Rattle.std.proofs.Common.{◌≡◌, ℕ, ◌+◌, ◌<◌, zero, suc, true≢false, List, [], ◌∷◌, length, Some, slice_get, refl, sym, ap, ◌∙◌, subst, arith}
use Rattle.std.specs.List.{flat_map}
use Rattle.mcs_base.specs.Listings.{IsAmong, AreApart}
use Rattle.mcs_base.proofs.Among.{among_get, get_among, among_flat_map, flat_map_among}
use Rattle.mcs_base.proofs.Distinct.{distinct_append}
use Rattle.mcs_base.proofs.Lists.{slice_get_below}
use Rattle.mcs_base.proofs.Results.{no_none}
use Rattle.mcs_node.specs.Rounds.{Stamp, Round, NodeState, finishes}
use Rattle.mcs_node.specs.Configurations.{HasNode, IsPutOut, IsFromSender, WasHad, IsSoundNode, IsSound, IsQuiet}
use Rattle.mcs_node.specs.Laws.{AreFinished, listed_by_node, DoneRoundsAreQuiet}
use Rattle.mcs_node.proofs.SupplyLemmas.{supplier_below}
use Rattle.mcs_node.proofs.RuleLemmas.{put_out_apart, put_out_from}

-- ---- letters listed node by node
-- letters of nodes whose numbers begin at k: each goes from its node
abbrev AreFromPlaces : ℕ → List NodeState → Type 0
AreFromPlaces k nodes = (i : ℕ) (s : NodeState) → slice_get nodes i ≡ Some s → AreApart s.put_out × ((x : Stamp) → IsAmong x s.put_out → x.from ≡ k + i)

listed_apart : (k : ℕ) (nodes : List NodeState) → AreFromPlaces k nodes → AreApart (flat_map (λ (s : NodeState). s.put_out) nodes)
listed_apart k [] from = tt
listed_apart k (s ∷ nodes) from = distinct_append s.put_out (flat_map (λ (t : NodeState). t.put_out) nodes) (from zero s refl).0
    (listed_apart (k + 1) nodes (λ i t at. ((from (suc i) t at).0, λ x h. let e = (from (suc i) t at).1 x h in omega (arith, e))))
    differ
  where
    differ : (x : Stamp) → IsAmong x s.put_out → ¬ IsAmong x (flat_map (λ (t : NodeState). t.put_out) nodes)
    differ x here there =
        let (t, among, h) = flat_map_among (λ (t : NodeState). t.put_out) x nodes there in
        let (i, at) = get_among t nodes among in
        let first = (from zero s refl).1 x here in
        let second = (from (suc i) t at).1 x h in
        omega (arith, first, second)

to_out : (nodes : List NodeState) (x : Stamp) → IsAmong x (flat_map (λ (s : NodeState). s.put_out) nodes) → IsPutOut (listed_by_node nodes) x
to_out nodes x listed =
    let (s, among, h) = flat_map_among (λ (t : NodeState). t.put_out) x nodes listed in
    let (i, at) = get_among s nodes among in
    (i, s, at, h)

from_out : (nodes : List NodeState) (x : Stamp) → IsPutOut (listed_by_node nodes) x → IsAmong x (flat_map (λ (s : NodeState). s.put_out) nodes)
from_out nodes x (i, s, at, h) = among_flat_map (λ (t : NodeState). t.put_out) s x nodes (among_get s nodes i at) h

-- where each node is sound with these letters, the configuration is sound
pub sound_as_listed : (r : Round) (nodes : List NodeState) → length nodes ≡ length r.system.contexts
    → ((i : ℕ) (s : NodeState) → slice_get nodes i ≡ Some s → IsSoundNode r (listed_by_node nodes) i s) → IsSound r (listed_by_node nodes)
sound_as_listed r nodes one_each each = record {
  one_each = one_each;
  letters = record {
    exactly = λ x. (to_out nodes x, from_out nodes x);
    apart = listed_apart 0 nodes (λ i s at. (put_out_apart r i s (each i s at).rule, λ x h. let e = put_out_from r i s x (each i s at).rule h in omega (arith, e)));
  };
  nodes = each;
}

-- ---- rounds that are done
module _ (r : Round) (nodes : List NodeState) (all : AreFinished r nodes) where
  node_below : (i : ℕ) → i < length r.system.contexts → (s : NodeState) × (slice_get nodes i ≡ Some s)
  node_below i less = slice_get_below nodes i (subst (λ (n : ℕ). i < n) (sym all.one_each) less)

  -- what a node has had is the supply of one that has put it out
  was_sent : (i : ℕ) (s : NodeState) (x : Stamp) → slice_get nodes i ≡ Some s → IsAmong x s.had → IsFromSender (listed_by_node nodes) x
  was_sent i s x at h =
      let (j, supplies, is) = ((all.finish i s at).had.exactly x).0 h in
      let (t, there) = node_below j (supplier_below r.system i j supplies) in
      let from : x.from ≡ j = ap (λ (y : Stamp). y.from) is in
      (t, subst (λ (k : ℕ). HasNode (listed_by_node nodes) k t) (sym from) there, ((all.finish j t there).put_out.exactly x).1 (i, supplies, is))

  -- and what a node has put out was had
  was_had : (x : Stamp) → IsAmong x (flat_map (λ (s : NodeState). s.put_out) nodes) → WasHad (listed_by_node nodes) x
  was_had x listed =
      let (s, among, h) = flat_map_among (λ (t : NodeState). t.put_out) x nodes listed in
      let (i, at) = get_among s nodes among in
      let (j, supplies, is) = ((all.finish i s at).put_out.exactly x).0 h in
      let (t, there) = node_below j supplies.2 in
      let to : x.to ≡ j = ap (λ (y : Stamp). y.to) is in
      (t, subst (λ (k : ℕ). HasNode (listed_by_node nodes) k t) (sym to) there, ((all.finish j t there).had.exactly x).1 (i, supplies, is))

  node_is_sound : (i : ℕ) (s : NodeState) → slice_get nodes i ≡ Some s → IsSoundNode r (listed_by_node nodes) i s
  node_is_sound i s at = let f = all.finish i s at in record {
    addressed = (λ x h. let (j, supplies, is) = (f.had.exactly x).0 h in ap (λ (y : Stamp). y.to) is);
    sent = (λ x h. was_sent i s x at h);
    once = f.had.apart;
    rule = finishes f;
    unbegun = (λ e. absurd (true≢false (sym (all.begun i s at) ∙ e)));
    halted = (λ halt is by_letter. absurd (no_none s.halt halt f.halt is));
  }

  is_quiet : IsQuiet r (listed_by_node nodes)
  is_quiet = record {
    begun = all.begun;
    granted = (λ i s at awaits. let (total, is, within) = (all.finish i s at).granted in no_none s.granted total awaits.granted is);
    had = was_had;
  }

pub done_rounds_are_quiet : DoneRoundsAreQuiet
done_rounds_are_quiet r nodes all = (sound_as_listed r nodes all.one_each (node_is_sound r nodes all), is_quiet r nodes all)
