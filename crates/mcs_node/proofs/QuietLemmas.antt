-- Rounds in which nothing is left to happen.
use Rattle.std.proofs.Common.{◌≡◌, ℕ, ◌<◌, true, false, length, Some, slice_get, refl, sym, subst, inl, inr, ◌⊎◌, arith}
use Rattle.std.proofs.lemmas.Bool.{cases_Bool}
use Rattle.std.proofs.lemmas.Option.{slice_get_within}
use Rattle.std.specs.List.{range_with_len}
use Rattle.mcs_base.specs.Listings.{IsAmong}
use Rattle.mcs_base.proofs.Among.{among_range, range_among}
use Rattle.mcs_base.proofs.Lists.{slice_get_below}
use Rattle.mcs_base.proofs.Results.{some_same}
use Rattle.mcs_base.proofs.Each.{all_or}
use Rattle.mcs_system.specs.Imports.{supplied}
use Rattle.mcs_states.specs.declared.halt.Halt.{Halt}
use Rattle.mcs_import.proofs.OrderLemmas.{import_order_exists}
use Rattle.mcs_node.specs.Rounds.{Supplies, stamp, Round, NodeState, ObeysRule, waits, finishes, is_stopped, stops}
use Rattle.mcs_node.specs.Configurations.{Configuration, HasNode, IsSound, IsQuiet, IsDone, HasHalt, HasStopped}
use Rattle.mcs_node.specs.Laws.{QuietRoundsAreDone, HaltsHaveASource}
use Rattle.mcs_node.proofs.SupplyLemmas.{supplied_by, supplier_below, along_order}
use Rattle.mcs_node.proofs.RuleLemmas.{done_finishes, letter_supplies}

module _ (r : Round) (c : Configuration) (sound : IsSound r c) where
  node_below : (i : ℕ) → i < length r.system.contexts → (s : NodeState) × HasNode c i s
  node_below i less = slice_get_below c.nodes i (subst (λ (n : ℕ). i < n) (sym sound.one_each) less)

  below_node : (i : ℕ) (s : NodeState) → HasNode c i s → i < length r.system.contexts
  below_node i s at = subst (λ (n : ℕ). i < n) sound.one_each (slice_get_within c.nodes i s at)

  -- ---- halts
  -- some node has stopped by itself with the halt of the node of context i
  abbrev Sourced : ℕ → Type 0
  Sourced i = (s : NodeState) (h : Halt) → HasNode c i s → s.halt ≡ Some h → HasStopped c h

  sourced : (i : ℕ) → i < length r.system.contexts → ((j : ℕ) → Supplies r.system j i → Sourced j) → Sourced i
  sourced i less suppliers s h at is = elim (cases_Bool s.by_itself) [
    | inl own ↦ (i, s, at, is, own)
    | inr by_letter ↦ (
        let (x, t, among, stop, from, halt) = (sound.nodes i s at).halted h is by_letter in
        let to : x.to ≡ i = (sound.nodes i s at).addressed x among in
        let supplies : Supplies r.system x.from i = subst (λ (k : ℕ). Supplies r.system x.from k) to (letter_supplies r c sound x ((sound.nodes i s at).sent x among)) in
        suppliers x.from supplies t h from halt)
  ]

  has_source : (i : ℕ) (s : NodeState) (h : Halt) → HasNode c i s → s.halt ≡ Some h → HasStopped c h
  has_source i s h at is = along_order r.system Sourced sourced i (below_node i s at) s h at is

  -- ---- quiet rounds
  module _ (quiet : IsQuiet r c) where
    abbrev DoneAt : ℕ → Type 0
    DoneAt i = (s : NodeState) → HasNode c i s → s.done ≡ true

    -- a node has had what a done one that supplies it has put out
    has_had : (i j : ℕ) (s : NodeState) → HasNode c i s → Supplies r.system j i → DoneAt j → IsAmong (stamp r.level j i false) s.had
    has_had i j s at supplies done =
        let (t, there) = node_below j (supplier_below r.system i j supplies) in
        let f = done_finishes r j t (sound.nodes j t there).rule (done t there) in
        let out : IsAmong (stamp r.level j i false) c.letters = (sound.letters.exactly (stamp r.level j i false)).1 (j, t, there, (f.put_out.exactly (stamp r.level j i false)).1 (i, supplies, refl)) in
        let (u, here, h) = quiet.had (stamp r.level j i false) out in
        subst (λ (v : NodeState). IsAmong (stamp r.level j i false) v.had) (some_same (slice_get c.nodes i) u s here at) h

    -- a node all of whose suppliers are done is done, or has a halt
    done_next : (i : ℕ) (s : NodeState) → HasNode c i s → ((j : ℕ) → Supplies r.system j i → DoneAt j) → ObeysRule r i s → DoneAt i ⊎ HasHalt c
    done_next i s at suppliers (waits w) = absurd (quiet.granted i s at (record {
      begun = quiet.begun i s at;
      had = (λ j supplies. has_had i j s at supplies (suppliers j supplies));
      halt = w.halt;
      granted = w.granted;
    }))
    done_next i s at suppliers (finishes f) = inl (λ t there. subst (λ (v : NodeState). v.done ≡ true) (some_same (slice_get c.nodes i) s t at there) f.done)
    done_next i s at suppliers (is_stopped w) = inr (i, s, w.cause, at, w.halt)
    done_next i s at suppliers (stops w) = inr (i, s, w.cause, at, w.halt)

    next : (i : ℕ) → i < length r.system.contexts → ((j : ℕ) → Supplies r.system j i → DoneAt j ⊎ HasHalt c) → DoneAt i ⊎ HasHalt c
    next i less suppliers =
        let (order, is) = import_order_exists r.system in
        elim (all_or DoneAt (HasHalt c) (supplied r.system order i) (λ j h. suppliers j (order, is, less, h))) [
          | inl all ↦ (let (s, at) = node_below i less in done_next i s at (λ j supplies. all j (supplied_by r.system order i j is supplies)) (sound.nodes i s at).rule)
          | inr other ↦ inr other
        ]

    is_done : IsDone c ⊎ HasHalt c
    is_done = elim (all_or DoneAt (HasHalt c) (range_with_len 0 (length r.system.contexts)) (λ i h. along_order r.system (λ (j : ℕ). DoneAt j ⊎ HasHalt c) next i (let b = range_among i 0 (length r.system.contexts) h in omega (arith, b.1)))) [
      | inl all ↦ inl (λ i s at. all i (among_range i 0 (length r.system.contexts) (omega arith) (let b = below_node i s at in omega (arith, b))) s at)
      | inr other ↦ inr other
    ]

pub quiet_rounds_are_done : QuietRoundsAreDone
quiet_rounds_are_done r c sound quiet = is_done r c sound quiet

pub halts_have_a_source : HaltsHaveASource
halts_have_a_source r c i s halt sound at is = has_source r c sound i s halt at is
