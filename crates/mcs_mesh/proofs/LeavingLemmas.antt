-- What a round in turn leaves, whatever stops it: nodes that make a sound configuration.
use Rattle.std.proofs.Common.{◌≡◌, ℕ, ◌<◌, ◌≤◌, zero, suc, true, false, true≢false, List, [], ◌∷◌, ◌++◌, map, take, drop, length, length-append, get_or, slice_get, slice_set, Option, Some, None, refl, sym, ap, ◌∙◌, subst, inl, inr, ◌⊎◌, arith}
use Rattle.std.proofs.lemmas.List.{length-map}
use Rattle.std.proofs.lemmas.Option.{none-some, same_Some, slice_get_within}
use Rattle.mcs_base.specs.Listings.{IsAmong, AreApart, IsInventory, IsListing}
use Rattle.mcs_base.proofs.Among.{among_push, cases_among}
use Rattle.mcs_base.proofs.Distinct.{distinct_push}
use Rattle.mcs_base.proofs.Lists.{map_slice_get, slice_get-map_some, slice_get_below}
use Rattle.mcs_base.proofs.Written.{slice_get-slice_set, length-slice_set, set_there}
use Rattle.mcs_base.proofs.Results.{some_same}
use Rattle.mcs_system.specs.Plain.{System}
use Rattle.mcs_system.specs.Imports.{IsImportOrder}
use Rattle.mcs_states.specs.declared.halt.Halt.{Halt}
use Rattle.mcs_states.specs.declared.halt.Halt.TheVariants.{Spent, Missing, Memory}
use Rattle.mcs_node.specs.Rounds.{IsNewQuestion, IsOwnHalt, IsSentBy, IsSupplyTo, NodeState, ObeysRule, Round, Stamp, Supplies, Waits, finishes, stamp, stops}
use Rattle.mcs_node.specs.Rounds as rule_of
use Rattle.mcs_node.specs.Configurations.{IsSoundNode, new_node}
use Rattle.mcs_node.specs.Laws.{listed_by_node}
use Rattle.mcs_node.specs.Letters.{LetterData, is_stop, stamp_of}
use Rattle.mcs_node.specs.Nodes.{HasFailed, HasFinished, HasTaken, IsAbove, IsGrantHalt, NodeData, begun_at, begun_node, done_level, round_at, stamps_to, stopped_with, with_grant, with_had}
use Rattle.mcs_node.specs.Playing.{HasState, HaveStates, has_begun, has_not}
use Rattle.mcs_node.proofs.DoneLemmas.{sound_as_listed}
use Rattle.mcs_node.proofs.SupplyLemmas.{supplier_below}
use Rattle.mcs_node.proofs.RuleLemmas.{sent_to}
use Rattle.mcs_mesh.specs.Players.{AreExpected, AreNodesOf, AreSomeDelivered, FinishesOn, HasStoppedOn, HaveBegunSome, IsAmidDelivery, IsNodeOf, IsReadyRound, as_new, has_taken, is_sending, waits_on}
use Rattle.mcs_mesh.specs.Rounds.{IsSoundRound, round_of}
use Rattle.mcs_mesh.proofs.NodeLemmas.{still_nodes}
use Rattle.mcs_mesh.proofs.PlayLemmas.{IsFinished, IsInPlay, IsWaiting, here_finished, letter_is, letters_expected, is_own, not_seen, now_seen, round, round_is, states_of, supplier_seen, waits}
use Rattle.mcs_mesh.proofs.TurnLemmas.{content_kept}

-- ---- nodes that have begun a round
-- the node that x comes from has put it out
abbrev pub WasPutOut : List NodeData → Stamp → Type 0
WasPutOut nodes x = (d : NodeData) × (slice_get nodes x.from ≡ Some d) × IsAmong x d.state.put_out

-- the node of context i is in the round, and has had supplies that were put out, each once
pub record IsInRound (r : Round) (nodes : List NodeData) (i : ℕ) (d : NodeData) : Type 0 where
  pub level_is : d.level ≡ Some r.level
  pub before_is : d.before ≡ r.before
  pub begun : d.state.begun ≡ true
  pub had : (x : Stamp) → IsAmong x d.state.had → IsSupplyTo r i x × WasPutOut nodes x
  pub once : AreApart d.state.had

-- and it obeys the rule, and was stopped by no letter
pub record HasBegun (r : Round) (nodes : List NodeData) (i : ℕ) (d : NodeData) : Type 0 where
  pub in_round : IsInRound r nodes i d
  pub rule : ObeysRule r i d.state
  pub by_itself : (halt : Halt) → d.state.halt ≡ Some halt → d.state.by_itself ≡ true

abbrev pub HaveBegun : Round → List NodeData → Type 0
HaveBegun r nodes = (i : ℕ) (d : NodeData) → slice_get nodes i ≡ Some d → HasBegun r nodes i d

-- ---- they make a sound configuration
module _ (m : System) (level budget : ℕ) (before : Option ℕ) (nodes : List NodeData) (own : AreNodesOf m budget nodes) where
  states_by : (ss : List NodeState) → length ss ≡ length nodes → ((i : ℕ) (d : NodeData) (s : NodeState) → slice_get nodes i ≡ Some d → slice_get ss i ≡ Some s → HasState (round_of m level budget before) i d s)
      → HaveStates (round_of m level budget before) nodes ss
  states_by ss long each = record { one_each = own.one_each; states_each = long; contexts = λ i d at. (own.each i d at).context; receivers = λ i d at. (own.each i d at).receivers; each = each }

  module _ (all : HaveBegun (round_of m level budget before) nodes) where
    has_state : (i : ℕ) (d : NodeData) (s : NodeState) → slice_get nodes i ≡ Some d → slice_get (states_of nodes) i ≡ Some s → HasState (round_of m level budget before) i d s
    has_state i d s at at' =
        let h = (all i d at).in_round in
        let one = own.each i d at in
        has_begun (round_is d.plan m level level d.budget budget d.before before one.plan refl one.budget_is h.before_is) h.level_is h.begun
        (some_same (slice_get (states_of nodes) i) s d.state at' (slice_get-map_some (λ (z : NodeData). z.state) nodes i d at))

    sound_node : (i : ℕ) (d : NodeData) → slice_get nodes i ≡ Some d → IsSoundNode (round_of m level budget before) (listed_by_node (states_of nodes)) i d.state
    sound_node i d at =
        let h = all i d at in record {
          addressed = λ x a. let (j, supplies, is) = (h.in_round.had x a).0 in ap (λ (y : Stamp). y.to) is;
          sent = λ x a. let (e, there, out) = (h.in_round.had x a).1 in (e.state, slice_get-map_some (λ (z : NodeData). z.state) nodes x.from e there, out);
          once = h.in_round.once;
          rule = h.rule;
          unbegun = λ none. absurd (true≢false (sym h.in_round.begun ∙ none));
          halted = λ halt is by_letter. absurd (true≢false (sym (h.by_itself halt is) ∙ by_letter));
        }

    pub sound_begun : IsSoundRound m level budget nodes
    sound_begun = record {
      before = before;
      configuration = listed_by_node (states_of nodes);
      states = states_by (states_of nodes) (length-map nodes (λ (z : NodeData). z.state)) has_state;
      sound = sound_as_listed (round_of m level budget before) (states_of nodes) (length-map nodes (λ (z : NodeData). z.state) ∙ own.one_each) (λ i s at.
          let (d, there, is) = map_slice_get (λ (z : NodeData). z.state) nodes i s at in
          subst (λ (z : NodeState). IsSoundNode (round_of m level budget before) (listed_by_node (states_of nodes)) i z) is (sound_node i d there));
    }

-- ---- some have begun, and the others have not
-- a node that has had nothing and waits
waits_new : (s : NodeState) → (s ≡ begun_node) ⊎ (s ≡ new_node) → Waits s
waits_new s (inl is) = rw is (record { granted = refl; no_stop = λ x h. absurd h; put_out = refl; done = refl; halt = refl; by_itself = refl })
waits_new s (inr is) = rw is (record { granted = refl; no_stop = λ x h. absurd h; put_out = refl; done = refl; halt = refl; by_itself = refl })

none_had : (s : NodeState) → (s ≡ begun_node) ⊎ (s ≡ new_node) → s.had ≡ []
none_had s (inl is) = ap (λ (z : NodeState). z.had) is
none_had s (inr is) = ap (λ (z : NodeState). z.had) is

unbegun_new : (s : NodeState) → (s ≡ begun_node) ⊎ (s ≡ new_node) → s.begun ≡ false → s ≡ new_node
unbegun_new s (inl is) none = absurd (true≢false (sym (ap (λ (z : NodeState). z.begun) is) ∙ none))
unbegun_new s (inr is) none = is

-- the states of nodes of which the first k have begun
abbrev states_then : ℕ → List NodeData → List NodeState
states_then k xs = map (λ (d : NodeData). begun_node) (take k xs) ++ map (λ (d : NodeData). new_node) (drop k xs)

either : (level : ℕ) (xs : List NodeData) (k i : ℕ) (e : NodeData) (s : NodeState) → slice_get (map (begun_at level) (take k xs) ++ drop k xs) i ≡ Some e → slice_get (states_then k xs) i ≡ Some s
    → (d : NodeData) × (slice_get xs i ≡ Some d) × (((e ≡ begun_at level d) × (s ≡ begun_node)) ⊎ ((e ≡ d) × (s ≡ new_node)))
either level [] zero i e s at at' = absurd (none-some e at)
either level [] (suc k) i e s at at' = absurd (none-some e at)
either level (x ∷ xs) zero i e s at at' = let (d, there, is) = map_slice_get (λ (d : NodeData). new_node) (x ∷ xs) i s at' in (e, at, inr (refl, sym is))
either level (x ∷ xs) (suc k) zero e s at at' = (x, refl, inl (sym (same_Some (begun_at level x) e at), sym (same_Some begun_node s at')))
either level (x ∷ xs) (suc k) (suc i) e s at at' = either level xs k i e s at at'

module _ (m : System) (level budget asked : ℕ) (first : List NodeData) (ready : IsReadyRound m level budget asked first) where
  has_some_state : (i : ℕ) (d e : NodeData) (s : NodeState) → slice_get first i ≡ Some d → IsNodeOf m budget i d → ((e ≡ begun_at level d) × (s ≡ begun_node)) ⊎ ((e ≡ d) × (s ≡ new_node)) → HasState (round_of m level budget ready.before) i e s
  has_some_state i d e s at one (inl (is, state)) =
      let h = ready.reached.each i d at in
      subst (λ (z : NodeData). HasState (round_of m level budget ready.before) i z s) (sym is)
      (has_begun (round_is d.plan m level level d.budget budget (done_level d) ready.before one.plan refl one.budget_is h.reached) refl refl state)
  has_some_state i d e s at one (inr (is, state)) =
      let h = ready.reached.each i d at in
      subst (λ (z : NodeData). HasState (round_of m level budget ready.before) i z s) (sym is)
      (has_not one.plan one.budget_is h.reached (subst (λ (o : Option ℕ). IsAbove o level) (sym h.level) ready.above) h.going state)

  module _ (after : List NodeData) (same : map as_new after ≡ map as_new first) (k : ℕ) (is : after ≡ map (begun_at level) (take k first) ++ drop k first) where
    own_after : AreNodesOf m budget after
    own_after = still_nodes after first same m budget ready.own

    long : length (states_then k first) ≡ length after
    long = length-append (map (λ (d : NodeData). begun_node) (take k first)) (map (λ (d : NodeData). new_node) (drop k first))
        ∙ omega (arith, length-map (take k first) (λ (d : NodeData). begun_node), length-map (drop k first) (λ (d : NodeData). new_node), length-map (take k first) (begun_at level), length-append (map (begun_at level) (take k first)) (drop k first))
        ∙ sym (ap length is)

    found : (i : ℕ) (e : NodeData) (s : NodeState) → slice_get after i ≡ Some e → slice_get (states_then k first) i ≡ Some s → (d : NodeData) × (slice_get first i ≡ Some d) × (((e ≡ begun_at level d) × (s ≡ begun_node)) ⊎ ((e ≡ d) × (s ≡ new_node)))
    found i e s at at' = either level first k i e s (subst (λ (ns : List NodeData). slice_get ns i ≡ Some e) is at) at'

    kind_of : (i : ℕ) (s : NodeState) → slice_get (states_then k first) i ≡ Some s → (s ≡ begun_node) ⊎ (s ≡ new_node)
    kind_of i s at =
        let (e, there) = slice_get_below after i (let b = slice_get_within (states_then k first) i s at in omega (arith, b, long)) in
        let (d, was, which) = found i e s there at in
        elim which [ inl begun ↦ inl begun.1 | inr new ↦ inr new.1 ]

    sound_new : (i : ℕ) (s : NodeState) → slice_get (states_then k first) i ≡ Some s → IsSoundNode (round_of m level budget ready.before) (listed_by_node (states_then k first)) i s
    sound_new i s at =
        let kind = kind_of i s at in
        let none = none_had s kind in record {
          addressed = λ x h. absurd (subst (λ xs. IsAmong x xs) none h);
          sent = λ x h. absurd (subst (λ xs. IsAmong x xs) none h);
          once = subst (λ (xs : List Stamp). AreApart xs) (sym none) tt;
          rule = rule_of.waits (waits_new s kind);
          unbegun = unbegun_new s kind;
          halted = λ halt h by_letter. absurd (none-some halt (sym (waits_new s kind).halt ∙ h));
        }

    begun_sound : IsSoundRound m level budget after
    begun_sound = record {
      before = ready.before;
      configuration = listed_by_node (states_then k first);
      states = states_by m level budget ready.before after own_after (states_then k first) long (λ i e s at at'. let (d, there, which) = found i e s at at' in has_some_state i d e s there (ready.own.each i d there) which);
      sound = sound_as_listed (round_of m level budget ready.before) (states_then k first) (long ∙ own_after.one_each) sound_new;
    }

  pub some_begun_sound : (after : List NodeData) → map as_new after ≡ map as_new first → HaveBegunSome level first after → IsSoundRound m level budget after
  some_begun_sound after same (k, is) = begun_sound after same k is

-- ---- what changes of nodes that have begun
-- each node has still put out what it had
begun_moved : (r : Round) (nodes after : List NodeData) → HaveBegun r nodes → length after ≡ length nodes
    → ((j : ℕ) (n z : NodeData) → slice_get nodes j ≡ Some n → slice_get after j ≡ Some z → ((x : Stamp) → IsAmong x n.state.put_out → IsAmong x z.state.put_out) × HasBegun r nodes j z) → HaveBegun r after
begun_moved r nodes after all long moved j z at =
    let (n, there) = slice_get_below nodes j (let b = slice_get_within after j z at in omega (arith, b, long)) in
    let h = (moved j n z there at).1 in
    let g = h.in_round in record {
      in_round = record { level_is = g.level_is; before_is = g.before_is; begun = g.begun; had = λ x a. ((g.had x a).0, out x (g.had x a).1); once = g.once };
      rule = h.rule;
      by_itself = h.by_itself;
    }
  where
    out : (x : Stamp) → WasPutOut nodes x → WasPutOut after x
    out x (n, there, h) = let (z, at) = slice_get_below after x.from (let b = slice_get_within nodes x.from n there in omega (arith, b, long)) in (z, at, (moved x.from n z there at).0 x h)

-- one of them changes
begun_set : (r : Round) (nodes : List NodeData) → HaveBegun r nodes → (i : ℕ) (d e : NodeData) → slice_get nodes i ≡ Some d → ((x : Stamp) → IsAmong x d.state.put_out → IsAmong x e.state.put_out) → HasBegun r nodes i e → HaveBegun r (slice_set nodes i e)
begun_set r nodes all i d e at more here = begun_moved r nodes (slice_set nodes i e) all (length-slice_set nodes i e) (λ j n z there at'. elim (slice_get-slice_set nodes i j e z at') [
  | inl same ↦
      let n_is : n ≡ d = some_same (slice_get nodes i) n d (subst (λ c. slice_get nodes c ≡ Some n) same.0 there) at in (
        λ x h. subst (λ (y : NodeData). IsAmong x y.state.put_out) (sym same.1) (more x (subst (λ (y : NodeData). IsAmong x y.state.put_out) n_is h)),
        subst (λ c. HasBegun r nodes c z) (sym same.0) (subst (λ (y : NodeData). HasBegun r nodes i y) (sym same.1) here),
      )
  | inr other ↦
      let z_is : n ≡ z = some_same (slice_get nodes j) n z there other.1 in
      (λ x h. subst (λ (y : NodeData). IsAmong x y.state.put_out) z_is h, all j z other.1)
])

-- one that stops by itself puts out stops
stop_of : (r : Round) (nodes : List NodeData) (i : ℕ) (z : NodeData) → IsInRound r nodes i z → z.context ≡ i → IsListing (Supplies r.system i) (λ a b. a < b) z.receivers
    → (level : ℕ) → level ≡ r.level → (halt : Halt) → IsOwnHalt r i z.state.granted halt → HasBegun r nodes i (stopped_with level halt true z)
stop_of r nodes i z h context_is receivers level level_is halt own_halt = record {
  in_round = record { level_is = h.level_is; before_is = h.before_is; begun = h.begun; had = h.had; once = h.once };
  rule = stops (record {
    put_out = subst (λ (l : ℕ). IsInventory (IsSentBy r i true) (stamps_to l z.context true z.receivers)) (sym level_is)
        (subst (λ (c : ℕ). IsInventory (IsSentBy r i true) (stamps_to r.level c true z.receivers)) (sym context_is) (sent_to r i true z.receivers receivers));
    done = refl;
    cause = halt;
    own = own_halt;
    halt = refl;
    by_itself = refl;
  });
  by_itself = λ other is. refl;
}

-- ---- a node stops as it is granted a total
module _ (m : System) (level budget : ℕ) (before : Option ℕ) (nodes : List NodeData) (i : ℕ) (d e : NodeData) (one : IsNodeOf m budget i d) (h : IsInRound (round_of m level budget before) nodes i d) (total : ℕ) where
  granted_in_round : IsInRound (round_of m level budget before) nodes i (with_grant total d)
  granted_in_round = record { level_is = h.level_is; before_is = h.before_is; begun = h.begun; had = h.had; once = h.once }

  own_of : (at : ℕ) → at ≡ level → total ≤ d.budget → (halt : Halt) → IsGrantHalt d at halt → IsOwnHalt (round_of m level budget before) i (Some total) halt
  own_of at level_is within (Spent l drawn) none = absurd none
  own_of at level_is within (Missing c x) (c_is, lacks, new) = (
    c_is ∙ one.context,
    (total, refl, subst (λ b. total ≤ b) one.budget_is within),
    subst (λ (r : Round). IsNewQuestion r i x) (round_is d.plan m at level d.budget budget d.before before one.plan level_is one.budget_is h.before_is)
        (subst (λ (c : ℕ). IsNewQuestion (round_at d at) c x) one.context new),
  )
  own_of at level_is within Memory cause = tt

  stopped_on : d.state.halt ≡ None → (halt : Halt) → e.state.halt ≡ Some halt → (at : ℕ) → at ≡ level
      → ((d.budget < total) × (e ≡ stopped_with at (Spent at total) true (with_grant total d))) ⊎ (HasFinished total at d e ⊎ HasFailed total at d e) → HasBegun (round_of m level budget before) nodes i e
  stopped_on going halt told at level_is (inl (over, is)) =
      subst (λ (z : NodeData). HasBegun (round_of m level budget before) nodes i z) (sym is)
      (stop_of (round_of m level budget before) nodes i (with_grant total d) granted_in_round one.context one.receivers at level_is (Spent at total) (level_is, refl, subst (λ b. b < total) one.budget_is over))
  stopped_on going halt told at level_is (inr (inl f)) = absurd (none-some halt (sym (ap (λ (z : NodeData). z.state.halt) f.rest ∙ going) ∙ told))
  stopped_on going halt told at level_is (inr (inr f)) =
      let s = stop_of (round_of m level budget before) nodes i (with_grant total d) granted_in_round one.context one.receivers at level_is f.halt (own_of at level_is f.within f.halt f.cause) in
      let g = s.in_round in
      subst (λ (z : NodeData). HasBegun (round_of m level budget before) nodes i z) (sym f.rest)
      (record { in_round = record { level_is = g.level_is; before_is = g.before_is; begun = g.begun; had = g.had; once = g.once }; rule = s.rule; by_itself = s.by_itself })

-- ---- letters of the node of context i are delivered, and memory may run out
module _ (m : System) (level budget : ℕ) (before : Option ℕ) (nodes : List NodeData) (own_nodes : AreNodesOf m budget nodes) (all : HaveBegun (round_of m level budget before) nodes)
    (i : ℕ) (x : AreExpected i nodes) (out : (l : LetterData) → IsAmong l x.sender.outbox → WasPutOut nodes (stamp_of l)) (wait : (l : LetterData) (among : IsAmong l x.sender.outbox) → Waits (x.each l among).node.state) where
  -- an addressee has had its letter
  module _ (l : LetterData) (among : IsAmong l x.sender.outbox) (j : ℕ) (to : l.to ≡ j) (n : NodeData) (at : slice_get nodes j ≡ Some n) where
    n_is : (x.each l among).node ≡ n
    n_is = some_same (slice_get nodes j) (x.each l among).node n (subst (λ c. slice_get nodes c ≡ Some (x.each l among).node) to (x.each l among).is_its) at

    waits_there : Waits n.state
    waits_there = subst (λ (z : NodeData). Waits z.state) n_is (wait l among)

    one : IsNodeOf m budget j n
    one = own_nodes.each j n at

    level_same : l.level ≡ level
    level_same = some_same n.level l.level level (subst (λ (z : NodeData). z.level ≡ Some l.level) n_is (x.each l among).awaited.level) (all j n at).in_round.level_is

    stamp_is : stamp_of l ≡ stamp level l.from j false
    stamp_is = ap (λ b. stamp b l.from l.to (is_stop l.content)) level_same ∙ ap (λ c. stamp level l.from c (is_stop l.content)) to ∙ ap (λ b. stamp level l.from j b) (x.each l among).supply

    fits : Supplies m l.from j
    fits = subst (λ (c : ℕ). Supplies m l.from c) one.context (subst (λ (p : System). Supplies p l.from n.context) one.plan (subst (λ (z : NodeData). Supplies z.plan l.from z.context) n_is (x.each l among).awaited.supplies))

    not_had : ¬ IsAmong (stamp_of l) n.state.had
    not_had h = subst (λ (z : NodeData). (y : Stamp) → IsAmong y z.state.had → ¬ (y.from ≡ l.from)) n_is (x.each l among).awaited.first (stamp_of l) h refl

    had_in_round : IsInRound (round_of m level budget before) nodes j (with_had l n)
    had_in_round = let g = (all j n at).in_round in record {
      level_is = g.level_is;
      before_is = g.before_is;
      begun = g.begun;
      had = λ y a. elim ((among_push y n.state.had (stamp_of l)).0 a) [
        | inl old ↦ g.had y old
        | inr last ↦ ((l.from, fits, last ∙ stamp_is), subst (λ (z : Stamp). WasPutOut nodes z) (sym last) (out l among))
      ];
      once = distinct_push n.state.had (stamp_of l) g.once not_had;
    }

    had_waits : Waits (with_had l n).state
    had_waits = let w = waits_there in record {
      granted = w.granted;
      no_stop = λ y a. elim ((among_push y n.state.had (stamp_of l)).0 a) [ inl old ↦ w.no_stop y old | inr last ↦ ap (λ (z : Stamp). z.stop) (last ∙ stamp_is) ];
      put_out = w.put_out;
      done = w.done;
      halt = w.halt;
      by_itself = w.by_itself;
    }

    had_begun : HasBegun (round_of m level budget before) nodes j (with_had l n)
    had_begun = record { in_round = had_in_round; rule = rule_of.waits had_waits; by_itself = λ halt is. absurd (none-some halt (sym waits_there.halt ∙ is)) }

    taken_begun : (z : NodeData) → HasTaken l n z → HasBegun (round_of m level budget before) nodes j z
    taken_begun z (inl is) = subst (λ (y : NodeData). HasBegun (round_of m level budget before) nodes j y) (sym (is ∙ content_kept l l.content n.state.halt n (x.each l among).supply)) had_begun
    taken_begun z (inr (states, content, going, is)) = subst (λ (y : NodeData). HasBegun (round_of m level budget before) nodes j y) (sym is)
        (stop_of (round_of m level budget before) nodes j (with_had l n) had_in_round one.context one.receivers l.level level_same Memory tt)

    none_out : (y : Stamp) → ¬ IsAmong y n.state.put_out
    none_out y h = subst (λ ys. IsAmong y ys) waits_there.put_out h

  module _ (after : List NodeData) (some : AreSomeDelivered i nodes after) where
    moved_by : (j : ℕ) (n z : NodeData) → slice_get nodes j ≡ Some n → IsAmidDelivery i x.sender.outbox j n z → ((y : Stamp) → IsAmong y n.state.put_out → IsAmong y z.state.put_out) × HasBegun (round_of m level budget before) nodes j z
    moved_by j n z at (is_sending here is) =
        let h = all j n at in
        let g = h.in_round in (
          λ y a. subst (λ (s : NodeState). IsAmong y s.put_out) (sym (ap (λ (d : NodeData). d.state) is)) a,
          subst (λ (d : NodeData). HasBegun (round_of m level budget before) nodes j d) (sym is)
              (record { in_round = record { level_is = g.level_is; before_is = g.before_is; begun = g.begun; had = g.had; once = g.once }; rule = h.rule; by_itself = h.by_itself }),
        )
    moved_by j n z at (has_taken l differ among to taken) = (λ y a. absurd (none_out l among j to n at y a), taken_begun l among j to n at z taken)
    moved_by j n z at (waits_on differ is) = (λ y a. subst (λ (d : NodeData). IsAmong y d.state.put_out) (sym is) a, subst (λ (d : NodeData). HasBegun (round_of m level budget before) nodes j d) (sym is) (all j n at))

    some_delivered_begun : HaveBegun (round_of m level budget before) after
    some_delivered_begun = begun_moved (round_of m level budget before) nodes after all some.one_each (λ j n z at at'.
        let sender_is : some.sender ≡ x.sender = some_same (slice_get nodes i) some.sender x.sender some.is_its x.is_its in
        moved_by j n z at (subst (λ (d : NodeData). IsAmidDelivery i d.outbox j n z) sender_is (some.each j n z at at')))

-- ---- a round in turn
module _ (m : System) (level budget asked : ℕ) (first : List NodeData) (ready : IsReadyRound m level budget asked first)
    (order : List ℕ) (ordered : IsImportOrder m order) (k : ℕ) (nodes : List NodeData) (total : ℕ) (s : IsInPlay (round m level budget asked first ready) first (take k order) nodes total) where
  abbrev r : Round
  r = round_of m level budget ready.before

  still_own : AreNodesOf m budget nodes
  still_own = still_nodes nodes first s.same m budget ready.own

  -- what one of the first k supplies was put out
  put_out_by : (j : ℕ) → IsAmong j (take k order) → (i : ℕ) → Supplies m j i → WasPutOut nodes (stamp level j i false)
  put_out_by j seen i supplies =
      let (n, there) = slice_get_below nodes j (let low = supplier_below m i j supplies in let e = still_own.one_each in omega (arith, low, e)) in
      (n, there, ((s.finished j n seen there).finishes.put_out.exactly (stamp level j i false)).1 (i, supplies, refl))

  from_seen : (i : ℕ) (x : Stamp) → IsSupplyTo r i x → IsAmong x.from (take k order) → WasPutOut nodes x
  from_seen i x (j, supplies, is) seen = subst (λ (y : Stamp). WasPutOut nodes y) (sym is) (put_out_by j (subst (λ c. IsAmong c (take k order)) (ap (λ (y : Stamp). y.from) is) seen) i supplies)

  finished_begun : (i : ℕ) (d : NodeData) → IsAmong i (take k order) → IsFinished r i d → HasBegun r nodes i d
  finished_begun i d seen f = record {
    in_round = record {
      level_is = f.level_is;
      before_is = f.before_is;
      begun = f.begun;
      had = λ x a.
          let (j, supplies, is) = (f.finishes.had.exactly x).0 a in
          ((j, supplies, is), subst (λ (y : Stamp). WasPutOut nodes y) (sym is) (put_out_by j (supplier_seen m order ordered k i j seen supplies) i supplies));
      once = f.finishes.had.apart;
    };
    rule = finishes f.finishes;
    by_itself = λ halt is. absurd (none-some halt (sym f.finishes.halt ∙ is));
  }

  pub waits_rule : (i : ℕ) (d : NodeData) → IsWaiting r (take k order) i d → Waits d.state
  waits_rule i d w = record {
    granted = ap (λ (z : NodeState). z.granted) w.state_is;
    no_stop = λ x a. let (j, supplies, is) = ((w.had.exactly x).0 a).0 in ap (λ (y : Stamp). y.stop) is;
    put_out = ap (λ (z : NodeState). z.put_out) w.state_is;
    done = ap (λ (z : NodeState). z.done) w.state_is;
    halt = ap (λ (z : NodeState). z.halt) w.state_is;
    by_itself = ap (λ (z : NodeState). z.by_itself) w.state_is;
  }

  waiting_begun : (i : ℕ) (d : NodeData) → IsWaiting r (take k order) i d → HasBegun r nodes i d
  waiting_begun i d w = record {
    in_round = record {
      level_is = w.level_is;
      before_is = w.before_is;
      begun = ap (λ (z : NodeState). z.begun) w.state_is;
      had = λ x a. let h = (w.had.exactly x).0 a in (h.0, from_seen i x h.0 h.1);
      once = w.had.apart;
    };
    rule = rule_of.waits (waits_rule i d w);
    by_itself = λ halt is. absurd (none-some halt (sym (waits_rule i d w).halt ∙ is));
  }

  all_begun : HaveBegun r nodes
  all_begun i d at = elim (cases_among i (take k order)) [
    | inl seen ↦ finished_begun i d seen (s.finished i d seen at)
    | inr unseen ↦ waiting_begun i d (s.waiting i d unseen at)
  ]

  pub in_play_sound : IsSoundRound m level budget nodes
  in_play_sound = sound_begun m level budget ready.before nodes still_own all_begun

  -- ---- the k-th stops it
  module _ (more : k < length order) (d : NodeData) (at : slice_get nodes (get_or order k 0) ≡ Some d) where
    abbrev here : ℕ
    here = get_or order k 0

    is_waiting : IsWaiting r (take k order) here d
    is_waiting = waits m level budget asked first ready order ordered k more nodes total s d at

    its_own : IsNodeOf m budget here d
    its_own = is_own m level budget asked first ready order ordered k more nodes total s d at

    none_yet : (x : Stamp) → ¬ IsAmong x d.state.put_out
    none_yet x h = subst (λ xs. IsAmong x xs) (waits_rule here d is_waiting).put_out h

    stops_on : (e : NodeData) → HasStoppedOn d e → HaveBegun r (slice_set nodes here e)
    stops_on e h =
        let (l, is, which) = h.granted in
        begun_set r nodes all_begun here d e at (λ x a. absurd (none_yet x a))
        (stopped_on m level budget ready.before nodes here d e its_own (waiting_begun here d is_waiting).in_round h.total (waits_rule here d is_waiting).halt h.halt h.told l (some_same d.level l level is is_waiting.level_is) which)

    pub grant_sound : (e : NodeData) → as_new e ≡ as_new d → (e ≡ d) ⊎ HasStoppedOn d e → map as_new (slice_set nodes here e) ≡ map as_new first → IsSoundRound m level budget (slice_set nodes here e)
    grant_sound e kept (inl is) same = sound_begun m level budget ready.before (slice_set nodes here e) (still_nodes (slice_set nodes here e) first same m budget ready.own)
        (begun_set r nodes all_begun here d e at (λ x a. absurd (none_yet x a)) (subst (λ (z : NodeData). HasBegun r nodes here z) (sym is) (waiting_begun here d is_waiting)))
    grant_sound e kept (inr h) same = sound_begun m level budget ready.before (slice_set nodes here e) (still_nodes (slice_set nodes here e) first same m budget ready.own) (stops_on e h)

    -- ---- one that it supplies stops it
    module _ (granted : ℕ) (e : NodeData) (f : FinishesOn total granted d e) (kept : as_new e ≡ as_new d) (same : map as_new (slice_set nodes here e) ≡ map as_new first) where
      finished_here : IsFinished r here e
      finished_here = here_finished m level budget asked first ready order ordered k more nodes total s d at granted e f kept

      abbrev now : List NodeData
      now = slice_set nodes here e

      own_now : AreNodesOf m budget now
      own_now = still_nodes now first same m budget ready.own

      begun_here : HasBegun r nodes here e
      begun_here = record {
        in_round = record {
          level_is = finished_here.level_is;
          before_is = finished_here.before_is;
          begun = finished_here.begun;
          had = subst (λ xs. (x : Stamp) → IsAmong x xs → IsSupplyTo r here x × WasPutOut nodes x) (sym (ap (λ (z : NodeData). z.state.had) f.finished.rest)) (waiting_begun here d is_waiting).in_round.had;
          once = finished_here.finishes.had.apart;
        };
        rule = finishes finished_here.finishes;
        by_itself = λ halt is. absurd (none-some halt (sym finished_here.finishes.halt ∙ is));
      }

      begun_now : HaveBegun r now
      begun_now = begun_set r nodes all_begun here d e at (λ x a. absurd (none_yet x a)) begun_here

      expected : AreExpected here now
      expected = letters_expected m level budget asked first ready order ordered k more nodes total s d at granted e f kept

      e_there : slice_get now here ≡ Some e
      e_there = set_there nodes here d e at

      letter_of : (l : LetterData) → IsAmong l expected.sender.outbox → (j : ℕ) × Supplies m here j × (stamp_of l ≡ stamp level here j false) × (l.to ≡ j)
      letter_of l among =
          let (j, supplies, is) = letter_is m level budget asked first ready order ordered k more nodes total s d at granted e f kept l
          (subst (λ (z : NodeData). IsAmong l z.outbox) (some_same (slice_get now here) expected.sender e expected.is_its e_there) among) in
          (j, supplies, ap stamp_of is, ap (λ (y : LetterData). y.to) is)

      put_out_here : (l : LetterData) → IsAmong l expected.sender.outbox → WasPutOut now (stamp_of l)
      put_out_here l among =
          let (j, supplies, is, to) = letter_of l among in
          subst (λ (y : Stamp). WasPutOut now y) (sym is) (e, e_there, (finished_here.finishes.put_out.exactly (stamp level here j false)).1 (j, supplies, refl))

      waits_for : (l : LetterData) (among : IsAmong l expected.sender.outbox) → Waits (expected.each l among).node.state
      waits_for l among =
          let (j, supplies, is, to) = letter_of l among in
          let later = not_seen m level budget asked first ready order ordered k more nodes total s d at granted e f kept j supplies in
          let seen_then = now_seen m level budget asked first ready order ordered k more nodes total s in
          let n = (expected.each l among).node in
          let there : slice_get now j ≡ Some n = subst (λ c. slice_get now c ≡ Some n) to (expected.each l among).is_its in
          elim (slice_get-slice_set nodes here j e n there) [
            | inl same_place ↦ absurd (later (subst (λ xs. IsAmong j xs) (sym seen_then) ((among_push j (take k order) here).1 (inr same_place.0))))
            | inr other ↦ waits_rule j n (s.waiting j n (λ seen. later (subst (λ xs. IsAmong j xs) (sym seen_then) ((among_push j (take k order) here).1 (inl seen)))) other.1)
          ]

      pub delivery_sound : (after : List NodeData) → map as_new after ≡ map as_new first → AreSomeDelivered here now after → IsSoundRound m level budget after
      delivery_sound after same_after some = sound_begun m level budget ready.before after (still_nodes after first same_after m budget ready.own)
          (some_delivered_begun m level budget ready.before now own_now begun_now here expected put_out_here waits_for after some)
