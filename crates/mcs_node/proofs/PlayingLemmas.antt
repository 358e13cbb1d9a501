-- Nodes that play a round: what stands in the configuration that they make, and what a call leaves of it.
use Rattle.std.proofs.Common.{◌≡◌, ℕ, ◌+◌, ◌<◌, true, false, true≢false, List, [], ◌++◌, map, length, Option, Some, None, slice_get, slice_set, is_some, append-nil, refl, sym, ap, ◌∙◌, subst, inl, inr, arith}
use Rattle.std.proofs.lemmas.List.{length-map, map-append}
use Rattle.std.proofs.lemmas.Option.{slice_get_within}
use Rattle.mcs_base.specs.Listings.{IsAmong, IsListing}
use Rattle.mcs_base.proofs.Among.{among_either, among_get}
use Rattle.mcs_base.proofs.Lists.{map_slice_get, slice_get_below, slice_get-map_some}
use Rattle.mcs_base.proofs.Written.{slice_get-slice_set, slice_get-set_other, slice_get-set_same, length-slice_set}
use Rattle.mcs_base.proofs.Results.{some_same, no_none}
use Rattle.mcs_base.proofs.Placed.{sum_put}
use Rattle.mcs_system.specs.Plain.{Context, System}
use Rattle.mcs_states.specs.Oracles.{OracleState}
use Rattle.mcs_states.specs.declared.halt.Halt.{Halt}
use Rattle.mcs_node.specs.declared.event.Event.{Event}
use Rattle.mcs_node.specs.declared.event.Event.TheVariants.{Begin}
use Rattle.mcs_node.specs.Rounds.{NodeState, Round, Stamp, Supplies}
use Rattle.mcs_node.specs.Configurations.{AwaitsGrant, Configuration, HasNode, first_configuration, new_node}
use Rattle.mcs_node.specs.Letters.{LetterData, Stop, stamp_of}
use Rattle.mcs_node.specs.Nodes.{IsAbove, IsNewNode, NodeData, begun_at, begun_node, done_level, round_at}
use Rattle.mcs_node.specs.Steps.{Adds, Changes, IsNeedOf, IsTotal, Reacts, Step, Taken, Takes, TakesPlace, WereAsked}
use Rattle.mcs_node.specs.Playing.{HasState, has_begun, has_not, HaveStates, WasPutOut, IsInPlay, NewNodesAreFirst, BeginsAreSteps, BegunIsSkipped, UngrantedIsSkipped, StrangersAreIgnored, UnsentIsSkipped}
use Rattle.mcs_node.proofs.StepLemmas.{first_is_sound, later, new_at, steps_keep_soundness}
use Rattle.mcs_node.proofs.TotalLemmas.{no_sum, total_alike}
use Rattle.mcs_node.proofs.EventLemmas.{may_wait}
use Rattle.mcs_node.proofs.WorkedLemmas.{left_by, takes_place}

-- ---- the state of a node
-- one that has begun the round knows it, and its state is that of the round
pub is_begun : (r : Round) (i : ℕ) (d : NodeData) (s : NodeState) → HasState r i d s → d.level ≡ Some r.level → (round_at d r.level ≡ r) × (d.state.begun ≡ true) × (s ≡ d.state)
is_begun r i d s (has_begun round level begun is) here = (round, begun, is)
is_begun r i d s (has_not plan budget before above going is) here = let less : r.level < r.level = subst (λ (o : Option ℕ). IsAbove o r.level) here above in absurd (omega (arith, less))

pub begun_level : (r : Round) (i : ℕ) (d : NodeData) (s : NodeState) → HasState r i d s → s.begun ≡ true → d.level ≡ Some r.level
begun_level r i d s (has_begun round level begun is) now = level
begun_level r i d s (has_not plan budget before above going is) now = absurd (true≢false (sym now ∙ ap (λ (p : NodeState). p.begun) is))

pub plan_of : (r : Round) (i : ℕ) (d : NodeData) (s : NodeState) → HasState r i d s → d.plan ≡ r.system
plan_of r i d s (has_begun round level begun is) = ap (λ (x : Round). x.system) round
plan_of r i d s (has_not plan budget before above going is) = plan

-- a node for each state, and a state for each node
module _ (r : Round) (nodes : List NodeData) (states : List NodeState) (have : HaveStates r nodes states) where
  pub node_of : (i : ℕ) (s : NodeState) → slice_get states i ≡ Some s → (d : NodeData) × (slice_get nodes i ≡ Some d) × HasState r i d s
  node_of i s at = let (d, there) = slice_get_below nodes i (omega (arith, slice_get_within states i s at, have.states_each)) in (d, there, have.each i d s there at)

  pub state_of : (i : ℕ) (d : NodeData) → slice_get nodes i ≡ Some d → (s : NodeState) × (slice_get states i ≡ Some s) × HasState r i d s
  state_of i d at = let (s, there) = slice_get_below states i (omega (arith, slice_get_within nodes i d at, have.states_each)) in (s, there, have.each i d s at there)

-- ---- totals
module _ (r : Round) (states : List NodeState) (i : ℕ) (s u : NodeState) (at : slice_get states i ≡ Some s) (n : ℕ) (t : IsTotal r states n) where
  -- a node changes that is not granted a total
  pub total_kept : is_some s.granted ≡ is_some u.granted → IsTotal r (slice_set states i u) n
  total_kept same = total_alike r states (slice_set states i u) n (length-slice_set states i u) was t
    where
      was : (k : ℕ) (q : NodeState) → slice_get (slice_set states i u) k ≡ Some q → (p : NodeState) × (slice_get states k ≡ Some p) × (is_some p.granted ≡ is_some q.granted)
      was k q there = elim (slice_get-slice_set states i k u q there) [
        | inl (here, is) ↦ (s, subst (λ (j : ℕ). slice_get states j ≡ Some s) (sym here) at, same ∙ ap (λ (p : NodeState). is_some p.granted) (sym is))
        | inr (differ, old) ↦ (q, old, refl)
      ]

  -- a node is granted one
  pub total_grown : (need total : ℕ) → s.granted ≡ None → u.granted ≡ Some total → IsNeedOf r i need → IsTotal r (slice_set states i u) (n + need)
  total_grown need total none granted needed = record {
    base = t.base;
    asked = t.asked;
    needs = slice_set t.needs i need;
    one_each = length-slice_set t.needs i need ∙ t.one_each ∙ sym (length-slice_set states i u);
    added = added;
    whole = let e = t.whole in let more = sum_put t.needs i need nothing in omega (arith, e, more);
  }
    where
      below : i < length t.needs
      below = omega (arith, slice_get_within states i s at, t.one_each)

      nothing : slice_get t.needs i ≡ Some 0
      nothing =
          let (a, there) = slice_get_below t.needs i below in
          let zero_of : a ≡ 0 = subst (λ (o : Option ℕ). Adds r i o a) none (t.added i s a at there) in
          there ∙ ap (λ (k : ℕ). Some k) zero_of

      added : (k : ℕ) (q : NodeState) (v : ℕ) → slice_get (slice_set states i u) k ≡ Some q → slice_get (slice_set t.needs i need) k ≡ Some v → Adds r k q.granted v
      added k q v there its = elim (slice_get-slice_set t.needs i k need v its) [
        | inl (here, is) ↦
            let mine : slice_get (slice_set states i u) i ≡ Some q = subst (λ (j : ℕ). slice_get (slice_set states i u) j ≡ Some q) here there in
            let one : u ≡ q = some_same (slice_get (slice_set states i u) i) u q (slice_get-set_same states i u (slice_get_within states i s at)) mine in
            let adds : Adds r i (Some total) v = subst (λ (m : ℕ). IsNeedOf r i m) (sym is) needed in
            subst (λ (j : ℕ). Adds r j q.granted v) (sym here) (subst (λ (o : Option ℕ). Adds r i o v) (sym granted ∙ ap (λ (p : NodeState). p.granted) one) adds)
        | inr (differ, old) ↦ t.added k q v (sym (slice_get-set_other states i k u differ) ∙ there) old
      ]

-- ---- a call
-- the letter is one of the round that context i puts out to one that it supplies; a stop tells the halt of u
pub record IsOut (r : Round) (i : ℕ) (u : NodeState) (l : LetterData) : Type 0 where
  pub plan : l.plan ≡ r.system
  pub level : l.level ≡ r.level
  pub from : l.from ≡ i
  pub fits : Supplies r.system i l.to
  pub halt : (halt : Halt) → l.content ≡ Stop halt → u.halt ≡ Some halt

-- the event made b of the node d of context i, whose state was s, and it put out these letters
pub record IsCalled (r : Round) (c : Configuration) (e : Event) (i : ℕ) (s : NodeState) (d b : NodeData) (new : List LetterData) : Type 0 where
  pub changed : NodeState
  pub changes : Changes r c e i s changed
  pub reacts : Reacts r c i changed (map stamp_of new) b.state
  pub state : HasState r i b b.state
  pub context : b.context ≡ d.context
  pub receivers : b.receivers ≡ d.receivers
  pub outbox : b.outbox ≡ []
  pub out : (l : LetterData) → IsAmong l new → IsOut r i b.state l

module _ (r : Round) (nodes : List NodeData) (letters : List LetterData) (total : ℕ) (c : Configuration) (play : IsInPlay r nodes letters total c) (i : ℕ) (d : NodeData) (at : slice_get nodes i ≡ Some d) where
  module _ (s : NodeState) (node : HasNode c i s) (e : Event) (b : NodeData) (new : List LetterData) (called : IsCalled r c e i s d b new) where
    abbrev next : Configuration
    next = left_by c i (map stamp_of new) b.state

    pub call_is_step : TakesPlace r c e next
    call_is_step = takes_place r c e i s called.changed b.state (map stamp_of new) node called.changes called.reacts

    here : HasNode next i b.state
    here = slice_get-set_same c.nodes i b.state (slice_get_within c.nodes i s node)

    context_next : (k : ℕ) (q : NodeData) → slice_get (slice_set nodes i b) k ≡ Some q → q.context ≡ k
    context_next k q there = elim (slice_get-slice_set nodes i k b q there) [
      | inl (same, is) ↦ ap (λ (n : NodeData). n.context) is ∙ called.context ∙ play.states.contexts i d at ∙ sym same
      | inr (differ, was) ↦ play.states.contexts k q was
    ]

    receivers_next : (k : ℕ) (q : NodeData) → slice_get (slice_set nodes i b) k ≡ Some q → IsListing (Supplies r.system k) (λ a b. a < b) q.receivers
    receivers_next k q there = elim (slice_get-slice_set nodes i k b q there) [
      | inl (same, is) ↦
          let mine : IsListing (Supplies r.system i) (λ a b. a < b) q.receivers = subst (λ (js : List ℕ). IsListing (Supplies r.system i) (λ a b. a < b) js) (sym (ap (λ (n : NodeData). n.receivers) is ∙ called.receivers)) (play.states.receivers i d at) in
          subst (λ (j : ℕ). IsListing (Supplies r.system j) (λ a b. a < b) q.receivers) (sym same) mine
      | inr (differ, was) ↦ play.states.receivers k q was
    ]

    state_next : (k : ℕ) (q : NodeData) (u : NodeState) → slice_get (slice_set nodes i b) k ≡ Some q → HasNode next k u → HasState r k q u
    state_next k q u there its = elim (slice_get-slice_set nodes i k b q there) [
      | inl (same, is) ↦
          let one : b.state ≡ u = some_same (slice_get (slice_set c.nodes i b.state) i) b.state u here (subst (λ (j : ℕ). HasNode next j u) same its) in
          subst (λ (j : ℕ). HasState r j q u) (sym same) (subst (λ (n : NodeData). HasState r i n u) (sym is) (subst (λ (p : NodeState). HasState r i b p) one called.state))
      | inr (differ, was) ↦ play.states.each k q u was (sym (slice_get-set_other c.nodes i k b.state differ) ∙ its)
    ]

    put_out_next : (l : LetterData) → IsAmong l (letters ++ new) → WasPutOut r next l
    put_out_next l h = elim (among_either l letters new h) [
      | inl old ↦ (let w = play.put_out l old in record {
        plan = w.plan;
        level = w.level;
        fits = w.fits;
        halt = (λ halt stop.
            let (p, was, told) = w.halt halt stop in
            let kept = later r c next e play.sound call_is_step l.from p was in
            (kept.node, kept.at, kept.halt halt told));
      })
      | inr last ↦ (let o = called.out l last in record {
        plan = o.plan;
        level = o.level;
        fits = subst (λ (j : ℕ). Supplies r.system j l.to) (sym o.from) o.fits;
        halt = (λ halt stop. (b.state, subst (λ (j : ℕ). HasNode next j b.state) (sym o.from) here, o.halt halt stop));
      })
    ]

    handed_next : (k : ℕ) (q : NodeData) → slice_get (slice_set nodes i b) k ≡ Some q → q.outbox ≡ []
    handed_next k q there = elim (slice_get-slice_set nodes i k b q there) [
      | inl (same, is) ↦ ap (λ (n : NodeData). n.outbox) is ∙ called.outbox
      | inr (differ, was) ↦ play.handed_out k q was
    ]

    pub plays_on : (after : ℕ) → IsTotal r (slice_set c.nodes i b.state) after → IsInPlay r (slice_set nodes i b) (letters ++ new) after next
    plays_on after counted = record {
      states = record {
        one_each = length-slice_set nodes i b ∙ play.states.one_each;
        states_each = length-slice_set c.nodes i b.state ∙ play.states.states_each ∙ sym (length-slice_set nodes i b);
        contexts = context_next;
        receivers = receivers_next;
        each = state_next;
      };
      stamps = ap (λ (l : List Stamp). l ++ map stamp_of new) play.stamps ∙ sym (map-append stamp_of letters new);
      put_out = put_out_next;
      handed_out = handed_next;
      granted = counted;
      sound = steps_keep_soundness r c next e Taken play.sound call_is_step;
    }

-- ---- new nodes
module _ (r : Round) (nodes : List NodeData) (none : r.before ≡ None) (each : (i : ℕ) (d : NodeData) → slice_get nodes i ≡ Some d → (o : OracleState) × IsNewNode r.system i r.budget o d) where
  new_state : (i : ℕ) (d : NodeData) (s : NodeState) → slice_get nodes i ≡ Some d → HasNode (first_configuration r.system) i s → HasState r i d s
  new_state i d s at there = let (o, new) = each i d at in has_not
      (ap (λ (n : NodeData). n.plan) new.rest)
      (ap (λ (n : NodeData). n.budget) new.rest)
      (ap done_level new.rest ∙ sym none)
      (subst (λ (g : Option ℕ). IsAbove g r.level) (sym (ap (λ (n : NodeData). n.level) new.rest)) tt)
      (ap (λ (n : NodeData). n.state.halt) new.rest)
      (new_at r i s there)

  nothing_granted : IsTotal r (first_configuration r.system).nodes 0
  nothing_granted = record {
    base = 0;
    asked = subst (λ (g : Option ℕ). WereAsked r.system g 0) (sym none) refl;
    needs = map (λ (x : Context). 0) r.system.contexts;
    one_each = length-map r.system.contexts (λ (x : Context). 0) ∙ sym (length-map r.system.contexts (λ (x : Context). new_node));
    added = (λ i s n at there.
        let (x, its, is) = map_slice_get (λ (x : Context). 0) r.system.contexts i n there in
        subst (λ (p : NodeState). Adds r i p.granted n) (sym (new_at r i s at)) (sym is));
    whole = let e = no_sum r.system.contexts in omega (arith, e);
  }

pub new_nodes_are_first : NewNodesAreFirst
new_nodes_are_first r nodes none long each = record {
  states = record {
    one_each = long;
    states_each = length-map r.system.contexts (λ (x : Context). new_node) ∙ sym long;
    contexts = (λ i d at. let (o, new) = each i d at in ap (λ (n : NodeData). n.context) new.rest);
    receivers = (λ i d at. let (o, new) = each i d at in new.receivers);
    each = new_state r nodes none each;
  };
  stamps = refl;
  put_out = (λ l h. absurd h);
  handed_out = (λ i d at. let (o, new) = each i d at in ap (λ (n : NodeData). n.outbox) new.rest);
  granted = nothing_granted r nodes none each;
  sound = first_is_sound r;
}

-- ---- a node begins
begun_round : (r : Round) (d : NodeData) → d.plan ≡ r.system → d.budget ≡ r.budget → done_level d ≡ r.before → round_at (begun_at r.level d) r.level ≡ r
begun_round r d plan budget before =
    ap (λ (m : System). record r { system = m; budget = d.budget; before = done_level d }) plan
    ∙ ap (λ (n : ℕ). record r { budget = n; before = done_level d }) budget
    ∙ ap (λ (g : Option ℕ). record r { before = g }) before

begin_called : (r : Round) (c : Configuration) (i : ℕ) (s : NodeState) (d : NodeData) → s ≡ new_node → round_at (begun_at r.level d) r.level ≡ r → IsCalled r c (Begin i) i s d (begun_at r.level d) []
begin_called r c i s d new round = record {
  changed = begun_node;
  changes = (refl, ap (λ (p : NodeState). p.begun) new, ap (λ (p : NodeState). record p { begun = true }) (sym new));
  reacts = may_wait r c i begun_node (record { put_out = refl; done = refl; halt = refl; by_itself = refl }) refl (λ x h. absurd h);
  state = has_begun round refl refl refl;
  context = refl;
  receivers = refl;
  outbox = refl;
  out = (λ l h. absurd h);
}

pub begins_are_steps : BeginsAreSteps
begins_are_steps r nodes letters total c i d play at other = let (s, node, state) = state_of r nodes c.nodes play.states i d at in begins s node state
  where
    begins : (s : NodeState) → HasNode c i s → HasState r i d s → (next : Configuration) × Step r c (Begin i) Taken next × IsInPlay r (slice_set nodes i (begun_at r.level d)) letters total next
    begins s node (has_begun round level begun is) = absurd (other level)
    begins s node (has_not plan budget before above going is) =
        let called = begin_called r c i s d is (begun_round r d plan budget before) in
        let counted = total_kept r c.nodes i s begun_node node total play.granted (ap (λ (p : NodeState). is_some p.granted) is) in (
          left_by c i [] begun_node,
          call_is_step r nodes letters total c play i d at s node (Begin i) (begun_at r.level d) [] called,
          subst (λ (ls : List LetterData). IsInPlay r (slice_set nodes i (begun_at r.level d)) ls total (left_by c i [] begun_node)) (append-nil letters)
              (plays_on r nodes letters total c play i d at s node (Begin i) (begun_at r.level d) [] called total counted),
        )

-- ---- what is skipped or ignored
pub begun_is_skipped : BegunIsSkipped
begun_is_skipped r nodes letters total c i play all = (never, refl)
  where
    never : (s : NodeState) × HasNode c i s × (s.begun ≡ false) → ⊥
    never (s, node, unbegun) =
        let (d, at, state) = node_of r nodes c.nodes play.states i s node in
        let (round, begun, is) = is_begun r i d s state (all d at) in
        true≢false (sym begun ∙ sym (ap (λ (p : NodeState). p.begun) is) ∙ unbegun)

pub ungranted_is_skipped : UngrantedIsSkipped
ungranted_is_skipped r nodes letters total c i play none = (never, refl)
  where
    never : (s : NodeState) × HasNode c i s × AwaitsGrant r i s → ⊥
    never (s, node, awaits) =
        let (d, at, state) = node_of r nodes c.nodes play.states i s node in
        let level = begun_level r i d s state awaits.begun in
        let (round, begun, is) = is_begun r i d s state level in
        let context = play.states.contexts i d at in
        none d at (r.level, level, subst (λ (x : Round). AwaitsGrant x d.context d.state) (sym round) (subst (λ (j : ℕ). AwaitsGrant r j d.state) (sym context) (subst (λ (p : NodeState). AwaitsGrant r i p) is awaits)))

pub strangers_are_ignored : StrangersAreIgnored
strangers_are_ignored r nodes letters total c n l play at none = ((stamp_of l, there, untaken), refl)
  where
    there : slice_get c.letters n ≡ Some (stamp_of l)
    there = ap (λ (xs : List Stamp). slice_get xs n) play.stamps ∙ slice_get-map_some stamp_of letters n l at

    untaken : (s : NodeState) → HasNode c l.to s → ¬ Takes l.to s (stamp_of l)
    untaken s node takes =
        let (d, here, state) = node_of r nodes c.nodes play.states l.to s node in
        let level = begun_level r l.to d s state takes.begun in
        let (round, begun, is) = is_begun r l.to d s state level in
        let put_out = play.put_out l (among_get l letters n at) in
        let context = play.states.contexts l.to d here in
        let plan : d.plan ≡ r.system = plan_of r l.to d s state in
        none d here (record {
          plan = put_out.plan ∙ sym plan;
          level = level ∙ ap (λ (k : ℕ). Some k) (sym put_out.level);
          addressed = sym context;
          supplies = subst (λ (m : System). Supplies m l.from d.context) (sym plan) (subst (λ (j : ℕ). Supplies r.system l.from j) (sym context) put_out.fits);
          first = subst (λ (p : NodeState). (x : Stamp) → IsAmong x p.had → ¬ (x.from ≡ l.from)) is takes.first;
        })

pub unsent_is_skipped : UnsentIsSkipped
unsent_is_skipped r nodes letters total c n play none = (never, refl)
  where
    never : n < length c.letters → ⊥
    never less =
        let (l, at) = slice_get_below letters n (omega (arith, less, ap (λ (xs : List Stamp). length xs) play.stamps, length-map letters stamp_of)) in
        no_none (slice_get letters n) l none at
