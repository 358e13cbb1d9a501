-- A round that is played in turn: the contexts seen have finished, the others wait.
use Rattle.std.proofs.Common.{◌≡◌, ℕ, ◌+◌, ◌<◌, ◌≤◌, true, false, cond, List, [], ◌∷◌, ◌++◌, map, take, length, get_or, slice_get, slice_set, Option, Some, None, Ok, Err, is_some, refl, sym, ap, ◌∙◌, subst, inl, inr, ◌⊎◌, arith}
use Rattle.std.proofs.lemmas.List.{length-map, take_more, take_all}
use Rattle.std.proofs.lemmas.List.Sums.{sum_by-cons}
use Rattle.std.proofs.lemmas.Option.{get_or_from_slice_get, slice_get_within}
use Rattle.std.specs.List.{AllByRecursion, sum_by}
use Rattle.mcs_base.specs.Listings.{IsAmong, AreApart, IsInventory, IsListing}
use Rattle.mcs_base.proofs.Among.{among_at, among_map, among_push, filter_among, get_among, map_among, among_take_longer}
use Rattle.mcs_base.proofs.Distinct.{ascending_distinct, distinct_push}
use Rattle.mcs_base.proofs.Each.{all_among}
use Rattle.mcs_base.proofs.Lists.{map_slice_get, slice_get-map_some, slice_get_below, slice_get_take}
use Rattle.mcs_base.proofs.Written.{slice_get-slice_set, length-slice_set, map-slice_set, image_kept, set_there, set_other}
use Rattle.mcs_base.proofs.Placed.{sum_put}
use Rattle.mcs_base.proofs.Deciding.{all_from_get}
use Rattle.mcs_base.proofs.Results.{some_same}
use Rattle.mcs_system.specs.Plain.{System}
use Rattle.mcs_system.specs.Imports.{IsImportOrder, before_in, imports}
use Rattle.mcs_system.specs.Levels.{IsQuestionAt}
use Rattle.mcs_import.proofs.OrderLemmas.{order_in_range}
use Rattle.mcs_states.specs.Oracles.{IsLacking}
use Rattle.mcs_states.proofs.Causes.{same_oracle}
use Rattle.mcs_states.specs.declared.halt.Halt.{Halt}
use Rattle.mcs_states.specs.declared.halt.Halt.TheVariants.{Spent, Missing, Memory}
use Rattle.mcs_node.specs.Rounds.{Finishes, IsNewQuestion, IsSentBy, IsSupplyTo, NodeState, Round, Stamp, Supplies, stamp}
use Rattle.mcs_node.specs.Steps.{Adds, IsNeedOf, IsTotal, WereAsked}
use Rattle.mcs_node.specs.Laws.{IsOnward}
use Rattle.mcs_node.specs.Letters.{LetterData, Supply, is_stop, stamp_of}
use Rattle.mcs_node.specs.Known.{HasAsked, IsKnown, IsKnownAt}
use Rattle.mcs_node.specs.Nodes.{IsAbove, IsNeed, NodeData, WaitsForGrant, begun_at, begun_node, letters_to, round_at, stamps_to, with_had}
use Rattle.mcs_node.proofs.SupplyLemmas.{supplied_by}
use Rattle.mcs_node.proofs.TotalLemmas.{totals_count_questions}
use Rattle.mcs_node.proofs.RuleLemmas.{sent_to}
use Rattle.mcs_mesh.specs.Players.{AreDelivered, AreExpected, AreNodesOf, CanBegin, FinishesOn, HasGrantCause, HasRoundCause, HaveFinished, HaveReached, IsAfterDelivery, IsExpected, IsNodeOf, IsPlayed, IsReadyRound, addressees, as_new, has_had, oracles_of, sends, stays}
use Rattle.mcs_mesh.proofs.General.{before_taken, follows_all, follows_apart}
use Rattle.mcs_mesh.proofs.NodeLemmas.{oracles_rest, still_nodes}

-- ---- what is said of the nodes on the way
-- the node of context i has begun the round and waits; it has had the supplies of just those of these contexts that supply it
pub record IsWaiting (r : Round) (seen : List ℕ) (i : ℕ) (d : NodeData) : Type 0 where
  pub level_is : d.level ≡ Some r.level
  pub before_is : d.before ≡ r.before
  pub state_is : d.state ≡ record begun_node { had = d.state.had }
  pub had : IsInventory (λ x. IsSupplyTo r i x × IsAmong x.from seen) d.state.had
  pub known : IsKnownAt r.system r.before i d.known
  pub asked : HasAsked r.system i d.oracle d.known.answers

-- it has finished the round
pub record IsFinished (r : Round) (i : ℕ) (d : NodeData) : Type 0 where
  pub level_is : d.level ≡ Some r.level
  pub before_is : d.before ≡ r.before
  pub begun : d.state.begun ≡ true
  pub finishes : Finishes r i d.state
  pub known : IsKnown r.system r.level i d.known
  pub asked : HasAsked r.system i d.oracle d.known.answers

abbrev pub states_of : List NodeData → List NodeState
states_of nodes = map (λ (d : NodeData). d.state) nodes

-- the contexts seen have finished, the others wait, and so many questions were asked
pub record IsInPlay (r : Round) (first : List NodeData) (seen : List ℕ) (nodes : List NodeData) (total : ℕ) : Type 0 where
  pub same : map as_new nodes ≡ map as_new first
  pub finished : (i : ℕ) (d : NodeData) → IsAmong i seen → slice_get nodes i ≡ Some d → IsFinished r i d
  pub waiting : (i : ℕ) (d : NodeData) → ¬ IsAmong i seen → slice_get nodes i ≡ Some d → IsWaiting r seen i d
  pub counted : IsTotal r (states_of nodes) total
  pub within : total ≤ r.budget

-- ---- totals
no_needs : (ss : List NodeState) → sum_by (λ k. k) (map (λ (s : NodeState). 0) ss) ≡ 0
no_needs [] = refl
no_needs (s ∷ ss) = let rest = no_needs ss in omega (arith, rest, sum_by-cons (λ (k : ℕ). k) 0 (map (λ (s : NodeState). 0) ss))

-- where no node was granted anything the total is the number of the questions asked before
total_begun : (r : Round) (ss : List NodeState) (asked : ℕ) → WereAsked r.system r.before asked → ((i : ℕ) (s : NodeState) → slice_get ss i ≡ Some s → s.granted ≡ None) → IsTotal r ss asked
total_begun r ss asked were none = record {
  base = asked;
  asked = were;
  needs = map (λ (s : NodeState). 0) ss;
  one_each = length-map ss (λ (s : NodeState). 0);
  added = λ i s n at at'.
      let (t, there, e) = map_slice_get (λ (s : NodeState). 0) ss i n at' in
      subst (λ (g : Option ℕ). Adds r i g n) (sym (none i s at)) (sym e);
  whole = let e = no_needs ss in omega (arith, e);
}

-- one node more was granted its need
total_more : (r : Round) (ss : List NodeState) (total : ℕ) → IsTotal r ss total → (i : ℕ) (s t : NodeState) → slice_get ss i ≡ Some s → s.granted ≡ None
    → (granted need : ℕ) → t.granted ≡ Some granted → IsNeedOf r i need → (more : ℕ) → more ≡ total + need → IsTotal r (slice_set ss i t) more
total_more r ss total h i s t at none granted need is needs more adds =
    let less : i < length h.needs = let b = slice_get_within ss i s at in let e = h.one_each in omega (arith, b, e) in
    let (n, at') = slice_get_below h.needs i less in
    let zero_is : n ≡ 0 = subst (λ (g : Option ℕ). Adds r i g n) none (h.added i s n at at') in
    let there : slice_get h.needs i ≡ Some 0 = at' ∙ ap (λ k. Some k) zero_is in
    record {
      base = h.base;
      asked = h.asked;
      needs = slice_set h.needs i need;
      one_each = length-slice_set h.needs i need ∙ h.one_each ∙ sym (length-slice_set ss i t);
      added = λ j u k at_j at_k. elim (slice_get-slice_set ss i j t u at_j) [
        | inl here ↦ elim (slice_get-slice_set h.needs i j need k at_k) [
          | inl here' ↦ rw (here.0, here.1, here'.1, is) needs
          | inr other ↦ absurd (other.0 here.0)
        ]
        | inr other ↦ elim (slice_get-slice_set h.needs i j need k at_k) [
          | inl here' ↦ absurd (other.0 here'.0)
          | inr other' ↦ h.added j u k other.1 other'.1
        ]
      ];
      whole = let e = sum_put h.needs i need there in let w = h.whole in omega (arith, e, w, adds);
    }

-- the same total, where the same was granted
total_same : (r : Round) (ss ts : List NodeState) (total : ℕ) → IsTotal r ss total → length ts ≡ length ss
    → ((i : ℕ) (s t : NodeState) → slice_get ss i ≡ Some s → slice_get ts i ≡ Some t → t.granted ≡ s.granted) → IsTotal r ts total
total_same r ss ts total h long same = record {
  base = h.base;
  asked = h.asked;
  needs = h.needs;
  one_each = h.one_each ∙ sym long;
  added = λ i t n at at'.
      let (s, there) = slice_get_below ss i (let b = slice_get_within ts i t at in omega (arith, b, long)) in
      subst (λ (g : Option ℕ). Adds r i g n) (sym (same i s t there at)) (h.added i s n there at');
  whole = h.whole;
}

-- ---- the rule that a node has kept, in another words of its round
finishes_as : (m : System) (level budget : ℕ) (before before' : Option ℕ) (i : ℕ) (s : NodeState)
    → Finishes (record { system = m; level = level; budget = budget; before = before }) i s → Finishes (record { system = m; level = level; budget = budget; before = before' }) i s
finishes_as m level budget before before' i s f = record { granted = f.granted; had = f.had; put_out = f.put_out; done = f.done; halt = f.halt; by_itself = f.by_itself }

addressees-letters_to : (m : System) (level i : ℕ) (supplies : List ℕ) (js : List ℕ) → addressees (letters_to m level i (Supply supplies) js) ≡ js
addressees-letters_to m level i supplies [] = refl
addressees-letters_to m level i supplies (j ∷ js) = ap (λ ks. j ∷ ks) (addressees-letters_to m level i supplies js)

-- ---- the import order
-- a context that supplies one of the first k comes before it
supplier_before : (m : System) (order : List ℕ) → IsImportOrder m order → (k i j : ℕ) → IsAmong i (take k order) → Supplies m j i → (n : ℕ) × (n < k) × IsAmong j (take n order)
supplier_before m order ordered k i j among supplies =
    let (n, at) = get_among i (take k order) among in
    let (low, there) = slice_get_take k order n i at in
    let before : IsAmong j (before_in order i) = (filter_among (imports m i) j (before_in order i) (supplied_by m order i j ordered supplies)).0 in
    let reads : get_or order n 0 ≡ i = get_or_from_slice_get order n i 0 there in
    (n, low, before_taken order n 0 j (slice_get_within order n i there) (subst (λ c. IsAmong j (before_in order c)) (sym reads) before))

pub supplier_seen : (m : System) (order : List ℕ) → IsImportOrder m order → (k i j : ℕ) → IsAmong i (take k order) → Supplies m j i → IsAmong j (take k order)
supplier_seen m order ordered k i j among supplies = let (n, low, taken) = supplier_before m order ordered k i j among supplies in among_take_longer order n k j (omega (arith, low)) taken

-- a context that the k-th supplies comes after it
supplied_later : (m : System) (order : List ℕ) → IsImportOrder m order → (k : ℕ) → k < length order → (j : ℕ) → Supplies m (get_or order k 0) j → ¬ IsAmong j (take (k + 1) order)
supplied_later m order ordered k more j supplies among =
    let (n, low, taken) = supplier_before m order ordered (k + 1) j (get_or order k 0) among supplies in
    follows_apart m [] order k 0 ordered more (among_take_longer order n k (get_or order k 0) (omega (arith, low)) taken)

-- ---- a round that can be played
pub round_is : (a b : System) (c d e f : ℕ) (x y : Option ℕ) → a ≡ b → c ≡ d → e ≡ f → x ≡ y
    → ◌≡◌ {A = Round} (record { system = a; level = c; budget = e; before = x }) (record { system = b; level = d; budget = f; before = y })
round_is a b c d e f x y one two three four =
    ap (λ z. record { system = z; level = c; budget = e; before = x }) one
    ∙ ap (λ z. record { system = b; level = z; budget = e; before = x }) two
    ∙ ap (λ z. record { system = b; level = d; budget = z; before = x }) three
    ∙ ap (λ z. record { system = b; level = d; budget = f; before = z }) four

module _ (m : System) (level budget asked : ℕ) (first : List NodeData) (ready : IsReadyRound m level budget asked first) where
  abbrev pub round : Round
  round = record { system = m; level = level; budget = budget; before = ready.before }

  onward : IsOnward round
  onward done is = let above : done < level = subst (λ (o : Option ℕ). IsAbove o level) is ready.above in omega (arith, above)

  pub can_begin : AllByRecursion (CanBegin level) first
  can_begin = all_from_get (CanBegin level) first (λ i d at. let one = ready.reached.each i d at in
      record { going = one.going; above = subst (λ (o : Option ℕ). IsAbove o level) (sym one.level) ready.above })

  -- ---- the begin
  waiting_begun : (i : ℕ) (n : NodeData) → slice_get first i ≡ Some n → IsWaiting round [] i (begun_at level n)
  waiting_begun i n at = let one = ready.reached.each i n at in record {
    level_is = refl;
    before_is = one.reached;
    state_is = refl;
    had = record { exactly = λ x. (λ h. absurd h, λ h. absurd h.1); apart = tt };
    known = one.known;
    asked = one.asked;
  }

  begun_there : (nodes : List NodeData) → nodes ≡ map (begun_at level) first → (i : ℕ) (d : NodeData) → slice_get nodes i ≡ Some d → (n : NodeData) × (slice_get first i ≡ Some n) × (begun_at level n ≡ d)
  begun_there nodes is i d at = map_slice_get (begun_at level) first i d (ap (λ ns. slice_get ns i) (sym is) ∙ at)

  pub play_begun : (nodes : List NodeData) → nodes ≡ map (begun_at level) first → map as_new nodes ≡ map as_new first → IsInPlay round first [] nodes asked
  play_begun nodes is same = record {
    same = same;
    finished = λ i d h at. absurd h;
    waiting = λ i d not at. let (n, there, e) = begun_there nodes is i d at in subst (λ (z : NodeData). IsWaiting round [] i z) e (waiting_begun i n there);
    counted = total_begun round (states_of nodes) asked ready.reached.count (λ i s at.
        let (d, there, e) = map_slice_get (λ (d : NodeData). d.state) nodes i s at in
        let (n, there', e') = begun_there nodes is i d there in
        sym (ap (λ (z : NodeState). z.granted) e) ∙ sym (ap (λ (z : NodeData). z.state.granted) e'));
    within = ready.reached.within;
  }

  -- ---- how it ends
  pub play_stopped : (after : List NodeData) (halt : Halt) → map as_new after ≡ map as_new first → HasRoundCause m level budget (oracles_of first) halt → IsPlayed m level budget first after (Err halt)
  play_stopped after halt same cause = record { same = same; ends = cause }

  module _ (order : List ℕ) (ordered : IsImportOrder m order) (k : ℕ) (last : length order ≤ k) (nodes : List NodeData) (total : ℕ) (s : IsInPlay round first (take k order) nodes total) where
    all_finished : (i : ℕ) (d : NodeData) → slice_get nodes i ≡ Some d → IsFinished round i d
    all_finished i d at =
        let own = still_nodes nodes first s.same m budget ready.own in
        let low : i < length m.contexts = let b = slice_get_within nodes i d at in let e = own.one_each in omega (arith, b, e) in
        s.finished i d (subst (λ xs. IsAmong i xs) (sym (take_all k order last)) (follows_all m [] order i ordered low)) at

    reached_now : HaveReached m budget (Some level) total nodes
    reached_now = record {
      each = λ i d at. let f = all_finished i d at in record {
        level = f.level_is;
        reached = ap (λ b. cond b d.level d.before) f.finishes.done ∙ f.level_is;
        going = f.finishes.halt;
        known = f.known;
        asked = f.asked;
      };
      count = (totals_count_questions round (states_of nodes) total onward
          (length-map nodes (λ (d : NodeData). d.state) ∙ (still_nodes nodes first s.same m budget ready.own).one_each) s.counted).1
          (λ i st at.
          let (d, there, e) = map_slice_get (λ (d : NodeData). d.state) nodes i st at in
          let (granted, is, few) = (all_finished i d there).finishes.granted in
          ap is_some (sym (ap (λ (z : NodeState). z.granted) e) ∙ is));
      within = s.within;
    }

    finished_now : HaveFinished level nodes
    finished_now i d at =
        let one = (still_nodes nodes first s.same m budget ready.own).each i d at in
        subst (λ (n : System). Finishes (record { system = n; level = level; budget = d.budget; before = d.before }) i d.state) (sym one.plan)
        (subst (λ (b : ℕ). Finishes (record { system = m; level = level; budget = b; before = d.before }) i d.state) (sym one.budget_is)
        (finishes_as m level budget ready.before d.before i d.state (all_finished i d at).finishes))

    pub play_ended : IsPlayed m level budget first nodes (Ok total)
    play_ended = record { same = s.same; ends = (reached_now, finished_now) }

  -- ---- the next context
  module _ (order : List ℕ) (ordered : IsImportOrder m order) (k : ℕ) (more : k < length order) (nodes : List NodeData) (total : ℕ) (s : IsInPlay round first (take k order) nodes total) where
    abbrev here : ℕ
    here = get_or order k 0

    inside : here < length m.contexts
    inside = all_among (λ c. c < length m.contexts) order here (order_in_range m order ordered) (among_at order k 0 more)

    unseen : ¬ IsAmong here (take k order)
    unseen = follows_apart m [] order k 0 ordered more

    pub own : AreNodesOf m budget nodes
    own = still_nodes nodes first s.same m budget ready.own

    pub here_below : here < length nodes
    here_below = let e = own.one_each in let l = inside in omega (arith, e, l)

    pub now_seen : take (k + 1) order ≡ take k order ++ here ∷ []
    now_seen = take_more order k 0 more

    supplied_before : (j : ℕ) → Supplies m j here → IsAmong j (take k order)
    supplied_before j supplies = before_taken order k 0 j more (filter_among (imports m here) j (before_in order here) (supplied_by m order here j ordered supplies)).0

    module _ (d : NodeData) (at : slice_get nodes here ≡ Some d) where
      pub waits : IsWaiting round (take k order) here d
      waits = s.waiting here d unseen at

      pub is_own : IsNodeOf m budget here d
      is_own = own.each here d at

      has_each : (j : ℕ) → Supplies m j here → IsAmong (stamp level j here false) d.state.had
      has_each j supplies = (waits.had.exactly (stamp level j here false)).1 ((j, supplies, refl), supplied_before j supplies)

      pub waits_for_grant : WaitsForGrant d
      waits_for_grant = (
        level,
        waits.level_is,
        record {
          begun = ap (λ (z : NodeState). z.begun) waits.state_is;
          had = subst (λ (n : System). (j : ℕ) → Supplies n j d.context → IsAmong (stamp level j d.context false) d.state.had) (sym is_own.plan)
              (subst (λ (c : ℕ). (j : ℕ) → Supplies m j c → IsAmong (stamp level j c false) d.state.had) (sym is_own.context) has_each);
          halt = ap (λ (z : NodeState). z.halt) waits.state_is;
          granted = ap (λ (z : NodeState). z.granted) waits.state_is;
        },
      )

      need_here : (n : ℕ) → IsNeed d n → IsNeedOf round here n
      need_here n h =
          let (l, is, awaits) = h.waits in
          let one : round_at d l ≡ round = round_is d.plan m l level d.budget budget d.before ready.before is_own.plan (some_same d.level l level is waits.level_is) is_own.budget_is waits.before_is in (
            h.new,
            subst (λ (c : ℕ). IsListing (IsNewQuestion round c) (λ a b. a < b) h.new) is_own.context (subst (λ (r : Round). IsListing (IsNewQuestion r d.context) (λ a b. a < b) h.new) one h.listed),
            h.count,
          )

      state_at : slice_get (states_of nodes) here ≡ Some d.state
      state_at = slice_get-map_some (λ (z : NodeData). z.state) nodes here d at

      states_each : length (states_of nodes) ≡ length m.contexts
      states_each = length-map nodes (λ (z : NodeData). z.state) ∙ own.one_each

      pub grant_stopped : (halt : Halt) → HasGrantCause total d halt → HasRoundCause m level budget (oracles_of first) halt
      grant_stopped (Spent l drawn) (is, over, need, is_need, adds) =
          let t : NodeState = record d.state { granted = Some drawn } in
          let counted : IsTotal round (slice_set (states_of nodes) here t) drawn =
          total_more round (states_of nodes) total s.counted here d.state t state_at (ap (λ (z : NodeState). z.granted) waits.state_is) drawn need refl (need_here need is_need) drawn adds in (
            some_same d.level l level is waits.level_is,
            subst (λ b. b < drawn) is_own.budget_is over,
            (totals_count_questions round (slice_set (states_of nodes) here t) drawn onward (length-slice_set (states_of nodes) here t ∙ states_each) counted).0,
          )
      grant_stopped (Missing c x) (l, is, (context_is, lacks, (question, new))) =
          let (o, there, holds) = same_oracle (oracles_of nodes) (oracles_of first) (oracles_rest nodes first s.same) here d.oracle (slice_get-map_some (λ (z : NodeData). z.oracle) nodes here d at) in
          let c_is : c ≡ here = context_is ∙ is_own.context in
          let asked_here : IsQuestionAt m level here x =
          subst (λ (n : System). IsQuestionAt n level here x) is_own.plan (subst (λ (b : ℕ). IsQuestionAt d.plan b here x) (some_same d.level l level is waits.level_is) (subst (λ (i : ℕ). IsQuestionAt d.plan l i x) is_own.context question)) in (
            o,
            subst (λ (i : ℕ). slice_get (oracles_of first) i ≡ Some o) (sym c_is) there,
            subst (λ (h : Option (List ℕ)). IsLacking h x) holds lacks,
            subst (λ (i : ℕ). IsQuestionAt m level i x) (sym c_is) asked_here,
          )
      grant_stopped Memory cause = tt

      -- ---- it was granted its need
      module _ (granted : ℕ) (e : NodeData) (f : FinishesOn total granted d e) (kept : as_new e ≡ as_new d) where
        same_level : f.level ≡ level
        same_level = some_same d.level f.level level f.level_is waits.level_is

        supplies_had : IsInventory (IsSupplyTo round here) d.state.had
        supplies_had = record {
          exactly = λ x. (
            λ h. ((waits.had.exactly x).0 h).0,
            λ (j, supplies, is). subst (λ y. IsAmong y d.state.had) (sym is) (has_each j supplies),
          );
          apart = waits.had.apart;
        }

        put_out_is : e.state.put_out ≡ stamps_to level here false d.receivers
        put_out_is = ap (λ (z : NodeData). z.state.put_out) f.finished.rest ∙ ap (λ l. stamps_to l d.context false d.receivers) same_level ∙ ap (λ c. stamps_to level c false d.receivers) is_own.context

        pub here_finished : IsFinished round here e
        here_finished = record {
          level_is = ap (λ (z : NodeData). z.level) f.finished.rest ∙ waits.level_is;
          before_is = ap (λ (z : NodeData). z.before) f.finished.rest ∙ waits.before_is;
          begun = ap (λ (z : NodeData). z.state.begun) f.finished.rest ∙ ap (λ (z : NodeState). z.begun) waits.state_is;
          finishes = record {
            granted = (granted, ap (λ (z : NodeData). z.state.granted) f.finished.rest, subst (λ b. granted ≤ b) is_own.budget_is f.finished.within);
            had = subst (λ xs. IsInventory (IsSupplyTo round here) xs) (sym (ap (λ (z : NodeData). z.state.had) f.finished.rest)) supplies_had;
            put_out = subst (λ xs. IsInventory (IsSentBy round here false) xs) (sym put_out_is) (sent_to round here false d.receivers is_own.receivers);
            done = ap (λ (z : NodeData). z.state.done) f.finished.rest;
            halt = ap (λ (z : NodeData). z.state.halt) f.finished.rest ∙ ap (λ (z : NodeState). z.halt) waits.state_is;
            by_itself = ap (λ (z : NodeData). z.state.by_itself) f.finished.rest ∙ ap (λ (z : NodeState). z.by_itself) waits.state_is;
          };
          known = subst (λ (n : System). IsKnown n level here e.known) is_own.plan (subst (λ (c : ℕ). IsKnown d.plan level c e.known) is_own.context (subst (λ (l : ℕ). IsKnown d.plan l d.context e.known) same_level f.finished.known));
          asked = subst (λ (n : System). HasAsked n here e.oracle e.known.answers) is_own.plan (subst (λ (c : ℕ). HasAsked d.plan c e.oracle e.known.answers) is_own.context f.finished.asked);
        }

        counted_here : IsTotal round (states_of (slice_set nodes here e)) granted
        counted_here = subst (λ ss. IsTotal round ss granted) (sym (map-slice_set (λ (z : NodeData). z.state) nodes here e))
            (total_more round (states_of nodes) total s.counted here d.state e.state state_at (ap (λ (z : NodeState). z.granted) waits.state_is)
            granted f.need (ap (λ (z : NodeData). z.state.granted) f.finished.rest) (need_here f.need f.is_need) granted f.adds)

        -- ---- its letters
        pub there_now : slice_get (slice_set nodes here e) here ≡ Some e
        there_now = set_there nodes here d e at

        to_receivers : addressees e.outbox ≡ d.receivers
        to_receivers = ap (λ (z : NodeData). addressees z.outbox) f.finished.rest ∙ addressees-letters_to d.plan f.level d.context e.known.supplies d.receivers

        supplies_each : (j : ℕ) → IsAmong j (addressees e.outbox) → Supplies m here j
        supplies_each j h = (is_own.receivers.exactly j).0 (subst (λ js. IsAmong j js) to_receivers h)

        pub not_seen : (j : ℕ) → Supplies m here j → ¬ IsAmong j (take (k + 1) order)
        not_seen j supplies = supplied_later m order ordered k more j supplies

        not_here : ¬ IsAmong here (addressees e.outbox)
        not_here h = not_seen here (supplies_each here h) (subst (λ xs. IsAmong here xs) (sym now_seen) ((among_push here (take k order) here).1 (inr refl)))

        -- what each of them says but for the supplies
        pub letter_is : (l : LetterData) → IsAmong l e.outbox → (j : ℕ) × Supplies m here j × (l ≡ record { plan = m; level = level; from = here; to = j; content = Supply e.known.supplies })
        letter_is l h =
            let (j, among, is) = map_among (λ (j : ℕ). record { plan = d.plan; level = f.level; from = d.context; to = j; content = Supply e.known.supplies }) l d.receivers
            (subst (λ ls. IsAmong l ls) (ap (λ (z : NodeData). z.outbox) f.finished.rest) h) in (
              j,
              (is_own.receivers.exactly j).0 among,
              is ∙ ap (λ (n : System). record { plan = n; level = f.level; from = d.context; to = j; content = Supply e.known.supplies }) is_own.plan
                  ∙ ap (λ (b : ℕ). record { plan = m; level = b; from = d.context; to = j; content = Supply e.known.supplies }) same_level
                  ∙ ap (λ (c : ℕ). record { plan = m; level = level; from = c; to = j; content = Supply e.known.supplies }) is_own.context,
            )

        awaited_there : (l : LetterData) → IsAmong l e.outbox → IsExpected l (slice_set nodes here e)
        awaited_there l h =
            let (j, supplies, is) = letter_is l h in
            let to_is : l.to ≡ j = ap (λ (y : LetterData). y.to) is in
            let later = not_seen j supplies in
            let differ : ¬ (j ≡ here) = λ same. later (subst (λ xs. IsAmong j xs) (sym now_seen) ((among_push j (take k order) here).1 (inr same))) in
            let (n, there) = slice_get_below nodes j (let low = supplies.2 in let each = own.one_each in omega (arith, low, each)) in
            let w : IsWaiting round (take k order) j n = s.waiting j n (λ seen. later (subst (λ xs. IsAmong j xs) (sym now_seen) ((among_push j (take k order) here).1 (inl seen)))) there in
            let one = own.each j n there in
            let from_is : l.from ≡ here = ap (λ (y : LetterData). y.from) is in
            record {
              node = n;
              is_its = subst (λ (c : ℕ). slice_get (slice_set nodes here e) c ≡ Some n) (sym to_is) (set_other nodes here j n e differ there);
              awaited = record {
                plan = ap (λ (y : LetterData). y.plan) is ∙ sym one.plan;
                level = w.level_is ∙ ap (λ (b : ℕ). Some b) (sym (ap (λ (y : LetterData). y.level) is));
                addressed = to_is ∙ sym one.context;
                supplies = subst (λ (p : System). Supplies p l.from n.context) (sym one.plan) (subst (λ (c : ℕ). Supplies m c n.context) (sym from_is) (subst (λ (c : ℕ). Supplies m here c) (sym one.context) supplies));
                first = λ x had same. unseen (subst (λ (c : ℕ). IsAmong c (take k order)) (same ∙ from_is) ((w.had.exactly x).0 had).1);
              };
              going = ap (λ (z : NodeState). z.halt) w.state_is;
              supply = ap (λ (y : LetterData). is_stop y.content) is;
            }

        pub letters_expected : AreExpected here (slice_set nodes here e)
        letters_expected = record {
          sender = e;
          is_its = there_now;
          apart = subst (λ js. AreApart js) (sym to_receivers) (ascending_distinct d.receivers is_own.receivers.ascending);
          others = not_here;
          each = awaited_there;
        }

        -- ---- they were delivered
        module _ (after : List NodeData) (sent : AreDelivered here (slice_set nodes here e) after) (same : map as_new after ≡ map as_new (slice_set nodes here e)) where
          sender_is : sent.sender ≡ e
          sender_is = some_same (slice_get (slice_set nodes here e) here) sent.sender e sent.is_its there_now

          -- the node before the delivery, and what became of it
          came_of : (j : ℕ) (z : NodeData) → slice_get after j ≡ Some z → (n : NodeData) × (slice_get (slice_set nodes here e) j ≡ Some n) × IsAfterDelivery here e.outbox j n z
          came_of j z at' =
              let (n, there) = slice_get_below (slice_set nodes here e) j (let b = slice_get_within after j z at' in let long = sent.one_each in omega (arith, b, long)) in
              (n, there, subst (λ (x : NodeData). IsAfterDelivery here x.outbox j n z) sender_is (sent.each j n z there at'))

          stood_there : (j : ℕ) (n : NodeData) → slice_get (slice_set nodes here e) j ≡ Some n → ¬ (j ≡ here) → slice_get nodes j ≡ Some n
          stood_there j n there differ = elim (slice_get-slice_set nodes here j e n there) [ inl same' ↦ absurd (differ same'.0) | inr other ↦ other.1 ]

          -- the sender has finished, whatever letters are left
          sender_finished : (z : NodeData) → z ≡ record e { outbox = [] } → IsFinished round here z
          sender_finished z is = let h = here_finished in subst (λ (x : NodeData). IsFinished round here x) (sym is) (record { level_is = h.level_is; before_is = h.before_is; begun = h.begun; finishes = h.finishes; known = h.known; asked = h.asked })

          finished_by : (j : ℕ) (n z : NodeData) → IsAmong j (take k order) ⊎ (j ≡ here) → slice_get (slice_set nodes here e) j ≡ Some n → IsAfterDelivery here e.outbox j n z → IsFinished round j z
          finished_by j n z (inl seen) there (sends same' is) = absurd (unseen (subst (λ c. IsAmong c (take k order)) same' seen))
          finished_by j n z (inl seen) there (has_had l differ among to is) =
              absurd (not_seen j (supplies_each j (subst (λ c. IsAmong c (addressees e.outbox)) to (among_map (λ (y : LetterData). y.to) l e.outbox among))) (subst (λ xs. IsAmong j xs) (sym now_seen) ((among_push j (take k order) here).1 (inl seen))))
          finished_by j n z (inl seen) there (stays differ none is) = subst (λ (x : NodeData). IsFinished round j x) (sym is) (s.finished j n seen (stood_there j n there differ))
          finished_by j n z (inr at_here) there (sends same' is) =
              let n_is : n ≡ e = some_same (slice_get (slice_set nodes here e) here) n e (subst (λ c. slice_get (slice_set nodes here e) c ≡ Some n) at_here there) there_now in
              subst (λ (c : ℕ). IsFinished round c z) (sym at_here) (sender_finished z (is ∙ ap (λ (x : NodeData). record x { outbox = [] }) n_is))
          finished_by j n z (inr at_here) there (has_had l differ among to is) = absurd (differ at_here)
          finished_by j n z (inr at_here) there (stays differ none is) = absurd (differ at_here)

          -- one that has had its letter
          had_more : (j : ℕ) (n : NodeData) (l : LetterData) → IsWaiting round (take k order) j n → IsAmong l e.outbox → l.to ≡ j → IsWaiting round (take (k + 1) order) j (with_had l n)
          had_more j n l w among to =
              let (j', supplies, is) = letter_is l among in
              let same_j : j' ≡ j = sym (ap (λ (y : LetterData). y.to) is) ∙ to in
              let stamp_is : stamp_of l ≡ stamp level here j false = ap stamp_of is ∙ ap (λ c. stamp level here c false) same_j in
              let new : ¬ IsAmong (stamp_of l) n.state.had = λ h. unseen (subst (λ c. IsAmong c (take k order)) (ap (λ (y : Stamp). y.from) stamp_is) ((w.had.exactly (stamp_of l)).0 h).1) in
              record {
                level_is = w.level_is;
                before_is = w.before_is;
                state_is = ap (λ (z : NodeState). record z { had = n.state.had ++ stamp_of l ∷ [] }) w.state_is;
                had = record {
                  exactly = λ x. (
                    λ h. elim ((among_push x n.state.had (stamp_of l)).0 h) [
                      | inl old ↦ (((w.had.exactly x).0 old).0, subst (λ xs. IsAmong x.from xs) (sym now_seen) ((among_push x.from (take k order) here).1 (inl ((w.had.exactly x).0 old).1)))
                      | inr now ↦ (
                        (here, subst (λ (c : ℕ). Supplies m here c) same_j supplies, now ∙ stamp_is),
                        subst (λ xs. IsAmong x.from xs) (sym now_seen) ((among_push x.from (take k order) here).1 (inr (ap (λ (y : Stamp). y.from) (now ∙ stamp_is)))),
                      )
                    ],
                    λ (supply, seen). elim ((among_push x.from (take k order) here).0 (subst (λ xs. IsAmong x.from xs) now_seen seen)) [
                      | inl old ↦ (among_push x n.state.had (stamp_of l)).1 (inl ((w.had.exactly x).1 (supply, old)))
                      | inr last ↦ (among_push x n.state.had (stamp_of l)).1 (inr (supply.2 ∙ ap (λ c. stamp level c j false) (sym (ap (λ (y : Stamp). y.from) supply.2) ∙ last) ∙ sym stamp_is))
                    ],
                  );
                  apart = distinct_push n.state.had (stamp_of l) w.had.apart new;
                };
                known = w.known;
                asked = w.asked;
              }

          -- one that was to have none
          had_same : (j : ℕ) (n : NodeData) → IsWaiting round (take k order) j n → ¬ Supplies m here j → IsWaiting round (take (k + 1) order) j n
          had_same j n w none = record {
            level_is = w.level_is;
            before_is = w.before_is;
            state_is = w.state_is;
            had = record {
              exactly = λ x. (
                λ h. (((w.had.exactly x).0 h).0, subst (λ xs. IsAmong x.from xs) (sym now_seen) ((among_push x.from (take k order) here).1 (inl ((w.had.exactly x).0 h).1))),
                λ (supply, seen). elim ((among_push x.from (take k order) here).0 (subst (λ xs. IsAmong x.from xs) now_seen seen)) [
                  | inl old ↦ (w.had.exactly x).1 (supply, old)
                  | inr last ↦ absurd (none (subst (λ (c : ℕ). Supplies m c j) (sym (ap (λ (y : Stamp). y.from) supply.2) ∙ last) supply.1))
                ],
              );
              apart = w.had.apart;
            };
            known = w.known;
            asked = w.asked;
          }

          none_to : (j : ℕ) → ¬ IsAmong j (addressees e.outbox) → ¬ Supplies m here j
          none_to j none supplies = none (subst (λ js. IsAmong j js) (sym to_receivers) ((is_own.receivers.exactly j).1 supplies))

          waiting_by : (j : ℕ) (n z : NodeData) → ¬ IsAmong j (take (k + 1) order) → slice_get (slice_set nodes here e) j ≡ Some n → IsAfterDelivery here e.outbox j n z → IsWaiting round (take (k + 1) order) j z
          waiting_by j n z not there (sends same' is) = absurd (not (subst (λ xs. IsAmong j xs) (sym now_seen) ((among_push j (take k order) here).1 (inr same'))))
          waiting_by j n z not there (has_had l differ among to is) =
              let w = s.waiting j n (λ seen. not (subst (λ xs. IsAmong j xs) (sym now_seen) ((among_push j (take k order) here).1 (inl seen)))) (stood_there j n there differ) in
              subst (λ (x : NodeData). IsWaiting round (take (k + 1) order) j x) (sym is) (had_more j n l w among to)
          waiting_by j n z not there (stays differ none is) =
              let w = s.waiting j n (λ seen. not (subst (λ xs. IsAmong j xs) (sym now_seen) ((among_push j (take k order) here).1 (inl seen)))) (stood_there j n there differ) in
              subst (λ (x : NodeData). IsWaiting round (take (k + 1) order) j x) (sym is) (had_same j n w (none_to j none))

          granted_by : (j : ℕ) (n z : NodeData) → IsAfterDelivery here e.outbox j n z → z.state.granted ≡ n.state.granted
          granted_by j n z (sends same' is) = ap (λ (x : NodeData). x.state.granted) is
          granted_by j n z (has_had l differ among to is) = ap (λ (x : NodeData). x.state.granted) is
          granted_by j n z (stays differ none is) = ap (λ (x : NodeData). x.state.granted) is

          counted_after : IsTotal round (states_of after) granted
          counted_after = total_same round (states_of (slice_set nodes here e)) (states_of after) granted counted_here
              (length-map after (λ (z : NodeData). z.state) ∙ sent.one_each ∙ sym (length-map (slice_set nodes here e) (λ (z : NodeData). z.state)))
              (λ j u t at_u at_t.
              let (z, there, z_is) = map_slice_get (λ (z : NodeData). z.state) after j t at_t in
              let (n, there', n_is) = map_slice_get (λ (z : NodeData). z.state) (slice_set nodes here e) j u at_u in
              let (n', there'', came) = came_of j z there in
              let one : n' ≡ n = some_same (slice_get (slice_set nodes here e) j) n' n there'' there' in
              sym (ap (λ (x : NodeState). x.granted) z_is) ∙ granted_by j n' z came ∙ ap (λ (x : NodeData). x.state.granted) one ∙ ap (λ (x : NodeState). x.granted) n_is)

          pub kept_since : map as_new after ≡ map as_new first
          kept_since = same ∙ image_kept as_new nodes here d e at kept ∙ s.same

          pub play_more : IsInPlay round first (take (k + 1) order) after granted
          play_more = record {
            same = kept_since;
            finished = λ j z seen at'. let (n, there, came) = came_of j z at' in
                finished_by j n z ((among_push j (take k order) here).0 (subst (λ xs. IsAmong j xs) now_seen seen)) there came;
            waiting = λ j z not at'. let (n, there, came) = came_of j z at' in waiting_by j n z not there came;
            counted = counted_after;
            within = subst (λ b. granted ≤ b) is_own.budget_is f.finished.within;
          }
