-- A round by groups: its loads as they go out, and what their return shows.
use Rattle.std.proofs.Common.{◌≡◌, ℕ, suc, ◌+◌, ◌<◌, ◌≤◌, ◌%◌, nat_eq, Bool, true, false, true≢false, cond, ◌&&◌, List, [], ◌∷◌, map, length, Option, Some, None, Result, Ok, Err, IfErr, IfOk, is_some, slice_get, refl, sym, ap, ◌∙◌, subst, inl, inr, ◌⊎◌, arith}
use Rattle.std.proofs.lemmas.Bool.{and_parts}
use Rattle.std.proofs.lemmas.List.{length-map}
use Rattle.std.proofs.lemmas.List.FromFn.{length-range_with_len}
use Rattle.std.proofs.lemmas.List.Sums.{sum_by-cons}
use Rattle.std.proofs.lemmas.Simd.{map-map}
use Rattle.std.proofs.lemmas.Option.{none-some, same_Some, slice_get_within}
use Rattle.std.specs.List.{AllByRecursion, AllZip, range_with_len, sum_by}
use Rattle.mcs_base.specs.Listings.{IsAmong, IsListing}
use Rattle.mcs_base.proofs.Among.{among_get, among_range, get_among}
use Rattle.mcs_base.proofs.Distinct.{ascending_distinct, distinct_fits}
use Rattle.mcs_base.proofs.Each.{all_get}
use Rattle.mcs_base.proofs.Lists.{map_slice_get, slice_get-map_some, slice_get_below, zip_map_same}
use Rattle.mcs_base.proofs.Sums.{sum_by_none, sum_by_same}
use Rattle.mcs_system.specs.Plain.{System}
use Rattle.mcs_system.specs.Faults.{IsValid}
use Rattle.mcs_system.specs.Imports.{IsImportOrder, supplied}
use Rattle.mcs_system.specs.Levels.{HasQuestions, IsQuestionAt}
use Rattle.mcs_system.proofs.ValidLemmas.{few_contexts}
use Rattle.mcs_states.specs.Oracles.{IsLacking, Lacks, OracleState}
use Rattle.mcs_states.proofs.Causes.{same_oracle}
use Rattle.mcs_states.specs.declared.halt.Halt.{Halt}
use Rattle.mcs_states.specs.declared.halt.Halt.TheVariants.{Spent, Missing, Memory}
use Rattle.mcs_node.specs.Rounds.{Finishes, IsOwnHalt, NodeState, ObeysRule, Round, Stamp, Supplies, finishes, is_stopped, stops, waits}
use Rattle.mcs_node.specs.Steps.{Adds, IsNeedOf, IsTotal}
use Rattle.mcs_node.specs.Laws.{IsOnward}
use Rattle.mcs_node.specs.Letters.{LetterData, stamp_of}
use Rattle.mcs_node.specs.Known.{HasAsked, IsKnownAt}
use Rattle.mcs_node.specs.Nodes.{IsAbove, IsNodeData, NodeData, begun_at, done_level, round_at}
use Rattle.mcs_node.specs.Replay.{IsLowestHalt}
use Rattle.mcs_node.proofs.ExistenceLemmas.{own_halt}
use Rattle.mcs_node.proofs.RuleLemmas.{done_finishes}
use Rattle.mcs_node.proofs.TotalLemmas.{totals_count_questions}
use Rattle.mcs_draw.specs.declared.account.Account.{Account}
use Rattle.mcs_draw.specs.Seats.{ClosedData}
use Rattle.mcs_wire.specs.Ends.{AddressData, SettledData}
use Rattle.mcs_mesh.specs.Players.{HasReached, HasRoundCause, HaveFinished, HaveReached, IsReadyRound, as_new, oracles_of}
use Rattle.mcs_mesh.proofs.NodeLemmas.{oracles_rest, still_nodes}
use Rattle.mcs_base.specs.Groups.{grouped, members}
use Rattle.mcs_crew.specs.Hubs.{HaveEnded, awaited_by, with_parts}
use Rattle.mcs_crew.specs.Loads.{IsAtWork, LoadData, Worked, all_awaited, emptied}
use Rattle.mcs_mesh.specs.Rounds.{round_of}
use Rattle.mcs_crew.specs.Rounds.{HaveBeenPlayed, IsTold}
use Rattle.mcs_crew.specs.Teams.{HasGrant, IsAtPlay, IsTeam, TeamData, seat_room}
use Rattle.mcs_crew.specs.Trails.{AreOfGroups, IsDoneNode, IsHaltOf, IsMemory, IsNoTrail, IsTrailAfter, IsWithinDrawn, TrailData, WasPutOut, states_of}
use Rattle.mcs_crew.specs.Weights.{by_stamp, granted_need, had_weight, put_out_weight, sent_weight, stamps_weight}
use Rattle.mcs_crew.proofs.Counting.{few_needs}
use Rattle.mcs_base.proofs.GroupLemmas.{grouped_back, grouped_from, grouped_has, grouped_long, grouped_map, grouped_short, grouped_sum, member_sum}
use Rattle.mcs_base.proofs.Placed.{eq_is, eq_same, sum_among, sum_map, sum_some, zip_back}
use Rattle.mcs_base.proofs.Results.{option_cases, some_same}
use Rattle.mcs_crew.proofs.LoadSteps.{none_is_ignored}
use Rattle.mcs_crew.proofs.TeamSteps.{needs_chosen}

-- ---- awaited letters, by nodes and by contexts
members_awaited : (m : System) (order : List ℕ) (w g k : ℕ) (nodes : List NodeData) → ((i : ℕ) (d : NodeData) → slice_get nodes i ≡ Some d → d.context ≡ k + i)
    → all_awaited m order (members w g k nodes) ≡ sum_by (λ i. cond (nat_eq (i % w) g) (length (supplied m order i)) 0) (range_with_len k (length nodes))
members_awaited m order w g k [] contexts = refl
members_awaited m order w g k (d ∷ nodes) contexts =
    let here : d.context ≡ k = (let e = contexts 0 d refl in omega (arith, e)) in
    let rest = members_awaited m order w g (k + 1) nodes (λ i e at. (let is = contexts (suc i) e at in omega (arith, is))) in
    let counted : ℕ → ℕ = λ i. cond (nat_eq (i % w) g) (length (supplied m order i)) 0 in
    one_more (nat_eq (k % w) g) (ap (λ (i : ℕ). length (supplied m order i)) here) rest
    ∙ sym (sum_by-cons (λ i. cond (nat_eq (i % w) g) (length (supplied m order i)) 0) k (range_with_len (k + 1) (length nodes)))
  where
    one_more : (b : Bool) → length (supplied m order d.context) ≡ length (supplied m order k)
        → all_awaited m order (members w g (k + 1) nodes) ≡ sum_by (λ i. cond (nat_eq (i % w) g) (length (supplied m order i)) 0) (range_with_len (k + 1) (length nodes))
        → all_awaited m order (cond b (d ∷ members w g (k + 1) nodes) (members w g (k + 1) nodes)) ≡ cond b (length (supplied m order k)) 0 + sum_by (λ i. cond (nat_eq (i % w) g) (length (supplied m order i)) 0) (range_with_len (k + 1) (length nodes))
    one_more true here rest = omega (arith, here, rest, sum_by-cons (λ (e : NodeData). length (supplied m order e.context)) d (members w g (k + 1) nodes))
    one_more false here rest = omega (arith, rest)

-- ---- the nodes as they have begun
round_is : (a b : System) (c d e f : ℕ) (x y : Option ℕ) → a ≡ b → c ≡ d → e ≡ f → x ≡ y → round_of a c e x ≡ round_of b d f y
round_is a b c d e f x y one two three four =
    ap (λ (z : System). round_of z c e x) one ∙ ap (λ (z : ℕ). round_of b z e x) two ∙ ap (λ (z : ℕ). round_of b d z x) three ∙ ap (λ (z : Option ℕ). round_of b d f z) four

-- a context supplies no more than there are
few_receivers : (m : System) (i : ℕ) (js : List ℕ) → IsListing (Supplies m i) (λ a b. a < b) js → length js ≤ length m.contexts
few_receivers m i js listed =
    let all = distinct_fits js (range_with_len 0 (length m.contexts)) (ascending_distinct js listed.ascending)
    (λ j among. among_range j 0 (length m.contexts) (omega arith) (let low = ((listed.exactly j).0 among).2 in omega (arith, low))) in
    omega (arith, all, length-range_with_len 0 (length m.contexts))

module _ (m : System) (level budget asked w : ℕ) (first : List NodeData) (ready : IsReadyRound m level budget asked first) (valid : IsValid m) (some : 0 < w) where
  abbrev pub round : Round
  round = round_of m level budget ready.before

  abbrev pub begun : List NodeData
  begun = map (begun_at level) first

  few : length m.contexts ≤ 64
  few = few_contexts m valid

  begun_from : (i : ℕ) (d : NodeData) → slice_get begun i ≡ Some d → (n : NodeData) × (slice_get first i ≡ Some n) × (begun_at level n ≡ d)
  begun_from i d at = map_slice_get (begun_at level) first i d at

  play_first : (i : ℕ) (n : NodeData) → slice_get first i ≡ Some n → IsAtPlay round (begun_at level n)
  play_first i n at =
      let own = ready.own.each i n at in
      let reached = ready.reached.each i n at in
      let receivers = few_receivers m i n.receivers own.receivers in
      record {
        round_is = round_is n.plan m level level n.budget budget (done_level n) ready.before own.plan refl own.budget_is reached.reached;
        level_is = refl;
        in_range = (let within = slice_get_within first i n at in let each = ready.own.one_each in let context = own.context in omega (arith, within, each, context));
        handed_out = refl;
        few = (let all = few in omega (arith, receivers, all));
        short = omega arith;
        quiet = λ granted halt. refl;
        full = λ granted j supplies. absurd (true≢false (sym granted));
        lacks = λ context x halt itself. absurd (none-some (Missing context x) halt);
      }

  play_begun : (i : ℕ) (d : NodeData) → slice_get begun i ≡ Some d → IsAtPlay round d
  play_begun i d at = let (n, there, is) = begun_from i d at in subst (λ (z : NodeData). IsAtPlay round z) is (play_first i n there)

  context_begun : (i : ℕ) (d : NodeData) → slice_get begun i ≡ Some d → d.context ≡ i
  context_begun i d at = let (n, there, is) = begun_from i d at in sym (ap (λ (z : NodeData). z.context) is) ∙ (ready.own.each i n there).context

  -- ---- the load of a group as it goes out
  module _ (g : ℕ) (ys : List NodeData) (there : slice_get (grouped w 0 begun) g ≡ Some ys) (l : LoadData) (hub : List AddressData)
      (nodes : l.team.nodes ≡ ys)
      (addresses : l.team.addresses ≡ map (with_parts 1) hub)
      (wires : (h : ℕ) (a : AddressData) → slice_get hub h ≡ Some a → a.wire.plan ≡ m)
      (many : length hub ≡ w)
      (account : l.team.seat.account ≡ record { left = seat_room; drawn = 0; top = asked })
      (plan : l.inbox.wire.plan ≡ m)
      (taken : l.inbox.taken ≡ [])
      (left : (order : List ℕ) → IsImportOrder m order → l.left ≡ awaited_by m order w g (length m.contexts)) where
    -- each of its nodes is one of those that have begun
    node_from : (p : ℕ) (d : NodeData) → slice_get l.team.nodes p ≡ Some d → (i : ℕ) × (n : NodeData) × (slice_get first i ≡ Some n) × (begun_at level n ≡ d)
    node_from p d at =
        let (i, at') = grouped_from w 0 begun g ys p d there (subst (λ (ns : List NodeData). slice_get ns p ≡ Some d) nodes at) in
        let (n, first_at, is) = begun_from i d at' in (i, n, first_at, is)

    state_of_node : (d : NodeData) → IsAmong d l.team.nodes → (n : NodeData) × (begun_at level n ≡ d)
    state_of_node d among = let (p, at) = get_among d l.team.nodes among in let (i, n, first_at, is) = node_from p d at in (n, is)

    no_grant : (total : ℕ) → HasGrant l.team.nodes total → ⊥
    no_grant total (p, d, at, is) = let (i, n, first_at, same) = node_from p d at in none-some total (ap (λ (z : NodeData). z.state.granted) same ∙ is)

    none_sent : (weight : LetterData → ℕ) → sent_weight weight l.team.addresses ≡ 0
    none_sent weight = ap (sent_weight weight) addresses ∙ none_in hub
      where
        none_in : (ps : List AddressData) → sent_weight weight (map (with_parts 1) ps) ≡ 0
        none_in [] = refl
        none_in (a ∷ ps) = let rest = none_in ps in omega (arith, rest, sum_by-cons (λ (b : AddressData). sum_by weight b.sent) (with_parts 1 a) (map (with_parts 1) ps))

    none_put_out : (weight : Stamp → ℕ) → put_out_weight weight l.team.nodes ≡ 0
    none_put_out weight = sum_by_none (λ (d : NodeData). sum_by weight d.state.put_out) l.team.nodes (λ d among. (let (n, is) = state_of_node d among in sym (ap (λ (z : NodeData). sum_by weight z.state.put_out) is)))

    none_had : (weight : Stamp → ℕ) → had_weight weight l.team.nodes ≡ 0
    none_had weight = sum_by_none (λ (d : NodeData). sum_by weight d.state.had) l.team.nodes (λ d among. (let (n, is) = state_of_node d among in sym (ap (λ (z : NodeData). sum_by weight z.state.had) is)))

    none_needed : (need : ℕ → ℕ) → sum_by (granted_need need) l.team.nodes ≡ 0
    none_needed need = sum_by_none (granted_need need) l.team.nodes (λ d among. (let (n, is) = state_of_node d among in sym (ap (granted_need need) is)))

    team_begun : IsTeam round asked l.team
    team_begun = record {
      nodes = λ p d at. (let (i, n, first_at, is) = node_from p d at in subst (λ (z : NodeData). IsAtPlay round z) is (play_first i n first_at));
      few = (
          let short = grouped_short w 0 begun g ys there in
          let long = length-map first (begun_at level) in
          let each = ready.own.one_each in
          let same = ap (λ (ns : List NodeData). length ns) nodes in
          let all = few in
          omega (arith, short, long, each, same, all));
      small = λ i need less is_need. few_needs round valid i need less is_need;
      some_wire = (let long = ap (λ (ps : List AddressData). length ps) addresses in let mapped = length-map hub (with_parts 1) in omega (arith, long, mapped, many, some));
      wires = λ h a at. (
          let (b, there', is) = map_slice_get (with_parts 1) hub h a (subst (λ (ps : List AddressData). slice_get ps h ≡ Some a) addresses at) in
          sym (ap (λ (z : AddressData). z.wire.plan) is) ∙ wires h b there');
      sent = λ weight. none_sent (by_stamp weight) ∙ sym (none_put_out weight);
      drawn = λ need all. ap (λ (a : Account). a.drawn) account ∙ sym (none_needed need);
      room = (let left_is = ap (λ (a : Account). a.left) account in let drawn_is = ap (λ (a : Account). a.drawn) account in omega (arith, left_is, drawn_is));
      granted = λ total grant. absurd (no_grant total grant);
      top = λ bound low all. (let top_is = ap (λ (a : Account). a.top) account in omega (arith, top_is, low));
    }

    pub work_begun : IsAtWork round asked l
    work_begun = record {
      team = team_begun;
      plan = plan;
      ignored = [];
      balance = λ weight. (let none = ap (stamps_weight weight) taken in let had = none_had weight in omega (arith, none, had));
      counted = λ order ordered. (
          let none = ap (λ (ls : List LetterData). length ls) taken in
          let awaits = left order ordered in
          let all = members_awaited m order w g 0 begun (λ i d at. (let c = context_begun i d at in omega (arith, c))) in
          let one = member_sum w (λ (d : NodeData). length (supplied m order d.context)) 0 begun g ys there in
          let same = ap (all_awaited m order) nodes in
          let long = length-map first (begun_at level) ∙ ready.own.one_each in
          let range = ap (λ (n : ℕ). awaited_by m order w g n) long in
          omega (arith, none, awaits, all, one, same, range));
    }

-- ---- stamps by which letters are told apart
same_bool : Bool → Bool → Bool
same_bool true b = b
same_bool false true = false
same_bool false false = true

same_bool_is : (a b : Bool) → same_bool a b ≡ true → a ≡ b
unfolding same_bool
same_bool_is true b e = sym e
same_bool_is false true e = absurd (true≢false (sym e))
same_bool_is false false e = refl

same_bool_same : (a : Bool) → same_bool a a ≡ true
unfolding same_bool
same_bool_same true = refl
same_bool_same false = refl

same_stamp : Stamp → Stamp → Bool
same_stamp s t = nat_eq s.level t.level && (nat_eq s.from t.from && (nat_eq s.to t.to && same_bool s.stop t.stop))

same_stamp_same : (s : Stamp) → same_stamp s s ≡ true
unfolding same_stamp
same_stamp_same s = rw (eq_same s.level, eq_same s.from, eq_same s.to, same_bool_same s.stop) refl

same_stamp_is : (s t : Stamp) → same_stamp s t ≡ true → s ≡ t
unfolding same_stamp
same_stamp_is s t e =
    let a = and_parts (nat_eq s.level t.level) (nat_eq s.from t.from && (nat_eq s.to t.to && same_bool s.stop t.stop)) e in
    let b = and_parts (nat_eq s.from t.from) (nat_eq s.to t.to && same_bool s.stop t.stop) a.1 in
    let c = and_parts (nat_eq s.to t.to) (same_bool s.stop t.stop) b.1 in
    let level = eq_is s.level t.level a.0 in
    let from = eq_is s.from t.from b.0 in
    let to = eq_is s.to t.to c.0 in
    let stop = same_bool_is s.stop t.stop c.1 in
    λ i. record { level = level i; from = from i; to = to i; stop = stop i }

-- 1 for this stamp, and 0 for the others
abbrev one_for : Stamp → Stamp → ℕ
one_for s = λ t. cond (same_stamp s t) 1 0

found_stamp : (s x : Stamp) (xs : List Stamp) → 1 ≤ one_for s x → IsAmong x xs → IsAmong s xs
found_stamp s x xs some among = subst (λ (y : Stamp). IsAmong y xs) (sym (same_stamp_is s x (shown (same_stamp s x) some))) among
  where
    shown : (b : Bool) → 1 ≤ cond b 1 0 → b ≡ true
    shown true more = refl
    shown false more = absurd (omega (arith, more))

-- if these weigh something, it is one of them
stamp_among : (s : Stamp) (xs : List Stamp) → 1 ≤ sum_by (one_for s) xs → IsAmong s xs
stamp_among s xs more = let (x, among, some) = sum_some (one_for s) xs more in found_stamp s x xs some among

-- each letter that the team has sent was put out by one of its nodes
pub sent_put_out : (r : Round) (asked : ℕ) (t : TeamData) → IsTeam r asked t → (g : ℕ) (a : AddressData) (l : LetterData) → slice_get t.addresses g ≡ Some a → IsAmong l a.sent → WasPutOut t.nodes l
sent_put_out r asked t team g a l at among =
    let one = one_for (stamp_of l) in
    let here : one (stamp_of l) ≡ 1 = ap (λ (b : Bool). cond b 1 0) (same_stamp_same (stamp_of l)) in
    let by_address = sum_among (by_stamp one) a.sent l among in
    let by_all = sum_among (λ (b : AddressData). sum_by (by_stamp one) b.sent) t.addresses a (among_get a t.addresses g at) in
    let same = team.sent one in
    let (d, among_d, more) = sum_some (λ (x : NodeData). sum_by one x.state.put_out) t.nodes (omega (arith, here, by_address, by_all, same)) in
    let (p, there) = get_among d t.nodes among_d in
    (p, d, there, stamp_among (stamp_of l) d.state.put_out more)

-- ---- all loads are back
module _ (level w : ℕ) (some : 0 < w) (first after : List NodeData) (ls bs : List LoadData)
    (dealt : map (λ (l : LoadData). l.team.nodes) ls ≡ grouped w 0 (map (begun_at level) first))
    (worked : AllZip Worked ls bs)
    (collected : map (λ (b : LoadData). b.team.nodes) bs ≡ grouped w 0 after)
    (long : length after ≡ length first) where
  -- ---- the nodes are the same but for what a round changes
  images_same : map (map as_new) (grouped w 0 after) ≡ map (map as_new) (grouped w 0 (map (begun_at level) first))
  images_same =
      ap (map (map as_new)) (sym collected)
      ∙ map-map (map as_new) (λ (b : LoadData). b.team.nodes) bs
      ∙ sym (zip_map_same Worked (λ (l : LoadData). map as_new l.team.nodes) (λ (b : LoadData). map as_new b.team.nodes) (λ l b w. sym w.team.same) ls bs worked)
      ∙ sym (map-map (map as_new) (λ (l : LoadData). l.team.nodes) ls)
      ∙ ap (map (map as_new)) dealt

  begun_same : (xs : List NodeData) → map as_new (map (begun_at level) xs) ≡ map as_new xs
  begun_same [] = refl
  begun_same (x ∷ xs) = ap (λ ys. as_new x ∷ ys) (begun_same xs)

  pub same_back : map as_new after ≡ map as_new first
  same_back =
      grouped_back w some 0 (map as_new after) (map as_new (map (begun_at level) first))
      (length-map after as_new ∙ long ∙ sym (length-map (map (begun_at level) first) as_new ∙ length-map first (begun_at level)))
      (sym (grouped_map w as_new 0 after) ∙ images_same ∙ grouped_map w as_new 0 (map (begun_at level) first))
      ∙ begun_same first

module _ (m : System) (level budget asked w : ℕ) (first : List NodeData) (ready : IsReadyRound m level budget asked first) (some : 0 < w)
    (ls bs : List LoadData) (after : List NodeData) (hub : List AddressData) (wires : List SettledData) (word : ClosedData)
    (given : (g : ℕ) (l : LoadData) → slice_get ls g ≡ Some l → IsAtWork (round_of m level budget ready.before) asked l)
    (dealt : map (λ (l : LoadData). l.team.nodes) ls ≡ grouped w 0 (map (begun_at level) first))
    (worked : AllZip Worked ls bs)
    (collected : map (λ (b : LoadData). b.team.nodes) bs ≡ grouped w 0 after)
    (long : length after ≡ length first)
    (plans : (g : ℕ) (a : AddressData) → slice_get hub g ≡ Some a → a.wire.plan ≡ m)
    (hubs : length hub ≡ w)
    (ended : HaveEnded asked hub (map emptied bs) wires word) where
  abbrev r : Round
  r = round_of m level budget ready.before

  work_back : (g : ℕ) (b : LoadData) → slice_get bs g ≡ Some b → IsAtWork r asked b
  work_back g b at = let (l, there, w) = zip_back Worked ls bs worked g b at in w.at_work r asked (given g l there)

  many_back : length bs ≡ w
  many_back = sym (length-map bs (λ (b : LoadData). b.team.nodes)) ∙ ap (λ (groups : List (List NodeData)). length groups) collected ∙ grouped_long w 0 after

  group_back : (g : ℕ) (b : LoadData) → slice_get bs g ≡ Some b → slice_get (grouped w 0 after) g ≡ Some b.team.nodes
  group_back g b at = subst (λ (groups : List (List NodeData)). slice_get groups g ≡ Some b.team.nodes) collected (slice_get-map_some (λ (l : LoadData). l.team.nodes) bs g b at)

  -- each node is in one of the loads
  node_in : (i : ℕ) (d : NodeData) → slice_get after i ≡ Some d → (g : ℕ) × (b : LoadData) × (p : ℕ) × (slice_get bs g ≡ Some b) × (slice_get b.team.nodes p ≡ Some d)
  node_in i d at =
      let (g, ys, p, there, here) = grouped_has w some 0 after i d at in
      let (b, at', is) = map_slice_get (λ (l : LoadData). l.team.nodes) bs g ys (subst (λ (groups : List (List NodeData)). slice_get groups g ≡ Some ys) (sym collected) there) in
      (g, b, p, at', subst (λ (ns : List NodeData). slice_get ns p ≡ Some d) (sym is) here)

  node_out : (g : ℕ) (b : LoadData) (p : ℕ) (d : NodeData) → slice_get bs g ≡ Some b → slice_get b.team.nodes p ≡ Some d → (i : ℕ) × (slice_get after i ≡ Some d)
  node_out g b p d at here = grouped_from w 0 after g b.team.nodes p d (group_back g b at) here

  play_back : (i : ℕ) (d : NodeData) → slice_get after i ≡ Some d → IsAtPlay r d
  play_back i d at = let (g, b, p, there, here) = node_in i d at in (work_back g b there).team.nodes p d here

  -- ---- the nodes are those of the contexts
  context_back : (i : ℕ) (d : NodeData) → slice_get after i ≡ Some d → d.context ≡ i
  context_back i d at = ((still_nodes after first (same_back level w some first after ls bs dealt worked collected long) m budget ready.own).each i d at).context

  -- ---- what was drawn
  grant_in : (total : ℕ) → HasGrant after total → (g : ℕ) × (b : LoadData) × (slice_get bs g ≡ Some b) × HasGrant b.team.nodes total
  grant_in total (i, d, at, is) = let (g, b, p, there, here) = node_in i d at in (g, b, there, (p, d, here, is))

  grant_out : (g : ℕ) (b : LoadData) (total : ℕ) → slice_get bs g ≡ Some b → HasGrant b.team.nodes total → HasGrant after total
  grant_out g b total there (p, d, here, is) = let (i, at) = node_out g b p d there here in (i, d, at, is)

  drawn_all : (need : ℕ → ℕ) → ((i : ℕ) → i < length m.contexts → IsNeedOf r i (need i)) → sum_by (λ (b : LoadData). b.team.seat.account.drawn) (map emptied bs) ≡ sum_by (granted_need need) after
  drawn_all need all =
      sum_map (λ (l : LoadData). l.team.seat.account.drawn) emptied bs
      ∙ sum_by_same (λ (b : LoadData). b.team.seat.account.drawn) (λ (b : LoadData). sum_by (granted_need need) b.team.nodes) bs
      (λ b among. (let (g, at) = get_among b bs among in (work_back g b at).team.drawn need all))
      ∙ sym (sum_map (λ (ns : List NodeData). sum_by (granted_need need) ns) (λ (b : LoadData). b.team.nodes) bs)
      ∙ ap (sum_by (λ (ns : List NodeData). sum_by (granted_need need) ns)) collected
      ∙ grouped_sum w some (granted_need need) 0 after

  adds_by : (need : ℕ → ℕ) (i : ℕ) (granted : Option ℕ) → IsNeedOf r i (need i) → Adds r i granted (cond (is_some granted) (need i) 0)
  adds_by need i None is_need = refl
  adds_by need i (Some total) is_need = is_need

  count_back : IsTotal r (states_of after) word.total
  count_back = let (need, all) = needs_chosen r in record {
    base = asked;
    asked = ready.reached.count;
    needs = map (granted_need need) after;
    one_each = length-map after (granted_need need) ∙ sym (length-map after (λ (d : NodeData). d.state));
    added = λ i s n at at'. (
        let (d, there, is) = map_slice_get (λ (d : NodeData). d.state) after i s at in
        let (e, there', is') = map_slice_get (granted_need need) after i n at' in
        let same : e ≡ d = some_same (slice_get after i) e d there' there in
        let context = context_back i d there in
        let low : i < length m.contexts = subst (λ (k : ℕ). k < length m.contexts) context (play_back i d there).in_range in
        subst (λ (k : ℕ). Adds r i s.granted k) (ap (λ (k : ℕ). cond (is_some d.state.granted) (need k) 0) (sym context) ∙ ap (granted_need need) (sym same) ∙ is')
        (subst (λ (q : NodeState). Adds r i q.granted (cond (is_some d.state.granted) (need i) 0)) is (adds_by need i d.state.granted (all i low))));
    whole = (
        let total = ended.total in
        let drawn = drawn_all need all in
        let sum : sum_by (λ (n : ℕ). n) (map (granted_need need) after) ≡ sum_by (granted_need need) after = sum_map (λ (n : ℕ). n) (granted_need need) after in
        omega (arith, total, drawn, sum));
  }

  -- ---- what the wires show
  weight_got : ((i : ℕ) (d : NodeData) → slice_get after i ≡ Some d → Finishes r i d.state) → (g : ℕ) (b : LoadData) → slice_get bs g ≡ Some b → (weight : Stamp → ℕ) → stamps_weight weight b.inbox.taken ≡ had_weight weight (members w g 0 after)
  weight_got done g b at weight =
      let none = none_is_ignored r asked b (work_back g b at) (λ p d here. (
      let (i, there) = node_out g b p d at here in subst (λ (k : ℕ). Finishes r k d.state) (sym (context_back i d there)) (done i d there))) in
      none.1 weight ∙ member_sum w (λ (d : NodeData). sum_by weight d.state.had) 0 after g b.team.nodes (group_back g b at)

  pub have_been_played : HaveBeenPlayed m level budget asked ready.before w after wires word
  have_been_played = record {
    round_is = λ i d at. (play_back i d at).round_is;
    level_is = λ i d at. (play_back i d at).level_is;
    lacks = λ i d context x at halt itself. (play_back i d at).lacks context x halt itself;
    count = count_back;
    granted = λ total grant. (
        let (g, b, there, grant') = grant_in total grant in
        let low = (work_back g b there).team.granted total grant' in
        let top = ended.tops g (emptied b) (slice_get-map_some emptied bs g b there) in
        omega (arith, low, top));
    top = λ bound low all. ended.top bound low (λ g e at. (
        let (b, there, is) = map_slice_get emptied bs g e at in
        subst (λ (l : LoadData). l.team.seat.account.top ≤ bound) is ((work_back g b there).team.top bound low (λ total grant. all total (grant_out g b total there grant)))));
    wires_are = record {
      one_each = ended.one_each ∙ length-map bs emptied ∙ many_back;
      plan = λ g s at. (
          let (a, there) = slice_get_below hub g (let within = slice_get_within wires g s at in let each = ended.one_each in let same = length-map bs emptied in let back = many_back in omega (arith, within, each, same, back, hubs)) in
          ended.plan g a s there at ∙ plans g a there);
    };
    got = λ done g s at weight. (
        let (b, there) = slice_get_below bs g (let within = slice_get_within wires g s at in let each = ended.one_each in let same = length-map bs emptied in omega (arith, within, each, same)) in
        ap (stamps_weight weight) (ended.got g (emptied b) s (slice_get-map_some emptied bs g b there) at) ∙ weight_got done g b there weight);
    sent = λ g s l at among. (
        let (k, e, a, there_e, here_e, inside) = ended.sent g s l at among in
        let (b, there, is) = map_slice_get emptied bs k e there_e in
        let here : slice_get b.team.addresses g ≡ Some a = subst (λ (z : LoadData). slice_get z.team.addresses g ≡ Some a) (sym is) here_e in
        let (p, d, at', put_out) = sent_put_out r asked b.team (work_back k b there).team g a l here inside in
        let (i, at'') = node_out k b p d there at' in
        (i, d, at'', put_out));
  }

-- ---- halts
-- a node that stopped by itself has one
pub halt_of_own : (d : NodeData) → IsNodeData d → d.state.by_itself ≡ true → (halt : Halt) × (d.state.halt ≡ Some halt)
halt_of_own d its own = elim (option_cases d.level) [
  | inl none ↦ absurd (true≢false (sym own ∙ ap (λ (s : NodeState). s.by_itself) (its.unbegun none)))
  | inr begun ↦ own_halt (round_at d begun.0) d.context d.state own (its.rule begun.0 begun.1)
]

-- where the node at place k is the first that stopped by itself
pub lowest_at : (nodes : List NodeData) (k : ℕ) (d : NodeData) (halt : Halt) → slice_get nodes k ≡ Some d → d.state.by_itself ≡ true → d.state.halt ≡ Some halt → ((i : ℕ) (e : NodeData) → i < k → slice_get nodes i ≡ Some e → e.state.by_itself ≡ false)
    → IsLowestHalt (states_of nodes) (Some halt)
lowest_at nodes k d halt at own is before = (
  k,
  d.state,
  slice_get-map_some (λ (e : NodeData). e.state) nodes k d at,
  own,
  is,
  λ i s less there. let (e, at', same) = map_slice_get (λ (e : NodeData). e.state) nodes i s there in sym (ap (λ (t : NodeState). t.by_itself) same) ∙ before i e less at',
)

-- where none did
pub lowest_none : (nodes : List NodeData) → ((i : ℕ) (e : NodeData) → slice_get nodes i ≡ Some e → e.state.by_itself ≡ false) → IsLowestHalt (states_of nodes) None
lowest_none nodes none i s there = let (e, at, same) = map_slice_get (λ (e : NodeData). e.state) nodes i s there in sym (ap (λ (t : NodeState). t.by_itself) same) ∙ none i e at

-- ---- what is told
module _ (m : System) (level budget asked w : ℕ) (first nodes : List NodeData) (ready : IsReadyRound m level budget asked first) (same : map as_new nodes ≡ map as_new first) (wires : List SettledData) (word : ClosedData) (played : HaveBeenPlayed m level budget asked ready.before w nodes wires word) where
  abbrev q : Round
  q = round_of m level budget ready.before

  onward : IsOnward q
  onward done is = let above : done < level = subst (λ (o : Option ℕ). IsAbove o level) is ready.above in omega (arith, above)

  own_nodes : (i : ℕ) (d : NodeData) → slice_get nodes i ≡ Some d → (d.plan ≡ m) × (d.context ≡ i)
  own_nodes i d at = let own = (still_nodes nodes first same m budget ready.own).each i d at in (own.plan, own.context)

  -- the rule that it obeys is that of this round
  rule_of : (i : ℕ) (d : NodeData) → slice_get nodes i ≡ Some d → IsNodeData d → ObeysRule q i d.state
  rule_of i d at its =
      subst (λ (k : ℕ). ObeysRule q k d.state) (own_nodes i d at).1 (subst (λ (r : Round). ObeysRule r d.context d.state) (played.round_is i d at) (its.rule level (played.level_is i d at)))

  finished : (i : ℕ) (d : NodeData) → slice_get nodes i ≡ Some d → IsDoneNode d → Finishes q i d.state
  finished i d at done = done_finishes q i d.state (rule_of i d at done.0) done.1

  many : length (states_of nodes) ≡ length m.contexts
  many = length-map nodes (λ (d : NodeData). d.state) ∙ (still_nodes nodes first same m budget ready.own).one_each

  questions : HasQuestions m level word.total
  questions = (totals_count_questions q (states_of nodes) word.total onward many played.count).0

  -- ---- every node is done
  module _ (done : AllByRecursion IsDoneNode nodes) where
    done_at : (i : ℕ) (d : NodeData) → slice_get nodes i ≡ Some d → IsDoneNode d
    done_at i d at = all_get IsDoneNode nodes i d done at

    all_finished : (i : ℕ) (d : NodeData) → slice_get nodes i ≡ Some d → Finishes q i d.state
    all_finished i d at = finished i d at (done_at i d at)

    reached_at : (i : ℕ) (d : NodeData) → slice_get nodes i ≡ Some d → HasReached m (Some level) i d
    reached_at i d at =
        let f = all_finished i d at in
        let its = (done_at i d at).0 in
        let own = own_nodes i d at in
        let reached : done_level d ≡ Some level = ap (λ (b : Bool). cond b d.level d.before) f.done ∙ played.level_is i d at in
        record {
          level = played.level_is i d at;
          reached = reached;
          going = f.halt;
          known = subst (λ (n : System). IsKnownAt n (Some level) i d.known) own.0 (subst (λ (c : ℕ). IsKnownAt d.plan (Some level) c d.known) own.1 (subst (λ (o : Option ℕ). IsKnownAt d.plan o d.context d.known) reached (its.known f.halt)));
          asked = subst (λ (n : System). HasAsked n i d.oracle d.known.answers) own.0 (subst (λ (c : ℕ). HasAsked d.plan c d.oracle d.known.answers) own.1 (its.asked f.halt));
        }

    granted_at : (i : ℕ) (s : NodeState) → slice_get (states_of nodes) i ≡ Some s → is_some s.granted ≡ true
    granted_at i s at =
        let (d, there, is) = map_slice_get (λ (d : NodeData). d.state) nodes i s at in
        let (total, granted, within) = (all_finished i d there).granted in
        ap (λ (z : NodeState). is_some z.granted) (sym is) ∙ ap (λ (o : Option ℕ). is_some o) granted

    within_budget : word.total ≤ budget
    within_budget = played.top budget ready.reached.within (λ total (i, d, at, is). (
        let (other, granted, within) = (all_finished i d at).granted in
        let e : other ≡ total = same_Some other total (sym granted ∙ is) in
        omega (arith, within, e)))

    finish_at : (i : ℕ) (d : NodeData) → slice_get nodes i ≡ Some d → Finishes (round_at d level) i d.state
    finish_at i d at = subst (λ (r : Round). Finishes r i d.state) (sym (played.round_is i d at)) (all_finished i d at)

    pub told_done : (n : ℕ) (trail : TrailData) → n ≡ word.total → IsTrailAfter (Ok n) wires word trail → IsTold m level budget w first nodes (Ok n) trail
    told_done n trail is shown = record {
      played = record {
        same = same;
        ends = subst (λ (k : ℕ). HaveReached m budget (Some level) k nodes × HaveFinished level nodes) (sym is) (
          record {
            each = reached_at;
            count = (totals_count_questions q (states_of nodes) word.total onward many played.count).1 granted_at;
            within = within_budget;
          },
          finish_at,
        );
      };
      halt = tt;
      shown = record {
        wires = subst (λ (ws : List SettledData). AreOfGroups m w ws) (sym shown.0) played.wires_are;
        each = λ g s at. (
            let at' = subst (λ (ws : List SettledData). slice_get ws g ≡ Some s) shown.0 at in record {
              got = λ weight. played.got all_finished g s at' weight;
              sent = λ l among. played.sent g s l at' among;
            });
        word = word;
        word_is = shown.1;
        total_is = sym is;
      };
    }

  -- ---- a halt
  told_memory : (trail : TrailData) → IsNoTrail trail → IsTold m level budget w first nodes (Err Memory) trail
  told_memory trail none = record { played = record { same = same; ends = tt }; halt = inl tt; shown = inl (tt, none) }

  own_cause : (i : ℕ) (d : NodeData) (halt : Halt) → slice_get nodes i ≡ Some d → ObeysRule q i d.state → d.state.by_itself ≡ true → d.state.halt ≡ Some halt → IsOwnHalt q i d.state.granted halt
  own_cause i d halt at (waits s) own is = absurd (true≢false (sym own ∙ s.by_itself))
  own_cause i d halt at (finishes s) own is = absurd (true≢false (sym own ∙ s.by_itself))
  own_cause i d halt at (is_stopped s) own is = absurd (true≢false (sym own ∙ s.by_itself))
  own_cause i d halt at (stops s) own is = subst (λ (h : Halt). IsOwnHalt q i d.state.granted h) (some_same d.state.halt s.cause halt s.halt is) s.own

  lacks_before : (i : ℕ) (d : NodeData) (x : ℕ) → slice_get nodes i ≡ Some d → Lacks d.oracle x → (o : OracleState) × (slice_get (oracles_of first) i ≡ Some o) × Lacks o x
  lacks_before i d x at lacks =
      let (o, there, held) = same_oracle (oracles_of nodes) (oracles_of first) (oracles_rest nodes first same) i d.oracle (slice_get-map_some (λ (z : NodeData). z.oracle) nodes i d at) in
      (o, there, subst (λ (h : Option (List ℕ)). IsLacking h x) held lacks)

  fewer_questions : (n : ℕ) → n ≤ word.total → HasQuestions m level n
  fewer_questions n less = let h = questions in record { lists = h.lists; one_each = h.one_each; some = h.some; many = (let many' = h.many in omega (arith, many', less)) }

  -- the halt tells the truth, and of no more questions than were drawn
  pub halt_tells : (halt : Halt) → IsHaltOf nodes halt → HasRoundCause m level budget (oracles_of first) halt × IsWithinDrawn halt word.total
  halt_tells (Spent at drawn) (i, d, there, its, own, is) =
      let (level_is, granted, over) = own_cause i d (Spent at drawn) there (rule_of i d there its) own is in
      let low = played.granted drawn (i, d, there, granted) in
      ((level_is, over, fewer_questions drawn low), low)
  halt_tells (Missing context x) (i, d, there, its, own, is) =
      let (context_is, within, new) = own_cause i d (Missing context x) there (rule_of i d there its) own is in
      let (o, before, lacks) = lacks_before i d x there (played.lacks i d context x there is own) in
      (subst (λ (c : ℕ). (o : OracleState) × (slice_get (oracles_of first) c ≡ Some o) × Lacks o x × IsQuestionAt m level c x) (sym context_is) (o, before, lacks, new.0), tt)
  halt_tells Memory h = (tt, tt)

  told_shown : (halt : Halt) (trail : TrailData) → ¬ IsMemory halt → IsTrailAfter (Err halt) wires word trail → (trail.wires ≡ wires) × (trail.word ≡ Some word)
  told_shown (Spent at drawn) trail unlike shown = shown
  told_shown (Missing context x) trail unlike shown = shown
  told_shown Memory trail unlike shown = absurd (unlike tt)

  told_other : (halt : Halt) (trail : TrailData) → ¬ IsMemory halt → IsHaltOf nodes halt → IsLowestHalt (states_of nodes) (Some halt) → IsTrailAfter (Err halt) wires word trail → IsTold m level budget w first nodes (Err halt) trail
  told_other halt trail unlike is lowest shown =
      let tells = halt_tells halt is in
      let s = told_shown halt trail unlike shown in record {
        played = record { same = same; ends = tells.0 };
        halt = inr lowest;
        shown = inr (record {
          no_memory = unlike;
          wires = subst (λ (ws : List SettledData). AreOfGroups m w ws) (sym s.0) played.wires_are;
          word = word;
          word_is = s.1;
          questions = questions;
          within = tells.1;
        });
      }

  pub told_halt : (halt : Halt) (trail : TrailData) → IsMemory halt ⊎ (IsHaltOf nodes halt × IsLowestHalt (states_of nodes) (Some halt)) → IsTrailAfter (Err halt) wires word trail → IsTold m level budget w first nodes (Err halt) trail
  told_halt Memory trail h shown = told_memory trail shown
  told_halt (Spent at drawn) trail (inl none) shown = absurd none
  told_halt (Spent at drawn) trail (inr (is, lowest)) shown = told_other (Spent at drawn) trail (λ h. h) is lowest shown
  told_halt (Missing context x) trail (inl none) shown = absurd none
  told_halt (Missing context x) trail (inr (is, lowest)) shown = told_other (Missing context x) trail (λ h. h) is lowest shown

  -- by how the round ended
  pub told_by : (total : Result ℕ Halt) (trail : TrailData) → IfOk total (λ n. (n ≡ word.total) × AllByRecursion IsDoneNode nodes) → IfErr total (λ halt. IsMemory halt ⊎ (IsHaltOf nodes halt × IsLowestHalt (states_of nodes) (Some halt)))
      → IsTrailAfter total wires word trail → IsTold m level budget w first nodes total trail
  told_by (Ok n) trail done halt shown = told_done done.1 n trail done.0 shown
  told_by (Err halt) trail done cause shown = told_halt halt trail cause shown
