-- What a grant and a letter make of a node that plays a round.
use Rattle.std.proofs.Common.{◌≡◌, ℕ, ◌+◌, ◌<◌, ◌≤◌, Bool, true, false, List, [], ◌∷◌, ◌++◌, map, Option, Some, None, slice_get, slice_set, is_some, refl, sym, ap, ◌∙◌, subst, inl, inr, ◌⊎◌}
use Rattle.mcs_base.specs.Listings.{IsAmong, IsInventory, IsListing}
use Rattle.mcs_base.proofs.Among.{among_get, among_right, map_among}
use Rattle.mcs_base.proofs.Lists.{slice_get-map_some}
use Rattle.mcs_base.proofs.Results.{some_same}
use Rattle.mcs_system.specs.Plain.{System}
use Rattle.mcs_states.specs.Oracles.{OracleState}
use Rattle.mcs_states.specs.declared.halt.Halt.{Halt}
use Rattle.mcs_states.specs.declared.halt.Halt.TheVariants.{Spent, Missing, Memory}
use Rattle.mcs_node.specs.declared.event.Event.{Event}
use Rattle.mcs_node.specs.declared.event.Event.TheVariants.{Grant, Deliver}
use Rattle.mcs_node.specs.Rounds.{IsNewQuestion, IsOwnHalt, IsSentBy, NodeState, ObeysRule, Round, Stamp, Supplies, Waits, stamp}
use Rattle.mcs_node.specs.Configurations.{AwaitsGrant, Configuration, HasNode, IsFromSender}
use Rattle.mcs_node.specs.Known.{Knowledge}
use Rattle.mcs_node.specs.Letters.{ContentData, LetterData, Supply, Stop, is_stop, stamp_of}
use Rattle.mcs_node.specs.Nodes.{HasFailed, HasFinished, HasTaken, IsAwaited, IsGranted, IsGrantHalt, IsNeed, NodeData, letters_to, round_at, stamps_to, stopped_with, with_content, with_grant, with_had}
use Rattle.mcs_node.specs.Steps.{Changes, IsNeedOf, IsTotal, Reacts, Step, Taken, Takes}
use Rattle.mcs_node.specs.Playing.{has_begun, WasPutOut, IsInPlay, GrantsAreSteps, LettersAreSteps}
use Rattle.mcs_node.proofs.RuleLemmas.{letter_from_sender, sent_to}
use Rattle.mcs_node.proofs.EventLemmas.{IsOpen, may_be_stopped, may_finish, may_stop, may_wait}
use Rattle.mcs_node.proofs.ExistenceLemmas.{awaiting_open, goes_on_waiting, keeps_rule, no_stop_still, stays_halted, supplies_had, told_open, waits_open}
use Rattle.mcs_node.proofs.WorkedLemmas.{left_by}
use Rattle.mcs_node.proofs.PlayingLemmas.{IsCalled, IsOut, call_is_step, is_begun, plays_on, state_of, total_grown, total_kept}

-- the stamps of its letters
stamps_of : (m : System) (level i : ℕ) (content : ContentData) (js : List ℕ) → map stamp_of (letters_to m level i content js) ≡ stamps_to level i (is_stop content) js
stamps_of m level i content [] = refl
stamps_of m level i content (j ∷ js) = ap (λ (xs : List Stamp). stamp level i j (is_stop content) ∷ xs) (stamps_of m level i content js)

-- a stop tells one halt
stop_told : (t : NodeState) (halt : Halt) → t.halt ≡ Some halt → (other : Halt) → Stop halt ≡ Stop other → t.halt ≡ Some other
stop_told t halt told other same = let its : halt ≡ other = cc in told ∙ ap (λ (h : Halt). Some h) its

-- ---- a node that has begun the round
record HasJoined (r : Round) (c : Configuration) (i : ℕ) (d : NodeData) : Type 0 where
  node : HasNode c i d.state
  round : round_at d r.level ≡ r
  level : d.level ≡ Some r.level
  begun : d.state.begun ≡ true
  context : d.context ≡ i
  receivers : IsListing (Supplies r.system i) (λ a b. a < b) d.receivers

has_joined : (r : Round) (nodes : List NodeData) (letters : List LetterData) (total : ℕ) (c : Configuration) → IsInPlay r nodes letters total c → (i : ℕ) (d : NodeData) → slice_get nodes i ≡ Some d → d.level ≡ Some r.level → HasJoined r c i d
has_joined r nodes letters total c play i d at level =
    let (s, node, state) = state_of r nodes c.nodes play.states i d at in
    let (round, begun, is) = is_begun r i d s state level in record {
      node = subst (λ (p : NodeState). HasNode c i p) is node;
      round = round;
      level = level;
      begun = begun;
      context = play.states.contexts i d at;
      receivers = play.states.receivers i d at;
    }

module _ (r : Round) (c : Configuration) (i : ℕ) (d : NodeData) (j : HasJoined r c i d) where
  -- what it puts out
  sends : (stop : Bool) → IsInventory (IsSentBy r i stop) (stamps_to r.level d.context stop d.receivers)
  sends stop = subst (λ (k : ℕ). IsInventory (IsSentBy r i stop) (stamps_to r.level k stop d.receivers)) (sym j.context) (sent_to r i stop d.receivers j.receivers)

  are_out : (content : ContentData) (u : NodeState) → ((halt : Halt) → content ≡ Stop halt → u.halt ≡ Some halt) → (l : LetterData) → IsAmong l (letters_to d.plan r.level d.context content d.receivers) → IsOut r i u l
  are_out content u halts l h =
      let (to, among, is) = map_among (λ (k : ℕ). record { plan = d.plan; level = r.level; from = d.context; to = k; content = content }) l d.receivers h in
      subst (λ (x : LetterData). IsOut r i u x) (sym is) (record { plan = ap (λ (x : Round). x.system) j.round; level = refl; from = j.context; fits = (j.receivers.exactly to).0 among; halt = halts })

  -- it stops, by itself or by a letter
  abbrev stopped : NodeState → Halt → Bool → NodeState
  stopped t halt by_itself = record t { put_out = stamps_to r.level d.context true d.receivers; done = false; halt = Some halt; by_itself = by_itself }

  abbrev stops_out : Halt → List LetterData
  stops_out halt = letters_to d.plan r.level d.context (Stop halt) d.receivers

  stops_itself : (t : NodeState) (halt : Halt) → IsOpen t → IsOwnHalt r i t.granted halt → Reacts r c i t (map stamp_of (stops_out halt)) (stopped t halt true)
  stops_itself t halt is_open own =
      let new = stamps_to r.level d.context true d.receivers in
      subst (λ (xs : List Stamp). Reacts r c i t xs (stopped t halt true)) (sym (stamps_of d.plan r.level d.context (Stop halt) d.receivers))
      (subst (λ (v : Bool). Reacts r c i t new (record t { put_out = new; done = v; halt = Some halt; by_itself = true })) is_open.done (may_stop r c i t is_open new halt own (sends true)))

  is_stopped_by : (t : NodeState) (halt : Halt) (x : Stamp) (s : NodeState) → IsOpen t → IsAmong x t.had → x.stop ≡ true → HasNode c x.from s → s.halt ≡ Some halt → t.granted ≡ None
      → Reacts r c i t (map stamp_of (stops_out halt)) (stopped t halt false)
  is_stopped_by t halt x s is_open among stop at told granted =
      let new = stamps_to r.level d.context true d.receivers in
      subst (λ (xs : List Stamp). Reacts r c i t xs (stopped t halt false)) (sym (stamps_of d.plan r.level d.context (Stop halt) d.receivers))
      (subst (λ (v : Bool). Reacts r c i t new (record t { put_out = new; done = false; halt = Some halt; by_itself = v })) is_open.by_itself
      (subst (λ (v : Bool). Reacts r c i t new (record t { put_out = new; done = v; halt = Some halt })) is_open.done (may_be_stopped r c i t is_open new halt x s among stop at told granted (sends true))))

  -- what a call leaves of it
  abbrev left : OracleState → NodeState → Knowledge → NodeData
  left o u k = record d { oracle = o; state = u; outbox = []; known = k }

  called : (e : Event) (t u : NodeState) (o : OracleState) (k : Knowledge) (new : List LetterData) → Changes r c e i d.state t → Reacts r c i t (map stamp_of new) u → u.begun ≡ true → ((l : LetterData) → IsAmong l new → IsOut r i u l)
      → IsCalled r c e i d.state d (left o u k) new
  called e t u o k new changes reacts begun out = record {
    changed = t;
    changes = changes;
    reacts = reacts;
    state = has_begun j.round j.level begun refl;
    context = refl;
    receivers = refl;
    outbox = refl;
    out = out;
  }

module _ (r : Round) (nodes : List NodeData) (letters : List LetterData) (total : ℕ) (c : Configuration) (play : IsInPlay r nodes letters total c) (i : ℕ) (d : NodeData) (at : slice_get nodes i ≡ Some d) (j : HasJoined r c i d) where
  rule_of : ObeysRule r i d.state
  rule_of = (play.sound.nodes i d.state j.node).rule

  -- the event made e of the node, and what it put out was handed out
  abbrev GoesOn : Event → ℕ → NodeData → Type 0
  GoesOn event after e = (next : Configuration) × Step r c event Taken next × IsInPlay r (slice_set nodes i (record e { outbox = [] })) (letters ++ e.outbox) after next

  by_call : (event : Event) (t u : NodeState) (o : OracleState) (k : Knowledge) (new : List LetterData) (after : ℕ) → Changes r c event i d.state t → Reacts r c i t (map stamp_of new) u → u.begun ≡ true → ((l : LetterData) → IsAmong l new → IsOut r i u l)
      → IsTotal r (slice_set c.nodes i u) after → (next : Configuration) × Step r c event Taken next × IsInPlay r (slice_set nodes i (left r c i d j o u k)) (letters ++ new) after next
  by_call event t u o k new after changes reacts begun out counted =
      let b = called r c i d j event t u o k new changes reacts begun out in (
        left_by c i (map stamp_of new) u,
        call_is_step r nodes letters total c play i d at d.state j.node event (left r c i d j o u k) new b,
        plays_on r nodes letters total c play i d at d.state j.node event (left r c i d j o u k) new b after counted,
      )

  -- ---- a grant
  module _ (need : ℕ) (awaits : AwaitsGrant r i d.state) (needed : IsNeedOf r i need) where
    abbrev granted : NodeState
    granted = record d.state { granted = Some (total + need) }

    counted : (u : NodeState) → u.granted ≡ Some (total + need) → IsTotal r (slice_set c.nodes i u) (total + need)
    counted u is = total_grown r c.nodes i d.state u j.node total play.granted need (total + need) awaits.granted is needed

    changes : Changes r c (Grant i) i d.state granted
    changes = (refl, awaits, total + need, counted granted refl, refl)

    granted_open : IsOpen granted
    granted_open = let (is_open, no_stop) = awaiting_open r i d.state awaits rule_of in record { put_out = is_open.put_out; done = is_open.done; halt = is_open.halt; by_itself = is_open.by_itself }

    stops_now : (halt : Halt) (o : OracleState) (k : Knowledge) → IsOwnHalt r i (Some (total + need)) halt → GoesOn (Grant i) (total + need) (record (stopped_with r.level halt true (with_grant (total + need) d)) { oracle = o; known = k })
    stops_now halt o k own = by_call (Grant i) granted (stopped r c i d j granted halt true) o k (stops_out r c i d j halt) (total + need) changes (stops_itself r c i d j granted halt granted_open own) j.begun
        (are_out r c i d j (Stop halt) (stopped r c i d j granted halt true) (stop_told (stopped r c i d j granted halt true) halt refl)) (counted (stopped r c i d j granted halt true) refl)

    within_budget : total + need ≤ d.budget → total + need ≤ r.budget
    within_budget within = subst (λ (n : ℕ). total + need ≤ n) (ap (λ (x : Round). x.budget) j.round) within

    new_question : (x : ℕ) → IsNewQuestion (round_at d r.level) d.context x → IsNewQuestion r i x
    new_question x new = subst (λ (k : ℕ). IsNewQuestion r k x) j.context (subst (λ (y : Round). IsNewQuestion y d.context x) j.round new)

    own_halt : total + need ≤ d.budget → (halt : Halt) → IsGrantHalt d r.level halt → IsOwnHalt r i (Some (total + need)) halt
    own_halt within (Spent level drawn) none = absurd none
    own_halt within (Missing context x) (same, lacks, new) = (same ∙ j.context, (total + need, refl, within_budget within), new_question x new)
    own_halt within Memory cause = tt

    spent : d.budget < total + need → GoesOn (Grant i) (total + need) (stopped_with r.level (Spent r.level (total + need)) true (with_grant (total + need) d))
    spent above = stops_now (Spent r.level (total + need)) d.oracle d.known (refl, refl, subst (λ (n : ℕ). n < total + need) (ap (λ (x : Round). x.budget) j.round) above)

    abbrev done_now : NodeState
    done_now = record d.state { granted = Some (total + need); put_out = stamps_to r.level d.context false d.receivers; done = true }

    finishes_now : (o : OracleState) (k : Knowledge) → total + need ≤ d.budget
        → GoesOn (Grant i) (total + need) (record d { oracle = o; state = done_now; outbox = letters_to d.plan r.level d.context (Supply k.supplies) d.receivers; known = k })
    finishes_now o k within =
        let (is_open, no_stop) = awaiting_open r i d.state awaits rule_of in
        let had = supplies_had r c play.sound i d.state j.node awaits no_stop in
        let new = letters_to d.plan r.level d.context (Supply k.supplies) d.receivers in
        let reacts : Reacts r c i granted (map stamp_of new) done_now = subst (λ (xs : List Stamp). Reacts r c i granted xs done_now) (sym (stamps_of d.plan r.level d.context (Supply k.supplies) d.receivers))
        (may_finish r c i granted granted_open (stamps_to r.level d.context false d.receivers) (total + need, refl, within_budget within) had (sends r c i d j false)) in
        by_call (Grant i) granted done_now o k new (total + need) changes reacts j.begun (are_out r c i d j (Supply k.supplies) done_now (λ halt same. absurd (cc))) (counted done_now refl)

    abbrev MayBe : ℕ → NodeData → Type 0
    MayBe level e = ((d.budget < total + need) × (e ≡ stopped_with level (Spent level (total + need)) true (with_grant (total + need) d))) ⊎ (HasFinished (total + need) level d e ⊎ HasFailed (total + need) level d e)

    by_grant : (e : NodeData) → MayBe r.level e → GoesOn (Grant i) (total + need) e
    by_grant e (inl (above, is)) = subst (λ (b : NodeData). GoesOn (Grant i) (total + need) b) (sym is) (spent above)
    by_grant e (inr (inl f)) = subst (λ (b : NodeData). GoesOn (Grant i) (total + need) b) (sym f.rest) (finishes_now e.oracle e.known f.within)
    by_grant e (inr (inr f)) = subst (λ (b : NodeData). GoesOn (Grant i) (total + need) b) (sym f.rest) (stops_now f.halt e.oracle e.known (own_halt f.within f.halt f.cause))

    grant_goes_on : (e : NodeData) → IsGranted (total + need) d e → GoesOn (Grant i) (total + need) e
    grant_goes_on e (level, here, how) = by_grant e (subst (λ (n : ℕ). MayBe n e) (some_same d.level level r.level here j.level) how)

  awaits_now : (need : ℕ) → IsNeed d need → AwaitsGrant r i d.state × IsNeedOf r i need
  awaits_now need n =
      let same : n.waits.0 ≡ r.level = some_same d.level n.waits.0 r.level n.waits.1 j.level in
      let here : round_at d n.waits.0 ≡ r = ap (λ (level : ℕ). round_at d level) same ∙ j.round in
      let awaits = subst (λ (x : Round). AwaitsGrant x d.context d.state) here n.waits.2 in
      let listed = subst (λ (x : Round). IsListing (IsNewQuestion x d.context) (λ a b. a < b) n.new) here n.listed in (
        subst (λ (k : ℕ). AwaitsGrant r k d.state) j.context awaits,
        (n.new, subst (λ (k : ℕ). IsListing (IsNewQuestion r k) (λ a b. a < b) n.new) j.context listed, n.count),
      )

pub grants_are_steps : GrantsAreSteps
grants_are_steps r nodes letters total c i need d e play at needed level granted =
    let j = has_joined r nodes letters total c play i d at level in
    let (awaits, of_it) = awaits_now r nodes letters total c play i d at j need needed in
    grant_goes_on r nodes letters total c play i d at j need awaits of_it e granted

-- ---- a letter
module _ (r : Round) (nodes : List NodeData) (letters : List LetterData) (total : ℕ) (c : Configuration) (play : IsInPlay r nodes letters total c) (n : ℕ) (l : LetterData) (sent : slice_get letters n ≡ Some l)
    (d : NodeData) (at : slice_get nodes l.to ≡ Some d) (j : HasJoined r c l.to d) (awaited : IsAwaited l d) where
  there : slice_get c.letters n ≡ Some (stamp_of l)
  there = ap (λ (xs : List Stamp). slice_get xs n) play.stamps ∙ slice_get-map_some stamp_of letters n l sent

  from : IsFromSender c (stamp_of l)
  from = letter_from_sender r c play.sound (stamp_of l) ((play.sound.letters.exactly (stamp_of l)).0 (among_get (stamp_of l) c.letters n there))

  takes : Takes l.to d.state (stamp_of l)
  takes = record { addressed = refl; begun = j.begun; first = awaited.first }

  was_put_out : WasPutOut r c l
  was_put_out = play.put_out l (among_get l letters n sent)

  abbrev told : NodeState
  told = record d.state { had = d.state.had ++ stamp_of l ∷ [] }

  abbrev Goes : NodeData → Type 0
  Goes e = GoesOn r nodes letters total c play l.to d at j (Deliver n) total e

  counted_on : (u : NodeState) → u.granted ≡ d.state.granted → IsTotal r (slice_set c.nodes l.to u) total
  counted_on u same = total_kept r c.nodes l.to d.state u j.node total play.granted (ap (λ (o : Option ℕ). is_some o) (sym same))

  rule : ObeysRule r l.to d.state
  rule = (play.sound.nodes l.to d.state j.node).rule

  -- it stays as it is, but for the letter
  stays : Reacts r c l.to told [] told → Goes (with_had l d)
  stays reacts =
      let (next, step, after) = by_call r nodes letters total c play l.to d at j (Deliver n) told told d.oracle d.known [] total (stamp_of l, there, takes, refl) reacts j.begun (λ x h. absurd h) (counted_on told refl) in
      (next, step, subst (λ (new : List LetterData). IsInPlay r (slice_set nodes l.to (left r c l.to d j d.oracle told d.known)) (letters ++ new) total next) (sym (play.handed_out l.to d at)) after)

  stops_there : (halt : Halt) (by_itself : Bool) → Reacts r c l.to told (map stamp_of (stops_out r c l.to d j halt)) (stopped r c l.to d j told halt by_itself) → Goes (stopped_with r.level halt by_itself (with_had l d))
  stops_there halt by_itself reacts = by_call r nodes letters total c play l.to d at j (Deliver n) told (stopped r c l.to d j told halt by_itself) d.oracle d.known (stops_out r c l.to d j halt) total
      (stamp_of l, there, takes, refl) reacts j.begun (are_out r c l.to d j (Stop halt) (stopped r c l.to d j told halt by_itself) (stop_told (stopped r c l.to d j told halt by_itself) halt refl))
      (counted_on (stopped r c l.to d j told halt by_itself) refl)

  halted_stays : (halt : Halt) → d.state.halt ≡ Some halt → Goes (with_had l d)
  halted_stays halt is = stays (stays_halted r c play.sound n (stamp_of l) there from d.state j.node takes (keeps_rule r c play.sound n (stamp_of l) there from d.state j.node takes halt is rule))

  waiting : d.state.halt ≡ None → Waits d.state
  waiting going = goes_on_waiting r c play.sound n (stamp_of l) there from d.state j.node takes going rule

  told_waits : d.state.halt ≡ None → IsOpen told
  told_waits going = told_open r c play.sound n (stamp_of l) there from d.state j.node takes (waits_open d.state (waiting going))

  by_content : (content : ContentData) (halt : Option Halt) → l.content ≡ content → d.state.halt ≡ halt → Goes (with_content l content halt d)
  by_content (Stop halt) None is going =
      let (s, sender, told_halt) = was_put_out.halt halt is in
      let stops : is_stop l.content ≡ true = ap is_stop is in
      let made = stops_there halt false (is_stopped_by r c l.to d j told halt (stamp_of l) s (told_waits going) (among_right (stamp_of l) d.state.had (stamp_of l ∷ []) (inl refl)) stops sender told_halt (waiting going).granted) in
      subst (λ (level : ℕ). Goes (stopped_with level halt false (with_had l d))) (sym was_put_out.level) made
  by_content (Supply states) None is going =
      let supply : is_stop l.content ≡ false = ap is_stop is in
      stays (may_wait r c l.to told (told_waits going) (waiting going).granted (no_stop_still r c play.sound n (stamp_of l) there from d.state j.node takes (waiting going).no_stop supply))
  by_content (Stop halt) (Some old) is stopped_before = halted_stays old stopped_before
  by_content (Supply states) (Some old) is stopped_before = halted_stays old stopped_before

  letter_goes_on : (e : NodeData) → HasTaken l d e → Goes e
  letter_goes_on e (inl is) = subst (λ (b : NodeData). Goes b) (sym is) (by_content l.content d.state.halt refl refl)
  letter_goes_on e (inr (states, supply, going, is)) =
      let made = stops_there Memory true (stops_itself r c l.to d j told Memory (told_waits going) tt) in
      subst (λ (b : NodeData). Goes b) (sym is) (subst (λ (level : ℕ). Goes (stopped_with level Memory true (with_had l d))) (sym was_put_out.level) made)

pub letters_are_steps : LettersAreSteps
letters_are_steps r nodes letters total c n l d e play sent at awaited taken =
    let put_out = play.put_out l (among_get l letters n sent) in
    let level : d.level ≡ Some r.level = awaited.level ∙ ap (λ (k : ℕ). Some k) put_out.level in
    let j = has_joined r nodes letters total c play l.to d at level in
    letter_goes_on r nodes letters total c play n l sent d at j awaited e taken
