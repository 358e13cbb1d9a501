-- What an event makes of the nodes of all contexts, and what a replay tells of them.
use Rattle.std.proofs.Common.{◌≡◌, ◌↔◌, ℕ, ◌+◌, ◌<◌, ◌≤◌, Bool, true, false, true≢false, ◌||◌, cond, count_by, IsTrue, List, [], ◌∷◌, ◌++◌, append_assoc, append-nil, length, length-append, map, take, drop, reverse, slice_get, slice_set, Option, Some, None, is_some, Result, Ok, Err, IfOk, refl, sym, ap, ◌∙◌, subst, inl, inr, arith}
use Rattle.std.proofs.lemmas.Bool.{cases_eq, or_right}
use Rattle.std.proofs.lemmas.List.{length-map, reverse-append}
use Rattle.std.proofs.lemmas.Option.{none-some, same_Some, slice_get_within}
use Rattle.mcs_base.proofs.Lists.{slice_get_below}
use Rattle.mcs_base.proofs.Sums.{count_by_push}
use Rattle.mcs_base.proofs.Written.{slice_get-slice_set, written_back, set_back}
use Rattle.mcs_base.proofs.Results.{some_same}
use Rattle.mcs_system.specs.Plain.{System}
use Rattle.mcs_states.specs.Evaluators.{KeepsRest, unasked}
use Rattle.mcs_states.specs.Oracles.{OracleState}
use Rattle.mcs_states.specs.declared.halt.Halt.{Halt}
use Rattle.mcs_node.specs.declared.event.Event.{Event}
use Rattle.mcs_node.specs.declared.event.Event.TheVariants.{Begin, Grant, Deliver}
use Rattle.mcs_node.specs.Rounds.{NodeState, Round}
use Rattle.mcs_node.specs.Configurations.{Configuration, HasNode, IsDone, first_configuration}
use Rattle.mcs_node.specs.Letters.{ContentData, LetterData, Stop, Supply, stamp_of}
use Rattle.mcs_node.specs.Nodes.{HandsOut, HasTaken, IsAbove, IsAwaited, IsGranted, NodeData, WaitsForGrant, with_content}
use Rattle.mcs_node.specs.Steps.{Ignored, Outcome, Runs, Skipped, Taken}
use Rattle.mcs_node.specs.Replay.{IsLowestHalt, is_ignored, is_skipped}
use Rattle.mcs_node.specs.Playing.{HasState, IsInPlay, has_begun, has_not}
use Rattle.mcs_node.proofs.ExistenceLemmas.{own_halt}
use Rattle.mcs_node.proofs.RunLemmas.{runs_more}
use Rattle.mcs_node.proofs.StepLemmas.{runs_are_sound}
use Rattle.mcs_node.proofs.PlayedLemmas.{grants_are_steps, letters_are_steps}
use Rattle.mcs_node.proofs.PlayingLemmas.{begins_are_steps, begun_is_skipped, new_nodes_are_first, strangers_are_ignored, ungranted_is_skipped, unsent_is_skipped}
use Rattle.mcs_mesh.specs.declared.replay.Counts.{Counts}
use Rattle.mcs_mesh.specs.declared.replay.Outcome as came
use Rattle.mcs_mesh.specs.declared.replay.Replay as code
use Rattle.mcs_mesh.specs.Players.{as_new, oracles_of}
use Rattle.mcs_mesh.specs.Rounds.{AreNew, EvaluationData, IsEvaluation, IsSoundRound, evaluation_of}
use Rattle.mcs_mesh.specs.Replays.{AreAllDone, AreOfRound, AreToldOf, Begins, Course, GoesOn, Grants, IsHandedOut, IsOfRound, IsStepOf, IsUntouched, LeavesReplay, Receives, TellsLowest, course, lowest, no_node, only_round, outcome_of}
use Rattle.mcs_mesh.proofs.NodeLemmas.{oracles_rest, same_length, still_nodes}

-- ---- what a node has put out
-- the letters that were handed out are gathered, the last one first
pub record IsGathering (first now : NodeData) (out : List LetterData) : Type 0 where
  pub parts : first.outbox ≡ now.outbox ++ reverse out
  pub rest : now ≡ record first { outbox = now.outbox }

pub gathering_begun : (first : NodeData) (out : List LetterData) → out ≡ [] → IsGathering first first out
gathering_begun first out none = record { parts = sym (ap (λ (ls : List LetterData). first.outbox ++ reverse ls) none ∙ append-nil first.outbox); rest = refl }

pub gathering_more : (first d e : NodeData) (out more : List LetterData) (l : LetterData) → IsGathering first d out → HandsOut d e l → more ≡ out ++ l ∷ [] → IsGathering first e more
gathering_more first d e out more l g h is = record {
  parts = g.parts ∙ ap (λ (ls : List LetterData). ls ++ reverse out) h.last ∙ append_assoc e.outbox (l ∷ []) (reverse out)
      ∙ ap (λ (ls : List LetterData). e.outbox ++ ls) (sym (ap (λ (ls : List LetterData). reverse ls) is ∙ reverse-append out (l ∷ [])));
  rest = h.rest ∙ ap (λ (z : NodeData). record z { outbox = e.outbox }) g.rest;
}

pub fewer_out : (d e : NodeData) (l : LetterData) → HandsOut d e l → length e.outbox < length d.outbox
fewer_out d e l h = let more = ap length h.last in omega (arith, more, length-append e.outbox (l ∷ []))

pub gathered_same : (first d : NodeData) (out : List LetterData) → IsGathering first d out → as_new d ≡ as_new first
gathered_same first d out g = ap as_new g.rest

pub gathered : (first d e : NodeData) (out before after : List LetterData) → IsGathering first d out → d.outbox ≡ [] → e ≡ d → after ≡ before ++ reverse out → IsHandedOut first e before after
gathered first d e out before after g none same is = record {
  node = same ∙ g.rest ∙ ap (λ (ls : List LetterData). record first { outbox = ls }) none;
  letters = is ∙ ap (λ (ls : List LetterData). before ++ ls) (sym (g.parts ∙ ap (λ (ls : List LetterData). ls ++ reverse out) none));
}

pub handed_out_same : (d e : NodeData) (before after : List LetterData) → IsHandedOut d e before after → as_new e ≡ as_new d
handed_out_same d e before after out = ap as_new out.node

-- ---- a letter, whatever it says
content_level : (l : LetterData) (content : ContentData) (halt : Option Halt) (d : NodeData) → (with_content l content halt d).level ≡ d.level
content_level l (Supply states) halt d = refl
content_level l (Stop h) None d = refl
content_level l (Stop h) (Some k) d = refl

content_as_new : (l : LetterData) (content : ContentData) (halt : Option Halt) (d : NodeData) → as_new (with_content l content halt d) ≡ as_new d
content_as_new l (Supply states) halt d = refl
content_as_new l (Stop h) None d = refl
content_as_new l (Stop h) (Some k) d = refl

taken_level : (l : LetterData) (d e : NodeData) → HasTaken l d e → e.level ≡ d.level
taken_level l d e (inl is) = ap (λ (n : NodeData). n.level) is ∙ content_level l l.content d.state.halt d
taken_level l d e (inr (states, content, going, is)) = ap (λ (n : NodeData). n.level) is

pub letter_same : (l : LetterData) (d e : NodeData) → HasTaken l d e → as_new e ≡ as_new d
letter_same l d e (inl is) = ap as_new is ∙ content_as_new l l.content d.state.halt d
letter_same l d e (inr (states, content, going, is)) = ap as_new is

granted_level : (total : ℕ) (d e : NodeData) → IsGranted total d e → e.level ≡ d.level
granted_level total d e (level, at, inl (over, is)) = ap (λ (n : NodeData). n.level) is
granted_level total d e (level, at, inr (inl f)) = ap (λ (n : NodeData). n.level) f.rest
granted_level total d e (level, at, inr (inr f)) = ap (λ (n : NodeData). n.level) f.rest

-- ---- nodes of the round
of_round_set : (level : ℕ) (nodes : List NodeData) (i : ℕ) (e : NodeData) → AreOfRound level nodes → e.level ≡ Some level → AreOfRound level (slice_set nodes i e)
of_round_set level nodes i e are is j d at = elim (slice_get-slice_set nodes i j e d at) [
  | inl here ↦ inl (ap (λ (n : NodeData). n.level) here.1 ∙ is)
  | inr other ↦ are j d other.1
]

waits_in_round : (level : ℕ) (d : NodeData) → IsOfRound level d → WaitsForGrant d → d.level ≡ Some level
waits_in_round level d (inl is) waits = is
waits_in_round level d (inr untouched) waits = absurd (true≢false (sym waits.2.begun ∙ ap (λ (s : NodeState). s.begun) untouched.1))

awaited_in_round : (level : ℕ) (l : LetterData) (d : NodeData) → IsOfRound level d → IsAwaited l d → d.level ≡ Some level
awaited_in_round level l d (inl is) awaited = is
awaited_in_round level l d (inr untouched) awaited = absurd (none-some l.level (sym untouched.0 ∙ awaited.level))

pub new_of_round : (m : System) (level budget : ℕ) (oracles : List OracleState) (nodes : List NodeData) → AreNew m budget oracles nodes → AreOfRound level nodes
new_of_round m level budget oracles nodes new i d at =
    let rest = (new.each i d at).rest in
    inr (ap (λ (n : NodeData). n.level) rest, ap (λ (n : NodeData). n.state) rest)

play_as : (r : Round) (c : Configuration) (nodes nodes' : List NodeData) (letters letters' : List LetterData) (total total' : ℕ) → nodes' ≡ nodes → letters' ≡ letters → total' ≡ total → IsInPlay r nodes letters total c → IsInPlay r nodes' letters' total' c
play_as r c nodes nodes' letters letters' total total' a b e play =
    subst (λ (z : List NodeData). IsInPlay r z letters' total' c) (sym a)
    (subst (λ (z : List LetterData). IsInPlay r nodes z total' c) (sym b)
    (subst (λ (z : ℕ). IsInPlay r nodes letters z c) (sym e) play))

-- ---- an event of a context that has a node
module _ (level : ℕ) (nodes : List NodeData) (i : ℕ) (d e : NodeData) (at : slice_get nodes i ≡ Some d) where
  -- the node that stands there is this one
  at_this : (P : NodeData → Type 0) → P d → (z : NodeData) → slice_get nodes i ≡ Some z → P z
  at_this P here z there = subst P (some_same (slice_get nodes i) d z at there) here

  pub goes_begun : (letters : List LetterData) (total : ℕ) (o : Outcome) → Begins level d e o → GoesOn level (Begin i) o (course nodes letters total) (course (slice_set nodes i e) letters total)
  goes_begun letters total Skipped (is, same) are =
      let back = set_back nodes i d e at same in (
        subst (λ (ns : List NodeData). AreOfRound level ns) (sym back) are,
        λ m budget c play. (
          c,
          begun_is_skipped (only_round m level budget) nodes letters total c i play (at_this (λ (z : NodeData). z.level ≡ Some level) is),
          play_as (only_round m level budget) c nodes (slice_set nodes i e) letters letters total total back refl refl play,
        ),
      )
  goes_begun letters total Ignored none are = absurd none
  goes_begun letters total Taken (untouched, is) are = (
    of_round_set level nodes i e are (ap (λ (n : NodeData). n.level) is),
    λ m budget c play.
        let r = only_round m level budget in
        let (next, step, after) = begins_are_steps r nodes letters total c i d play at (λ same. none-some level (sym untouched.0 ∙ same)) in
        (next, step, subst (λ (n : NodeData). IsInPlay r (slice_set nodes i n) letters total next) (sym is) after),
  )

  pub goes_granted : (letters after : List LetterData) (total sum : ℕ) (o : Outcome) → Grants d e letters after total sum o → GoesOn level (Grant i) o (course nodes letters total) (course (slice_set nodes i e) after sum)
  goes_granted letters after total sum Skipped (not, same, kept, equal) are =
      let back = set_back nodes i d e at same in (
        subst (λ (ns : List NodeData). AreOfRound level ns) (sym back) are,
        λ m budget c play. (
          c,
          ungranted_is_skipped (only_round m level budget) nodes letters total c i play (at_this (λ (z : NodeData). ¬ WaitsForGrant z) not),
          play_as (only_round m level budget) c nodes (slice_set nodes i e) letters after total sum back kept equal play,
        ),
      )
  goes_granted letters after total sum Ignored none are = absurd none
  goes_granted letters after total sum Taken (need, granted, is_need, adds, is_granted, out) are =
      let level_is = waits_in_round level d (are i d at) is_need.waits in (
        of_round_set level nodes i e are (ap (λ (n : NodeData). n.level) out.node ∙ granted_level sum d granted is_granted ∙ level_is),
        λ m budget c play.
            let r = only_round m level budget in
            let (next, step, then) = grants_are_steps r nodes letters total c i need d granted play at is_need level_is (subst (λ (k : ℕ). IsGranted k d granted) adds is_granted) in (
              next,
              step,
              play_as r next (slice_set nodes i (record granted { outbox = [] })) (slice_set nodes i e) (letters ++ granted.outbox) after (total + need) sum
                  (ap (λ (n : NodeData). slice_set nodes i n) out.node) out.letters adds then,
            ),
      )

  -- ---- whatever comes of the call
  pub all_begun : {E : Type 0} (result : Result came.Outcome E) → IfOk result (λ o. Begins level d e (outcome_of o))
      → IfOk result (λ o. (letters : List LetterData) (total : ℕ) → GoesOn level (Begin i) (outcome_of o) (course nodes letters total) (course (slice_set nodes i e) letters total))
  all_begun (Ok o) begins = λ letters total. goes_begun letters total (outcome_of o) begins
  all_begun (Err failed) begins = tt

-- ---- a grant, at whatever level
pub all_granted : {E : Type 0} (nodes : List NodeData) (i : ℕ) (d e : NodeData) (letters after : List LetterData) (total sum : ℕ) (result : Result came.Outcome E) → slice_get nodes i ≡ Some d
    → IfOk result (λ o. Grants d e letters after total sum (outcome_of o))
    → IfOk result (λ o. (level : ℕ) → GoesOn level (Grant i) (outcome_of o) (course nodes letters total) (course (slice_set nodes i e) after sum))
all_granted nodes i d e letters after total sum (Ok o) at grants = λ level. goes_granted level nodes i d e at letters after total sum (outcome_of o) grants
all_granted nodes i d e letters after total sum (Err failed) at grants = tt

-- ---- a letter
module _ (level : ℕ) (nodes : List NodeData) (n : ℕ) (l : LetterData) (d e : NodeData) (letters after : List LetterData) (at : slice_get nodes l.to ≡ Some d) (there : slice_get letters n ≡ Some l) where
  pub goes_received : (total : ℕ) (o : Outcome) → Receives l d e letters after o → GoesOn level (Deliver n) o (course nodes letters total) (course (slice_set nodes l.to e) after total)
  goes_received total Skipped none are = absurd none
  goes_received total Ignored (not, same, kept) are =
      let back = set_back nodes l.to d e at same in (
        subst (λ (ns : List NodeData). AreOfRound level ns) (sym back) are,
        λ m budget c play. (
          c,
          strangers_are_ignored (only_round m level budget) nodes letters total c n l play there (at_this level nodes l.to d e at (λ (z : NodeData). ¬ IsAwaited l z) not),
          play_as (only_round m level budget) c nodes (slice_set nodes l.to e) letters after total total back kept refl play,
        ),
      )
  goes_received total Taken (awaited, taken, has_taken, out) are = (
    of_round_set level nodes l.to e are (ap (λ (z : NodeData). z.level) out.node ∙ taken_level l d taken has_taken ∙ awaited_in_round level l d (are l.to d at) awaited),
    λ m budget c play.
        let r = only_round m level budget in
        let (next, step, then) = letters_are_steps r nodes letters total c n l d taken play there at awaited has_taken in (
          next,
          step,
          play_as r next (slice_set nodes l.to (record taken { outbox = [] })) (slice_set nodes l.to e) (letters ++ taken.outbox) after total total
              (ap (λ (z : NodeData). slice_set nodes l.to z) out.node) out.letters refl then,
        ),
  )

pub all_received : {E : Type 0} (nodes : List NodeData) (n to : ℕ) (l : LetterData) (d e : NodeData) (letters after : List LetterData) (result : Result came.Outcome E) → slice_get letters n ≡ Some l → to ≡ l.to → slice_get nodes to ≡ Some d
    → IfOk result (λ o. Receives l d e letters after (outcome_of o))
    → IfOk result (λ o. (level total : ℕ) → GoesOn level (Deliver n) (outcome_of o) (course nodes letters total) (course (slice_set nodes to e) after total))
all_received nodes n to l d e letters after (Ok o) there is at receives = λ level total.
    subst (λ (k : ℕ). GoesOn level (Deliver n) (outcome_of o) (course nodes letters total) (course (slice_set nodes k e) after total)) (sym is)
    (goes_received level nodes n l d e letters after (subst (λ (k : ℕ). slice_get nodes k ≡ Some d) is at) there total (outcome_of o) receives)
all_received nodes n to l d e letters after (Err failed) there is at receives = tt

-- ---- an event of what is not there
nobody : (nodes : List NodeData) (i : ℕ) → length nodes ≤ i → (d : NodeData) → slice_get nodes i ≡ Some d → ⊥
nobody nodes i past d at = let less = slice_get_within nodes i d at in omega (arith, past, less)

module _ (level : ℕ) (nodes : List NodeData) (letters : List LetterData) (total : ℕ) where
  pub none_begins : (i : ℕ) → length nodes ≤ i → GoesOn level (Begin i) Skipped (course nodes letters total) (course nodes letters total)
  none_begins i past are = (are, λ m budget c play. (c, begun_is_skipped (only_round m level budget) nodes letters total c i play (λ d at. absurd (nobody nodes i past d at)), play))

  pub none_granted : (i : ℕ) → length nodes ≤ i → GoesOn level (Grant i) Skipped (course nodes letters total) (course nodes letters total)
  none_granted i past are = (are, λ m budget c play. (c, ungranted_is_skipped (only_round m level budget) nodes letters total c i play (λ d at. absurd (nobody nodes i past d at)), play))

  pub none_sent : (n : ℕ) → slice_get letters n ≡ None → GoesOn level (Deliver n) Skipped (course nodes letters total) (course nodes letters total)
  none_sent n none are = (are, λ m budget c play. (c, unsent_is_skipped (only_round m level budget) nodes letters total c n play none, play))

  pub none_receives : (n : ℕ) (l : LetterData) → slice_get letters n ≡ Some l → length nodes ≤ l.to → GoesOn level (Deliver n) Ignored (course nodes letters total) (course nodes letters total)
  none_receives n l there past are = (are, λ m budget c play. (c, strangers_are_ignored (only_round m level budget) nodes letters total c n l play there (λ d at. absurd (nobody nodes l.to past d at)), play))

-- ---- a begin, with whatever was put out and granted
pub begun_with : {E : Type 0} (level i : ℕ) (event : Event) (nodes after : List NodeData) (letters : List LetterData) (total : ℕ) (result : Result came.Outcome E) → event ≡ Begin i
    → IfOk result (λ o. (ls : List LetterData) (t : ℕ) → GoesOn level (Begin i) (outcome_of o) (course nodes ls t) (course after ls t))
    → IfOk result (λ o. GoesOn level event (outcome_of o) (course nodes letters total) (course after letters total))
begun_with level i event nodes after letters total (Ok o) is goes = subst (λ (z : Event). GoesOn level z (outcome_of o) (course nodes letters total) (course after letters total)) (sym is) (goes letters total)
begun_with level i event nodes after letters total (Err failed) is goes = tt

-- a grant in the round of the level
pub granted_at : {E : Type 0} (level i : ℕ) (event : Event) (x y : Course) (result : Result came.Outcome E) → event ≡ Grant i
    → IfOk result (λ o. (k : ℕ) → GoesOn k (Grant i) (outcome_of o) x y) → IfOk result (λ o. GoesOn level event (outcome_of o) x y)
granted_at level i event x y (Ok o) is goes = subst (λ (z : Event). GoesOn level z (outcome_of o) x y) (sym is) (goes level)
granted_at level i event x y (Err failed) is goes = tt

-- a delivery in the round of the level
pub delivered_at : {E : Type 0} (level n : ℕ) (event : Event) (nodes after : List NodeData) (letters more : List LetterData) (total : ℕ) (result : Result came.Outcome E) → event ≡ Deliver n
    → IfOk result (λ o. (k t : ℕ) → GoesOn k (Deliver n) (outcome_of o) (course nodes letters t) (course after more t))
    → IfOk result (λ o. GoesOn level event (outcome_of o) (course nodes letters total) (course after more total))
delivered_at level n event nodes after letters more total (Ok o) is goes = subst (λ (z : Event). GoesOn level z (outcome_of o) (course nodes letters total) (course after more total)) (sym is) (goes level total)
delivered_at level n event nodes after letters more total (Err failed) is goes = tt

-- ---- the begin of a node
pub has_begun_it : (level : ℕ) (d : NodeData) → IsOfRound level d → is_some d.level ≡ true → d.level ≡ Some level
has_begun_it level d (inl is) some = is
has_begun_it level d (inr untouched) some = absurd (true≢false (sym some ∙ ap (λ (o : Option ℕ). is_some o) untouched.0))

pub can_begin_it : (level : ℕ) (d : NodeData) → IsOfRound level d → is_some d.level ≡ false → IsUntouched d
can_begin_it level d (inl is) none = absurd (true≢false (sym (ap (λ (o : Option ℕ). is_some o) is) ∙ none))
can_begin_it level d (inr untouched) none = untouched

pub untouched_above : (level : ℕ) (d : NodeData) → IsUntouched d → IsAbove d.level level
untouched_above level d untouched = subst (λ (o : Option ℕ). IsAbove o level) (sym untouched.0) tt

-- ---- counts
pub one_counted : (o : Outcome) → cond (is_ignored o) 1 0 + cond (is_skipped o) 1 0 ≤ 1
one_counted Skipped = omega arith
one_counted Ignored = omega arith
one_counted Taken = omega arith

-- ---- a replay so far
-- these events were done, with so many ignored and so many skipped
pub record IsReplaying (m : System) (level budget : ℕ) (events : List Event) (x : Course) (ignored skipped : ℕ) : Type 0 where
  pub outcomes : List Outcome
  pub left : Configuration
  pub run : Runs (only_round m level budget) (first_configuration m) events outcomes left
  pub play : IsInPlay (only_round m level budget) x.nodes x.letters x.total left
  pub ignored_are : ignored ≡ count_by is_ignored outcomes
  pub skipped_are : skipped ≡ count_by is_skipped outcomes

module _ (m : System) (level budget : ℕ) where
  pub replay_begun : (oracles : List OracleState) (nodes : List NodeData) (letters : List LetterData) → AreNew m budget oracles nodes → letters ≡ [] → IsReplaying m level budget [] (course nodes letters 0) 0 0
  replay_begun oracles nodes letters new none = record {
    outcomes = [];
    left = first_configuration m;
    run = refl;
    play = subst (λ (ls : List LetterData). IsInPlay (only_round m level budget) nodes ls 0 (first_configuration m)) (sym none)
        (new_nodes_are_first (only_round m level budget) nodes refl new.one_each (λ i d at. (d.oracle, new.each i d at)));
    ignored_are = refl;
    skipped_are = refl;
  }

  pub replay_more : (events more : List Event) (event : Event) (o : Outcome) (x y : Course) (ignored skipped ignored' skipped' : ℕ) → more ≡ events ++ event ∷ []
      → ignored' ≡ ignored + cond (is_ignored o) 1 0 → skipped' ≡ skipped + cond (is_skipped o) 1 0
      → IsReplaying m level budget events x ignored skipped → IsStepOf level event o x y → IsReplaying m level budget more y ignored' skipped'
  replay_more events more event o x y ignored skipped ignored' skipped' is ignored_is skipped_is s goes =
      let (next, step, play) = goes m budget s.left s.play in
      let r = only_round m level budget in record {
        outcomes = s.outcomes ++ o ∷ [];
        left = next;
        run = subst (λ (es : List Event). Runs r (first_configuration m) es (s.outcomes ++ o ∷ []) next) (sym is) (runs_more r events s.outcomes (first_configuration m) s.left next event o s.run step);
        play = play;
        ignored_are = ignored_is ∙ ap (λ (k : ℕ). k + cond (is_ignored o) 1 0) s.ignored_are ∙ sym (count_by_push is_ignored s.outcomes o);
        skipped_are = skipped_is ∙ ap (λ (k : ℕ). k + cond (is_skipped o) 1 0) s.skipped_are ∙ sym (count_by_push is_skipped s.outcomes o);
      }

-- ---- each place of a list
pub one_place_more : (P : NodeData → Type 0) (nodes : List NodeData) (k : ℕ) (d : NodeData) → slice_get nodes k ≡ Some d → P d → ((i : ℕ) (z : NodeData) → i < k → slice_get nodes i ≡ Some z → P z)
    → (i : ℕ) (z : NodeData) → i < k + 1 → slice_get nodes i ≡ Some z → P z
one_place_more P nodes k d at here each i z less there = elim (cases_eq i k) [
  | inl same ↦ subst P (some_same (slice_get nodes k) d z at (subst (λ (j : ℕ). slice_get nodes j ≡ Some z) same there)) here
  | inr differ ↦ each i z (omega (arith, less, differ)) there
]

-- ---- what is told
same_state : (r : Round) (i : ℕ) (d : NodeData) (s : NodeState) → IsOfRound r.level d → HasState r i d s → s ≡ d.state
same_state r i d s either (has_begun round level begun is) = is
same_state r i d s (inl at) (has_not plan budget done above halt is) = absurd (let less : r.level < r.level = subst (λ (o : Option ℕ). IsAbove o r.level) at above in omega (arith, less))
same_state r i d s (inr untouched) (has_not plan budget done above halt is) = is ∙ sym untouched.1

module _ (r : Round) (nodes : List NodeData) (letters : List LetterData) (total : ℕ) (c : Configuration) (play : IsInPlay r nodes letters total c) (are : AreOfRound r.level nodes) where
  node_of : (i : ℕ) (s : NodeState) → HasNode c i s → (d : NodeData) × (slice_get nodes i ≡ Some d) × (s ≡ d.state)
  node_of i s there =
      let less = slice_get_within c.nodes i s there in
      let long = play.states.states_each in
      let (d, at) = slice_get_below nodes i (omega (arith, less, long)) in
      (d, at, same_state r i d s (are i d at) (play.states.each i d s at there))

  state_of : (i : ℕ) (d : NodeData) → slice_get nodes i ≡ Some d → (s : NodeState) × HasNode c i s × (s ≡ d.state)
  state_of i d at =
      let less = slice_get_within nodes i d at in
      let long = play.states.states_each in
      let (s, there) = slice_get_below c.nodes i (omega (arith, less, long)) in
      (s, there, same_state r i d s (are i d at) (play.states.each i d s at there))

  done_told : (b : Bool) → (IsTrue b ↔ AreAllDone nodes) → (IsTrue b ↔ IsDone c)
  done_told b told = (
    λ yes i s there. let (d, at, same) = node_of i s there in ap (λ (z : NodeState). z.done) same ∙ told.0 yes i d at,
    λ all. told.1 (λ i d at. let (s, there, same) = state_of i d at in sym (ap (λ (z : NodeState). z.done) same) ∙ all i s there),
  )

  lowest_told : (o : Option Halt) → TellsLowest nodes o → IsLowestHalt c.nodes o
  lowest_told o (no_node none is) = subst (λ (h : Option Halt). IsLowestHalt c.nodes h) (sym is)
      (λ i s there. let (d, at, same) = node_of i s there in ap (λ (z : NodeState). z.by_itself) same ∙ none i d (slice_get_within nodes i d at) at)
  lowest_told o (lowest i d at own before is) =
      let (s, there, same) = state_of i d at in
      let its = ap (λ (z : NodeState). z.by_itself) same ∙ own in
      let (halt, has) = own_halt r i s its (play.sound.nodes i s there).rule in
      subst (λ (h : Option Halt). IsLowestHalt c.nodes h) (sym (is ∙ sym (ap (λ (z : NodeState). z.halt) same) ∙ has))
      (i, s, there, its, has, λ j t less there'. let (e, at', same') = node_of j t there' in ap (λ (z : NodeState). z.by_itself) same' ∙ before j e less at')

pub replay_ended : (m : System) (level budget : ℕ) (events done : List Event) (nodes : List NodeData) (letters given : List LetterData) (total : ℕ) (counts : Counts) (told : code.Replay) → done ≡ events → given ≡ letters
    → AreOfRound level nodes → IsReplaying m level budget done (course nodes letters total) counts.ignored counts.skipped → AreToldOf nodes given counts told → LeavesReplay m budget level events nodes told
replay_ended m level budget events done nodes letters given total counts told all same are s t =
    let r = only_round m level budget in (
      record {
        outcomes = s.outcomes;
        left = s.left;
        run = subst (λ (es : List Event). Runs r (first_configuration m) es s.outcomes s.left) all s.run;
        are_told = record {
          put_out = t.put_out ∙ ap (λ (ls : List LetterData). length ls) same ∙ sym (length-map letters stamp_of) ∙ sym (ap length s.play.stamps);
          ignored = t.ignored ∙ s.ignored_are;
          skipped = t.skipped ∙ s.skipped_are;
          done = done_told r nodes letters total s.left s.play are told.done t.done;
          halt = lowest_told r nodes letters total s.left s.play are told.stopped t.stopped;
        };
      },
      s.play.states,
    )

pub all_told : {E : Type 0} (m : System) (level budget : ℕ) (events done : List Event) (nodes : List NodeData) (letters given : List LetterData) (total : ℕ) (counts : Counts) (result : Result code.Replay E) → done ≡ events → given ≡ letters
    → AreOfRound level nodes → IsReplaying m level budget done (course nodes letters total) counts.ignored counts.skipped → IfOk result (AreToldOf nodes given counts) → IfOk result (λ told. LeavesReplay m budget level events nodes told)
all_told m level budget events done nodes letters given total counts (Ok told) all same are s t = replay_ended m level budget events done nodes letters given total counts told all same are s t
all_told m level budget events done nodes letters given total counts (Err failed) all same are s t = tt

-- ---- an evaluation over which events were replayed
pub left_sound : (m : System) (level budget : ℕ) (events : List Event) (nodes : List NodeData) (told : code.Replay) → LeavesReplay m budget level events nodes told → IsSoundRound m level budget nodes
left_sound m level budget events nodes told t = record {
  before = None;
  configuration = t.0.left;
  states = t.1;
  sound = runs_are_sound (only_round m level budget) events t.0.outcomes t.0.left t.0.run;
}

module _ (w : ℕ) (m : System) (budget : ℕ) (done : Option ℕ) (halt : Option Halt) (replayed : Bool) (last : Option ℕ) (nodes : List NodeData) (asked : ℕ) (l : IsEvaluation (evaluation_of w m budget done halt replayed last nodes) asked) (now : EvaluationData) (view : evaluation_of w m budget done halt replayed last nodes ≡ now) where
  pub replay_new : now.state.halted ≡ false → now.last ≡ None → AreNew m budget (oracles_of nodes) nodes
  replay_new going first = l.new (ap (λ (e : EvaluationData). e.state.halted) view ∙ going) (ap (λ (e : EvaluationData). e.last) view ∙ first)

  pub none_played : now.last ≡ None → last ≡ None
  none_played first = ap (λ (e : EvaluationData). e.last) view ∙ first

  -- the nodes were lent as a slice, and are written back
  module _ (new given : List NodeData) (len : ℕ) (long : len ≡ length nodes) (is : given ≡ nodes) (kept : map as_new new ≡ map as_new given) where
    abbrev after : List NodeData
    after = take len (new ++ drop (length new) nodes)

    as_lent : map as_new new ≡ map as_new nodes
    as_lent = kept ∙ ap (λ (ns : List NodeData). map as_new ns) is

    back : after ≡ new
    back = written_back nodes new len (same_length new nodes as_lent) long

    same : map as_new after ≡ map as_new nodes
    same = ap (λ (ns : List NodeData). map as_new ns) back ∙ as_lent

    over : (is_some halt || true) ≡ true
    over = or_right (is_some halt) true refl

    pub replay_kept : (last' : Option ℕ) → IsEvaluation (evaluation_of w m budget done halt true last' after) asked
    replay_kept last' = record {
      own = still_nodes after nodes same m budget l.own;
      new = λ on none. absurd (true≢false (sym over ∙ on));
      ready = λ on. absurd (true≢false (sym over ∙ on));
    }

    pub replay_rest : (last' : Option ℕ) → KeepsRest now.state (evaluation_of w m budget done halt true last' after).state
    replay_rest last' = record {
      system = ap (λ (e : EvaluationData). e.state.system) view;
      budget = ap (λ (e : EvaluationData). e.state.budget) view;
      workers = ap (λ (e : EvaluationData). e.state.workers) view;
      oracles = oracles_rest after nodes same ∙ ap (λ (e : EvaluationData). unasked e.state.oracles) view;
    }

    -- what is told of them
    module _ (level : ℕ) (events : List Event) (told : code.Replay) (tells : (m' : System) (budget' : ℕ) (oracles : List OracleState) → AreNew m' budget' oracles given → LeavesReplay m' budget' level events new told)
        (going : now.state.halted ≡ false) (first : now.last ≡ None) where
      left : LeavesReplay m budget level events after told
      left = subst (λ (ns : List NodeData). LeavesReplay m budget level events ns told) (sym back)
          (tells m budget (oracles_of nodes) (subst (λ (ns : List NodeData). AreNew m budget (oracles_of nodes) ns) (sym is) (replay_new going first)))

      pub replay_left : LeavesReplay now.state.system now.state.budget level events after told
      replay_left = subst (λ (e : EvaluationData). LeavesReplay e.state.system e.state.budget level events after told) view left

      pub replay_sound : (k : ℕ) → Some level ≡ Some k → IsSoundRound m k budget after
      replay_sound k at = subst (λ (n : ℕ). IsSoundRound m n budget after) (same_Some level k at) (left_sound m level budget events after told left)
