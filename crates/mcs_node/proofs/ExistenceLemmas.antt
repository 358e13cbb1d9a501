-- In a sound configuration each event has a step.
use Rattle.std.proofs.Common.{◌≡◌, ℕ, ◌+◌, ◌<◌, ◌≤◌, Bool, true, false, true≢false, List, [], ◌∷◌, ◌++◌, filter, map, length, Option, Some, None, IsTrue, slice_get, slice_set, is_some, append-nil, refl, sym, ap, ◌∙◌, subst, inl, inr, ◌⊎◌, ◌↔◌, arith}
use Rattle.std.proofs.lemmas.Bool.{cases_Bool, cases_eq, cases_lt}
use Rattle.std.proofs.lemmas.Option.{slice_get_within}
use Rattle.std.specs.List.{sum_by}
use Rattle.mcs_base.specs.Listings.{IsAmong, IsListing, IsInventory}
use Rattle.mcs_base.proofs.Among.{among_left, among_right, among_map, map_among, among_push, among_get, cases_among}
use Rattle.mcs_base.proofs.Booleans.{test_of, test_of-tells, cases_all_below, cases_same}
use Rattle.mcs_base.proofs.Deciding.{cases_not, cases_implies}
use Rattle.mcs_base.proofs.ListingLemmas.{listing_below, IsListing-same, IsListing-filter}
use Rattle.mcs_base.proofs.Lists.{slice_get_below, choose_below, place_cases, same_lists}
use Rattle.mcs_base.proofs.Written.{slice_get-slice_set, slice_get-set_other, slice_get-set_same, length-slice_set}
use Rattle.mcs_base.proofs.Results.{some_same, no_none, option_cases}
use Rattle.mcs_base.proofs.NumberCases.{cases_order}
use Rattle.mcs_system.specs.Plain.{System}
use Rattle.mcs_system.specs.Imports.{supplied}
use Rattle.mcs_system.specs.Levels.{IsQuestionAt}
use Rattle.mcs_import.proofs.OrderLemmas.{import_order_exists}
use Rattle.mcs_existence.proofs.Counts.{counts_exist}
use Rattle.mcs_states.specs.Evaluators.{IsJournalQuestion}
use Rattle.mcs_states.specs.declared.halt.Halt.{Halt}
use Rattle.mcs_states.specs.declared.halt.Halt.TheVariants.{Spent}
use Rattle.mcs_node.specs.declared.event.Event.{Event}
use Rattle.mcs_node.specs.declared.event.Event.TheVariants.{Begin, Grant, Deliver}
use Rattle.mcs_node.specs.Rounds.{Supplies, Stamp, stamp, Round, NodeState, IsNewQuestion, HasNoStop, IsSupplyTo, IsSentBy, Waits, ObeysRule, waits, finishes, is_stopped, stops}
use Rattle.mcs_node.specs.Configurations.{Configuration, HasNode, new_node, IsFromSender, IsHaltOfSender, IsSound, AwaitsGrant}
use Rattle.mcs_node.specs.Nodes.{stamps_to}
use Rattle.mcs_node.specs.Steps.{WereAsked, IsNeedOf, Adds, IsTotal, Takes, IsPossible, Changes, Reacts, TakesPlace, Outcome, Skipped, Ignored, Taken, Step}
use Rattle.mcs_node.specs.Worked.{IsCalm, AreCalm, begun_node}
use Rattle.mcs_node.specs.Existence.{TotalsExist, TotalsAreOne, StepsHaveTheirOutcome, OutcomesExclude, StepsHaveOneOutcome, NothingFails, EventsHaveSteps, OutcomesHaveSteps, EventsHaveRuns}
use Rattle.mcs_node.proofs.SupplyLemmas.{supplied_by, supplier_below}
use Rattle.mcs_node.proofs.RuleLemmas.{sent_to, put_out_sent, letter_from_sender, letter_supplies}
use Rattle.mcs_node.proofs.StepLemmas.{later, steps_keep_soundness}
use Rattle.mcs_node.proofs.TotalLemmas.{total_alike}
use Rattle.mcs_node.proofs.EventLemmas.{ignored_possible, taken_possible, ignored_untaken, IsOpen, may_wait, may_finish, may_stop, may_be_stopped, granted_open}
use Rattle.mcs_node.proofs.WorkedLemmas.{left_by, takes_place, need_one, asked_one}

-- ---- outcomes
pub steps_have_their_outcome : StepsHaveTheirOutcome
steps_have_their_outcome r c d e Skipped step = step.0
steps_have_their_outcome r c d e Ignored step = step.0
steps_have_their_outcome r c d e Taken step = (taken_possible r c e d step, λ ignored. ignored_untaken r c e d ignored step)

pub outcomes_exclude : OutcomesExclude
outcomes_exclude r c e Skipped Skipped a b = refl
outcomes_exclude r c e Skipped Ignored a b = absurd (a (ignored_possible r c e b))
outcomes_exclude r c e Skipped Taken a b = absurd (a b.0)
outcomes_exclude r c e Ignored Skipped a b = absurd (b (ignored_possible r c e a))
outcomes_exclude r c e Ignored Ignored a b = refl
outcomes_exclude r c e Ignored Taken a b = absurd (b.1 a)
outcomes_exclude r c e Taken Skipped a b = absurd (b a.0)
outcomes_exclude r c e Taken Ignored a b = absurd (a.1 b)
outcomes_exclude r c e Taken Taken a b = refl

pub steps_have_one_outcome : StepsHaveOneOutcome
steps_have_one_outcome r c d b e o p step other = outcomes_exclude r c e o p (steps_have_their_outcome r c d e o step) (steps_have_their_outcome r c b e p other)

-- ---- stamps
pub stamp_same : (x y : Stamp) → x.level ≡ y.level → x.from ≡ y.from → x.to ≡ y.to → x.stop ≡ y.stop → x ≡ y
stamp_same x y level from to stop =
    ap (λ (v : ℕ). record x { level = v }) level
    ∙ ap (λ (v : ℕ). record x { level = y.level; from = v }) from
    ∙ ap (λ (v : ℕ). record x { level = y.level; from = y.from; to = v }) to
    ∙ ap (λ (v : Bool). record y { stop = v }) stop

stamp_cases : (x y : Stamp) → (x ≡ y) ⊎ (¬ (x ≡ y))
stamp_cases x y = elim (cases_eq x.level y.level) [
  | inr differ ↦ inr (λ e. differ (ap (λ (z : Stamp). z.level) e))
  | inl level ↦ elim (cases_eq x.from y.from) [
    | inr differ ↦ inr (λ e. differ (ap (λ (z : Stamp). z.from) e))
    | inl from ↦ elim (cases_eq x.to y.to) [
      | inr differ ↦ inr (λ e. differ (ap (λ (z : Stamp). z.to) e))
      | inl to ↦ elim (cases_same x.stop y.stop) [
        | inr differ ↦ inr (λ e. differ (ap (λ (z : Stamp). z.stop) e))
        | inl stop ↦ inl (stamp_same x y level from to stop)
      ]
    ]
  ]
]

stamp_among : (x : Stamp) (xs : List Stamp) → IsAmong x xs ⊎ (¬ IsAmong x xs)
stamp_among x [] = inr (λ h. h)
stamp_among x (y ∷ ys) = elim (stamp_cases x y) [
  | inl e ↦ inl (inl e)
  | inr differ ↦ elim (stamp_among x ys) [ inl later ↦ inl (inr later) | inr none ↦ inr (λ h. elim h [ inl e ↦ differ e | inr there ↦ none there ]) ]
]

-- ---- the contexts that a context supplies
module _ (m : System) (i : ℕ) where
  supplies_cases : (j : ℕ) → Supplies m i j ⊎ (¬ Supplies m i j)
  supplies_cases j = elim (cases_lt j (length m.contexts)) [
    | inr past ↦ inr (λ s. let less : j < length m.contexts = s.2 in omega (arith, less, past))
    | inl less ↦
        let (order, ordered) = import_order_exists m in
        elim (cases_among i (supplied m order j)) [ inl among ↦ inl (order, ordered, less, among) | inr none ↦ inr (λ s. none (supplied_by m order j i ordered s)) ]
  ]

  receivers_listed : (js : List ℕ) × IsListing (Supplies m i) (λ a b. a < b) js
  receivers_listed =
      let (js, listing) = listing_below (λ a b. a < b) (λ x y z h k. omega (arith, h, k)) cases_order (λ j. test_of (supplies_cases j)) (length m.contexts) in (
        js,
        IsListing-same (λ (a b : ℕ). a < b) (λ j. (j < length m.contexts) × IsTrue (test_of (supplies_cases j))) (Supplies m i) js
            (λ j. ((λ h. (test_of-tells (supplies_cases j)).0 h.1), (λ s. (s.2, (test_of-tells (supplies_cases j)).1 s)))) listing,
      )

-- a letter to each of them
sent_exists : (r : Round) (i : ℕ) (stop : Bool) → (xs : List Stamp) × IsInventory (IsSentBy r i stop) xs
sent_exists r i stop = let (js, listing) = receivers_listed r.system i in (stamps_to r.level i stop js, sent_to r i stop js listing)

-- ---- needs and totals
level_listed : (m : System) (level i : ℕ) → i < length m.contexts → (xs : List ℕ) × IsListing (IsQuestionAt m level i) (λ a b. a < b) xs
level_listed m level i less =
    let (n, (lists, questions, is)) = counts_exist m level in
    let (xs, at) = slice_get_below lists i (omega (arith, less, questions.one_each)) in
    (xs, questions.listed i xs at)

asked_listed : (m : System) (before : Option ℕ) (i : ℕ) → i < length m.contexts → (ys : List ℕ) × ((x : ℕ) → IsAmong x ys ↔ IsJournalQuestion m before i x)
asked_listed m None i less = ([], λ x. ((λ h. absurd h), (λ h. absurd h)))
asked_listed m (Some level) i less = let (ys, listing) = level_listed m level i less in (ys, λ x. listing.exactly x)

-- what is asked of the level and was not asked before
new_listed : (r : Round) (i : ℕ) (xs ys : List ℕ) → IsListing (IsQuestionAt r.system r.level i) (λ a b. a < b) xs → ((x : ℕ) → IsAmong x ys ↔ IsJournalQuestion r.system r.before i x)
    → IsListing (IsNewQuestion r i) (λ a b. a < b) (filter (λ (x : ℕ). test_of (cases_not (cases_among x ys))) xs)
new_listed r i xs ys listing asked =
    IsListing-same (λ (a b : ℕ). a < b) (λ x. IsQuestionAt r.system r.level i x × IsTrue (test_of (cases_not (cases_among x ys)))) (IsNewQuestion r i) (filter (λ (x : ℕ). test_of (cases_not (cases_among x ys))) xs)
    (λ x. (to x, from x)) (IsListing-filter (λ (a b : ℕ). a < b) (IsQuestionAt r.system r.level i) (λ (x : ℕ). test_of (cases_not (cases_among x ys))) xs listing)
  where
    to : (x : ℕ) → IsQuestionAt r.system r.level i x × IsTrue (test_of (cases_not (cases_among x ys))) → IsNewQuestion r i x
    to x h = (h.0, λ before. (test_of-tells (cases_not (cases_among x ys))).0 h.1 ((asked x).1 before))

    from : (x : ℕ) → IsNewQuestion r i x → IsQuestionAt r.system r.level i x × IsTrue (test_of (cases_not (cases_among x ys)))
    from x new = (new.0, (test_of-tells (cases_not (cases_among x ys))).1 (λ among. new.1 ((asked x).0 among)))

need_exists : (r : Round) (i : ℕ) → i < length r.system.contexts → (n : ℕ) × IsNeedOf r i n
need_exists r i less =
    let (xs, listing) = level_listed r.system r.level i less in
    let (ys, asked) = asked_listed r.system r.before i less in
    (length (filter (λ (x : ℕ). test_of (cases_not (cases_among x ys))) xs), (filter (λ (x : ℕ). test_of (cases_not (cases_among x ys))) xs, new_listed r i xs ys listing asked, refl))

base_exists : (m : System) (before : Option ℕ) → (n : ℕ) × WereAsked m before n
base_exists m None = (0, refl)
base_exists m (Some level) = counts_exist m level

adds_exists : (r : Round) (i : ℕ) (granted : Option ℕ) → i < length r.system.contexts → (n : ℕ) × Adds r i granted n
adds_exists r i None less = (0, refl)
adds_exists r i (Some total) less = need_exists r i less

pub totals_exist : TotalsExist
totals_exist r nodes long =
    let (base, asked) = base_exists r.system r.before in
    let (needs, many, added) = choose_below (λ (i n : ℕ). (s : NodeState) → slice_get nodes i ≡ Some s → Adds r i s.granted n) (length nodes) need_at in
    (base + sum_by (λ n. n) needs, record { base = base; asked = asked; needs = needs; one_each = many; added = (λ i s n at there. added i n there s at); whole = refl })
  where
    need_at : (i : ℕ) → i < length nodes → (n : ℕ) × ((s : NodeState) → slice_get nodes i ≡ Some s → Adds r i s.granted n)
    need_at i less =
        let (s, at) = slice_get_below nodes i less in
        let (n, adds) = adds_exists r i s.granted (omega (arith, less, long)) in
        (n, λ t there. subst (λ (p : NodeState). Adds r i p.granted n) (some_same (slice_get nodes i) s t at there) adds)

adds_one : (r : Round) (i : ℕ) (granted : Option ℕ) (n k : ℕ) → Adds r i granted n → Adds r i granted k → n ≡ k
adds_one r i None n k a b = a ∙ sym b
adds_one r i (Some total) n k a b = need_one r i n k a b

pub totals_are_one : TotalsAreOne
totals_are_one r nodes total other a b =
    let needs : a.needs ≡ b.needs = same_lists a.needs b.needs (a.one_each ∙ sym b.one_each) each in
    omega (arith, a.whole, b.whole, asked_one r.system r.before a.base b.base a.asked b.asked, ap (λ (l : List ℕ). sum_by (λ n. n) l) needs)
  where
    each : (i x y : ℕ) → slice_get a.needs i ≡ Some x → slice_get b.needs i ≡ Some y → x ≡ y
    each i x y at there =
        let less : i < length nodes = omega (arith, slice_get_within a.needs i x at, a.one_each) in
        let (s, here) = slice_get_below nodes i less in
        adds_one r i s.granted x y (a.added i s x here at) (b.added i s y here there)

-- a total does not depend on which total a node was granted
granted_alike : (r : Round) (nodes : List NodeState) (i : ℕ) (s : NodeState) (a b n : ℕ) → i < length nodes
    → IsTotal r (slice_set nodes i (record s { granted = Some a })) n → IsTotal r (slice_set nodes i (record s { granted = Some b })) n
granted_alike r nodes i s a b n less t = total_alike r (slice_set nodes i (record s { granted = Some a })) (slice_set nodes i (record s { granted = Some b })) n
    (length-slice_set nodes i (record s { granted = Some b }) ∙ sym (length-slice_set nodes i (record s { granted = Some a }))) was t
  where
    there : slice_get (slice_set nodes i (record s { granted = Some a })) i ≡ Some (record s { granted = Some a })
    there = slice_get-set_same nodes i (record s { granted = Some a }) less

    was : (k : ℕ) (q : NodeState) → slice_get (slice_set nodes i (record s { granted = Some b })) k ≡ Some q
        → (p : NodeState) × (slice_get (slice_set nodes i (record s { granted = Some a })) k ≡ Some p) × (is_some p.granted ≡ is_some q.granted)
    was k q at = elim (slice_get-slice_set nodes i k (record s { granted = Some b }) q at) [
      | inl (same, is) ↦ (
        record s { granted = Some a },
        subst (λ (j : ℕ). slice_get (slice_set nodes i (record s { granted = Some a })) j ≡ Some (record s { granted = Some a })) (sym same) there,
        ap (λ (p : NodeState). is_some p.granted) (sym is),
      )
      | inr (differ, old) ↦ (q, slice_get-set_other nodes i k (record s { granted = Some a }) differ ∙ old, refl)
    ]

-- ---- steps
abbrev HasStep : Round → Configuration → Event → Type 0
HasStep r c e = (o : Outcome) × (d : Configuration) × Step r c e o d × NothingFails c d

nothing_changed : (c : Configuration) → NothingFails c c
nothing_changed c i s t at there unstopped own =
    absurd (true≢false (sym own ∙ ap (λ (p : NodeState). p.by_itself) (some_same (slice_get c.nodes i) t s there at) ∙ unstopped))

step_skipped : (r : Round) (c : Configuration) (e : Event) → ¬ IsPossible r c e → HasStep r c e
step_skipped r c e never = (Skipped, c, (never, refl), nothing_changed c)

-- a node that stops by itself does so for the budget
abbrev IsUnfailing : NodeState → NodeState → Type 0
IsUnfailing s u = s.by_itself ≡ false → u.by_itself ≡ true → (level : ℕ) × (total : ℕ) × (u.halt ≡ Some (Spent level total))

-- where a node does not stop
goes_on : (s u : NodeState) → u.by_itself ≡ s.by_itself → IsUnfailing s u
goes_on s u same unstopped own = absurd (true≢false (sym own ∙ same ∙ unstopped))

step_taken : (r : Round) (c : Configuration) (e : Event) (i : ℕ) (s t u : NodeState) (new : List Stamp) → HasNode c i s → Changes r c e i s t → Reacts r c i t new u → IsUnfailing s u → HasStep r c e
step_taken r c e i s t u new at changes reacts unfailing = (Taken, left_by c i new u, takes_place r c e i s t u new at changes reacts, all)
  where
    all : NothingFails c (left_by c i new u)
    all k p q was is unstopped own = elim (slice_get-slice_set c.nodes i k u q is) [
      | inl (here, same) ↦
          let old : p ≡ s = some_same (slice_get c.nodes i) p s (subst (λ (j : ℕ). HasNode c j p) here was) at in
          let (level, total, told) = unfailing (ap (λ (n : NodeState). n.by_itself) (sym old) ∙ unstopped) (ap (λ (n : NodeState). n.by_itself) (sym same) ∙ own) in
          (level, total, ap (λ (n : NodeState). n.halt) same ∙ told)
      | inr (differ, there) ↦ goes_on p q (ap (λ (n : NodeState). n.by_itself) (some_same (slice_get c.nodes k) q p there was)) unstopped own
    ]

-- ---- a node begins
begins : (r : Round) (c : Configuration) (i : ℕ) → IsSound r c → HasStep r c (Begin i)
begins r c i sound = elim (place_cases c.nodes i) [
  | inr past ↦ step_skipped r c (Begin i) (λ p. let (t, there, unbegun) = p in omega (arith, slice_get_within c.nodes i t there, past))
  | inl (s, at) ↦ elim (cases_Bool s.begun) [
    | inl begun ↦ step_skipped r c (Begin i) (λ p. let (t, there, unbegun) = p in true≢false (sym begun ∙ ap (λ (n : NodeState). n.begun) (some_same (slice_get c.nodes i) s t at there) ∙ unbegun))
    | inr unbegun ↦
        let new : s ≡ new_node = (sound.nodes i s at).unbegun unbegun in
        step_taken r c (Begin i) i s begun_node begun_node [] at (refl, unbegun, ap (λ (n : NodeState). record n { begun = true }) (sym new)) (may_wait r c i begun_node opened refl (λ x h. absurd h))
        (goes_on s begun_node (ap (λ (n : NodeState). n.by_itself) (sym new)))
  ]
]
  where
    opened : IsOpen begun_node
    opened = record { put_out = refl; done = refl; halt = refl; by_itself = refl }

-- ---- a node is granted a total
awaits_cases : (r : Round) (i : ℕ) (s : NodeState) → AwaitsGrant r i s ⊎ (¬ AwaitsGrant r i s)
awaits_cases r i s = elim (cases_Bool s.begun) [
  | inr unbegun ↦ inr (λ a. true≢false (sym a.begun ∙ unbegun))
  | inl begun ↦ elim (option_cases s.halt) [
    | inr (halt, is) ↦ inr (λ a. no_none s.halt halt a.halt is)
    | inl halt ↦ elim (option_cases s.granted) [
      | inr (total, is) ↦ inr (λ a. no_none s.granted total a.granted is)
      | inl granted ↦ elim (cases_all_below (λ j. Supplies r.system j i → IsAmong (stamp r.level j i false) s.had) (length r.system.contexts)
          (λ j less. cases_implies (supplies_cases r.system j i) (stamp_among (stamp r.level j i false) s.had))) [
            | inr not ↦ inr (λ a. not (λ j less supplies. a.had j supplies))
            | inl all ↦ inl (record { begun = begun; had = (λ j supplies. all j (supplier_below r.system i j supplies) supplies); halt = halt; granted = granted })
          ]
    ]
  ]
]

pub waits_open : (s : NodeState) → Waits s → IsOpen s
waits_open s w = record { put_out = w.put_out; done = w.done; halt = w.halt; by_itself = w.by_itself }

-- such a node has put out nothing, and has had no stop
pub awaiting_open : (r : Round) (i : ℕ) (s : NodeState) → AwaitsGrant r i s → ObeysRule r i s → IsOpen s × HasNoStop s.had
awaiting_open r i s awaits (waits w) = (waits_open s w, w.no_stop)
awaiting_open r i s awaits (finishes f) = let (total, is, within) = f.granted in absurd (no_none s.granted total awaits.granted is)
awaiting_open r i s awaits (is_stopped w) = absurd (no_none s.halt w.cause awaits.halt w.halt)
awaiting_open r i s awaits (stops w) = absurd (no_none s.halt w.cause awaits.halt w.halt)

-- what it has had are its supplies, each once
pub supplies_had : (r : Round) (c : Configuration) → IsSound r c → (i : ℕ) (s : NodeState) → HasNode c i s → AwaitsGrant r i s → HasNoStop s.had → IsInventory (IsSupplyTo r i) s.had
supplies_had r c sound i s at awaits no_stop = record { exactly = (λ x. (to x, from x)); apart = (sound.nodes i s at).once }
  where
    to : (x : Stamp) → IsAmong x s.had → IsSupplyTo r i x
    to x h =
        let sender = (sound.nodes i s at).sent x h in
        let addressed : x.to ≡ i = (sound.nodes i s at).addressed x h in
        let (stop, sent) = put_out_sent r x.from sender.0 x (sound.nodes x.from sender.0 sender.1).rule sender.2 in (
          x.from,
          subst (λ (k : ℕ). Supplies r.system x.from k) addressed (letter_supplies r c sound x sender),
          stamp_same x (stamp r.level x.from i false) (ap (λ (z : Stamp). z.level) sent.2) refl addressed (no_stop x h),
        )

    from : (x : Stamp) → IsSupplyTo r i x → IsAmong x s.had
    from x (j, supplies, is) = subst (λ (z : Stamp). IsAmong z s.had) (sym is) (awaits.had j supplies)

module _ (r : Round) (c : Configuration) (sound : IsSound r c) (i : ℕ) (s : NodeState) (at : HasNode c i s) (awaits : AwaitsGrant r i s) (is_open : IsOpen s) (no_stop : HasNoStop s.had) where
  granted_total : (total : ℕ) × IsTotal r (slice_set c.nodes i (record s { granted = Some total })) total
  granted_total =
      let (total, counted) = totals_exist r (slice_set c.nodes i (record s { granted = Some 0 })) (length-slice_set c.nodes i (record s { granted = Some 0 }) ∙ sound.one_each) in
      (total, granted_alike r c.nodes i s 0 total total (slice_get_within c.nodes i s at) counted)

  granted_within : (total : ℕ) → IsTotal r (slice_set c.nodes i (record s { granted = Some total })) total → total ≤ r.budget → HasStep r c (Grant i)
  granted_within total counted within =
      let (new, sent) = sent_exists r i false in
      step_taken r c (Grant i) i s (record s { granted = Some total }) (record s { granted = Some total; put_out = new; done = true }) new at (refl, awaits, total, counted, refl)
      (may_finish r c i (record s { granted = Some total }) (granted_open s is_open total) new (total, refl, within) (supplies_had r c sound i s at awaits no_stop) sent)
      (goes_on s (record s { granted = Some total; put_out = new; done = true }) refl)

  granted_over : (total : ℕ) → IsTotal r (slice_set c.nodes i (record s { granted = Some total })) total → r.budget < total → HasStep r c (Grant i)
  granted_over total counted over =
      let (new, sent) = sent_exists r i true in
      step_taken r c (Grant i) i s (record s { granted = Some total }) (record s { granted = Some total; put_out = new; halt = Some (Spent r.level total); by_itself = true }) new at (refl, awaits, total, counted, refl)
      (may_stop r c i (record s { granted = Some total }) (granted_open s is_open total) new (Spent r.level total) (refl, refl, over) sent) (λ unstopped own. (r.level, total, refl))

  is_granted : HasStep r c (Grant i)
  is_granted = let (total, counted) = granted_total in elim (cases_lt r.budget total) [ inl over ↦ granted_over total counted over | inr within ↦ granted_within total counted within ]

grants : (r : Round) (c : Configuration) (i : ℕ) → IsSound r c → HasStep r c (Grant i)
grants r c i sound = elim (place_cases c.nodes i) [
  | inr past ↦ step_skipped r c (Grant i) (λ p. let (t, there, awaits) = p in omega (arith, slice_get_within c.nodes i t there, past))
  | inl (s, at) ↦ elim (awaits_cases r i s) [
    | inr never ↦ step_skipped r c (Grant i) (λ p. let (t, there, awaits) = p in never (subst (λ (q : NodeState). AwaitsGrant r i q) (some_same (slice_get c.nodes i) t s there at) awaits))
    | inl awaits ↦ let (is_open, no_stop) = awaiting_open r i s awaits (sound.nodes i s at).rule in is_granted r c sound i s at awaits is_open no_stop
  ]
]

-- ---- a letter comes
takes_cases : (s : NodeState) (x : Stamp) → Takes x.to s x ⊎ (¬ Takes x.to s x)
takes_cases s x = elim (cases_Bool s.begun) [
  | inr unbegun ↦ inr (λ t. true≢false (sym t.begun ∙ unbegun))
  | inl begun ↦ elim (cases_among x.from (map (λ (y : Stamp). y.from) s.had)) [
    | inl among ↦ inr (λ t. let (y, there, is) = map_among (λ (y : Stamp). y.from) x.from s.had among in t.first y there (sym is))
    | inr none ↦ inl (record { addressed = refl; begun = begun; first = (λ y there is. none (subst (λ (k : ℕ). IsAmong k (map (λ (z : Stamp). z.from) s.had)) is (among_map (λ (z : Stamp). z.from) y s.had there))) })
  ]
]

-- a node that has put out a stop has a halt
sender_halt : (r : Round) (i : ℕ) (s : NodeState) (x : Stamp) → IsAmong x s.put_out → x.stop ≡ true → ObeysRule r i s → (halt : Halt) × (s.halt ≡ Some halt)
sender_halt r i s x h stop (waits w) = absurd (subst (λ (l : List Stamp). IsAmong x l) w.put_out h)
sender_halt r i s x h stop (finishes f) = let (j, supplies, is) = (f.put_out.exactly x).0 h in absurd (true≢false (sym stop ∙ ap (λ (z : Stamp). z.stop) is))
sender_halt r i s x h stop (is_stopped w) = (w.cause, w.halt)
sender_halt r i s x h stop (stops w) = (w.cause, w.halt)

module _ (r : Round) (c : Configuration) (sound : IsSound r c) (n : ℕ) (x : Stamp) (there : slice_get c.letters n ≡ Some x) (from : IsFromSender c x) (s : NodeState) (at : HasNode c x.to s) (takes : Takes x.to s x) where
  abbrev told : NodeState
  told = record s { had = s.had ++ x ∷ [] }

  changes : Changes r c (Deliver n) x.to s told
  changes = (x, there, takes, refl)

  -- one that waits goes on, or is stopped
  pub told_open : IsOpen s → IsOpen told
  told_open o = record { put_out = o.put_out; done = o.done; halt = o.halt; by_itself = o.by_itself }

  pub no_stop_still : HasNoStop s.had → x.stop ≡ false → HasNoStop told.had
  no_stop_still no_stop supply y h = elim ((among_push y s.had x).0 h) [ inl old ↦ no_stop y old | inr e ↦ ap (λ (z : Stamp). z.stop) e ∙ supply ]

  told_supply : IsOpen s → s.granted ≡ None → HasNoStop s.had → x.stop ≡ false → HasStep r c (Deliver n)
  told_supply is_open granted no_stop supply = step_taken r c (Deliver n) x.to s told told [] at changes (may_wait r c x.to told (told_open is_open) granted (no_stop_still no_stop supply)) (goes_on s told refl)

  told_stop : IsOpen s → s.granted ≡ None → x.stop ≡ true → HasStep r c (Deliver n)
  told_stop is_open granted stop =
      let (sender, sender_at, out) = from in
      let (halt, is) = sender_halt r x.from sender x out stop (sound.nodes x.from sender sender_at).rule in
      let (new, sent) = sent_exists r x.to true in
      step_taken r c (Deliver n) x.to s told (record s { had = s.had ++ x ∷ []; put_out = new; halt = Some halt }) new at changes
      (may_be_stopped r c x.to told (told_open is_open) new halt x sender (among_right x s.had (x ∷ []) (inl refl)) stop sender_at is granted sent)
      (goes_on s (record s { had = s.had ++ x ∷ []; put_out = new; halt = Some halt }) refl)

  -- one that has a halt stays
  halted_still : (halt : Halt) → s.halt ≡ Some halt → s.by_itself ≡ false → IsHaltOfSender c (s.had ++ x ∷ []) halt
  halted_still halt is by_letter =
      let (y, sender, among, stop, sender_at, told_halt) = (sound.nodes x.to s at).halted halt is by_letter in
      (y, sender, among_left y s.had (x ∷ []) among, stop, sender_at, told_halt)

  pub stays_halted : ObeysRule r x.to told → Reacts r c x.to told [] told
  stays_halted rule = record {
    begun = refl;
    had = refl;
    granted = refl;
    put_out = sym (append-nil s.put_out);
    rule = rule;
    done_stays = (λ e. refl);
    halt_stays = (λ e. refl);
    halted = halted_still;
  }

  pub keeps_rule : (halt : Halt) → s.halt ≡ Some halt → ObeysRule r x.to s → ObeysRule r x.to told
  keeps_rule halt is (waits w) = absurd (no_none s.halt halt w.halt is)
  keeps_rule halt is (finishes f) = absurd (no_none s.halt halt f.halt is)
  keeps_rule halt is (is_stopped w) = is_stopped (record {
    letter = w.letter;
    had = among_left w.letter s.had (x ∷ []) w.had;
    stop = w.stop;
    granted = w.granted;
    put_out = w.put_out;
    done = w.done;
    cause = w.cause;
    halt = w.halt;
    by_itself = w.by_itself;
  })
  keeps_rule halt is (stops w) = stops (record { put_out = w.put_out; done = w.done; cause = w.cause; own = w.own; halt = w.halt; by_itself = w.by_itself })

  told_halted : (halt : Halt) → s.halt ≡ Some halt → ObeysRule r x.to s → HasStep r c (Deliver n)
  told_halted halt is rule = step_taken r c (Deliver n) x.to s told told [] at changes (stays_halted (keeps_rule halt is rule)) (goes_on s told refl)

  -- one that is done has had a letter of the sender
  pub none_first : IsInventory (IsSupplyTo r x.to) s.had → ⊥
  none_first had =
      let supplies : Supplies r.system x.from x.to = letter_supplies r c sound x from in
      takes.first (stamp r.level x.from x.to false) ((had.exactly (stamp r.level x.from x.to false)).1 (x.from, supplies, refl)) refl

  -- one that has no halt waits
  pub goes_on_waiting : s.halt ≡ None → ObeysRule r x.to s → Waits s
  goes_on_waiting going (waits w) = w
  goes_on_waiting going (finishes f) = absurd (none_first f.had)
  goes_on_waiting going (is_stopped w) = absurd (no_none s.halt w.cause going w.halt)
  goes_on_waiting going (stops w) = absurd (no_none s.halt w.cause going w.halt)

  is_told : ObeysRule r x.to s → HasStep r c (Deliver n)
  is_told (waits w) = elim (cases_Bool x.stop) [ inl stop ↦ told_stop (waits_open s w) w.granted stop | inr supply ↦ told_supply (waits_open s w) w.granted w.no_stop supply ]
  is_told (finishes f) = absurd (none_first f.had)
  is_told (is_stopped w) = told_halted w.cause w.halt (is_stopped w)
  is_told (stops w) = told_halted w.cause w.halt (stops w)

delivers : (r : Round) (c : Configuration) (n : ℕ) → IsSound r c → HasStep r c (Deliver n)
delivers r c n sound = elim (place_cases c.letters n) [
  | inr past ↦ step_skipped r c (Deliver n) (λ less. omega (arith, less, past))
  | inl (x, there) ↦
      let from : IsFromSender c x = letter_from_sender r c sound x ((sound.letters.exactly x).0 (among_get x c.letters n there)) in
      let supplies : Supplies r.system x.from x.to = letter_supplies r c sound x from in
      let (s, at) = slice_get_below c.nodes x.to (subst (λ (k : ℕ). x.to < k) (sym sound.one_each) supplies.2) in
      elim (takes_cases s x) [
        | inr never ↦ (Ignored, c, ((x, there, λ t at'. subst (λ (p : NodeState). ¬ Takes x.to p x) (some_same (slice_get c.nodes x.to) s t at at') never), refl), nothing_changed c)
        | inl takes ↦ is_told r c sound n x there from s at takes (sound.nodes x.to s at).rule
      ]
]

pub events_have_steps : EventsHaveSteps
events_have_steps r c (Begin i) sound = begins r c i sound
events_have_steps r c (Grant i) sound = grants r c i sound
events_have_steps r c (Deliver n) sound = delivers r c n sound

pub outcomes_have_steps : OutcomesHaveSteps
outcomes_have_steps r c e o sound is =
    let (p, d, step, unfailing) = events_have_steps r c e sound in
    let same : p ≡ o = outcomes_exclude r c e p o (steps_have_their_outcome r c d e p step) is in
    (d, subst (λ (q : Outcome). Step r c e q d) same step, unfailing)

-- ---- runs
-- a node that stopped by itself has a halt
pub own_halt : (r : Round) (i : ℕ) (s : NodeState) → s.by_itself ≡ true → ObeysRule r i s → (halt : Halt) × (s.halt ≡ Some halt)
own_halt r i s own (waits w) = absurd (true≢false (sym own ∙ w.by_itself))
own_halt r i s own (finishes f) = absurd (true≢false (sym own ∙ f.by_itself))
own_halt r i s own (is_stopped w) = absurd (true≢false (sym own ∙ w.by_itself))
own_halt r i s own (stops w) = (w.cause, w.halt)

module _ (r : Round) (c d : Configuration) (e : Event) (sound : IsSound r c) (step : TakesPlace r c e d) (unfailing : NothingFails c d) (calm : AreCalm c) where
  -- the node that changed still has the halt that it had
  halt_lasts : (after : HasNode d step.context step.after) (halt : Halt) → step.old.halt ≡ Some halt → step.after.halt ≡ Some halt
  halt_lasts after halt is =
      let kept = later r c d e sound step step.context step.old step.node in
      ap (λ (p : NodeState). p.halt) (some_same (slice_get d.nodes step.context) step.after kept.node after kept.at) ∙ kept.halt halt is

  changed_calm : HasNode d step.context step.after → IsCalm step.after.halt
  changed_calm after = elim (option_cases step.after.halt) [
    | inl none ↦ subst (λ (o : Option Halt). IsCalm o) (sym none) tt
    | inr (halt, is) ↦ elim (cases_Bool step.after.by_itself) [
      | inr by_letter ↦
          let (y, sender, among, stop, at, told) = step.reacts.halted halt is by_letter in
          subst (λ (o : Option Halt). IsCalm o) (told ∙ sym is) (calm y.from sender at)
      | inl own ↦ elim (cases_Bool step.old.by_itself) [
        | inr unstopped ↦ let (level, total, spent) = unfailing step.context step.old step.after step.node after unstopped own in subst (λ (o : Option Halt). IsCalm o) (sym spent) tt
        | inl was ↦
            let (old, told) = own_halt r step.context step.old was (sound.nodes step.context step.old step.node).rule in
            subst (λ (o : Option Halt). IsCalm o) (told ∙ sym (halt_lasts after old told)) (calm step.context step.old step.node)
      ]
    ]
  ]

  taken_calm : AreCalm d
  taken_calm k q at = elim (slice_get-slice_set c.nodes step.context k step.after q (subst (λ (l : List NodeState). slice_get l k ≡ Some q) step.nodes at)) [
    | inl (here, is) ↦
        let at' : HasNode d step.context step.after = subst (λ (p : NodeState). HasNode d step.context p) is (subst (λ (j : ℕ). HasNode d j q) here at) in
        subst (λ (p : NodeState). IsCalm p.halt) (sym is) (changed_calm at')
    | inr (differ, was) ↦ calm k q was
  ]

step_calm : (r : Round) (c d : Configuration) (e : Event) (o : Outcome) → IsSound r c → Step r c e o d → NothingFails c d → AreCalm c → AreCalm d
step_calm r c d e Skipped sound step unfailing calm = subst (λ (b : Configuration). AreCalm b) (sym step.1) calm
step_calm r c d e Ignored sound step unfailing calm = subst (λ (b : Configuration). AreCalm b) (sym step.1) calm
step_calm r c d e Taken sound step unfailing calm = taken_calm r c d e sound step unfailing calm

pub events_have_runs : EventsHaveRuns
events_have_runs r c [] sound = ([], c, refl, λ calm. calm)
events_have_runs r c (e ∷ es) sound =
    let (o, next, step, unfailing) = events_have_steps r c e sound in
    let (os, d, run, kept) = events_have_runs r next es (steps_keep_soundness r c next e o sound step) in
    (o ∷ os, d, (next, step, run), λ calm. kept (step_calm r c next e o sound step unfailing calm))
