-- What is told of replays.
use Rattle.std.proofs.Common.{◌≡◌, ℕ, ◌+◌, ◌<◌, ◌≤◌, zero, suc, Bool, true, false, true≢false, cond, List, [], ◌∷◌, length, count_by, Option, Some, None, slice_get, is_some, refl, sym, ap, ◌∙◌, subst, inl, inr, ◌⊎◌, arith}
use Rattle.std.proofs.lemmas.Bool.{cases_Bool}
use Rattle.std.proofs.lemmas.List.Sums.{sum_by-cons}
use Rattle.std.specs.Cmp.{both_ways}
use Rattle.mcs_base.proofs.Booleans.{test_of, test_of-tells, true_tells, false_tells}
use Rattle.mcs_base.proofs.Deciding.{cases_true, cases_all_get}
use Rattle.mcs_base.proofs.Results.{some_same, no_none, option_cases}
use Rattle.mcs_base.proofs.NumberCases.{cases_order}
use Rattle.mcs_base.proofs.Each.{each_of_two}
use Rattle.mcs_states.specs.declared.halt.Halt.{Halt}
use Rattle.mcs_states.specs.declared.halt.Halt.TheVariants.{Spent}
use Rattle.mcs_node.specs.declared.event.Event.{Event}
use Rattle.mcs_node.specs.declared.event.Event.TheVariants.{Begin, Grant, Deliver}
use Rattle.mcs_node.specs.Rounds.{Stamp, Round, NodeState}
use Rattle.mcs_node.specs.Configurations.{Configuration, new_node, first_configuration, IsSound, IsDone}
use Rattle.mcs_node.specs.Steps.{Outcome, Skipped, Ignored, Taken}
use Rattle.mcs_node.specs.Worked.{AreTwo, letter, both, IsCalm, AreCalm, LeadTo, begun_node, finished, first_round}
use Rattle.mcs_node.specs.Replay.{Replayed, is_skipped, is_ignored, is_taken, IsLowestHalt, AreTold, IsReplay, OutcomesAddUp, OneThingIsTold, EventsHaveReplays, QuietReplaysEnd, ReplaysTellTruth, TellsAlone, TurnsAreTold, SkipsAreTold, SpentIsTold, ExampleIsSpent}
use Rattle.mcs_node.proofs.RuleLemmas.{done_finishes}
use Rattle.mcs_node.proofs.StepLemmas.{first_is_sound, runs_are_sound}
use Rattle.mcs_node.proofs.QuietLemmas.{quiet_rounds_are_done, halts_have_a_source}
use Rattle.mcs_node.proofs.TotalLemmas.{halts_are_true}
use Rattle.mcs_node.proofs.EventLemmas.{IsCertain, certain_skipped, certain_ignored, lead_nil, lead_cons}
use Rattle.mcs_node.proofs.WorkedLemmas.{certain_begin, certain_over, certain_supply, made_total, one_total, need_one, grant_first, grant_second, second_awaits, second_open, second_sends, second_sent, from_first, has_had, not_begun, has_begun, no_letter}
use Rattle.mcs_node.proofs.ExampleLemmas.{example_needs_one_each}
use Rattle.mcs_node.proofs.ExistenceLemmas.{own_halt, events_have_runs}

-- ---- counts
counted : (p : Outcome → Bool) (o : Outcome) (os : List Outcome) → count_by p (o ∷ os) ≡ cond (p o) 1 0 + count_by p os
counted p o os = sum_by-cons (λ (x : Outcome). cond (p x) 1 0) o os

pub outcomes_add_up : OutcomesAddUp
outcomes_add_up r c d [] [] run = refl
outcomes_add_up r c d [] (o ∷ os) run = absurd run
outcomes_add_up r c d (e ∷ es) [] run = absurd run
outcomes_add_up r c d (e ∷ es) (Skipped ∷ os) (next, step, rest) =
    omega (arith, outcomes_add_up r next d es os rest, counted is_skipped Skipped os, counted is_ignored Skipped os, counted is_taken Skipped os)
outcomes_add_up r c d (e ∷ es) (Ignored ∷ os) (next, step, rest) =
    omega (arith, outcomes_add_up r next d es os rest, counted is_skipped Ignored os, counted is_ignored Ignored os, counted is_taken Ignored os)
outcomes_add_up r c d (e ∷ es) (Taken ∷ os) (next, step, rest) =
    omega (arith, outcomes_add_up r next d es os rest, counted is_skipped Taken os, counted is_ignored Taken os, counted is_taken Taken os)

-- ---- the lowest halt
lowest_after : (s : NodeState) (nodes : List NodeState) → s.by_itself ≡ false → (o : Option Halt) → IsLowestHalt nodes o → IsLowestHalt (s ∷ nodes) o
lowest_after s nodes unstopped None none = each
  where
    each : (i : ℕ) (t : NodeState) → slice_get (s ∷ nodes) i ≡ Some t → t.by_itself ≡ false
    each zero t at = subst (λ (p : NodeState). p.by_itself ≡ false) (some_same (Some s) s t refl at) unstopped
    each (suc i) t at = none i t at
lowest_after s nodes unstopped (Some halt) (i, t, at, own, is, before) = (suc i, t, at, own, is, each)
  where
    each : (j : ℕ) (q : NodeState) → j < suc i → slice_get (s ∷ nodes) j ≡ Some q → q.by_itself ≡ false
    each zero q less there = subst (λ (p : NodeState). p.by_itself ≡ false) (some_same (Some s) s q refl there) unstopped
    each (suc j) q less there = before j q (omega (arith, less)) there

lowest_exists : (nodes : List NodeState) → ((i : ℕ) (s : NodeState) → slice_get nodes i ≡ Some s → s.by_itself ≡ true → (halt : Halt) × (s.halt ≡ Some halt)) → (o : Option Halt) × IsLowestHalt nodes o
lowest_exists [] halts = (None, λ i s at. absurd (no_none None s refl at))
lowest_exists (s ∷ nodes) halts = elim (cases_Bool s.by_itself) [
  | inl own ↦ let (halt, is) = halts zero s refl own in (Some halt, (zero, s, refl, own, is, λ j t less at. absurd (omega (arith, less))))
  | inr unstopped ↦ let (o, low) = lowest_exists nodes (λ i t at own. halts (suc i) t at own) in (o, lowest_after s nodes unstopped o low)
]

lowest_one : (nodes : List NodeState) (o p : Option Halt) → IsLowestHalt nodes o → IsLowestHalt nodes p → o ≡ p
lowest_one nodes None None low low' = refl
lowest_one nodes None (Some halt) low (i, s, at, own, is, before) = absurd (true≢false (sym own ∙ low i s at))
lowest_one nodes (Some halt) None (i, s, at, own, is, before) low' = absurd (true≢false (sym own ∙ low' i s at))
lowest_one nodes (Some halt) (Some other) (i, s, at, own, is, before) (j, t, there, own', is', before') = elim (cases_order i j) [
  | inl same ↦
      let one : s ≡ t = some_same (slice_get nodes j) s t (subst (λ (k : ℕ). slice_get nodes k ≡ Some s) same at) there in
      sym is ∙ ap (λ (p : NodeState). p.halt) one ∙ is'
  | inr apart ↦ elim apart [
    | inl less ↦ absurd (true≢false (sym own ∙ before' i s less at))
    | inr more ↦ absurd (true≢false (sym own' ∙ before j t more there))
  ]
]

-- ---- one thing is told
done_cases : (c : Configuration) → IsDone c ⊎ (¬ IsDone c)
done_cases c = cases_all_get (λ (i : ℕ) (s : NodeState). s.done ≡ true) c.nodes (λ i s. cases_true s.done)

replayed_same : (a b : Replayed) → a.put_out ≡ b.put_out → a.ignored ≡ b.ignored → a.skipped ≡ b.skipped → a.done ≡ b.done → a.halt ≡ b.halt → a ≡ b
replayed_same a b put_out ignored skipped done halt =
    ap (λ (v : ℕ). record a { put_out = v }) put_out
    ∙ ap (λ (v : ℕ). record a { put_out = b.put_out; ignored = v }) ignored
    ∙ ap (λ (v : ℕ). record a { put_out = b.put_out; ignored = b.ignored; skipped = v }) skipped
    ∙ ap (λ (v : Bool). record a { put_out = b.put_out; ignored = b.ignored; skipped = b.skipped; done = v }) done
    ∙ ap (λ (v : Option Halt). record b { halt = v }) halt

told_one : (os : List Outcome) (d : Configuration) (a b : Replayed) → AreTold os d a → AreTold os d b → a ≡ b
told_one os d a b are are' = replayed_same a b
    (are.put_out ∙ sym are'.put_out)
    (are.ignored ∙ sym are'.ignored)
    (are.skipped ∙ sym are'.skipped)
    (both_ways a.done b.done (λ all. are'.done.1 (are.done.0 all)) (λ all. are.done.1 (are'.done.0 all)))
    (lowest_one d.nodes a.halt b.halt are.halt are'.halt)

pub one_thing_is_told : OneThingIsTold
one_thing_is_told r d os sound =
    let (halt, low) = lowest_exists d.nodes (λ i s at own. own_halt r i s own (sound.nodes i s at).rule) in
    let told : Replayed = record { put_out = length d.letters; ignored = count_by is_ignored os; skipped = count_by is_skipped os; done = test_of (done_cases d); halt = halt } in
    let are : AreTold os d told = record { put_out = refl; ignored = refl; skipped = refl; done = test_of-tells (done_cases d); halt = low } in
    (told, are, λ other are'. told_one os d other told are' are)

pub events_have_replays : EventsHaveReplays
events_have_replays r es =
    let (os, d, run, kept) = events_have_runs r (first_configuration r.system) es (first_is_sound r) in
    let (told, are, one) = one_thing_is_told r d os (runs_are_sound r es os d run) in
    (told, record { outcomes = os; left = d; run = run; are_told = are })

-- ---- how a replay ends
-- what is done has not stopped by itself
done_unstopped : (r : Round) (c : Configuration) → IsSound r c → IsDone c → (i : ℕ) (s : NodeState) → slice_get c.nodes i ≡ Some s → s.by_itself ≡ false
done_unstopped r c sound done i s at = (done_finishes r i s (sound.nodes i s at).rule (done i s at)).by_itself

module _ (r : Round) (es : List Event) (told : Replayed) (replay : IsReplay r es told) where
  left_sound : IsSound r replay.left
  left_sound = runs_are_sound r es replay.outcomes replay.left replay.run

  done_without_halt : IsDone replay.left → told.halt ≡ None
  done_without_halt done = lowest_one replay.left.nodes told.halt None replay.are_told.halt (done_unstopped r replay.left left_sound done)

  stopped_not_done : (i : ℕ) (s : NodeState) → slice_get replay.left.nodes i ≡ Some s → s.by_itself ≡ true → told.done ≡ false
  stopped_not_done i s at own = elim (cases_Bool told.done) [
    | inr not ↦ not
    | inl all ↦ absurd (true≢false (sym own ∙ done_unstopped r replay.left left_sound (replay.are_told.done.0 all) i s at))
  ]

  stopped_has_halt : (i : ℕ) (s : NodeState) → slice_get replay.left.nodes i ≡ Some s → s.by_itself ≡ true → is_some told.halt ≡ true
  stopped_has_halt i s at own = elim (option_cases told.halt) [
    | inr (halt, is) ↦ ap (λ (o : Option Halt). is_some o) is
    | inl none ↦
        let low : IsLowestHalt replay.left.nodes None = subst (λ (o : Option Halt). IsLowestHalt replay.left.nodes o) none replay.are_told.halt in
        absurd (true≢false (sym own ∙ low i s at))
  ]

pub quiet_replays_end : QuietReplaysEnd
quiet_replays_end r es told replay quiet = elim (quiet_rounds_are_done r replay.left (left_sound r es told replay) quiet) [
  | inl done ↦ inl (replay.are_told.done.1 done, done_without_halt r es told replay done)
  | inr (i, s, halt, at, is) ↦
      let (j, t, there, told_halt, own) = halts_have_a_source r replay.left i s halt (left_sound r es told replay) at is in
      inr (stopped_not_done r es told replay j t there own, stopped_has_halt r es told replay j t there own)
]

pub replays_tell_truth : ReplaysTellTruth
replays_tell_truth r es told halt onward replay is =
    let (i, s, at, own, its, before) = subst (λ (o : Option Halt). IsLowestHalt replay.left.nodes o) is replay.are_told.halt in
    halts_are_true r es replay.outcomes replay.left i s halt onward replay.run at its

-- ---- worked replays
tells_alone : (r : Round) (es : List Event) (os : List Outcome) (d : Configuration) (told : Replayed) → LeadTo r (first_configuration r.system) es os d → AreCalm d → AreTold os d told → TellsAlone r es told
tells_alone r es os d told lead calm are = record { may = (record { outcomes = os; left = d; run = lead.may; are_told = are }, calm); alone = alone }
  where
    alone : (other : Replayed) (replay : IsReplay r es other) → AreCalm replay.left → other ≡ told
    alone other replay other_calm =
        let (same, is) = lead.alone replay.outcomes replay.left replay.run other_calm in
        told_one os d other told (subst (λ (b : Configuration). AreTold os b other) is (subst (λ (l : List Outcome). AreTold l replay.left other) same replay.are_told)) are

first_of_two : (P : NodeState → Type 0) (a b : NodeState) → P a → (i : ℕ) (s : NodeState) → i < 1 → slice_get (a ∷ b ∷ []) i ≡ Some s → P s
first_of_two P a b here zero s less at = subst P (some_same (Some a) a s refl at) here
first_of_two P a b here (suc i) s less at = absurd (omega (arith, less))

calm_two : (a b : NodeState) (letters : List Stamp) → IsCalm a.halt → IsCalm b.halt → AreCalm (both a b letters)
calm_two a b letters here there = each_of_two (λ (s : NodeState). IsCalm s.halt) a b here there

module _ (r : Round) (base first second : ℕ) (two : AreTwo r base first second) where
  -- ---- the nodes, and what is left
  abbrev sender : NodeState
  sender = finished [] (base + first) (letter r false ∷ [])

  abbrev taker : NodeState
  taker = record begun_node { had = letter r false ∷ [] }

  abbrev done_taker : NodeState
  done_taker = finished (letter r false ∷ []) (base + first + second) []

  abbrev over_taker : NodeState
  over_taker = record taker { granted = Some (base + first + second); put_out = []; halt = Some (Spent r.level (base + first + second)); by_itself = true }

  abbrev none : Configuration
  none = both new_node new_node []

  abbrev one : Configuration
  one = both begun_node new_node []

  abbrev begun : Configuration
  begun = both begun_node begun_node []

  abbrev sent : Configuration
  sent = both sender begun_node (letter r false ∷ [])

  abbrev taken : Configuration
  taken = both sender taker (letter r false ∷ [])

  abbrev all_done : Configuration
  all_done = both sender done_taker (letter r false ∷ [])

  abbrev one_over : Configuration
  one_over = both sender over_taker (letter r false ∷ [])

  -- ---- turns
  -- the first is granted its need, and its supply comes
  after_supply : base + first ≤ r.budget → (es : List Event) (os : List Outcome) (d : Configuration) → (IsSound r taken → LeadTo r taken es os d)
      → LeadTo r (first_configuration r.system) (Begin 0 ∷ Begin 1 ∷ Grant 0 ∷ Deliver 0 ∷ es) (Taken ∷ Taken ∷ Taken ∷ Taken ∷ os) d
  after_supply within es os d rest = from_first r base first second two _ _ _ (λ sound.
      lead_cons r none one d (Begin 0) Taken _ _ sound (certain_begin r none 0 refl) (λ sound.
      lead_cons r one begun d (Begin 1) Taken _ _ sound (certain_begin r one 1 refl) (λ sound.
      lead_cons r begun sent d (Grant 0) Taken _ _ sound (grant_first r base first second two begun_node refl within) (λ sound.
      lead_cons r sent taken d (Deliver 0) Taken es os sound (certain_supply r sent 0 (letter r false) refl refl refl) rest))))

  -- the supply comes again
  comes_again : (es : List Event) (os : List Outcome) (d : Configuration) → (IsSound r taken → LeadTo r taken es os d) → IsSound r taken → LeadTo r taken (Deliver 0 ∷ es) (Ignored ∷ os) d
  comes_again es os d rest sound = lead_cons r taken taken d (Deliver 0) Ignored es os sound (certain_ignored r taken (Deliver 0) (letter r false, refl, has_had r base first second two)) rest

  turns : base + first + second ≤ r.budget
      → TellsAlone r (Begin 0 ∷ Begin 1 ∷ Grant 0 ∷ Deliver 0 ∷ Deliver 0 ∷ []) (record { put_out = 1; ignored = 1; skipped = 0; done = false; halt = None })
  turns within = tells_alone r _ (Taken ∷ Taken ∷ Taken ∷ Taken ∷ Ignored ∷ []) taken _
      (after_supply (omega (arith, within)) (Deliver 0 ∷ []) (Ignored ∷ []) taken (comes_again [] [] taken (λ sound. lead_nil r taken)))
      (calm_two sender taker (letter r false ∷ []) tt tt)
      (record {
        put_out = refl;
        ignored = refl;
        skipped = refl;
        done = false_tells (λ all. true≢false (sym (all 1 taker refl)));
        halt = each_of_two (λ (s : NodeState). s.by_itself ≡ false) sender taker refl refl;
      })

  all_turns : base + first + second ≤ r.budget
      → TellsAlone r (Begin 0 ∷ Begin 1 ∷ Grant 0 ∷ Deliver 0 ∷ Deliver 0 ∷ Grant 1 ∷ []) (record { put_out = 1; ignored = 1; skipped = 0; done = true; halt = None })
  all_turns within = tells_alone r _ (Taken ∷ Taken ∷ Taken ∷ Taken ∷ Ignored ∷ Taken ∷ []) all_done _
      (after_supply (omega (arith, within)) (Deliver 0 ∷ Grant 1 ∷ []) (Ignored ∷ Taken ∷ []) all_done (comes_again (Grant 1 ∷ []) (Taken ∷ []) all_done (λ sound.
      lead_cons r taken all_done all_done (Grant 1) Taken [] [] sound (grant_second r base first second two within) (λ sound. lead_nil r all_done))))
      (calm_two sender done_taker (letter r false ∷ []) tt tt)
      (record {
        put_out = refl;
        ignored = refl;
        skipped = refl;
        done = true_tells (each_of_two (λ (s : NodeState). s.done ≡ true) sender done_taker refl refl);
        halt = each_of_two (λ (s : NodeState). s.by_itself ≡ false) sender done_taker refl refl;
      })

  -- ---- what is skipped
  skips : TellsAlone r (Grant 0 ∷ Begin 0 ∷ Begin 0 ∷ Deliver 0 ∷ []) (record { put_out = 0; ignored = 0; skipped = 3; done = false; halt = None })
  skips = tells_alone r _ (Skipped ∷ Taken ∷ Skipped ∷ Skipped ∷ []) one _
      (from_first r base first second two _ _ _ (λ sound.
      lead_cons r none none one (Grant 0) Skipped _ _ sound (certain_skipped r none (Grant 0) (not_begun r base first second two 0 none refl)) (λ sound.
      lead_cons r none one one (Begin 0) Taken _ _ sound (certain_begin r none 0 refl) (λ sound.
      lead_cons r one one one (Begin 0) Skipped _ _ sound (certain_skipped r one (Begin 0) (has_begun r base first second two 0 one refl)) (λ sound.
      lead_cons r one one one (Deliver 0) Skipped _ _ sound (certain_skipped r one (Deliver 0) (no_letter r base first second two)) (λ sound. lead_nil r one))))))
      (calm_two begun_node new_node [] tt tt)
      (record {
        put_out = refl;
        ignored = refl;
        skipped = refl;
        done = false_tells (λ all. true≢false (sym (all 0 begun_node refl)));
        halt = each_of_two (λ (s : NodeState). s.by_itself ≡ false) begun_node new_node refl refl;
      })

  -- ---- above the budget
  overdraws : r.budget < base + first + second → IsCertain r taken (Grant 1) Taken one_over
  overdraws over = certain_over r taken 1 taker refl (second_open r base first second two) (second_awaits r base first second two) (base + first + second)
      (made_total r base first second two sender (record taker { granted = Some (base + first + second) }) first second (base + first + second) two.first_need two.second_need refl)
      (λ n t. one_total r base first second two sender (record taker { granted = Some n }) first second n
      (λ k need. need_one r 0 k first need two.first_need) (λ k need. need_one r 1 k second need two.second_need) t)
      [] over (second_sends r base first second two true) (second_sent r base first second two true)

  spent : base + first ≤ r.budget → r.budget < base + first + second
      → TellsAlone r (Begin 0 ∷ Begin 1 ∷ Grant 0 ∷ Deliver 0 ∷ Grant 1 ∷ []) (record { put_out = 1; ignored = 0; skipped = 0; done = false; halt = Some (Spent r.level (base + first + second)) })
  spent within over = tells_alone r _ (Taken ∷ Taken ∷ Taken ∷ Taken ∷ Taken ∷ []) one_over _
      (after_supply within (Grant 1 ∷ []) (Taken ∷ []) one_over (λ sound. lead_cons r taken one_over one_over (Grant 1) Taken [] [] sound (overdraws over) (λ sound. lead_nil r one_over)))
      (calm_two sender over_taker (letter r false ∷ []) tt tt)
      (record {
        put_out = refl;
        ignored = refl;
        skipped = refl;
        done = false_tells (λ all. true≢false (sym (all 1 over_taker refl)));
        halt = (1, over_taker, refl, refl, refl, first_of_two (λ (s : NodeState). s.by_itself ≡ false) sender over_taker refl);
      })

pub turns_are_told : TurnsAreTold
turns_are_told r base first second two within = (turns r base first second two within, all_turns r base first second two within)

pub skips_are_told : SkipsAreTold
skips_are_told r base first second two = skips r base first second two

pub spent_is_told : SpentIsTold
spent_is_told r base first second two within over = spent r base first second two within over

pub example_is_spent : ExampleIsSpent
example_is_spent = spent_is_told (first_round 1) 0 1 1 (example_needs_one_each 1) (omega arith) (omega arith)
