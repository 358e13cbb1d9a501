-- What the work on a task leaves to be seen of its last round.
use Rattle.std.proofs.Common.{◌≡◌, ℕ, ◌<◌, ◌≤◌, Bool, true, false, true≢false, cond, List, [], ◌∷◌, length, Option, Some, None, Result, Ok, Err, IfErr, OnOk, refl, sym, ap, ◌∙◌, inl, inr, ◌⊎◌, subst, arith}
use Rattle.std.specs.Result.{IsErrAnd}
use Rattle.std.proofs.lemmas.Bool.{cases_lt}
use Rattle.mcs_ports.specs.Pieces.{Device}
use Rattle.mcs_system.specs.Plain.{System}
use Rattle.mcs_states.specs.Oracles.{OracleState}
use Rattle.mcs_states.specs.declared.halt.Halt.{Halt}
use Rattle.mcs_states.specs.declared.halt.Halt.TheVariants as halts
use Rattle.mcs_node.specs.Nodes.{NodeData}
use Rattle.mcs_mesh.specs.Rounds.{IsHaltOfRound, IsLastRound, evaluator_state_of}
use Rattle.mcs_work.specs.Tasks.{IsLastTaken}
use Rattle.mcs_work.specs.Work.{HasStopped, IsDone, IsSpent}
use Rattle.mcs_work.specs.declared.task.Task.{Task}
use Rattle.mcs_work.specs.declared.task.Task.TheVariants.{Equilibria, Grounded, Solve, Cheapest, Make}
use Rattle.mcs_work.specs.declared.task.WorkStop.{WorkStop}
use Rattle.mcs_work.specs.declared.task.WorkStop.TheVariants as works
use Rattle.mcs_crew.specs.Trails.{IsNoTrail, IsTrail, TrailData, group_count, trail_of}
use Rattle.mcs_crew.specs.Told.{HasEnded, ShowsDone, ShowsSpent}
use Rattle.mcs_crew.proofs.ToldLemmas.{last_done, last_none, last_spent}
use Rattle.mcs_crew.specs.declared.trail.Trail as code
use Rattle.mcs_listing.specs.Listings.{AreSure, HaveOrigin, IsListingText, IsNewEvaluator, Prints, StopsAnswers}
use Rattle.mcs_listing.proofs.WorkLemmas.{listed_done}
use Rattle.mcs_listing.specs.Working.{HasWorked, IsWorked}
use Rattle.mcs_listing.specs.Endings.{stop_for_unwritten}
use Rattle.mcs_text.specs.declared.unwritten.Unwritten.{Unwritten}
use Rattle.mcs_text.specs.declared.unwritten.Unwritten.TheVariants as unwritten
use Rattle.mcs_listing.specs.declared.ending.Stop.{Stop}
use Rattle.mcs_listing.specs.declared.ending.Stop.TheVariants as stops
use Rattle.mcs_top.specs.TaskTrails.{plays_each, ShowsBeyond, ShowsEnd, ShowsStop, ShowsTask, UsesFew, UsesMany, done_by_few, done_by_many, spent_by_few, spent_by_many}
use Rattle.mcs_top.specs.Evaluating.{HasListed, ShowsWork}

-- ---- fewer than two workers
pub alone_few : (workers : ℕ) (m : System) → workers < 2 → UsesFew workers m
alone_few workers m less = omega (arith, less)

few_or_many : (workers : ℕ) (m : System) → UsesFew workers m ⊎ UsesMany workers m
few_or_many workers m = cases_lt (group_count workers (length m.contexts)) 2

module _ (budget workers : ℕ) (m : System) (t : TrailData) (less : UsesFew workers m) where
  few_task : (task : Task) → ShowsTask task workers m t → IsNoTrail t
  few_task task (done_by_few less' none) = none
  few_task task (done_by_many more level last shows) = absurd (omega (arith, less, more))

  few_beyond : (level : ℕ) → ShowsBeyond level budget workers m t → IsNoTrail t
  few_beyond level (spent_by_few less' none) = none
  few_beyond level (spent_by_many more shows) = absurd (omega (arith, less, more))

  few_stop : (stop : Stop) → ShowsStop budget workers m t stop → IsNoTrail t
  few_stop stops.Usage h = h
  few_stop (stops.Refused why) h = h
  few_stop (stops.Unfinished level limit) h = few_beyond level h
  few_stop stops.ReadFault h = h
  few_stop stops.WriteFault h = h less
  few_stop stops.Memory h = h less

  pub few_end : {T : Type 0} (task : Task) (r : Result T Stop) → ShowsEnd task budget workers m t r → IsNoTrail t
  few_end task (Ok x) h = few_task task h
  few_end task (Err stop) h = few_stop stop h

-- ---- nothing was evaluated
module _ (task : Task) (budget workers : ℕ) (m : System) (t : TrailData) (none : IsNoTrail t) where
  nothing_stop : (stop : Stop) → ((level limit : ℕ) → ¬ (stop ≡ stops.Unfinished level limit)) → ShowsStop budget workers m t stop
  nothing_stop stops.Usage other = none
  nothing_stop (stops.Refused why) other = none
  nothing_stop (stops.Unfinished level limit) other = absurd (other level limit refl)
  nothing_stop stops.ReadFault other = none
  nothing_stop stops.WriteFault other = λ less. none
  nothing_stop stops.Memory other = λ less. none

  -- for this reason
  pub nothing_end : {T : Type 0} (stop : Stop) → ((level limit : ℕ) → ¬ (stop ≡ stops.Unfinished level limit)) → (r : Result T Stop) → IsErrAnd r (λ s. s ≡ stop) → ShowsEnd task budget workers m t r
  nothing_end stop other (Ok x) is = absurd is
  nothing_end stop other (Err own) is = nothing_stop own (λ level limit e. other level limit (sym is ∙ e))

  -- a line was not written whole
  pub line_end : {T : Type 0} (why : Unwritten) (r : Result T Stop) → IsErrAnd r (λ s. s ≡ stop_for_unwritten why) → ShowsEnd task budget workers m t r
  line_end unwritten.Fault r is = nothing_end stops.WriteFault (λ level limit e. cc) r is
  line_end unwritten.Memory r is = nothing_end stops.Memory (λ level limit e. cc) r is

-- the work stopped so
pub stop_end : {T : Type 0} (task : Task) (budget workers : ℕ) (m : System) (t : TrailData) (stop : Stop) → ShowsStop budget workers m t stop → (r : Result T Stop) → IsErrAnd r (λ s. s ≡ stop) → ShowsEnd task budget workers m t r
stop_end task budget workers m t stop h (Ok x) is = absurd is
stop_end task budget workers m t stop h (Err own) is = subst (ShowsStop budget workers m t) (sym is) h

-- ---- the work by several workers
-- nothing is said of a player that plays the round of each level
pub not_each : {T : Type 0} (leaves : System → ℕ → ℕ → List NodeData → Result ℕ Halt → T → Type 0) (plays_last each : Bool) (workers : ℕ) (task : Task) (m : System) (budget : ℕ) (first : List OracleState) (nodes : List NodeData) (trail : Option T) (before now : Device) (ended : Result (Unit {0}) WorkStop)
    → HasWorked leaves plays_last each workers task m budget first nodes trail before now ended → HasWorked leaves plays_last false workers task m budget first nodes trail before now ended
not_each leaves plays_last each workers task m budget first nodes trail before now ended h = record {
  worked = h.worked;
  own = h.own;
  last = h.last;
  shown = h.shown;
  unshown = h.unshown;
  halt = h.halt;
  round = h.round;
  reaches = h.reaches;
  each = λ plays. absurd (true≢false (sym plays));
}

-- by so many
pub by_workers : (each : Bool) (task : Task) (m : System) (budget own workers : ℕ) → own ≡ workers → (first : List OracleState) (nodes : List NodeData) (trail : Option code.Trail) (before now : Device) (ended : Result (Unit {0}) WorkStop)
    → HasWorked (λ m' level most ns total t. IsTrail m' level own ns total (trail_of t) × HasEnded m' level ns total) true each own task m budget first nodes trail before now ended
    → HasWorked (λ m' level most ns total t. IsTrail m' level workers ns total (trail_of t) × HasEnded m' level ns total) true each workers task m budget first nodes trail before now ended
by_workers each task m budget own workers same first nodes trail before now ended h =
    subst (λ (n : ℕ). HasWorked (λ m' level most ns total t. IsTrail m' level n ns total (trail_of t) × HasEnded m' level ns total) true each n task m budget first nodes trail before now ended) same h

module _ (each : Bool) (task : Task) (plays : each ≡ plays_each task) (m : System) (budget workers : ℕ) (first : List OracleState) (nodes : List NodeData) (trail : Option code.Trail) (before now : Device) (ended : Result (Unit {0}) WorkStop)
    (h : HasWorked (λ m' level most ns total t. IsTrail m' level workers ns total (trail_of t) × HasEnded m' level ns total) true each workers task m budget first nodes trail before now ended) (left : TrailData)
    (left_some : (t : code.Trail) → trail ≡ Some t → left ≡ trail_of t) (left_none : trail ≡ None → IsNoTrail left) where
  abbrev groups : ℕ
  groups = group_count workers (length m.contexts)

  counted : group_count workers (length nodes) ≡ groups
  counted = ap (group_count workers) h.own.one_each

  few_left : UsesFew workers m → IsNoTrail left
  few_left less = at h.last refl
    where
      at : (o : Option ℕ) → h.last ≡ o → IsNoTrail left
      at None is = left_none (h.unshown is)
      at (Some level) is =
          let (t, shown, none) = last_none m level budget workers nodes (omega (arith, less, counted)) h.worked.state.halt trail (h.shown level is) in
          subst IsNoTrail (sym (left_some t shown)) none

  -- the round that was done
  done_at : (level : ℕ) → h.last ≡ Some level → h.worked.state.halt ≡ None → UsesMany workers m → ShowsDone m level groups left
  done_at level is going more =
      let (t, shown, told) = last_done m level budget workers nodes h.own (omega (arith, more, counted)) trail (rw going at h.shown level is) in
      subst (λ (x : TrailData). ShowsDone m level groups x) (sym (left_some t shown)) (subst (λ (n : ℕ). ShowsDone m level n (trail_of t)) counted told)

  -- the last level of the task
  last_level : (level : ℕ) → IsLastTaken task m level → h.worked.state.halted ≡ false → h.worked.state.done ≡ Some level → h.last ≡ Some level
  last_level level last going is = at h.last refl (subst (λ (o : Option ℕ). IsLastRound m h.last o) is (h.round going))
    where
      zeroth : (l : ℕ) → level ≡ 0 → l ≤ level → l ≡ level
      zeroth l none less = omega (arith, none, less)

      greatest : level ≡ length m.bridges → h.last ≡ Some level
      greatest same = subst (λ (n : ℕ). h.last ≡ Some n) (sym same) (h.reaches refl going (is ∙ ap (λ (n : ℕ). Some n) same))

      taken : (task' : Task) → each ≡ plays_each task' → IsLastTaken task' m level → (l : ℕ) → h.last ≡ Some l → l ≤ level → h.last ≡ Some level
      taken Equilibria plays' none l there less = there ∙ ap (λ (n : ℕ). Some n) (zeroth l none less)
      taken Grounded plays' none l there less = there ∙ ap (λ (n : ℕ). Some n) (zeroth l none less)
      taken Solve plays' (inl (consistent, none)) l there less = there ∙ ap (λ (n : ℕ). Some n) (zeroth l none less)
      taken Solve plays' (inr (not, same)) l there less = greatest same
      taken Make plays' (inl (consistent, none)) l there less = there ∙ ap (λ (n : ℕ). Some n) (zeroth l none less)
      taken Make plays' (inr (not, same)) l there less = greatest same
      taken Cheapest plays' stop l there less = h.each plays' going ∙ is

      at : (o : Option ℕ) → h.last ≡ o → IsLastRound m h.last (Some level) → h.last ≡ Some level
      at None there round = absurd (subst (λ (o : Option ℕ). IsLastRound m o (Some level)) there round)
      at (Some l) there round = taken task plays last l there (subst (λ (o : Option ℕ). IsLastRound m o (Some level)) there round).0

  -- it was done
  done_shown : IsDone task [] (evaluator_state_of workers m budget None None first) h.worked.state before.written now.written → ShowsTask task workers m left
  done_shown d = elim (few_or_many workers m) [
    | inl less ↦ done_by_few less (few_left less)
    | inr more ↦ done_by_many more d.level d.last (done_at d.level (last_level d.level d.last d.settled.going d.level_done) d.settled.no_halt more)
  ]

  -- a level has more questions than the budget
  spent_at : (level drawn : ℕ) → h.worked.state.halt ≡ Some (halts.Spent level drawn) → UsesMany workers m → ShowsSpent m level budget groups left
  spent_at level drawn is more = at h.last refl (subst (λ (o : Option Halt). IsHaltOfRound budget h.last o) is h.halt)
    where
      at : (o : Option ℕ) → h.last ≡ o → IsHaltOfRound budget h.last (Some (halts.Spent level drawn)) → ShowsSpent m level budget groups left
      at None there halt = absurd (subst (λ (o : Option ℕ). IsHaltOfRound budget o (Some (halts.Spent level drawn))) there halt)
      at (Some l) there halt =
          let (same, beyond) = subst (λ (o : Option ℕ). IsHaltOfRound budget o (Some (halts.Spent level drawn))) there halt in
          let (t, shown, told) = last_spent m l budget workers nodes (omega (arith, more, counted)) level drawn beyond trail (rw is at h.shown l there) in
          subst (λ (x : TrailData). ShowsSpent m level budget groups x) (sym (left_some t shown)) (subst (λ (n : ℕ). ShowsSpent m level budget n (trail_of t)) counted
          (subst (λ (k : ℕ). ShowsSpent m k budget (group_count workers (length nodes)) (trail_of t)) (sym same) told))

  spent_shown : (level : ℕ) → IsSpent task [] (evaluator_state_of workers m budget None None first) h.worked.state level before.written now.written → ShowsBeyond level budget workers m left
  spent_shown level s = elim (few_or_many workers m) [
    | inl less ↦ spent_by_few less (few_left less)
    | inr more ↦ spent_by_many more (spent_at level s.drawn s.halt more)
  ]

  pub work_shown : ShowsWork task budget workers m left ended
  work_shown = at ended h.worked.works.done h.worked.works.stop
    where
      at : (r : Result (Unit {0}) WorkStop) → OnOk r (IsDone task [] (evaluator_state_of workers m budget None None first) h.worked.state before.written now.written)
          → IfErr r (HasStopped task [] (evaluator_state_of workers m budget None None first) h.worked.state before now) → ShowsWork task budget workers m left r
      at (Ok x) d s = done_shown d
      at (Err works.Write) d s = few_left
      at (Err (works.Spent level)) d s = spent_shown level s.1
      at (Err (works.Missing context active)) d s = few_left
      at (Err works.Memory) d s = few_left

-- ---- the answers after a listing
-- the writing of them stops for no level
answers_end : (budget workers : ℕ) (m : System) (t : TrailData) (level : ℕ) (rose : Type 0) (before now : Option (List ℕ)) (stop : Stop) → StopsAnswers stop m level rose before now → ShowsTask Solve workers m t → ShowsStop budget workers m t stop
answers_end budget workers m t level rose before now stops.Usage h shows = absurd h
answers_end budget workers m t level rose before now (stops.Refused why) h shows = absurd h
answers_end budget workers m t level rose before now (stops.Unfinished at limit) h shows = absurd h
answers_end budget workers m t level rose before now stops.ReadFault h shows = absurd h
answers_end budget workers m t level rose before now stops.WriteFault h shows = λ less. few_task budget workers m t less Solve shows
answers_end budget workers m t level rose before now stops.Memory h shows = λ less. few_task budget workers m t less Solve shows

pub answered_end : (budget workers : ℕ) (m : System) (t : TrailData) (level : ℕ) (rose : Type 0) (before now : Option (List ℕ)) (r : Result (Unit {0}) Stop) → IfErr r (λ stop. StopsAnswers stop m level rose before now) → ShowsTask Solve workers m t
    → ShowsEnd Solve budget workers m t r
answered_end budget workers m t level rose before now (Ok x) h shows = shows
answered_end budget workers m t level rose before now (Err stop) h shows = answers_end budget workers m t level rose before now stop h shows

-- ---- the evaluation of a system
module _ (task : Task) (by : ℕ) (m : System) (budget : ℕ) (first oracles : List OracleState) (before now : Device) (ended : Result (Unit {0}) WorkStop) (sure : AreSure first) (w : IsWorked by task m budget first oracles before now ended) where
  -- the evaluator that it began with
  pub first_evaluator : IsNewEvaluator m budget (evaluator_state_of by m budget None None first)
  first_evaluator = record { system = refl; budget_is = refl; fresh = refl; going = refl; sure = sure }

  pub has_listed : (keep : Bool) → HaveOrigin (cond keep ([] ∷ []) []) first → IsDone task [] (evaluator_state_of by m budget None None first) w.state before.written now.written
      → HasListed task budget keep m oracles before.written now.written
  has_listed keep keeps whole = record { first = evaluator_state_of by m budget None None first; state = w.state; fresh = first_evaluator; keeps = keeps; rest = w.works.rest; whole = whole; oracles_are = w.oracles_are }

-- what was written of it is the listing
pub listing_of : (task : Task) (budget : ℕ) (keep : Bool) (m : System) (oracles : List OracleState) (before now : Option (List ℕ)) → HasListed task budget keep m oracles before now → Prints (λ text. IsListingText task budget text m) before now
listing_of task budget keep m oracles before now h = listed_done task m budget h.first h.state h.fresh before now h.whole
