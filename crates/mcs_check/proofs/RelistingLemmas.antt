-- What the work on a system that is evaluated by answers tells of them.
use Rattle.std.proofs.Common.{◌≡◌, ℕ, ◌<◌, ◌≤◌, List, [], ◌∷◌, map, length, slice_get, suc, Some, refl, sym, ap, ◌∙◌, subst, inl, inr, arith}
use Rattle.std.proofs.lemmas.List.{map-id}
use Rattle.std.proofs.lemmas.Option.{same_Some, slice_get_within}
use Rattle.mcs_base.proofs.Among.{cases_among}
use Rattle.mcs_system.specs.Faults.{IsValid}
use Rattle.mcs_system.specs.Levels.{IsQuestionAt}
use Rattle.mcs_system.specs.Plain.{System}
use Rattle.mcs_system.specs.Systems.{IsConsistent}
use Rattle.mcs_states.specs.Oracles.{OracleState, with_journal, Lacks}
use Rattle.mcs_states.specs.Evaluators.{EvaluatorState, KeepsRest, unasked}
use Rattle.mcs_mesh.specs.Rounds.{AreFresh}
use Rattle.mcs_ports.specs.Pieces.{Device}
use Rattle.mcs_laws.proofs.Questions.{question_higher}
use Rattle.mcs_report.specs.Solutions.{IsWholeListing}
use Rattle.mcs_work.specs.Tasks.{IsRepairLevel, IsLastRepairLevel}
use Rattle.mcs_work.specs.Work.{IsDone, HasStopped}
use Rattle.mcs_work.specs.declared.task.Task.TheVariants.{Solve}
use Rattle.mcs_work.specs.declared.task.WorkStop.{WorkStop}
use Rattle.mcs_work.specs.declared.task.WorkStop.TheVariants as stops
use Rattle.mcs_proof_text.specs.Answers.{Answer}
use Rattle.mcs_proof_text.specs.Proofs.{IsAnswered}
use Rattle.mcs_check.specs.Validity.{IsNeeded}
use Rattle.mcs_check.specs.Answers.{sets_to, oracle_for, oracles_for}
use Rattle.mcs_check.specs.Relisting.{AreOraclesOf, HoldAll, LackOne, IsSpentStop, IsMissingStop, start_of}
use Rattle.mcs_check.proofs.Counting.{never_so_many}
use Rattle.mcs_check.proofs.OwnAnswers.{oracles_each, oracle_there, oracle_is, set_answered, answered_set}
use Rattle.mcs_work.proofs.CourseLemmas.{decided_always}

-- ---- levels
last_is_taken : (m : System) (level : ℕ) → IsLastRepairLevel m level → IsRepairLevel m level
last_is_taken m level (inl (consistent, first)) = inl first
last_is_taken m level (inr (not, last)) = inr (not, omega (arith, last))

-- a question of a level that is taken is one of the last level
pub needed_of : (m : System) (level i x : ℕ) → i < length m.contexts → IsRepairLevel m level → IsQuestionAt m level i x → IsNeeded m i x
needed_of m level i x less taken question = elim (decided_always m) [
  | inl consistent ↦ (0, inl (consistent, refl), less, subst (λ (l : ℕ). IsQuestionAt m l i x) (lowest consistent taken) question)
  | inr not ↦ (length m.bridges, inr (not, refl), less, question_higher m level (length m.bridges) i x (within taken) question)
]
  where
    lowest : IsConsistent m → IsRepairLevel m level → level ≡ 0
    lowest consistent (inl first) = first
    lowest consistent (inr (not, within)) = absurd (not consistent)

    within : IsRepairLevel m level → level ≤ length m.bridges
    within (inl first) = omega (arith, first)
    within (inr (not, high)) = high

-- ---- the oracles afterwards
-- those of which none was asked have empty journals
unasked_fresh : (os : List OracleState) → ((i : ℕ) (o : OracleState) → slice_get os i ≡ Some o → o.journal ≡ []) → unasked os ≡ os
unasked_fresh [] fresh = refl
unasked_fresh (o ∷ os) fresh =
    ap (λ (js : List ℕ). with_journal js o ∷ unasked os) (sym (fresh 0 o refl))
    ∙ ap (λ (rest : List OracleState). o ∷ rest) (unasked_fresh os (λ i x is. fresh (suc i) x is))

-- with their journals emptied they are as before the work
pub renewed_same : (m : System) (os xs again : List OracleState) (e : EvaluatorState) → AreFresh m os → KeepsRest (start_of m os) e → map (λ (o : OracleState). o) xs ≡ e.oracles → again ≡ unasked xs → again ≡ os
renewed_same m os xs again e fresh kept held is =
    is ∙ ap unasked (sym (map-id xs) ∙ held) ∙ kept.oracles ∙ unasked_fresh os (λ i o at. (fresh i o at).2)

-- ---- what the work tells of the oracles
module _ (m : System) (os : List OracleState) (each : length os ≡ length m.contexts) (e : EvaluatorState) where
  pub told_listing : (text : List ℕ) → IsDone Solve [] (start_of m os) e (Some []) (Some text) → IsWholeListing m text × HoldAll m os
  told_listing text d = (
    subst (λ (t : List ℕ). IsWholeListing m t) (sym (same_Some _ _ d.written)) d.text,
    λ i x o (level, last, less, question) is lacks. d.answered level i x (last_is_taken m level last) (record { oracle = o; is_its = is; lacks = lacks; question = question }),
  )

  pub told_stop : IsValid m → (before now : Device) (stop : WorkStop) → HasStopped Solve [] (start_of m os) e before now stop → ¬ IsSpentStop stop
  told_stop valid before now stops.Write h = λ none. none
  told_stop valid before now (stops.Spent level) (same, h) = λ _. never_so_many m valid level h.beyond
  told_stop valid before now (stops.Missing context active) h = λ none. none
  told_stop valid before now stops.Memory h = λ none. none

  pub told_missing : (before now : Device) (stop : WorkStop) → HasStopped Solve [] (start_of m os) e before now stop → IsMissingStop stop → LackOne m os
  told_missing before now stops.Write h none = absurd none
  told_missing before now (stops.Spent level) h none = absurd none
  told_missing before now (stops.Missing context active) (same, h) _ = record {
    context = context;
    active = active;
    needed = needed_of m h.level context active (omega (arith, slice_get_within os context h.unanswered.oracle h.unanswered.is_its, each)) h.taken h.unanswered.question;
    oracle = h.unanswered.oracle;
    is_it = h.unanswered.is_its;
    lacks = h.unanswered.lacks;
  }
  told_missing before now stops.Memory h none = absurd none

-- ---- and so of the answers
module _ (m : System) (answers : List Answer) where
  fresh_oracles : AreFresh m (oracles_for m answers)
  fresh_oracles i o is = let same = oracle_is m answers i o is in
      (ap (λ (s : OracleState). s.system) same, ap (λ (s : OracleState). s.context) same, ap (λ (s : OracleState). s.journal) same)

  pub own_oracles : (os : List OracleState) → os ≡ oracles_for m answers → AreOraclesOf m os
  own_oracles os same = record {
    one_each = ap length same ∙ oracles_each m answers;
    fresh = subst (λ (xs : List OracleState). AreFresh m xs) (sym same) fresh_oracles;
  }

  pub all_answered : HoldAll m (oracles_for m answers) → (i x : ℕ) → IsNeeded m i x → IsAnswered answers i x
  all_answered hold i x needed = elim (cases_among x (sets_to i answers)) [
    | inl among ↦ set_answered m i answers x among
    | inr none ↦ absurd (hold i x (oracle_for m answers i) needed (oracle_there m answers i needed.2) none)
  ]

  pub not_answered : (lack : LackOne m (oracles_for m answers)) → ¬ IsAnswered answers lack.context lack.active
  not_answered lack a =
      let same = oracle_is m answers lack.context lack.oracle lack.is_it in
      subst (λ (o : OracleState). Lacks o lack.active) same lack.lacks (answered_set m lack.context answers lack.active a)
